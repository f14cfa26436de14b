-- The forms of a region keep its steps and its padding.
use Rattle.std.proofs.Common.{◌≡◌, ℕ, zero, suc, ◌-◌, ◌*◌, ◌≤◌, Bool, true, false, cond, List, [], ◌∷◌, ◌++◌, length, drop, replicate, refl, ap, ◌∙◌, ℤ, pos, negsuc, neg_ℤ, ◌+ℤ◌, ◌-ℤ◌, ◌*ℤ◌, ◌≤ℤ◌, ◌<ℤ◌, arith}
use Rattle.std.specs.Prelude.{int_lt}
use Rattle.std.specs.List.{All}
use Rattle.std.proofs.Math.Nat.{one-le-mul}
use Rattle.std.proofs.lemmas.Int.{ints}
use Rattle.std.proofs.lemmas.List.{drop-append-le, drop_all}
use Rattle.std.proofs.lemmas.List.Elements.{All-nil, All-cons, All-head, All-tail, All-append, All-replicate}
use Rattle.grid_layout.specs.of_zpl_region.declared.dims.Dim.{Dim}
use Rattle.grid_layout.specs.of_zpl_region.declared.dims.Dim.TheVariants.{Range, Flood}
use Rattle.grid_layout.specs.of_zpl_region.Dim.{HasStep, dim_outside_of, dim_inside_of, dim_moved, dim_strided, least_or, greatest_or}
use Rattle.grid_layout.specs.of_zpl_region.Region.{components, each, padding}
use Rattle.grid_layout.specs.of_zpl_region.Ends.{has_none}
use Rattle.grid_layout.specs.of_zpl_region.Hull.{all_from, emptied}
use Rattle.grid_layout.specs.of_zpl_region.declared.regions.Region.{Region}
use Rattle.grid_layout.specs.Block.{block_first, block_last, is_block_empty}
use Rattle.grid_layout.specs.Layout.{axes_at, held_dim, each_held, or_emptied}
use Rattle.grid_layout.specs.Grid.{cuts, blocks_at}
use Rattle.grid_layout.specs.declared.axes.Axis.{Axis}
use Rattle.grid_layout.specs.declared.blocks.Blocks.{Blocks}
use Rattle.node_form.specs.declared.arrays.ArrayRow.{ArrayRow}
use Rattle.grid_meaning.specs.Local.{start_places}
use Rattle.grid_meaning.specs.Stored.{box_of, no_places}
use Rattle.std.specs.Int.{int_max, int_min}

-- ---- steps
times_rises : (step d : ℤ) → pos 1 ≤ℤ step → pos 1 ≤ℤ d → pos 1 ≤ℤ (step *ℤ d)
times_rises (pos s) (pos n) h g =
    let some : 1 ≤ s = omega (arith, ints) in
    let many : 1 ≤ n = omega (arith, ints) in
    let both : 1 ≤ s * n = one-le-mul some many in
    omega (arith, ints)
times_rises (pos s) (negsuc n) h g = absurd (omega (arith, ints))
times_rises (negsuc s) d h g = absurd (omega (arith, ints))

-- a test that holds of integers
int_lt-holds : (x y : ℤ) → int_lt x y ≡ true → x <ℤ y
int_lt-holds x y e = omega (arith, ints)

HasStep-cond : (b c : Bool) (one two three : Dim) → HasStep one → HasStep two → HasStep three
    → HasStep (cond b one (cond c two three))
HasStep-cond true c one two three h g k = h
HasStep-cond false true one two three h g k = g
HasStep-cond false false one two three h g k = k

pub HasStep-outside : (d : ℤ) (dim : Dim) → HasStep dim → HasStep (dim_outside_of d dim)
HasStep-outside d Flood h = tt
HasStep-outside d (Range lo hi step align) h = HasStep-cond (int_lt (pos 0) d) (int_lt d (pos 0)) _ _ _ h h h

pub HasStep-inside : (d : ℤ) (dim : Dim) → HasStep dim → HasStep (dim_inside_of d dim)
HasStep-inside d Flood h = tt
HasStep-inside d (Range lo hi step align) h = HasStep-cond (int_lt (pos 0) d) (int_lt d (pos 0)) _ _ _ h h h

pub HasStep-moved : (d : ℤ) (dim : Dim) → HasStep dim → HasStep (dim_moved d dim)
HasStep-moved d Flood h = tt
HasStep-moved d (Range lo hi step align) h = h

pub HasStep-strided : (d : ℤ) (dim : Dim) → HasStep dim → HasStep (dim_strided d dim)
HasStep-strided d Flood h = tt
HasStep-strided d (Range lo hi step align) h =
    by (int_lt (pos 0) d) (int_lt d (pos 0)) (least_or lo (Range lo hi step align)) (greatest_or hi (Range lo hi step align))
    refl refl
  where
    by : (b c : Bool) (one two : ℤ) → int_lt (pos 0) d ≡ b → int_lt d (pos 0) ≡ c
        → HasStep (cond b (Range lo hi (step *ℤ d) one) (cond c (Range lo hi (step *ℤ neg_ℤ d) two) (Range lo hi step align)))
    by true c one two e f = let above = int_lt-holds (pos 0) d e in times_rises step d h (omega (arith, ints))
    by false true one two e f = let below = int_lt-holds d (pos 0) f in times_rises step (neg_ℤ d) h (omega (arith, ints))
    by false false one two e f = h

pub steps-each : (f : ℤ → Dim → Dim) → ((d : ℤ) (dim : Dim) → HasStep dim → HasStep (f d dim))
    → (v : List ℤ) (dims : List Dim) → All HasStep dims → All HasStep (each f v dims)
steps-each f keeps [] dims all = all
steps-each f keeps (d ∷ v) [] all = All-nil HasStep
steps-each f keeps (d ∷ v) (dim ∷ dims) all =
    All-cons HasStep (f d dim) (each f v dims) (keeps d dim (All-head HasStep dim dims all))
    (steps-each f keeps v dims (All-tail HasStep dim dims all))

pub length-each : (f : ℤ → Dim → Dim) (v : List ℤ) (dims : List Dim) → length (each f v dims) ≡ length dims
length-each f [] dims = refl
length-each f (d ∷ v) [] = refl
length-each f (d ∷ v) (dim ∷ dims) =
    let rest = length-each f v dims in
    omega arith

-- ---- padding
padding-each : (f : ℤ → Dim → Dim) → f (pos 0) padding ≡ padding → (v : List ℤ) (k : ℕ)
    → each f (components zero v) (replicate k padding) ≡ replicate k padding
padding-each f keeps [] k = refl
padding-each f keeps (d ∷ v) zero = refl
padding-each f keeps (d ∷ v) (suc k) =
    ap (λ dim. dim ∷ each f (components zero v) (replicate k padding)) keeps
    ∙ ap (λ dims. padding ∷ dims) (padding-each f keeps v k)

pub padded-each : (f : ℤ → Dim → Dim) → f (pos 0) padding ≡ padding → (rank k : ℕ) (v : List ℤ) (dims : List Dim)
    → drop rank dims ≡ replicate k padding → drop rank (each f (components rank v) dims) ≡ replicate k padding
padded-each f keeps zero k v dims is = ap (each f (components zero v)) is ∙ padding-each f keeps v k
padded-each f keeps (suc rank) k [] dims is = is
padded-each f keeps (suc rank) k (d ∷ v) [] is = is
padded-each f keeps (suc rank) k (d ∷ v) (dim ∷ dims) is = padded-each f keeps rank k v dims is

-- a list as long as the rank, and the padding behind it
pub padded-behind : (rank k : ℕ) (dims : List Dim) → length dims ≡ rank
    → drop rank (dims ++ replicate k padding) ≡ replicate k padding
padded-behind rank k dims long =
    let short : rank ≤ length dims = omega (arith, long) in
    let all : drop rank dims ≡ [] = drop_all rank dims (omega (arith, long)) in
    drop-append-le rank dims (replicate k padding) short ∙ ap (λ front. front ++ replicate k padding) all

-- ---- held boxes
one_step : pos 1 ≤ℤ pos 1
one_step = omega (arith, ints)

pub no_steps : (rank : ℕ) → All HasStep (no_places rank).dims
no_steps rank =
    All-append HasStep (replicate rank (all_from (pos 1) (pos 0))) (replicate (3 - rank) padding)
    (All-replicate HasStep rank (all_from (pos 1) (pos 0)) one_step) (All-replicate HasStep (3 - rank) padding one_step)

held_steps : (axis : Axis) (n c : ℕ) (low high : ℤ) (dim : Dim) → HasStep (held_dim axis n c low high dim)
held_steps axis n c low high Flood = tt
held_steps axis n c low high (Range lo hi step align) = by (is_block_empty axis n c)
  where
    by : (empty : Bool) → HasStep (cond empty (all_from (pos 1) (pos 0))
        (all_from (int_max lo (block_first axis n c -ℤ low)) (int_min hi (block_last axis n c +ℤ high))))
    by true = one_step
    by false = one_step

each_held_steps : (axes : List Axis) (ns cs : List ℕ) (lows highs : List ℤ) (dims : List Dim)
    → All HasStep (each_held axes ns cs lows highs dims)
each_held_steps (axis ∷ axes) (n ∷ ns) (c ∷ cs) (low ∷ lows) (high ∷ highs) (dim ∷ dims) =
    All-cons HasStep (held_dim axis n c low high dim) (each_held axes ns cs lows highs dims)
    (held_steps axis n c low high dim) (each_held_steps axes ns cs lows highs dims)
each_held_steps axes ns cs lows highs dims = All-nil HasStep

emptied_steps : (rank : ℕ) (dims : List Dim) → All HasStep dims → All HasStep (emptied rank dims)
emptied_steps zero dims all = all
emptied_steps (suc rank) [] all = All-nil HasStep
emptied_steps (suc rank) (Flood ∷ dims) all =
    All-cons HasStep Flood (emptied rank dims) tt (emptied_steps rank dims (All-tail HasStep Flood dims all))
emptied_steps (suc rank) (Range lo hi step align ∷ dims) all =
    All-cons HasStep (all_from (pos 1) (pos 0)) (emptied rank dims) one_step
    (emptied_steps rank dims (All-tail HasStep (Range lo hi step align) dims all))

or_emptied_steps : (r : Region) → All HasStep r.dims → All HasStep (or_emptied r).dims
or_emptied_steps r all = by (has_none r)
  where
    by : (none : Bool) → All HasStep (cond none (record { rank = r.rank; dims = emptied r.rank r.dims }) r).dims
    by true = emptied_steps r.rank r.dims all
    by false = all

pub places_steps : (blocks : Blocks) (p : ℕ) (row : ArrayRow) (is_stored : Bool)
    → All HasStep (start_places blocks p row is_stored).dims
places_steps blocks p row true =
    let box = box_of row in
    let axes = axes_at blocks box.shape.rank in
    let ns = cuts blocks.grid box.shape.rank in
    or_emptied_steps (record {
      rank = box.shape.rank;
      dims = each_held axes ns (blocks_at ns p) box.low box.high box.shape.dims;
    }) (each_held_steps axes ns (blocks_at ns p) box.low box.high box.shape.dims)
places_steps blocks p row false = no_steps row.rank
