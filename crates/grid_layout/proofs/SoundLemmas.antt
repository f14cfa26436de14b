-- Blocks, held boxes, needs and parts are what the calls take.
use Rattle.std.proofs.Common.{◌≡◌, refl, sym, ◌∙◌, ap, subst, arith, ℕ, zero, suc, ◌+◌, ◌-◌, ◌<◌, ◌≤◌, ◌^◌, Bool, true, false, Option, Some, None, List, [], ◌∷◌, ◌++◌, length, get_or, All, ℤ, pos, neg_ℤ, ◌+ℤ◌, ◌-ℤ◌, ◌≤ℤ◌, ◌<ℤ◌, ◌⊎◌, inl, inr, rules}
use Rattle.std.specs.Prelude.{◌==◌, int_le, if◌then◌else◌, fold}
use Rattle.std.specs.Int.{int_max, int_min}
use Rattle.std.proofs.lemmas.Int.{clamps, ints}
use Rattle.std.proofs.lemmas.List.{get_or-drop, get_or-replicate}
use Rattle.std.proofs.lemmas.List.Elements.{All-from_recursion, All-head, All-tail, AllZip-get_or}
use Rattle.zpl_region.specs.declared.dims.Dim.{Dim}
use Rattle.zpl_region.specs.declared.dims.Dim.TheVariants.{Range, Flood}
use Rattle.zpl_region.specs.declared.regions.Region.{Region}
use Rattle.zpl_region.specs.Dim.{HasAlign, HasBounds, HasStep, IsDim, IsUpTo, dim_moved}
use Rattle.zpl_region.specs.Ends.{coordinate_count, has_none}
use Rattle.zpl_region.specs.Hull.{all_from, dim_emptied, emptied}
use Rattle.zpl_region.specs.Region.{IsPadded, IsRegion, components, each, moved, padding}
use Rattle.zpl_region.proofs.DimLemmas.{pos-extent}
use Rattle.zpl_region.proofs.HullLemmas.{count-all_from, some_from}
use Rattle.zpl_region.proofs.HullCode.{each_some}
use Rattle.zpl_region.proofs.ListLemmas.{le_from_test}
use Rattle.grid_layout.specs.declared.axes.Axis.{Axis}
use Rattle.grid_layout.specs.declared.blocks.Blocks.{Blocks}
use Rattle.grid_layout.specs.declared.boxes.ArrayBox.{ArrayBox}
use Rattle.grid_layout.specs.Block.{block_first, block_last, is_block_empty}
use Rattle.grid_layout.specs.Grid.{blocks_at, cuts, cuts_of, factors_of, processors_of}
use Rattle.grid_layout.specs.Layout.{AreAxes, AreBlocks, IsArrayBox, IsAxis, IsFringe, IsHull, around, axes_at, axes_of, axis_over, blocks_of, counts, each_held, held_dim, held_of, hull_in, or_emptied, widened}
use Rattle.grid_layout.specs.Piece.{each_owned, needed_dim, needed_in, nothing, owned_dim, owned_part, part, place_dim, range_or_nothing}
use Rattle.grid_layout.proofs.BlockLemmas.{test_fails}
use Rattle.grid_layout.proofs.DimLemmas.{part_is_dim}
use Rattle.grid_layout.proofs.OwnerLemmas.{AreCuts, are_cuts, axes_three}
use Rattle.grid_layout.proofs.PartLemmas.{AreBelow, blocks_are_below, blocks_length}
use Rattle.grid_layout.proofs.ThreeLemmas.{helds_told, needs_told, owns_told}
use Rattle.std.proofs.lemmas.Bool.{cases_lt}

-- ---- hulls and blocks
around_is : (hull : Option (ℤ × ℤ)) (dim : Dim) → IsHull hull → HasBounds dim → IsHull (around hull dim)
around_is None (Range lo hi step align) is bounds = bounds
around_is None Flood is bounds = tt
around_is (Some h) (Range lo hi step align) is bounds =
    let low : IsUpTo 40 h.0 = is.0 in
    let high : IsUpTo 40 h.1 = is.1 in
    let from : IsUpTo 40 lo = bounds.0 in
    let to : IsUpTo 40 hi = bounds.1 in
    ((omega (arith, ints, clamps), omega (arith, ints, clamps)), (omega (arith, ints, clamps), omega (arith, ints, clamps)))
around_is (Some h) Flood is bounds = is

dim_of_box : (dims : List Dim) (k : ℕ) → All IsDim dims → HasBounds (get_or dims k Flood)
dim_of_box [] k is = tt
dim_of_box (d ∷ dims) zero is = let here : IsDim d = is 0 d (omega arith) in here.1
dim_of_box (d ∷ dims) (suc k) is = dim_of_box dims k (All-tail IsDim d dims is)

widened_is : (rank k : ℕ) (hull : Option (ℤ × ℤ)) (box : ArrayBox) → IsHull hull → IsArrayBox box → IsHull (widened rank k hull box)
widened_is rank k hull box is array = by_test (counts rank box.shape)
  where
    by_test : (b : Bool) → IsHull (if b then around hull (get_or box.shape.dims k Flood) else hull)
    by_test true = around_is hull (get_or box.shape.dims k Flood) is (dim_of_box box.shape.dims k array.region.dims)
    by_test false = is

hull_from : (rank k : ℕ) (hull : Option (ℤ × ℤ)) (boxes : List ArrayBox) → IsHull hull → All IsArrayBox boxes → IsHull (fold (widened rank k) hull boxes)
hull_from rank k hull [] is arrays = is
hull_from rank k hull (box ∷ boxes) is arrays =
    hull_from rank k (widened rank k hull box) boxes (widened_is rank k hull box is (All-head IsArrayBox box boxes arrays)) (All-tail IsArrayBox box boxes arrays)

axis_is : (hull : Option (ℤ × ℤ)) → IsHull hull → IsAxis (axis_over hull)
axis_is None is = record { low = search rules; high = search rules }
axis_is (Some h) is =
    let low : IsUpTo 40 h.0 = is.0 in
    let high : IsUpTo 40 h.1 = is.1 in
    let e = pos-extent h.0 h.1 in record { low = low; high = (omega (arith, ints, clamps, e), omega (arith, ints, clamps, e)) }

axes_are : (boxes : List ArrayBox) (rank : ℕ) → All IsArrayBox boxes → AreAxes (axes_of boxes rank)
axes_are boxes rank arrays = (refl, All-from_recursion IsAxis (axes_of boxes rank) (axis_at 0, (axis_at 1, (axis_at 2, tt))))
  where
    axis_at : (k : ℕ) → IsAxis (axis_over (hull_in rank k boxes))
    axis_at k = axis_is (hull_in rank k boxes) (hull_from rank k None boxes tt arrays)

pub blocks_are : (grid : List ℕ) (boxes : List ArrayBox) → All IsArrayBox boxes → AreBlocks (blocks_of grid boxes)
blocks_are grid boxes arrays = record { lines = axes_are boxes 1 arrays; planes = axes_are boxes 2 arrays; spaces = axes_are boxes 3 arrays }

-- ---- past the rank
pub padded_at : (rank : ℕ) (dims : List Dim) (i : ℕ) (d : Dim) → IsPadded rank dims → rank ≤ i → i < 3 → get_or dims i d ≡ padding
padded_at rank dims i d padded past below =
    let place : rank + (i - rank) ≡ i = omega (arith, past) in
    ap (λ k. get_or dims k d) (sym place)
    ∙ (sym (get_or-drop rank dims (i - rank) d)
    ∙ (ap (λ l. get_or l (i - rank) d) padded ∙ get_or-replicate (3 - rank) (i - rank) padding d (omega (arith, past, below))))

abbrev pub FilledAt : ℕ → List Dim → Type 0
FilledAt rank dims = (i : ℕ) (d : Dim) → rank ≤ i → i < 3 → get_or dims i d ≡ padding

pub padded_from : (rank : ℕ) (dims : List Dim) → 1 ≤ rank → rank ≤ 3 → length dims ≡ 3 → FilledAt rank dims → IsPadded rank dims
padded_from rank [] above below l filled = absurd (omega (arith, l))
padded_from rank (a ∷ []) above below l filled = absurd (omega (arith, l))
padded_from rank (a ∷ b ∷ []) above below l filled = absurd (omega (arith, l))
padded_from rank (a ∷ b ∷ c ∷ d ∷ dims) above below l filled = absurd (omega (arith, l))
padded_from zero (a ∷ b ∷ c ∷ []) above below l filled = absurd (omega (arith, above))
padded_from (suc zero) (a ∷ b ∷ c ∷ []) above below l filled =
    ap (λ x. x ∷ c ∷ []) (filled 1 a (omega arith) (omega arith)) ∙ ap (λ x. padding ∷ x ∷ []) (filled 2 a (omega arith) (omega arith))
padded_from (suc (suc zero)) (a ∷ b ∷ c ∷ []) above below l filled = ap (λ x. x ∷ []) (filled 2 a (omega arith) (omega arith))
padded_from (suc (suc (suc zero))) (a ∷ b ∷ c ∷ []) above below l filled = refl
padded_from (suc (suc (suc (suc n)))) (a ∷ b ∷ c ∷ []) above below l filled = absurd (omega (arith, below))

pub region_from : (rank : ℕ) (dims : List Dim) → 1 ≤ rank → rank ≤ 3 → length dims ≡ 3 → All IsDim dims → FilledAt rank dims → IsRegion (record { rank = rank; dims = dims })
region_from rank dims above below l are filled = record { rank_above = above; rank_below = below; dims = are; padded = padded_from rank dims above below l filled }

-- a dimension past the rank is one block, and each processor has it
pub cut_past : (grid : List ℕ) (rank i : ℕ) → 1 ≤ rank → rank ≤ i → i < 3 → get_or (cuts grid rank) i 0 ≡ 1
cut_past grid zero i above past below = absurd (omega (arith, above))
cut_past grid (suc zero) zero above past below = absurd (omega (arith, past))
cut_past grid (suc zero) (suc zero) above past below = refl
cut_past grid (suc zero) (suc (suc zero)) above past below = refl
cut_past grid (suc zero) (suc (suc (suc i))) above past below = absurd (omega (arith, below))
cut_past grid (suc (suc zero)) zero above past below = absurd (omega (arith, past))
cut_past grid (suc (suc zero)) (suc zero) above past below = absurd (omega (arith, past))
cut_past grid (suc (suc zero)) (suc (suc zero)) above past below = by_factors (factors_of grid)
  where
    by_factors : (fs : List ℕ) → get_or (cuts_of 2 fs ++ (1 ∷ [])) 2 0 ≡ 1
    by_factors [] = refl
    by_factors (n ∷ fs) = refl
cut_past grid (suc (suc zero)) (suc (suc (suc i))) above past below = absurd (omega (arith, below))
cut_past grid (suc (suc (suc rank))) i above past below = absurd (omega (arith, past, below))

pub block_past : (grid : List ℕ) (rank p i : ℕ) → 1 ≤ rank → rank ≤ 3 → rank ≤ i → i < 3 → p < processors_of grid → get_or (blocks_at (cuts grid rank) p) i 0 ≡ 0
block_past grid rank p i above most past below inside =
    let c : AreCuts grid rank = are_cuts grid rank above most in
    let count = c.count in
    let three = c.three in
    let low : AreBelow (blocks_at (cuts grid rank) p) (cuts grid rank) = blocks_are_below (cuts grid rank) p c.some (omega (arith, count, inside)) in
    let long = blocks_length (cuts grid rank) p in
    let less : get_or (blocks_at (cuts grid rank) p) i 0 < get_or (cuts grid rank) i 0 =
    AllZip-get_or ◌<◌ (blocks_at (cuts grid rank) p) (cuts grid rank) i 0 0 low (omega (arith, long, three, below)) in
    omega (arith, less, cut_past grid rank i above past below)

-- ---- regions of three dimensions, each by its number
abbrev pub by_number : (ℕ → Dim) → List Dim
by_number f = f 0 ∷ f 1 ∷ f 2 ∷ []

at_number : (f : ℕ → Dim) (i : ℕ) (d : Dim) → i < 3 → get_or (by_number f) i d ≡ f i
at_number f zero d below = refl
at_number f (suc zero) d below = refl
at_number f (suc (suc zero)) d below = refl
at_number f (suc (suc (suc i))) d below = absurd (omega (arith, below))

pub all_by_number : (P : Dim → Type 0) (f : ℕ → Dim) → ((i : ℕ) → i < 3 → P (f i)) → All P (by_number f)
all_by_number P f each = All-from_recursion P (by_number f) (each 0 (omega arith), (each 1 (omega arith), (each 2 (omega arith), tt)))

pub region_by_number : (rank : ℕ) (f : ℕ → Dim) → 1 ≤ rank → rank ≤ 3 → ((i : ℕ) → i < 3 → IsDim (f i)) → ((i : ℕ) → rank ≤ i → i < 3 → f i ≡ padding)
    → IsRegion (record { rank = rank; dims = by_number f })
region_by_number rank f above below are filled =
    region_from rank (by_number f) above below refl (all_by_number IsDim f are) (λ i d past most. at_number f i d most ∙ filled i past most)

-- ---- parts of a region
pub nothing_is : IsDim nothing
nothing_is = search rules

owned_is : (axis : Axis) (n c k : ℕ) (dim : Dim) → IsDim dim → IsDim (owned_dim axis n c k dim)
owned_is axis n c k (Range lo hi step align) is = part_is_dim (block_first axis n c) (block_last axis n c) (Range lo hi step align) is
owned_is axis n c k Flood is = by_test (c == k)
  where
    by_test : (b : Bool) → IsDim (if b then Flood else nothing)
    by_test true = is
    by_test false = nothing_is

owned_padding : (axis : Axis) (n c k : ℕ) (dim : Dim) → n ≡ 1 → c ≡ 0 → dim ≡ padding → owned_dim axis n c k dim ≡ padding
owned_padding axis n c k dim one none is = rw (one, none, is) refl

pub owned_is_region : (blocks : Blocks) (from to : ℕ) (r : Region) → AreBlocks blocks → from < processors_of blocks.grid → length r.dims ≡ 3 → IsRegion r → IsRegion (owned_part blocks from to r)
owned_is_region blocks from to r are inside l is =
    let ns = cuts blocks.grid r.rank in
    let axes = axes_at blocks r.rank in
    let c : AreCuts blocks.grid r.rank = are_cuts blocks.grid r.rank is.rank_above is.rank_below in
    let e : Axis = record { low = pos 0; extent = 0 } in
    let f : ℕ → Dim = λ i. owned_dim (get_or axes i e) (get_or ns i 0) (get_or (blocks_at ns from) i 0) (get_or (blocks_at ns to) i 0) (get_or r.dims i padding) in
    let same : by_number f ≡ each_owned axes ns (blocks_at ns from) (blocks_at ns to) r.dims =
    owns_told axes ns (blocks_at ns from) (blocks_at ns to) r.dims e padding (f 0) (f 1) (f 2) (axes_three blocks r.rank are is.rank_above is.rank_below) c.three
    (blocks_length ns from ∙ c.three) (blocks_length ns to ∙ c.three) l refl refl refl in
    subst (λ dims. IsRegion (record { rank = r.rank; dims = dims })) same
    (region_by_number r.rank f is.rank_above is.rank_below (λ i below. owned_is (get_or axes i e) (get_or ns i 0) (get_or (blocks_at ns from) i 0) (get_or (blocks_at ns to) i 0) (get_or r.dims i padding) (is.dims i padding (omega (arith, l, below))))
    (λ i past below. owned_padding (get_or axes i e) (get_or ns i 0) (get_or (blocks_at ns from) i 0) (get_or (blocks_at ns to) i 0) (get_or r.dims i padding)
    (cut_past blocks.grid r.rank i is.rank_above past below) (block_past blocks.grid r.rank from i is.rank_above is.rank_below past below inside) (padded_at r.rank r.dims i padding is.padded past below)))

pub owned_length : (blocks : Blocks) (from to : ℕ) (r : Region) → AreBlocks blocks → 1 ≤ r.rank → r.rank ≤ 3 → length r.dims ≡ 3 → length (owned_part blocks from to r).dims ≡ 3
owned_length blocks from to r are above below l =
    let ns = cuts blocks.grid r.rank in
    let axes = axes_at blocks r.rank in
    let c : AreCuts blocks.grid r.rank = are_cuts blocks.grid r.rank above below in
    let e : Axis = record { low = pos 0; extent = 0 } in
    let f : ℕ → Dim = λ i. owned_dim (get_or axes i e) (get_or ns i 0) (get_or (blocks_at ns from) i 0) (get_or (blocks_at ns to) i 0) (get_or r.dims i padding) in
    sym (ap length (owns_told axes ns (blocks_at ns from) (blocks_at ns to) r.dims e padding (f 0) (f 1) (f 2) (axes_three blocks r.rank are above below) c.three
    (blocks_length ns from ∙ c.three) (blocks_length ns to ∙ c.three) l refl refl refl))

-- ---- held boxes
held_is : (axis : Axis) (n c : ℕ) (low high : ℤ) (dim : Dim) → IsDim dim → 0 < coordinate_count (held_dim axis n c low high dim) → IsDim (held_dim axis n c low high dim)
held_is axis n c low high Flood is some = is
held_is axis n c low high (Range lo hi step align) is some = by_test (is_block_empty axis n c) some
  where
    by_test : (b : Bool) → 0 < coordinate_count (if b then nothing else all_from (int_max lo (block_first axis n c -ℤ low)) (int_min hi (block_last axis n c +ℤ high)))
        → IsDim (if b then nothing else all_from (int_max lo (block_first axis n c -ℤ low)) (int_min hi (block_last axis n c +ℤ high)))
    by_test true some = nothing_is
    by_test false some =
        let a = int_max lo (block_first axis n c -ℤ low) in
        let b = int_min hi (block_last axis n c +ℤ high) in
        let count = count-all_from a b in
        let wide = pos-extent a b in
        let order : a ≤ℤ b = omega (arith, ints, clamps, some, count, wide) in
        let from : IsUpTo 40 lo = is.1.0 in
        let to : IsUpTo 40 hi = is.1.1 in
        (omega (arith, ints), ((omega (arith, ints, clamps), omega (arith, ints, clamps)), (omega (arith, ints, clamps), omega (arith, ints, clamps))), (omega (arith, ints, clamps), omega (arith, ints, clamps)))

held_padding : (axis : Axis) (n c : ℕ) (low high : ℤ) (dim : Dim) → n ≡ 1 → c ≡ 0 → dim ≡ padding → IsFringe low → IsFringe high → held_dim axis n c low high dim ≡ padding
held_padding axis n c low high dim one none is down up =
    let a : int_max (pos 0) (neg_ℤ (pos (2 ^ 40)) -ℤ low) ≡ pos 0 = omega (arith, ints, clamps) in
    let b : int_min (pos 0) (pos (2 ^ 40) +ℤ high) ≡ pos 0 = omega (arith, ints, clamps) in
    rw (one, none, is) (rw (a, b) refl)

emptied_is : (dim : Dim) → IsDim (dim_emptied dim)
emptied_is (Range lo hi step align) = nothing_is
emptied_is Flood = (tt, tt, tt)

emptied_at : (rank : ℕ) (dims : List Dim) (i : ℕ) (d : Dim) → rank ≤ i → get_or (emptied rank dims) i d ≡ get_or dims i d
emptied_at zero dims i d past = refl
emptied_at (suc rank) [] i d past = refl
emptied_at (suc rank) (x ∷ dims) zero d past = absurd (omega (arith, past))
emptied_at (suc rank) (x ∷ dims) (suc i) d past = emptied_at rank dims i d (omega (arith, past))

emptied_below : (rank : ℕ) (dims : List Dim) (i : ℕ) (d : Dim) → i < rank → i < length dims → get_or (emptied rank dims) i d ≡ dim_emptied (get_or dims i d)
emptied_below zero dims i d below here = absurd (omega (arith, below))
emptied_below (suc rank) [] i d below here = absurd (omega (arith, here))
emptied_below (suc rank) (x ∷ dims) zero d below here = refl
emptied_below (suc rank) (x ∷ dims) (suc i) d below here = emptied_below rank dims i d (omega (arith, below)) (omega (arith, here))

pub emptied_length : (rank : ℕ) (dims : List Dim) → length (emptied rank dims) ≡ length dims
emptied_length zero dims = refl
emptied_length (suc rank) [] = refl
emptied_length (suc rank) (x ∷ dims) = ap suc (emptied_length rank dims)

by_place : (i rank : ℕ) → (i < rank) ⊎ (rank ≤ i)
by_place i rank = cases_lt i rank

or_emptied_is_region : (rank : ℕ) (dims : List Dim) → 1 ≤ rank → rank ≤ 3 → length dims ≡ 3 → FilledAt rank dims → ((i : ℕ) → i < 3 → 0 < coordinate_count (get_or dims i padding) → IsDim (get_or dims i padding))
    → IsRegion (or_emptied (record { rank = rank; dims = dims }))
or_emptied_is_region rank dims above below l filled are = by_test (has_none (record { rank = rank; dims = dims })) refl
  where
    by_test : (b : Bool) → has_none (record { rank = rank; dims = dims }) ≡ b → IsRegion (if b then record { rank = rank; dims = emptied rank dims } else record { rank = rank; dims = dims })
    by_test true none =
        region_from rank (emptied rank dims) above below (emptied_length rank dims ∙ l)
        (λ k d here.
        let inside : k < 3 = omega (arith, here, emptied_length rank dims, l) in
        elim (by_place k rank) [
          | inl within ↦ subst IsDim (sym (emptied_below rank dims k d within (omega (arith, inside, l)))) (emptied_is (get_or dims k d))
          | inr past ↦ subst IsDim (sym (emptied_at rank dims k d past ∙ filled k d past inside)) padding_is
        ])
        (λ i d past most. emptied_at rank dims i d past ∙ filled i d past most)
      where
        padding_is : IsDim padding
        padding_is = search rules
    by_test false some =
        let counts = each_some dims padding l (some_from (record { rank = rank; dims = dims }) some) in
        region_from rank dims above below l (λ k d here. of_three dims k d l here (are 0 (omega arith) counts.0) (are 1 (omega arith) counts.1) (are 2 (omega arith) counts.2)) filled
      where
        of_three : (dims : List Dim) (k : ℕ) (d : Dim) → length dims ≡ 3 → k < length dims → IsDim (get_or dims 0 padding) → IsDim (get_or dims 1 padding) → IsDim (get_or dims 2 padding) → IsDim (get_or dims k d)
        of_three [] k d l here f g h = absurd (omega (arith, here))
        of_three (a ∷ []) k d l here f g h = absurd (omega (arith, l))
        of_three (a ∷ b ∷ []) k d l here f g h = absurd (omega (arith, l))
        of_three (a ∷ b ∷ c ∷ x ∷ dims) k d l here f g h = absurd (omega (arith, l))
        of_three (a ∷ b ∷ c ∷ []) zero d l here f g h = f
        of_three (a ∷ b ∷ c ∷ []) (suc zero) d l here f g h = g
        of_three (a ∷ b ∷ c ∷ []) (suc (suc zero)) d l here f g h = h
        of_three (a ∷ b ∷ c ∷ []) (suc (suc (suc k))) d l here f g h = absurd (omega (arith, here))

abbrev pub no_axis : Axis
no_axis = record { low = pos 0; extent = 0 }

module _ (blocks : Blocks) (box : ArrayBox) (p : ℕ) (are : AreBlocks blocks) (array : IsArrayBox box) (lows : length box.low ≡ 3) (highs : length box.high ≡ 3) (wide : length box.shape.dims ≡ 3) (inside : p < processors_of blocks.grid) where
  -- the i-th dimension that is held
  abbrev axis_of : ℕ → Axis
  axis_of i = get_or (axes_at blocks box.shape.rank) i no_axis

  abbrev cut_of : ℕ → ℕ
  cut_of i = get_or (cuts blocks.grid box.shape.rank) i 0

  abbrev block_at : ℕ → ℕ
  block_at i = get_or (blocks_at (cuts blocks.grid box.shape.rank) p) i 0

  abbrev low_of : ℕ → ℤ
  low_of i = get_or box.low i (pos 0)

  abbrev high_of : ℕ → ℤ
  high_of i = get_or box.high i (pos 0)

  abbrev dim_of : ℕ → Dim
  dim_of i = get_or box.shape.dims i padding

  abbrev pub held_number : ℕ → Dim
  held_number i = held_dim (axis_of i) (cut_of i) (block_at i) (low_of i) (high_of i) (dim_of i)

  pub helds_are : by_number held_number
      ≡ each_held (axes_at blocks box.shape.rank) (cuts blocks.grid box.shape.rank) (blocks_at (cuts blocks.grid box.shape.rank) p) box.low box.high box.shape.dims
  helds_are =
      let ns = cuts blocks.grid box.shape.rank in
      let c : AreCuts blocks.grid box.shape.rank = are_cuts blocks.grid box.shape.rank array.region.rank_above array.region.rank_below in
      helds_told (axes_at blocks box.shape.rank) ns (blocks_at ns p) box.low box.high box.shape.dims no_axis padding (held_number 0) (held_number 1) (held_number 2)
      (axes_three blocks box.shape.rank are array.region.rank_above array.region.rank_below) c.three (blocks_length ns p ∙ c.three) lows highs wide refl refl refl

  pub held_is_region : IsRegion (held_of blocks box p)
  held_is_region =
      let rank = box.shape.rank in
      let above = array.region.rank_above in
      let below = array.region.rank_below in
      subst (λ dims. IsRegion (or_emptied (record { rank = rank; dims = dims }))) helds_are
      (or_emptied_is_region rank (by_number held_number) above below refl
      (λ i d past most. at_number held_number i d most
      ∙ held_padding (axis_of i) (cut_of i) (block_at i) (low_of i) (high_of i) (dim_of i) (cut_past blocks.grid rank i above past most) (block_past blocks.grid rank p i above below past most inside)
      (padded_at rank box.shape.dims i padding array.region.padded past most) (array.low i (pos 0) (omega (arith, lows, most))) (array.high i (pos 0) (omega (arith, highs, most))))
      (λ i most some. subst IsDim (sym (at_number held_number i padding most))
      (held_is (axis_of i) (cut_of i) (block_at i) (low_of i) (high_of i) (dim_of i) (array.region.dims i padding (omega (arith, wide, most)))
      (subst (λ d. 0 < coordinate_count d) (at_number held_number i padding most) some))))

-- ---- needs
clipped : (lo hi from to step align : ℤ) → IsUpTo 40 lo → IsUpTo 40 hi → HasBounds (range_or_nothing (int_max from lo) (int_min to hi) step align)
clipped lo hi from to step align low high = by_test (int_le (int_max from lo) (int_min to hi)) (le_from_test (int_max from lo) (int_min to hi))
  where
    by_test : (b : Bool) → (b ≡ true → int_max from lo ≤ℤ int_min to hi) → HasBounds (if b then Range (int_max from lo) (int_min to hi) step align else nothing)
    by_test true told =
        let le : int_max from lo ≤ℤ int_min to hi = told refl in
        ((omega (arith, ints, clamps), omega (arith, ints, clamps)), (omega (arith, ints, clamps), omega (arith, ints, clamps)))
    by_test false told = nothing_is.1

pub place_bounds : (held : Dim) (d : ℤ) (dim : Dim) → HasBounds held → HasBounds (place_dim held d dim)
place_bounds Flood d dim bounds = by_test (coordinate_count dim == 0)
  where
    by_test : (b : Bool) → HasBounds (if b then nothing else Flood)
    by_test true = nothing_is.1
    by_test false = tt
place_bounds (Range lo hi step align) d Flood bounds = clipped lo hi (pos 0) (pos 0) (pos 1) (pos 0) bounds.0 bounds.1
place_bounds (Range lo hi step align) d (Range from to stride base) bounds = clipped lo hi (from +ℤ d) (to +ℤ d) stride (base +ℤ d) bounds.0 bounds.1

-- an alignment that is moved stays near, where that of the whole dimension does
stepped : (lo hi step align : ℤ) → pos 1 ≤ℤ step → IsUpTo 42 align → HasStep (range_or_nothing lo hi step align) × HasAlign (range_or_nothing lo hi step align)
stepped lo hi step align step_is align_is = by_test (int_le lo hi)
  where
    by_test : (b : Bool) → HasStep (if b then Range lo hi step align else nothing) × HasAlign (if b then Range lo hi step align else nothing)
    by_test true = (step_is, align_is)
    by_test false = (nothing_is.0, nothing_is.2)

wrong_way : (lo hi step align : ℤ) → hi <ℤ lo → range_or_nothing lo hi step align ≡ nothing
wrong_way lo hi step align below = let e : int_le lo hi ≡ false = test_fails lo hi below in rw e refl

placed_step : (held : Dim) (d : ℤ) (f l : ℤ) (dim : Dim) → IsDim dim → HasAlign (dim_moved d dim) → HasStep (place_dim held d (part f l dim)) × HasAlign (place_dim held d (part f l dim))
placed_step Flood d f l dim is aligned = by_test (coordinate_count (part f l dim) == 0)
  where
    by_test : (b : Bool) → HasStep (if b then nothing else Flood) × HasAlign (if b then nothing else Flood)
    by_test true = (nothing_is.0, nothing_is.2)
    by_test false = (tt, tt)
placed_step (Range lo hi step align) d f l Flood is aligned = stepped (int_max (pos 0) lo) (int_min (pos 0) hi) (pos 1) (pos 0) (omega (arith, ints)) (omega (arith, ints), omega (arith, ints))
placed_step (Range lo hi step align) d f l (Range from to stride base) is aligned = by_test (int_le (int_max from f) (int_min to l))
  where
    by_test : (b : Bool)
        → HasStep (place_dim (Range lo hi step align) d (if b then Range (int_max from f) (int_min to l) stride base else nothing))
        × HasAlign (place_dim (Range lo hi step align) d (if b then Range (int_max from f) (int_min to l) stride base else nothing))
    by_test true = stepped (int_max (int_max from f +ℤ d) lo) (int_min (int_min to l +ℤ d) hi) stride (base +ℤ d) is.0 aligned
    by_test false =
        let none : range_or_nothing (int_max (pos 1 +ℤ d) lo) (int_min (pos 0 +ℤ d) hi) (pos 1) (pos 1 +ℤ d) ≡ nothing =
        wrong_way (int_max (pos 1 +ℤ d) lo) (int_min (pos 0 +ℤ d) hi) (pos 1) (pos 1 +ℤ d) (omega (arith, ints, clamps)) in
        subst (λ x. HasStep x × HasAlign x) (sym none) (nothing_is.0, nothing_is.2)

needed_is : (axis : Axis) (n k : ℕ) (held : Dim) (d : ℤ) (dim : Dim) → IsDim held → IsDim dim → HasAlign (dim_moved d dim) → IsDim (needed_dim axis n k held d dim)
needed_is axis n k held d dim own is aligned =
    let s = placed_step held d (block_first axis n k) (block_last axis n k) dim is aligned in
    (s.0, place_bounds held d (part (block_first axis n k) (block_last axis n k) dim) own.1, s.1)

needed_padding : (axis : Axis) (n k : ℕ) (held : Dim) (d : ℤ) (dim : Dim) → n ≡ 1 → k ≡ 0 → held ≡ padding → d ≡ pos 0 → dim ≡ padding → needed_dim axis n k held d dim ≡ padding
needed_padding axis n k held d dim one none own still is = rw (one, none, own, still, is) refl

pub components_length : (rank : ℕ) (v : List ℤ) → length (components rank v) ≡ length v
components_length rank [] = refl
components_length zero (x ∷ v) = ap suc (components_length zero v)
components_length (suc rank) (x ∷ v) = ap suc (components_length rank v)

pub component_past : (rank : ℕ) (v : List ℤ) (i : ℕ) → rank ≤ i → get_or (components rank v) i (pos 0) ≡ pos 0
component_past rank [] i past = refl
component_past zero (x ∷ v) zero past = refl
component_past zero (x ∷ v) (suc i) past = component_past zero v i (omega arith)
component_past (suc rank) (x ∷ v) zero past = absurd (omega (arith, past))
component_past (suc rank) (x ∷ v) (suc i) past = component_past rank v i (omega (arith, past))

moved_at : (v : List ℤ) (dims : List Dim) (i : ℕ) (d : Dim) → i < length v → i < length dims → get_or (each dim_moved v dims) i d ≡ dim_moved (get_or v i (pos 0)) (get_or dims i d)
moved_at [] dims i d here there = absurd (omega (arith, here))
moved_at (x ∷ v) [] i d here there = absurd (omega (arith, there))
moved_at (x ∷ v) (dim ∷ dims) zero d here there = refl
moved_at (x ∷ v) (dim ∷ dims) (suc i) d here there = moved_at v dims i d (omega (arith, here)) (omega (arith, there))

moved_length : (v : List ℤ) (dims : List Dim) → length v ≡ length dims → length (each dim_moved v dims) ≡ length dims
moved_length [] [] l = refl
moved_length [] (d ∷ dims) l = absurd (omega (arith, l))
moved_length (x ∷ v) [] l = absurd (omega (arith, l))
moved_length (x ∷ v) (d ∷ dims) l = ap suc (moved_length v dims (omega (arith, l)))

module _ (blocks : Blocks) (held : Region) (to : ℕ) (r : Region) (shift : List ℤ) (are : AreBlocks blocks) (rank_above : 1 ≤ r.rank) (rank_below : r.rank ≤ 3) (own : length held.dims ≡ 3) (wide : length r.dims ≡ 3) (long : length shift ≡ 3) where
  abbrev pub need_number : ℕ → Dim
  need_number i =
      needed_dim (get_or (axes_at blocks r.rank) i no_axis) (get_or (cuts blocks.grid r.rank) i 0) (get_or (blocks_at (cuts blocks.grid r.rank) to) i 0)
      (get_or held.dims i padding) (get_or (components r.rank shift) i (pos 0)) (get_or r.dims i padding)

  pub needs_are : by_number need_number ≡ (needed_in blocks held to r shift).dims
  needs_are =
      let ns = cuts blocks.grid r.rank in
      let c : AreCuts blocks.grid r.rank = are_cuts blocks.grid r.rank rank_above rank_below in
      needs_told (axes_at blocks r.rank) ns (blocks_at ns to) held.dims (components r.rank shift) r.dims no_axis padding (need_number 0) (need_number 1) (need_number 2)
      (axes_three blocks r.rank are rank_above rank_below) c.three (blocks_length ns to ∙ c.three) own (components_length r.rank shift ∙ long) wide refl refl refl

  pub needed_length : length (needed_in blocks held to r shift).dims ≡ 3
  needed_length = sym (ap length needs_are)

  pub needed_has_bounds : All HasBounds held.dims → All HasBounds (needed_in blocks held to r shift).dims
  needed_has_bounds bounds =
      subst (All HasBounds) needs_are (all_by_number HasBounds need_number (λ i below.
      place_bounds (get_or held.dims i padding) (get_or (components r.rank shift) i (pos 0))
      (part (block_first (get_or (axes_at blocks r.rank) i no_axis) (get_or (cuts blocks.grid r.rank) i 0) (get_or (blocks_at (cuts blocks.grid r.rank) to) i 0))
      (block_last (get_or (axes_at blocks r.rank) i no_axis) (get_or (cuts blocks.grid r.rank) i 0) (get_or (blocks_at (cuts blocks.grid r.rank) to) i 0)) (get_or r.dims i padding))
      (bounds i padding (omega (arith, own, below)))))

  pub needed_is_region : IsRegion held → IsRegion r → held.rank ≡ r.rank → to < processors_of blocks.grid → All HasAlign (moved shift r).dims → IsRegion (needed_in blocks held to r shift)
  needed_is_region holds is same inside aligned =
      let v = components r.rank shift in
      let wide_v : length v ≡ 3 = components_length r.rank shift ∙ long in
      subst (λ dims. IsRegion (record { rank = r.rank; dims = dims })) needs_are
      (region_by_number r.rank need_number rank_above rank_below
      (λ i below. needed_is (get_or (axes_at blocks r.rank) i no_axis) (get_or (cuts blocks.grid r.rank) i 0) (get_or (blocks_at (cuts blocks.grid r.rank) to) i 0)
      (get_or held.dims i padding) (get_or v i (pos 0)) (get_or r.dims i padding) (holds.dims i padding (omega (arith, own, below))) (is.dims i padding (omega (arith, wide, below)))
      (subst HasAlign (moved_at v r.dims i padding (omega (arith, wide_v, below)) (omega (arith, wide, below))) (aligned i padding (omega (arith, moved_length v r.dims (wide_v ∙ sym wide), wide, below)))))
      (λ i past below. needed_padding (get_or (axes_at blocks r.rank) i no_axis) (get_or (cuts blocks.grid r.rank) i 0) (get_or (blocks_at (cuts blocks.grid r.rank) to) i 0)
      (get_or held.dims i padding) (get_or v i (pos 0)) (get_or r.dims i padding) (cut_past blocks.grid r.rank i rank_above past below) (block_past blocks.grid r.rank to i rank_above rank_below past below inside)
      (padded_at held.rank held.dims i padding holds.padded (omega (arith, same, past)) below) (component_past r.rank shift i past) (padded_at r.rank r.dims i padding is.padded past below)))
