-- The part of a region that a processor owns for itself has the tuples of the region within its own block, in their order.
use Rattle.std.proofs.Common.{◌≡◌, ℕ, zero, suc, ◌-◌, ◌<◌, ◌≤◌, ◌==◌, Bool, true, false, cond, get_or, List, [], ◌∷◌, length, map, drop, replicate, refl, sym, ap, ◌∙◌, subst, ℤ, pos, arith, eq-eqb}
use Rattle.std.specs.Int.{int_max, int_min}
use Rattle.std.specs.Prelude.{◌+ℤ◌, ◌-ℤ◌, filter, int_le}
use Rattle.std.proofs.lemmas.Int.{int_max_is, ints}
use Rattle.reduce_plan.specs.of_zpl_region.declared.dims.Dim.{Dim}
use Rattle.reduce_plan.specs.of_zpl_region.declared.dims.Dim.TheVariants.{Range, Flood}
use Rattle.reduce_plan.specs.of_zpl_region.declared.regions.Region.{Region}
use Rattle.reduce_plan.specs.of_zpl_region.Dim.{coordinates, dim_met, extent, is_multiple}
use Rattle.reduce_plan.specs.of_zpl_region.Progression.{progression}
use Rattle.reduce_plan.specs.of_zpl_region.Region.{IsPadded, components, each_met, members, outside_of, padding, tuples}
use Rattle.grid_meaning.specs.of_grid_layout.declared.axes.Axis.{Axis}
use Rattle.grid_meaning.specs.of_grid_layout.declared.blocks.Blocks.{Blocks}
use Rattle.grid_meaning.specs.of_grid_layout.Block.{block_first, block_last}
use Rattle.grid_meaning.specs.of_grid_layout.Grid.{cuts, blocks_at, processors_of}
use Rattle.grid_meaning.specs.of_grid_layout.Layout.{AreBlocks, axes_at, each_bound, laid_out, own_first, own_last}
use Rattle.grid_meaning.specs.of_grid_layout.Piece.{each_owned, nothing, owned_dim, owned_part, part, range_or_nothing}
use Rattle.grid_meaning.proofs.of_grid_layout.OwnerLemmas.{AreCuts, are_cuts, axes_three}
use Rattle.grid_meaning.proofs.of_grid_layout.ThreeLemmas.{by_three, three_same}
use Rattle.grid_meaning.proofs.of_grid_layout.PartLemmas.{blocks_length}
use Rattle.grid_meaning.proofs.of_grid_layout.SoundLemmas.{block_past, cut_past}
use Rattle.grid_meaning.specs.of_node_form.declared.tables.Tables.{Tables}
use Rattle.grid_meaning.specs.Local.{processors}
use Rattle.grid_meaning.specs.Owner.{tuples_of}
use Rattle.grid_meaning.specs.State.{IsSlot}
use Rattle.grid_meaning.specs.Stored.{arrangement_of}
use Rattle.grid_meaning.proofs.RegionLemmas.{length-each, padded-each}
use Rattle.grid_meaning.proofs.WorldLemmas.{processors_alike}

-- ---- one dimension
no_integers : (lo hi step align : ℤ) → int_le lo hi ≡ false → coordinates (Range lo hi step align) ≡ []
no_integers lo hi step align wrong =
    let none : extent lo hi ≡ 0 = omega (arith, ints, int_max_is (pos 0) ((hi -ℤ lo) +ℤ pos 1)) in
    ap (λ n. filter (λ x. is_multiple step (x -ℤ align)) (progression lo 1 n)) none

same_range : (lo hi step align : ℤ) → coordinates (range_or_nothing lo hi step align) ≡ coordinates (Range lo hi step align)
same_range lo hi step align = by (int_le lo hi) refl
  where
    by : (b : Bool) → int_le lo hi ≡ b → coordinates (cond b (Range lo hi step align) nothing) ≡ coordinates (Range lo hi step align)
    by true e = refl
    by false e = sym (no_integers lo hi step align e)

same_dim : (axis : Axis) (n c : ℕ) (d : Dim)
    → coordinates (owned_dim axis n c c d) ≡ coordinates (dim_met (block_first axis n c) (block_last axis n c) d)
same_dim axis n c Flood = ap (λ b. coordinates (cond b Flood nothing)) (eq-eqb c c refl)
same_dim axis n c (Range lo hi step align) =
    same_range (int_max lo (block_first axis n c)) (int_min hi (block_last axis n c)) step align

-- past the rank
same_padding : (axis : Axis) → coordinates (owned_dim axis 1 0 0 padding) ≡ coordinates (dim_met (pos 0) (pos 0) padding)
same_padding axis = refl

-- ---- all dimensions
same_coordinates : (rank : ℕ) (axes : List Axis) (ns cs : List ℕ) (dims : List Dim) → length axes ≡ length dims
    → length ns ≡ length dims → length cs ≡ length dims
    → ((i : ℕ) → rank ≤ i → i < length dims → get_or ns i 0 ≡ 1)
    → ((i : ℕ) → rank ≤ i → i < length dims → get_or cs i 0 ≡ 0)
    → ((i : ℕ) → rank ≤ i → get_or dims i padding ≡ padding)
    → map coordinates (each_owned axes ns cs cs dims)
    ≡ map coordinates (each_met (components rank (each_bound block_first axes ns cs)) (components rank (each_bound block_last axes ns cs)) dims)
same_coordinates rank [] [] [] [] a n c one none pad = refl
same_coordinates rank [] [] (k ∷ cs) [] a n c one none pad = absurd (omega arith)
same_coordinates rank [] (m ∷ ns) cs [] a n c one none pad = absurd (omega arith)
same_coordinates rank [] ns cs (d ∷ dims) a n c one none pad = absurd (omega arith)
same_coordinates rank (x ∷ axes) ns cs [] a n c one none pad = absurd (omega arith)
same_coordinates rank (x ∷ axes) [] cs (d ∷ dims) a n c one none pad = absurd (omega arith)
same_coordinates rank (x ∷ axes) (m ∷ ns) [] (d ∷ dims) a n c one none pad = absurd (omega arith)
same_coordinates zero (x ∷ axes) (m ∷ ns) (k ∷ cs) (d ∷ dims) a n c one none pad =
    let m_is : m ≡ 1 = one 0 (omega arith) (omega arith) in
    let k_is : k ≡ 0 = none 0 (omega arith) (omega arith) in
    let d_is : d ≡ padding = pad 0 (omega arith) in
    let head : coordinates (owned_dim x m k k d) ≡ coordinates (dim_met (pos 0) (pos 0) d) =
    subst (λ e. coordinates (owned_dim x m k k e) ≡ coordinates (dim_met (pos 0) (pos 0) e)) (sym d_is)
    (subst (λ j. coordinates (owned_dim x m j j padding) ≡ coordinates (dim_met (pos 0) (pos 0) padding)) (sym k_is)
    (subst (λ j. coordinates (owned_dim x j 0 0 padding) ≡ coordinates (dim_met (pos 0) (pos 0) padding)) (sym m_is) (same_padding x))) in
    ap (λ first. first ∷ map coordinates (each_owned axes ns cs cs dims)) head
    ∙ ap (λ rest. coordinates (dim_met (pos 0) (pos 0) d) ∷ rest)
    (same_coordinates zero axes ns cs dims (omega arith) (omega arith) (omega arith)
    (λ i past below. one (suc i) (omega arith) (omega arith)) (λ i past below. none (suc i) (omega arith) (omega arith))
    (λ i past. pad (suc i) (omega arith)))
same_coordinates (suc rank) (x ∷ axes) (m ∷ ns) (k ∷ cs) (d ∷ dims) a n c one none pad =
    ap (λ first. first ∷ map coordinates (each_owned axes ns cs cs dims)) (same_dim x m k d)
    ∙ ap (λ rest. coordinates (dim_met (block_first x m k) (block_last x m k) d) ∷ rest)
    (same_coordinates rank axes ns cs dims (omega arith) (omega arith) (omega arith)
    (λ i past below. one (suc i) (omega arith) (omega arith)) (λ i past below. none (suc i) (omega arith) (omega arith))
    (λ i past. pad (suc i) (omega arith)))

padding_past : (rank k : ℕ) (dims : List Dim) → drop rank dims ≡ replicate k padding → (i : ℕ) → rank ≤ i
    → get_or dims i padding ≡ padding
padding_past zero k dims is i past = ap (λ ds. get_or ds i padding) is ∙ all k i
  where
    all : (n j : ℕ) → get_or (replicate n padding) j padding ≡ padding
    all zero zero = refl
    all zero (suc j) = refl
    all (suc n) zero = refl
    all (suc n) (suc j) = all n j
padding_past (suc rank) k [] is zero past = refl
padding_past (suc rank) k [] is (suc i) past = refl
padding_past (suc rank) k (d ∷ dims) is zero past = absurd (omega arith)
padding_past (suc rank) k (d ∷ dims) is (suc i) past = padding_past rank k dims is i (omega arith)

three_axes : (b c : Bool) (one two three : List Axis) → length one ≡ 3 → length two ≡ 3 → length three ≡ 3
    → length (cond b one (cond c two three)) ≡ 3
three_axes true c one two three h g k = h
three_axes false true one two three h g k = g
three_axes false false one two three h g k = k

-- a region with three dimensions, padded past its rank
pub record IsShaped (region : Region) : Type 0 where
  pub above : 1 ≤ region.rank
  pub below : region.rank ≤ 3
  pub many : length region.dims ≡ 3
  pub padded : IsPadded region.rank region.dims

pub IsShaped-slot : (rank : ℕ) (region : Region) → IsSlot rank region → IsShaped region
IsShaped-slot rank region slot = record {
  above = slot.fits.rank.0;
  below = slot.fits.rank.1;
  many = slot.many;
  padded = slot.fits.padded;
}

pub own_tuples : (code : Tables) (q : ℕ) (region : Region) → q < processors code → IsShaped region
    → members (owned_part (laid_out (arrangement_of code)) q q region) ≡ tuples_of code q region
own_tuples code q region inside shape =
    let blocks = laid_out (arrangement_of code) in
    let are = are_cuts code.grid region.rank shape.above shape.below in
    let below : q < processors_of code.grid = subst (λ n. q < n) (processors_alike code.grid) inside in
    let axes : length (axes_at blocks region.rank) ≡ 3 =
    three_axes (region.rank == 1) (region.rank == 2) blocks.lines blocks.planes blocks.spaces refl refl refl in
    ap tuples
    (same_coordinates region.rank (axes_at blocks region.rank) (cuts code.grid region.rank) (blocks_at (cuts code.grid region.rank) q) region.dims
    (axes ∙ sym shape.many) (are.three ∙ sym shape.many) (blocks_length (cuts code.grid region.rank) q ∙ (are.three ∙ sym shape.many))
    (λ i past within. cut_past code.grid region.rank i shape.above past (omega (arith, shape.many)))
    (λ i past within. block_past code.grid region.rank q i shape.above shape.below past (omega (arith, shape.many)) below)
    (padding_past region.rank (3 - region.rank) region.dims shape.padded))

-- so has the border of one
pub IsShaped-outside : (region : Region) (shift : List ℤ) → IsShaped region → IsShaped (outside_of shift region)
IsShaped-outside region shift shape = record {
  above = shape.above;
  below = shape.below;
  many = length-each _ (components region.rank shift) region.dims ∙ shape.many;
  padded = padded-each _ refl region.rank (3 - region.rank) shift region.dims shape.padded;
}

-- the part of a dimension within a block, as its owner has it for itself
part_own : (axis : Axis) (n c : ℕ) (dim : Dim) → part (block_first axis n c) (block_last axis n c) dim ≡ owned_dim axis n c c dim
part_own axis n c (Range lo hi step align) = refl
part_own axis n c Flood = sym (ap (λ b. cond b Flood nothing) (eq-eqb c c refl))

abbrev PartsAreOwn : List Axis → List ℕ → List ℕ → List Dim → Dim → Type 0
PartsAreOwn axes ns cs dims e =
    part (get_or (each_bound block_first axes ns cs) 0 (pos 0)) (get_or (each_bound block_last axes ns cs) 0 (pos 0)) (get_or dims 0 e)
    ∷ part (get_or (each_bound block_first axes ns cs) 1 (pos 0)) (get_or (each_bound block_last axes ns cs) 1 (pos 0)) (get_or dims 1 e)
    ∷ part (get_or (each_bound block_first axes ns cs) 2 (pos 0)) (get_or (each_bound block_last axes ns cs) 2 (pos 0)) (get_or dims 2 e) ∷ []
    ≡ each_owned axes ns cs cs dims

parts_are_own : (axes : List Axis) (ns cs : List ℕ) (dims : List Dim) (e : Dim) → length axes ≡ 3 → length ns ≡ 3 → length cs ≡ 3 → length dims ≡ 3 → PartsAreOwn axes ns cs dims e
parts_are_own axes ns cs dims e la ln lc ld =
    by_three (λ axes. PartsAreOwn axes ns cs dims e) axes la (λ x y z.
    by_three (λ ns. PartsAreOwn (x ∷ y ∷ z ∷ []) ns cs dims e) ns ln (λ l m n.
    by_three (λ cs. PartsAreOwn (x ∷ y ∷ z ∷ []) (l ∷ m ∷ n ∷ []) cs dims e) cs lc (λ a b c.
    by_three (λ dims. PartsAreOwn (x ∷ y ∷ z ∷ []) (l ∷ m ∷ n ∷ []) (a ∷ b ∷ c ∷ []) dims e) dims ld (λ f g h.
    three_same _ _ _ _ _ _ (part_own x l a f) (part_own y m b g) (part_own z n c h)))))

-- what the code answers: the parts of the dimensions within the own block
pub own_parts : (blocks : Blocks) (q : ℕ) (region : Region) (e x y z : Dim) (firsts lasts : List ℤ) → AreBlocks blocks → 1 ≤ region.rank → region.rank ≤ 3 → length region.dims ≡ 3
    → firsts ≡ own_first blocks region.rank q → lasts ≡ own_last blocks region.rank q
    → x ≡ part (get_or firsts 0 (pos 0)) (get_or lasts 0 (pos 0)) (get_or region.dims 0 e)
    → y ≡ part (get_or firsts 1 (pos 0)) (get_or lasts 1 (pos 0)) (get_or region.dims 1 e)
    → z ≡ part (get_or firsts 2 (pos 0)) (get_or lasts 2 (pos 0)) (get_or region.dims 2 e)
    → x ∷ y ∷ z ∷ [] ≡ (owned_part blocks q q region).dims
own_parts blocks q region e x y z firsts lasts sound above below many f l p r s =
    let ns = cuts blocks.grid region.rank in
    let are : AreCuts blocks.grid region.rank = are_cuts blocks.grid region.rank above below in
    three_same x y z _ _ _ p r s
    ∙ (ap (λ list. part (get_or list 0 (pos 0)) (get_or lasts 0 (pos 0)) (get_or region.dims 0 e) ∷ part (get_or list 1 (pos 0)) (get_or lasts 1 (pos 0)) (get_or region.dims 1 e)
    ∷ part (get_or list 2 (pos 0)) (get_or lasts 2 (pos 0)) (get_or region.dims 2 e) ∷ []) f
    ∙ (ap (λ list. part (get_or (own_first blocks region.rank q) 0 (pos 0)) (get_or list 0 (pos 0)) (get_or region.dims 0 e)
    ∷ part (get_or (own_first blocks region.rank q) 1 (pos 0)) (get_or list 1 (pos 0)) (get_or region.dims 1 e)
    ∷ part (get_or (own_first blocks region.rank q) 2 (pos 0)) (get_or list 2 (pos 0)) (get_or region.dims 2 e) ∷ []) l
    ∙ parts_are_own (axes_at blocks region.rank) ns (blocks_at ns q) region.dims e (axes_three blocks region.rank sound above below) are.three (blocks_length ns q ∙ are.three) many))
