-- Pieces are regions that calls take.
use Rattle.std.proofs.Common.{◌≡◌, refl, sym, ◌∙◌, ap, subst, arith, ℕ, zero, suc, ◌<◌, ◌≤◌, ◌^◌, Bool, true, false, List, [], ◌∷◌, Option, Some, None, length, get_or, All, ℤ, pos, neg_ℤ, ◌+ℤ◌, ◌-ℤ◌}
use Rattle.std.specs.Prelude.{if◌then◌else◌, int_lt}
use Rattle.std.proofs.lemmas.Int.{ints}
use Rattle.zpl_arrays.specs.of_zpl_nums.declared.ends.Border.{Border}
use Rattle.zpl_arrays.specs.of_zpl_nums.declared.ends.Border.TheVariants.{Wrap, Reflect}
use Rattle.zpl_arrays.specs.of_zpl_region.declared.dims.Dim.{Dim}
use Rattle.zpl_arrays.specs.of_zpl_region.declared.dims.Dim.TheVariants.{Range, Flood}
use Rattle.zpl_arrays.specs.of_zpl_region.declared.regions.Region.{Region}
use Rattle.zpl_arrays.specs.of_zpl_region.Dim.{IsDim, IsDimWithinLimit, IsUpTo, dim_outside_of}
use Rattle.zpl_arrays.specs.of_zpl_region.Ends.{single_of}
use Rattle.zpl_arrays.specs.of_zpl_region.Progression.{is_between}
use Rattle.zpl_arrays.specs.of_zpl_region.Region.{IsRegion, components, each, outside_of, padding}
use Rattle.grid_layout.specs.declared.axes.Axis.{Axis}
use Rattle.grid_layout.specs.declared.blocks.Blocks.{Blocks}
use Rattle.grid_layout.specs.Block.{block_first, block_last}
use Rattle.grid_layout.specs.Grid.{blocks_at, cuts, processors_of}
use Rattle.grid_layout.specs.Layout.{AreBlocks, axes_at, each_bound, own_first, own_last}
use Rattle.grid_layout.specs.Piece.{nothing, owned_part}
use Rattle.grid_layout.proofs.DimLemmas.{part_is_dim}
use Rattle.grid_layout.proofs.OwnerLemmas.{AreCuts, are_cuts, axes_three}
use Rattle.grid_layout.proofs.PartLemmas.{blocks_length}
use Rattle.grid_layout.proofs.SoundLemmas.{block_past, by_number, component_past, components_length, cut_past, no_axis, nothing_is, owned_is_region, owned_length, padded_at, region_by_number}
use Rattle.move_plan.specs.BorderPiece.{border_piece_in, border_targets, dim_border_piece, each_border_piece, target_bounds}
use Rattle.move_plan.specs.FloodPiece.{dim_flood_piece, each_flood_piece}
use Rattle.move_plan.proofs.CodeLemmas.{component_up_to, floods_told, outsides_told, pieces_told}

-- ---- bounds of blocks past the rank
bound_at : (bound : Axis → ℕ → ℕ → ℤ) (axes : List Axis) (ns cs : List ℕ) (i : ℕ) → i < length axes → i < length ns → i < length cs → get_or (each_bound bound axes ns cs) i (pos 0) ≡ bound (get_or axes i no_axis) (get_or ns i 0) (get_or cs i 0)
bound_at bound [] ns cs i l m n = absurd (omega (arith, l))
bound_at bound (a ∷ axes) [] cs i l m n = absurd (omega (arith, m))
bound_at bound (a ∷ axes) (k ∷ ns) [] i l m n = absurd (omega (arith, n))
bound_at bound (a ∷ axes) (k ∷ ns) (c ∷ cs) zero l m n = refl
bound_at bound (a ∷ axes) (k ∷ ns) (c ∷ cs) (suc i) l m n = bound_at bound axes ns cs i (omega (arith, l)) (omega (arith, m)) (omega (arith, n))

bound_length : (bound : Axis → ℕ → ℕ → ℤ) (axes : List Axis) (ns cs : List ℕ) → length ns ≡ length axes → length cs ≡ length axes → length (each_bound bound axes ns cs) ≡ length axes
bound_length bound [] ns cs m n = refl
bound_length bound (a ∷ axes) [] cs m n = absurd (omega (arith, m))
bound_length bound (a ∷ axes) (k ∷ ns) [] m n = absurd (omega (arith, n))
bound_length bound (a ∷ axes) (k ∷ ns) (c ∷ cs) m n = ap suc (bound_length bound axes ns cs (omega (arith, m)) (omega (arith, n)))

module _ (blocks : Blocks) (rank p : ℕ) (are : AreBlocks blocks) (above : 1 ≤ rank) (most : rank ≤ 3) where
  cut : AreCuts blocks.grid rank
  cut = are_cuts blocks.grid rank above most

  long : length (axes_at blocks rank) ≡ 3
  long = axes_three blocks rank are above most

  three_blocks : length (blocks_at (cuts blocks.grid rank) p) ≡ 3
  three_blocks = blocks_length (cuts blocks.grid rank) p ∙ cut.three

  pub bounds_length : (bound : Axis → ℕ → ℕ → ℤ) → length (each_bound bound (axes_at blocks rank) (cuts blocks.grid rank) (blocks_at (cuts blocks.grid rank) p)) ≡ 3
  bounds_length bound = bound_length bound (axes_at blocks rank) (cuts blocks.grid rank) (blocks_at (cuts blocks.grid rank) p) (cut.three ∙ sym long) (three_blocks ∙ sym long) ∙ long

  bound_past : (bound : Axis → ℕ → ℕ → ℤ) (z : ℤ) (i : ℕ) → ((axis : Axis) (n c : ℕ) → n ≡ 1 → c ≡ 0 → bound axis n c ≡ z) → rank ≤ i → i < 3 → p < processors_of blocks.grid
      → get_or (each_bound bound (axes_at blocks rank) (cuts blocks.grid rank) (blocks_at (cuts blocks.grid rank) p)) i (pos 0) ≡ z
  bound_past bound z i same past below inside =
      let three = cut.three in
      bound_at bound (axes_at blocks rank) (cuts blocks.grid rank) (blocks_at (cuts blocks.grid rank) p) i (omega (arith, long, below)) (omega (arith, three, below)) (omega (arith, three_blocks, below))
      ∙ same _ _ _ (cut_past blocks.grid rank i above past below) (block_past blocks.grid rank p i above most past below inside)

  pub first_past : (i : ℕ) → rank ≤ i → i < 3 → p < processors_of blocks.grid → get_or (own_first blocks rank p) i (pos 0) ≡ neg_ℤ (pos (2 ^ 40))
  first_past i past below inside = bound_past block_first (neg_ℤ (pos (2 ^ 40))) i (λ axis n c one none. rw (one, none) refl) past below inside

  pub last_past : (i : ℕ) → rank ≤ i → i < 3 → p < processors_of blocks.grid → get_or (own_last blocks rank p) i (pos 0) ≡ pos (2 ^ 40)
  last_past i past below inside = bound_past block_last (pos (2 ^ 40)) i (λ axis n c one none. rw (one, none) refl) past below inside

-- ---- `d of R`
outside_is : (d : ℤ) (dim : Dim) → IsDim dim → IsDimWithinLimit dim → IsUpTo 31 d → IsDim (dim_outside_of d dim)
outside_is d Flood is within shift = is
outside_is d (Range lo hi step align) is within shift = by_test (int_lt (pos 0) d) (int_lt d (pos 0))
  where
    by_test : (p q : Bool) → IsDim (if p then Range (hi +ℤ pos 1) (hi +ℤ d) step align else if q then Range (lo +ℤ d) (lo -ℤ pos 1) step align else Range lo hi step align)
    by_test true q = let low : IsUpTo 31 lo = within.0 in let high : IsUpTo 31 hi = within.1 in (is.0, ((omega (arith, ints), omega (arith, ints)), (omega (arith, ints), omega (arith, ints))), is.2)
    by_test false true = let low : IsUpTo 31 lo = within.0 in let high : IsUpTo 31 hi = within.1 in (is.0, ((omega (arith, ints), omega (arith, ints)), (omega (arith, ints), omega (arith, ints))), is.2)
    by_test false false = is

outside_padding : (d : ℤ) (dim : Dim) → d ≡ pos 0 → dim ≡ padding → dim_outside_of d dim ≡ padding
outside_padding d dim none is = rw (none, is) refl

pub outside_is_region : (r : Region) (d : List ℤ) → IsRegion r → All IsDimWithinLimit r.dims → All (IsUpTo 31) d → length r.dims ≡ 3 → length d ≡ 3 → IsRegion (outside_of d r)
outside_is_region r d is within shift wide long =
    let v = components r.rank d in
    let long_v : length v ≡ 3 = components_length r.rank d ∙ long in
    let f : ℕ → Dim = λ i. dim_outside_of (get_or v i (pos 0)) (get_or r.dims i padding) in
    let same : by_number f ≡ each dim_outside_of v r.dims = outsides_told v r.dims padding (f 0) (f 1) (f 2) long_v wide refl refl refl in
    subst (λ dims. IsRegion (record { rank = r.rank; dims = dims })) same
    (region_by_number r.rank f is.rank_above is.rank_below
    (λ i below. outside_is (get_or v i (pos 0)) (get_or r.dims i padding) (is.dims i padding (omega (arith, wide, below))) (within i padding (omega (arith, wide, below)))
    (component_up_to v d r.rank i refl shift (omega (arith, long_v, below))))
    (λ i past below. outside_padding (get_or v i (pos 0)) (get_or r.dims i padding) (component_past r.rank d i past) (padded_at r.rank r.dims i padding is.padded past below)))

pub outside_length : (r : Region) (d : List ℤ) → length r.dims ≡ 3 → length d ≡ 3 → length (outside_of d r).dims ≡ 3
outside_length r d wide long =
    let v = components r.rank d in
    let f : ℕ → Dim = λ i. dim_outside_of (get_or v i (pos 0)) (get_or r.dims i padding) in
    sym (ap length (outsides_told v r.dims padding (f 0) (f 1) (f 2) (components_length r.rank d ∙ long) wide refl refl refl))

-- ---- borders
border_is : (kind : Border) (d : ℤ) (dim : Dim) (first last : ℤ) (own still : Dim) → IsDim own → IsDim still → IsDim (dim_border_piece kind d dim first last own still)
border_is kind d Flood first last own still is also = also
border_is kind d (Range lo hi step align) first last own still is also =
    let b = target_bounds kind d (Range lo hi step align) first last in part_is_dim b.0 b.1 own is

border_padding : (kind : Border) (d : ℤ) (dim : Dim) (first last : ℤ) (own still : Dim) → d ≡ pos 0 → dim ≡ padding → first ≡ neg_ℤ (pos (2 ^ 40)) → last ≡ pos (2 ^ 40) → own ≡ padding → dim_border_piece kind d dim first last own still ≡ padding
border_padding Wrap d dim first last own still none is f l o = rw (none, is, f, l, o) refl
border_padding Reflect d dim first last own still none is f l o = rw (none, is, f, l, o) refl

pub border_is_region : (blocks : Blocks) (kind : Border) (r : Region) (d : List ℤ) (from to : ℕ) → AreBlocks blocks → IsRegion r → All IsDimWithinLimit r.dims → All (IsUpTo 31) d → length r.dims ≡ 3 → length d ≡ 3
    → from < processors_of blocks.grid → to < processors_of blocks.grid → IsRegion (border_piece_in blocks kind r d from to)
border_is_region blocks kind r d from to are is within shift wide long inside receiver =
    let v = components r.rank d in
    let long_v : length v ≡ 3 = components_length r.rank d ∙ long in
    let out = outside_of d r in
    let own = border_targets blocks r d to in
    let still = owned_part blocks from to own in
    let own_wide : length own.dims ≡ 3 = owned_length blocks to to out are is.rank_above is.rank_below (outside_length r d wide long) in
    let still_wide : length still.dims ≡ 3 = owned_length blocks from to own are is.rank_above is.rank_below own_wide in
    let own_is : IsRegion own = owned_is_region blocks to to out are receiver (outside_length r d wide long) (outside_is_region r d is within shift wide long) in
    let still_is : IsRegion still = owned_is_region blocks from to own are inside own_wide own_is in
    let firsts = own_first blocks r.rank from in
    let lasts = own_last blocks r.rank from in
    let f : ℕ → Dim = λ i. dim_border_piece kind (get_or v i (pos 0)) (get_or r.dims i padding) (get_or firsts i (pos 0)) (get_or lasts i (pos 0)) (get_or own.dims i padding) (get_or still.dims i padding) in
    let same : by_number f ≡ each_border_piece kind v r.dims firsts lasts own.dims still.dims =
    pieces_told kind v r.dims firsts lasts own.dims still.dims padding (f 0) (f 1) (f 2) long_v wide (bounds_length blocks r.rank from are is.rank_above is.rank_below block_first)
    (bounds_length blocks r.rank from are is.rank_above is.rank_below block_last) own_wide still_wide refl refl refl in
    subst (λ dims. IsRegion (record { rank = r.rank; dims = dims })) same
    (region_by_number r.rank f is.rank_above is.rank_below
    (λ i below. border_is kind (get_or v i (pos 0)) (get_or r.dims i padding) (get_or firsts i (pos 0)) (get_or lasts i (pos 0)) (get_or own.dims i padding) (get_or still.dims i padding)
    (own_is.dims i padding (omega (arith, own_wide, below))) (still_is.dims i padding (omega (arith, still_wide, below))))
    (λ i past below. border_padding kind (get_or v i (pos 0)) (get_or r.dims i padding) (get_or firsts i (pos 0)) (get_or lasts i (pos 0)) (get_or own.dims i padding) (get_or still.dims i padding)
    (component_past r.rank d i past) (padded_at r.rank r.dims i padding is.padded past below) (first_past blocks r.rank from are is.rank_above is.rank_below i past below inside)
    (last_past blocks r.rank from are is.rank_above is.rank_below i past below inside) (padded_at r.rank own.dims i padding own_is.padded past below)))

-- ---- floods
flood_is : (o : Option ℤ) (first last : ℤ) (own still : Dim) → IsDim own → IsDim still → IsDim (dim_flood_piece o first last own still)
flood_is None first last own still is also = also
flood_is (Some y) first last own still is also = by_test (is_between first last y)
  where
    by_test : (b : Bool) → IsDim (if b then own else nothing)
    by_test true = is
    by_test false = nothing_is

flood_padding : (dim : Dim) (first last : ℤ) (own still : Dim) → dim ≡ padding → first ≡ neg_ℤ (pos (2 ^ 40)) → last ≡ pos (2 ^ 40) → own ≡ padding → dim_flood_piece (single_of dim) first last own still ≡ padding
flood_padding dim first last own still is f l o = rw (is, f, l, o) refl

pub flood_is_region : (blocks : Blocks) (rank : ℕ) (source own still : Region) (firsts lasts : List ℤ) (from : ℕ) (dims : List Dim) → AreBlocks blocks → 1 ≤ rank → rank ≤ 3 → IsRegion source → rank ≡ source.rank → length source.dims ≡ 3
    → IsRegion own → own.rank ≡ rank → length own.dims ≡ 3 → IsRegion still → length still.dims ≡ 3 → firsts ≡ own_first blocks rank from → lasts ≡ own_last blocks rank from → from < processors_of blocks.grid
    → dims ≡ each_flood_piece source.dims firsts lasts own.dims still.dims → IsRegion (record { rank = rank; dims = dims })
flood_is_region blocks rank source own still firsts lasts from dims are above below also ranks long own_is own_rank own_wide still_is still_wide first_is last_is inside e =
    let wide_first : length firsts ≡ 3 = ap length first_is ∙ bounds_length blocks rank from are above below block_first in
    let wide_last : length lasts ≡ 3 = ap length last_is ∙ bounds_length blocks rank from are above below block_last in
    let f : ℕ → Dim = λ i. dim_flood_piece (single_of (get_or source.dims i padding)) (get_or firsts i (pos 0)) (get_or lasts i (pos 0)) (get_or own.dims i padding) (get_or still.dims i padding) in
    let same : by_number f ≡ each_flood_piece source.dims firsts lasts own.dims still.dims =
    floods_told source.dims firsts lasts own.dims still.dims padding (f 0) (f 1) (f 2) long wide_first wide_last own_wide still_wide refl refl refl in
    subst (λ ds. IsRegion (record { rank = rank; dims = ds })) (same ∙ sym e)
    (region_by_number rank f above below
    (λ i most. flood_is (single_of (get_or source.dims i padding)) (get_or firsts i (pos 0)) (get_or lasts i (pos 0)) (get_or own.dims i padding) (get_or still.dims i padding)
    (own_is.dims i padding (omega (arith, own_wide, most))) (still_is.dims i padding (omega (arith, still_wide, most))))
    (λ i past most. flood_padding (get_or source.dims i padding) (get_or firsts i (pos 0)) (get_or lasts i (pos 0)) (get_or own.dims i padding) (get_or still.dims i padding)
    (padded_at source.rank source.dims i padding also.padded (omega (arith, ranks, past)) most) (ap (λ l. get_or l i (pos 0)) first_is ∙ first_past blocks rank from are above below i past most inside)
    (ap (λ l. get_or l i (pos 0)) last_is ∙ last_past blocks rank from are above below i past most inside) (padded_at own.rank own.dims i padding own_is.padded (omega (arith, own_rank, past)) most)))
