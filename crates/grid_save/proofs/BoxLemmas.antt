-- The places that a processor holds of an array make a region.
use Rattle.std.proofs.Common.{◌≡◌, ℕ, zero, suc, ◌*◌, ◌/◌, ◌^◌, ◌<◌, ◌≤◌, Bool, true, false, ℤ, pos, neg_ℤ, ◌-ℤ◌, ◌≤ℤ◌, List, [], ◌∷◌, length, get_or, map, inl, inr, ◌⊎◌, refl, ap, sym, ◌∙◌, subst, arith, rules}
use Rattle.std.specs.Prelude.{◌≢◌, ◌==◌, All, Contains, IfSome, Option, Some, None, fold, slice_get, if◌then◌else◌}
use Rattle.std.specs.Option.{option_map}
use Rattle.std.specs.List.{AllZip}
use Rattle.std.proofs.Math.Nat.{div-le_of_le-mul, mul-le-mul_right}
use Rattle.std.proofs.lemmas.Int.{clamps, ints}
use Rattle.std.proofs.lemmas.List.{length-map}
use Rattle.std.proofs.lemmas.Option.{get_or_from_slice_get, slice_get_within}
use Rattle.std.proofs.lemmas.List.Elements.{All-cons, All-from_recursion, All-head, All-nil, All-tail}
use Rattle.zpl_region.specs.declared.dims.Dim.{Dim}
use Rattle.zpl_region.specs.declared.dims.Dim.TheVariants as dim
use Rattle.zpl_region.specs.declared.regions.Region.{Region}
use Rattle.zpl_region.specs.Dim.{HasBounds, HasStep, IsCoordinate, IsDim, IsDimWithinLimit, IsUpTo}
use Rattle.zpl_region.specs.Hull.{all_from}
use Rattle.zpl_region.specs.Region.{IsRegion, members, padding}
use Rattle.zpl_region.proofs.DimLemmas.{pos-extent}
use Rattle.zpl_region.proofs.LawLemmas.{members_iff}
use Rattle.zpl_arrays.specs.Array.{Array, IsArray}
use Rattle.node_form.specs.declared.arrays.ArrayDim.{ArrayDim}
use Rattle.node_form.specs.declared.arrays.ArrayDim.TheVariants.{Range, Star}
use Rattle.node_form.specs.declared.arrays.ArrayRow.{ArrayRow}
use Rattle.node_form.specs.declared.tables.Tables.{Tables}
use Rattle.node_form.specs.Fits.{Fits, FitsArray, storage_dim}
use Rattle.grid_meaning.specs.of_grid_layout.declared.axes.Axis.{Axis}
use Rattle.grid_meaning.specs.of_grid_layout.declared.blocks.Blocks.{Blocks}
use Rattle.grid_meaning.specs.of_grid_layout.declared.boxes.ArrayBox.{ArrayBox}
use Rattle.grid_meaning.specs.of_grid_layout.Block.{block_first, block_last, block_start}
use Rattle.grid_meaning.specs.of_grid_layout.Grid.{blocks_at, cuts, processors_of}
use Rattle.grid_meaning.specs.of_grid_layout.Layout.{AreAxes, AreBlocks, IsAxis, IsHull, around, axes_at, axes_of, axis_over, blocks_of, counts, each_bound, hull_in, laid_out, own_first, own_last, widened}
use Rattle.grid_meaning.proofs.BoxLemmas.{box_is}
use Rattle.grid_meaning.proofs.WorldLemmas.{processors_alike}
use Rattle.grid_meaning.proofs.of_grid_layout.OwnerLemmas.{AreCuts, are_cuts, axes_three}
use Rattle.grid_meaning.proofs.of_grid_layout.PartLemmas.{AreBelow, blocks_are_below, blocks_length}
use Rattle.grid_meaning.proofs.of_grid_layout.SoundLemmas.{held_is_region}
use Rattle.grid_meaning.specs.Local.{Local, processors}
use Rattle.grid_meaning.specs.State.{ArePlaces, AreRoomIn, IsLocal, IsRoom, IsRoomIn, IsStore}
use Rattle.grid_meaning.specs.Stored.{arrangement_of, box_of, no_places, stored, width_above, width_below}

-- ---- bounds of own blocks
abbrev IsAbove : ℤ → Type 0
IsAbove x = neg_ℤ (pos (2 ^ 40)) ≤ℤ x

abbrev IsBelow : ℤ → Type 0
IsBelow x = x ≤ℤ pos (2 ^ 40)

first_above : (axis : Axis) (n c : ℕ) → IsAxis axis → IsAbove (block_first axis n c)
first_above axis n zero is = search rules
first_above axis n (suc c) is = let low = is.low.0 in omega (arith, ints, low)

last_below : (axis : Axis) (n c : ℕ) → c < n → IsAxis axis → IsBelow (block_last axis n c)
last_below axis n c below is = by_test (suc c == n) where
  share : suc c * axis.extent / n ≤ axis.extent
  share = div-le_of_le-mul n (mul-le-mul_right axis.extent (omega (arith, below)))

  by_test : (b : Bool) → IsBelow (if b then pos (2 ^ 40) else block_start axis n (suc c) -ℤ pos 1)
  by_test true = search rules
  by_test false = let high = is.high.1 in omega (arith, ints, high, share)

firsts_above : (axes : List Axis) (ns cs : List ℕ) → All IsAxis axes → All IsAbove (each_bound block_first axes ns cs)
firsts_above [] ns cs are = All-nil IsAbove
firsts_above (axis ∷ axes) [] cs are = All-nil IsAbove
firsts_above (axis ∷ axes) (n ∷ ns) [] are = All-nil IsAbove
firsts_above (axis ∷ axes) (n ∷ ns) (c ∷ cs) are =
    All-cons IsAbove _ _ (first_above axis n c (All-head IsAxis axis axes are)) (firsts_above axes ns cs (All-tail IsAxis axis axes are))

lasts_below : (axes : List Axis) (ns cs : List ℕ) → All IsAxis axes → AreBelow cs ns → All IsBelow (each_bound block_last axes ns cs)
lasts_below [] ns cs are below = All-nil IsBelow
lasts_below (axis ∷ axes) [] cs are below = All-nil IsBelow
lasts_below (axis ∷ axes) (n ∷ ns) [] are below = All-nil IsBelow
lasts_below (axis ∷ axes) (n ∷ ns) (c ∷ cs) are below =
    All-cons IsBelow _ _ (last_below axis n c below.0 (All-head IsAxis axis axes are)) (lasts_below axes ns cs (All-tail IsAxis axis axes are) below.1)

bound-length : (f : Axis → ℕ → ℕ → ℤ) (axes : List Axis) (ns cs : List ℕ) → length axes ≡ length ns → length cs ≡ length ns →
    length (each_bound f axes ns cs) ≡ length ns
bound-length f [] [] cs e h = refl
bound-length f [] (n ∷ ns) cs e h = absurd cc
bound-length f (axis ∷ axes) [] cs e h = absurd cc
bound-length f (axis ∷ axes) (n ∷ ns) [] e h = absurd cc
bound-length f (axis ∷ axes) (n ∷ ns) (c ∷ cs) e h =
    let wide : length axes ≡ length ns = omega (arith, e) in
    let long : length cs ≡ length ns = omega (arith, h) in
    ap suc (bound-length f axes ns cs wide long)

axes_are : (blocks : Blocks) (rank : ℕ) → AreBlocks blocks → 1 ≤ rank → rank ≤ 3 → All IsAxis (axes_at blocks rank)
axes_are blocks zero are above below = absurd (omega (arith, above))
axes_are blocks (suc zero) are above below = are.lines.1
axes_are blocks (suc (suc zero)) are above below = are.planes.1
axes_are blocks (suc (suc (suc zero))) are above below = are.spaces.1
axes_are blocks (suc (suc (suc (suc n)))) are above below = absurd (omega (arith, below))

-- the bounds of the own block, for a rank
pub firsts_are : (blocks : Blocks) (rank p : ℕ) → AreBlocks blocks → 1 ≤ rank → rank ≤ 3 →
    (length (own_first blocks rank p) ≡ 3) × All IsAbove (own_first blocks rank p)
firsts_are blocks rank p are above below =
    let c : AreCuts blocks.grid rank = are_cuts blocks.grid rank above below in
    let ns = cuts blocks.grid rank in (
      bound-length block_first (axes_at blocks rank) ns (blocks_at ns p) (axes_three blocks rank are above below ∙ sym c.three) (blocks_length ns p) ∙ c.three,
      firsts_above (axes_at blocks rank) ns (blocks_at ns p) (axes_are blocks rank are above below),
    )

pub lasts_are : (blocks : Blocks) (rank p : ℕ) → AreBlocks blocks → 1 ≤ rank → rank ≤ 3 → p < processors_of blocks.grid →
    (length (own_last blocks rank p) ≡ 3) × All IsBelow (own_last blocks rank p)
lasts_are blocks rank p are above below inside =
    let c : AreCuts blocks.grid rank = are_cuts blocks.grid rank above below in
    let ns = cuts blocks.grid rank in
    let count = c.count in (
      bound-length block_last (axes_at blocks rank) ns (blocks_at ns p) (axes_three blocks rank are above below ∙ sym c.three) (blocks_length ns p) ∙ c.three,
      lasts_below (axes_at blocks rank) ns (blocks_at ns p) (axes_are blocks rank are above below) (blocks_are_below ns p c.some (omega (arith, count, inside))),
    )

-- ---- places of a temporary
room_dims : (rows : List ArrayDim) (lows highs : List ℤ) (dims : List Dim) (t : List ℤ) → length rows ≡ length dims →
    length lows ≡ length dims → length highs ≡ length dims → All IsAbove lows → All IsBelow highs → AreRoomIn rows lows highs dims →
    AllZip IsCoordinate dims t → All IsDim dims
room_dims rows lows highs [] t r l h above below are some = All-nil IsDim
room_dims [] lows highs (d ∷ dims) t r l h above below are some = absurd (omega (arith, r))
room_dims (row ∷ rows) [] highs (d ∷ dims) t r l h above below are some = absurd (omega (arith, l))
room_dims (row ∷ rows) (low ∷ lows) [] (d ∷ dims) t r l h above below are some = absurd (omega (arith, h))
room_dims (row ∷ rows) (low ∷ lows) (high ∷ highs) (d ∷ dims) [] r l h above below are some = absurd some
room_dims (row ∷ rows) (low ∷ lows) (high ∷ highs) (d ∷ dims) (x ∷ t) r l h above below are some =
    let r' : length rows ≡ length dims = omega (arith, r) in
    let l' : length lows ≡ length dims = omega (arith, l) in
    let h' : length highs ≡ length dims = omega (arith, h) in
    All-cons IsDim d dims (here row d (All-head IsAbove low lows above) (All-head IsBelow high highs below) are.0 some.0)
    (room_dims rows lows highs dims t r' l' h' (All-tail IsAbove low lows above) (All-tail IsBelow high highs below) are.1 some.1)
  where
    range_is : (lo hi : ℤ) → IsAbove lo → lo ≤ℤ hi → IsBelow hi → IsDim (all_from lo hi)
    range_is lo hi a b c = (search rules, ((a, omega (arith, ints, a, b, c)), (omega (arith, ints, a, b, c), c)), (omega (arith, ints, a), omega (arith, ints, b, c)))

    here : (row' : ArrayDim) (d' : Dim) → IsAbove low → IsBelow high → IsRoomIn row' low high d' → IsCoordinate d' x → IsDim d'
    here Star dim.Flood a b is at = (tt, tt, tt)
    here Star (dim.Range lo hi step align) a b is at = absurd is
    here (Range p q u v) dim.Flood a b is at = absurd is
    here (Range p q u v) (dim.Range lo hi step align) a b is at =
        let first : lo ≤ℤ x = at.0 in
        let last : x ≤ℤ hi = at.1 in
        subst IsDim (sym is.0) (range_is lo hi (low_bound is.1) (omega (arith, ints, first, last)) (high_bound is.1)) where
          low_bound : ((lo ≡ pos 0) × (hi ≡ pos 0)) ⊎ ((low ≤ℤ lo) × (hi ≤ℤ high)) → IsAbove lo
          low_bound (inl zeros) = let e : lo ≡ pos 0 = zeros.0 in rw e (search rules)
          low_bound (inr within) = let w : low ≤ℤ lo = within.0 in omega (arith, ints, a, w)

          high_bound : ((lo ≡ pos 0) × (hi ≡ pos 0)) ⊎ ((low ≤ℤ lo) × (hi ≤ℤ high)) → IsBelow hi
          high_bound (inl zeros) = let e : hi ≡ pos 0 = zeros.1 in rw e (search rules)
          high_bound (inr within) = let w : hi ≤ℤ high = within.1 in omega (arith, ints, b, w)

room_region : (code : Tables) (p : ℕ) (row : ArrayRow) (places : Region) → AreBlocks (laid_out (arrangement_of code)) →
    p < processors_of code.grid → FitsArray row → length row.dims ≡ 3 → All HasStep places.dims → IsRoom code p row places → IsRegion places
room_region code p row places are inside fits three steps room =
    let blocks = laid_out (arrangement_of code) in
    let firsts = firsts_are blocks row.rank p are fits.rank.0 fits.rank.1 in
    let lasts = lasts_are blocks row.rank p are fits.rank.0 fits.rank.1 inside in
    let ranked : places.rank ≡ row.rank = room.ranked in
    let above = fits.rank.0 in
    let below = fits.rank.1 in
    let there : (t : List ℤ) × Contains (members places) t = some_member (members places) room.some in
    record {
      rank_above = omega (arith, ranked, above);
      rank_below = omega (arith, ranked, below);
      dims = room_dims row.dims (own_first blocks row.rank p) (own_last blocks row.rank p) places.dims there.0 (three ∙ sym room.many)
          (firsts.0 ∙ sym room.many) (lasts.0 ∙ sym room.many) firsts.1 lasts.1 room.dims
          ((members_iff places there.0 steps).0 there.1);
      padded = room.padded;
    }
  where
    some_member : (ts : List (List ℤ)) → ts ≢ [] → (t : List ℤ) × Contains ts t
    some_member [] some = absurd (some refl)
    some_member (t ∷ ts) some = (t, (0, omega arith, refl))

empty_dim : IsDim (all_from (pos 1) (pos 0))
empty_dim = (search rules, ((search rules, search rules), (search rules, search rules)), (search rules, search rules))

padding_dim : IsDim padding
padding_dim = (search rules, ((search rules, search rules), (search rules, search rules)), (search rules, search rules))

no_region : (rank : ℕ) → 1 ≤ rank → rank ≤ 3 → IsRegion (no_places rank)
no_region zero above below = absurd (omega (arith, above))
no_region (suc zero) above below = record {
  rank_above = above;
  rank_below = below;
  dims = All-from_recursion IsDim (no_places 1).dims (empty_dim, (padding_dim, (padding_dim, tt)));
  padded = refl;
}
no_region (suc (suc zero)) above below = record {
  rank_above = above;
  rank_below = below;
  dims = All-from_recursion IsDim (no_places 2).dims (empty_dim, (empty_dim, (padding_dim, tt)));
  padded = refl;
}
no_region (suc (suc (suc zero))) above below = record {
  rank_above = above;
  rank_below = below;
  dims = All-from_recursion IsDim (no_places 3).dims (empty_dim, (empty_dim, (empty_dim, tt)));
  padded = refl;
}
no_region (suc (suc (suc (suc n)))) above below = absurd (omega (arith, below))

-- ---- the blocks of a program's arrays: the bounds of storages are within the limit
around_is : (hull : Option (ℤ × ℤ)) (d : Dim) → IsHull hull → HasBounds d → IsHull (around hull d)
around_is None (dim.Range lo hi step align) is bounds = bounds
around_is None dim.Flood is bounds = tt
around_is (Some h) (dim.Range lo hi step align) is bounds =
    let low : IsUpTo 40 h.0 = is.0 in
    let high : IsUpTo 40 h.1 = is.1 in
    let from : IsUpTo 40 lo = bounds.0 in
    let to : IsUpTo 40 hi = bounds.1 in
    ((omega (arith, ints, clamps), omega (arith, ints, clamps)), (omega (arith, ints, clamps), omega (arith, ints, clamps)))
around_is (Some h) dim.Flood is bounds = is

abbrev HaveBounds : ArrayBox → Type 0
HaveBounds box = All HasBounds box.shape.dims

dim_bounds : (dims : List Dim) (k : ℕ) → All HasBounds dims → HasBounds (get_or dims k dim.Flood)
dim_bounds [] k is = tt
dim_bounds (d ∷ dims) zero is = All-head HasBounds d dims is
dim_bounds (d ∷ dims) (suc k) is = dim_bounds dims k (All-tail HasBounds d dims is)

hull_from : (rank k : ℕ) (hull : Option (ℤ × ℤ)) (boxes : List ArrayBox) → IsHull hull → All HaveBounds boxes →
    IsHull (fold (widened rank k) hull boxes)
hull_from rank k hull [] is bounds = is
hull_from rank k hull (box ∷ boxes) is bounds =
    hull_from rank k (widened rank k hull box) boxes (by_test (counts rank box.shape)) (All-tail HaveBounds box boxes bounds) where
      by_test : (b : Bool) → IsHull (if b then around hull (get_or box.shape.dims k dim.Flood) else hull)
      by_test true = around_is hull (get_or box.shape.dims k dim.Flood) is (dim_bounds box.shape.dims k (All-head HaveBounds box boxes bounds))
      by_test false = is

axis_is : (hull : Option (ℤ × ℤ)) → IsHull hull → IsAxis (axis_over hull)
axis_is None is = record { low = search rules; high = search rules }
axis_is (Some h) is =
    let low : IsUpTo 40 h.0 = is.0 in
    let high : IsUpTo 40 h.1 = is.1 in
    let e = pos-extent h.0 h.1 in
    record { low = low; high = (omega (arith, ints, clamps, e), omega (arith, ints, clamps, e)) }

blocks_are : (grid : List ℕ) (boxes : List ArrayBox) → All HaveBounds boxes → AreBlocks (blocks_of grid boxes)
blocks_are grid boxes bounds = record { lines = axes_for 1; planes = axes_for 2; spaces = axes_for 3 } where
  axis_at : (rank k : ℕ) → IsAxis (axis_over (hull_in rank k boxes))
  axis_at rank k = axis_is (hull_in rank k boxes) (hull_from rank k None boxes tt bounds)

  axes_for : (rank : ℕ) → AreAxes (axes_of boxes rank)
  axes_for rank = (refl, All-from_recursion IsAxis (axes_of boxes rank) (axis_at rank 0, (axis_at rank 1, (axis_at rank 2, tt))))

storage_bounds : (row : ArrayRow) → row.stored ≡ true → FitsArray row → HaveBounds (box_of row)
storage_bounds row stored fits = λ k d inside. within _ ((fits.limit stored).dims k d inside) where
  within : (d : Dim) → IsDimWithinLimit d → HasBounds d
  within (dim.Range lo hi step align) is =
      let low : IsUpTo 31 lo = is.0 in
      let high : IsUpTo 31 hi = is.1 in
      ((omega (arith, ints), omega (arith, ints)), (omega (arith, ints), omega (arith, ints)))
  within dim.Flood is = tt

boxes_bounds : (rows : List ArrayRow) → All FitsArray rows → All HaveBounds (map box_of (stored rows))
boxes_bounds [] fit = All-nil HaveBounds
boxes_bounds (row ∷ rows) fit = by_stored row.stored refl (boxes_bounds rows (All-tail FitsArray row rows fit)) where
  by_stored : (b : Bool) → row.stored ≡ b → All HaveBounds (map box_of (stored rows)) → All HaveBounds (map box_of (if b then row ∷ stored rows else stored rows))
  by_stored true is others = All-cons HaveBounds (box_of row) (map box_of (stored rows)) (storage_bounds row is (All-head FitsArray row rows fit)) others
  by_stored false is others = others

pub blocks_of_code : (code : Tables) → All FitsArray code.arrays → AreBlocks (laid_out (arrangement_of code))
blocks_of_code code fit = blocks_are code.grid (map box_of (stored code.arrays)) (boxes_bounds code.arrays fit)

-- ---- a store
pub store_region : (code : Tables) (p : ℕ) (row : ArrayRow) (store : Array) → All FitsArray code.arrays → p < processors code →
    FitsArray row → length row.dims ≡ 3 → IsStore code p row store → IsRegion store.storage
store_region code p row store all inside fits three is = by_stored row.stored refl is.places where
  blocks : AreBlocks (laid_out (arrangement_of code))
  blocks = blocks_of_code code all

  below : p < processors_of code.grid
  below = let same = processors_alike code.grid in omega (arith, inside, same)

  by_stored : (b : Bool) → row.stored ≡ b → ArePlaces code p row b store.storage → IsRegion store.storage
  by_stored true stored' places =
      let box = box_is row three stored' fits in
      subst IsRegion (sym places) (held_is_region (laid_out (arrangement_of code)) (box_of row) p blocks box
      (length-map row.dims width_below ∙ three) (length-map row.dims width_above ∙ three) (length-map row.dims storage_dim ∙ three) below)
  by_stored false stored' (inl places) = subst IsRegion (sym places) (no_region row.rank fits.rank.0 fits.rank.1)
  by_stored false stored' (inr room) = room_region code p row store.storage blocks below fits three is.filled.steps room

zip_at : {A B : Type 0} (P : A → B → Type 0) (xs : List A) (ys : List B) (k : ℕ) (x : A) (y : B) → AllZip P xs ys → slice_get xs k ≡ Some x →
    slice_get ys k ≡ Some y → P x y
zip_at P [] ys k x y all there at = absurd cc
zip_at P (a ∷ xs) [] k x y all there at = absurd all
zip_at P (a ∷ xs) (b ∷ ys) zero x y all there at =
    let one : a ≡ x = cc in
    let other : b ≡ y = cc in
    subst (λ u. P u y) one (subst (P a) other all.0)
zip_at P (a ∷ xs) (b ∷ ys) (suc k) x y all there at = zip_at P xs ys k x y all.1 there at

pub zip_none : {A B : Type 0} (P : A → B → Type 0) (xs : List A) (ys : List B) (k : ℕ) → AllZip P xs ys → length xs ≤ k → slice_get ys k ≡ None
zip_none P xs [] k all past = refl
zip_none P [] (y ∷ ys) k all past = absurd all
zip_none P (x ∷ xs) (y ∷ ys) zero all past = absurd (omega (arith, past))
zip_none P (x ∷ xs) (y ∷ ys) (suc k) all past = zip_none P xs ys k all.1 (omega (arith, past))

-- ---- the stores of a processor
pub arrays_are : (code : Tables) (p : ℕ) (rows : List ArrayRow) (stores : List Array) → AllZip (IsStore code p) rows stores → All IsArray stores
arrays_are code p [] [] all = All-nil IsArray
arrays_are code p [] (store ∷ stores) all = absurd all
arrays_are code p (row ∷ rows) [] all = absurd all
arrays_are code p (row ∷ rows) (store ∷ stores) all =
    All-cons IsArray store stores all.0.filled (arrays_are code p rows stores all.1)

-- the places that were found of an array
pub found_region : (code : Tables) (p k : ℕ) (row : ArrayRow) (local : Local) (found : Option Region) → IsLocal code p local → Fits code →
    slice_get code.arrays k ≡ Some row → length row.dims ≡ 3 →
    found ≡ option_map (λ (store : Array). store.storage) (slice_get local.stores k) → IfSome found IsRegion
found_region code p k row local found is fits there three same = by (slice_get local.stores k) refl where
  fit : FitsArray row
  fit = subst FitsArray (get_or_from_slice_get code.arrays k row row there) (fits.arrays k row (slice_get_within code.arrays k row there))

  by : (store : Option Array) → slice_get local.stores k ≡ store → IfSome found IsRegion
  by None at =
      let e : found ≡ None = same ∙ ap (option_map (λ (s : Array). s.storage)) at in
      subst (λ f. IfSome f IsRegion) (sym e) tt
  by (Some store) at =
      let e : found ≡ Some store.storage = same ∙ ap (option_map (λ (s : Array). s.storage)) at in
      let own = zip_at (IsStore code p) code.arrays local.stores k row store is.parts.stores there at in
      subst (λ f. IfSome f IsRegion) (sym e) (store_region code p row store fits.arrays is.number fit three own)
