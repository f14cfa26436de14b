-- The part of a region within a block is a region where it has tuples, and the places of a temporary for it are a box.
use Rattle.std.proofs.Common.{◌≡◌, ℕ, zero, suc, ◌-◌, ◌<◌, ◌==◌, true, false, List, [], ◌∷◌, length, drop, get_or, replicate, refl, sym, ap, ◌∙◌, ℤ, pos, ◌≤ℤ◌, arith}
use Rattle.std.specs.Prelude.{All}
use Rattle.std.specs.Int.{int_max, int_min}
use Rattle.std.proofs.lemmas.Int.{int_max_is, int_min_is, ints}
use Rattle.std.proofs.lemmas.List.Elements.{All-nil, All-cons, All-head, All-tail}
use Rattle.zpl_region.specs.declared.dims.Dim.{Dim}
use Rattle.zpl_region.specs.declared.dims.Dim.TheVariants.{Range, Flood}
use Rattle.zpl_region.specs.declared.regions.Region.{Region}
use Rattle.zpl_region.specs.Dim.{HasStep, IsDim, IsUpTo, dim_met}
use Rattle.zpl_region.specs.Ends.{coordinate_count, has_none, tuple_count}
use Rattle.zpl_region.specs.Hull.{IsBoxed, hull}
use Rattle.zpl_region.specs.Region.{IsRegion, components, each_met, members, met, padding}
use Rattle.zpl_region.proofs.EndLemmas.{length-tuple_count, positive_left, positive_right}
use Rattle.zpl_region.proofs.HullLemmas.{ends_in_bounds, hull_boxed, hull_region, no_count, some_from}
use Rattle.zpl_region.proofs.RegionLemmas.{within_is_dim}
use Rattle.grid_layout.specs.Layout.{HasWideBounds}
use Rattle.node_form.specs.declared.arrays.ArrayDim.{ArrayDim}
use Rattle.node_form.specs.declared.arrays.ArrayDim.TheVariants as array
use Rattle.node_form.specs.declared.arrays.ArrayRow.{ArrayRow}
use Rattle.node_form.specs.declared.tables.Tables.{Tables}
use Rattle.node_form.specs.Fits.{FitsRegion}
use Rattle.grid_meaning.specs.Owner.{tuples_of}
use Rattle.grid_meaning.specs.Place.{own_part}
use Rattle.grid_meaning.specs.Room.{each_room, room_dim, room_of}
use Rattle.grid_meaning.specs.State.{IsSlot}
use Rattle.node_local.proofs.StoreLemmas.{wide_bounds}

-- ---- the part of a region in a box, where it has tuples
met_dim : (l h : ℤ) (d : Dim) → IsDim d → 0 < coordinate_count (dim_met l h d) → IsDim (dim_met l h d)
met_dim l h Flood is some = is
met_dim l h (Range lo hi step align) is some =
    let ends = ends_in_bounds (int_max lo l) (int_min hi h) step align is.0 some in
    let low : IsUpTo 40 lo = is.1.0 in
    let high : IsUpTo 40 hi = is.1.1 in
    let between : int_max lo l ≤ℤ int_min hi h = omega (arith, ints, ends.0, ends.1, ends.2) in
    let least : lo ≤ℤ int_max lo l = omega (arith, ints, int_max_is lo l) in
    let most : int_min hi h ≤ℤ hi = omega (arith, ints, int_min_is hi h) in (
      is.0,
      (
        (omega (arith, ints, low), omega (arith, ints, high)),
        (omega (arith, ints, low), omega (arith, ints, high)),
      ),
      is.2,
    )

met_dims : (lows highs : List ℤ) (dims : List Dim) → All IsDim dims → 0 < tuple_count (each_met lows highs dims)
    → All IsDim (each_met lows highs dims)
met_dims [] highs dims are some = are
met_dims (l ∷ lows) [] dims are some = are
met_dims (l ∷ lows) (h ∷ highs) [] are some = All-nil IsDim
met_dims (l ∷ lows) (h ∷ highs) (d ∷ dims) are some =
    let rest = each_met lows highs dims in
    All-cons IsDim (dim_met l h d) rest
    (met_dim l h d (All-head IsDim d dims are) (positive_left (coordinate_count (dim_met l h d)) (tuple_count rest) some))
    (met_dims lows highs dims (All-tail IsDim d dims are) (positive_right (coordinate_count (dim_met l h d)) (tuple_count rest) some))

met_padding : (lows highs : List ℤ) (k : ℕ)
    → each_met (components zero lows) (components zero highs) (replicate k padding) ≡ replicate k padding
met_padding [] highs k = refl
met_padding (l ∷ lows) [] k = refl
met_padding (l ∷ lows) (h ∷ highs) zero = refl
met_padding (l ∷ lows) (h ∷ highs) (suc k) = ap (λ dims. padding ∷ dims) (met_padding lows highs k)

met_padded : (rank k : ℕ) (lows highs : List ℤ) (dims : List Dim) → drop rank dims ≡ replicate k padding
    → drop rank (each_met (components rank lows) (components rank highs) dims) ≡ replicate k padding
met_padded zero k lows highs dims is =
    ap (each_met (components zero lows) (components zero highs)) is ∙ met_padding lows highs k
met_padded (suc rank) k [] highs dims is = is
met_padded (suc rank) k (l ∷ lows) [] dims is = is
met_padded (suc rank) k (l ∷ lows) (h ∷ highs) [] is = is
met_padded (suc rank) k (l ∷ lows) (h ∷ highs) (d ∷ dims) is = met_padded rank k lows highs dims is

pub region_fits : (region : Region) → FitsRegion region → IsRegion region
region_fits region fits = record {
  rank_above = fits.rank.0;
  rank_below = fits.rank.1;
  dims = λ k d here. within_is_dim (get_or region.dims k d) (fits.steps k d here) (fits.limit.dims k d here);
  padded = fits.padded;
}

pub met_region : (region : Region) (lows highs : List ℤ) → IsRegion region → has_none (met lows highs region) ≡ false
    → IsRegion (met lows highs region)
met_region region lows highs is some = record {
  rank_above = is.rank_above;
  rank_below = is.rank_below;
  dims = met_dims (components region.rank lows) (components region.rank highs) region.dims is.dims
      (some_from (met lows highs region) some);
  padded = met_padded region.rank (3 - region.rank) lows highs region.dims is.padded;
}

-- ---- whether it has tuples
still_steps : (lows highs : List ℤ) (dims : List Dim) → All HasStep dims → All HasStep (each_met lows highs dims)
still_steps [] highs dims steps = steps
still_steps (l ∷ lows) [] dims steps = steps
still_steps (l ∷ lows) (h ∷ highs) [] steps = All-nil HasStep
still_steps (l ∷ lows) (h ∷ highs) (d ∷ dims) steps =
    All-cons HasStep (dim_met l h d) (each_met lows highs dims) (kept d (All-head HasStep d dims steps))
    (still_steps lows highs dims (All-tail HasStep d dims steps))
  where
    kept : (e : Dim) → HasStep e → HasStep (dim_met l h e)
    kept Flood step = tt
    kept (Range lo hi step align) stepped = stepped

own_count : (code : Tables) (p : ℕ) (region : Region) → IsSlot region.rank region
    → length (tuples_of code p region) ≡ tuple_count (own_part code p region).dims
own_count code p region slot =
    length-tuple_count (own_part code p region).dims (still_steps _ _ region.dims slot.fits.steps)

none_is : (n : ℕ) → n ≡ 0 → (n == 0) ≡ true
none_is n is = ap (λ m. m == 0) is

some_is : (n : ℕ) → (n ≡ 0 → ⊥) → (n == 0) ≡ false
some_is n some = no_count n (omega arith)

nothing_there : (ts : List (List ℤ)) → length ts ≡ 0 → ts ≡ []
nothing_there [] long = refl
nothing_there (t ∷ ts) long = absurd (omega arith)

pub owns_none : (code : Tables) (p : ℕ) (region own : Region) → IsSlot region.rank region
    → members own ≡ tuples_of code p region → members own ≡ [] → has_none (own_part code p region) ≡ true
owns_none code p region own slot is none =
    none_is (tuple_count (own_part code p region).dims)
    (sym (own_count code p region slot) ∙ ap length (sym is ∙ none))

pub owns_some : (code : Tables) (p : ℕ) (region own : Region) → IsSlot region.rank region
    → members own ≡ tuples_of code p region → (members own ≡ [] → ⊥) → has_none (own_part code p region) ≡ false
owns_some code p region own slot is some =
    some_is (tuple_count (own_part code p region).dims)
    (λ none. some (nothing_there (members own) (ap length is ∙ (own_count code p region slot ∙ none))))

-- ---- the places of a temporary
boxed_dim : (row : ArrayDim) (d : Dim) → IsBoxed d → IsBoxed (room_dim row d)
boxed_dim array.Star d boxed = tt
boxed_dim (array.Range a b c e) Flood boxed = (refl, refl)
boxed_dim (array.Range a b c e) (Range lo hi step align) boxed = boxed

boxed_dims : (rows : List ArrayDim) (dims : List Dim) → All IsBoxed dims → All IsBoxed (each_room rows dims)
boxed_dims [] dims are = All-nil IsBoxed
boxed_dims (row ∷ rows) [] are = All-nil IsBoxed
boxed_dims (row ∷ rows) (d ∷ dims) are =
    All-cons IsBoxed (room_dim row d) (each_room rows dims) (boxed_dim row d (All-head IsBoxed d dims are))
    (boxed_dims rows dims (All-tail IsBoxed d dims are))

wide_dim : (row : ArrayDim) (d : Dim) → HasWideBounds d → HasWideBounds (room_dim row d)
wide_dim array.Star d wide = tt
wide_dim (array.Range a b c e) Flood wide =
    let low : IsUpTo 41 (pos 0) = (omega (arith, ints), omega (arith, ints)) in
    (low, low)
wide_dim (array.Range a b c e) (Range lo hi step align) wide = wide

wide_dims : (rows : List ArrayDim) (dims : List Dim) → All HasWideBounds dims → All HasWideBounds (each_room rows dims)
wide_dims [] dims are = All-nil HasWideBounds
wide_dims (row ∷ rows) [] are = All-nil HasWideBounds
wide_dims (row ∷ rows) (d ∷ dims) are =
    All-cons HasWideBounds (room_dim row d) (each_room rows dims) (wide_dim row d (All-head HasWideBounds d dims are))
    (wide_dims rows dims (All-tail HasWideBounds d dims are))

pub room_boxed : (row : ArrayRow) (own : Region) → IsRegion own → All IsBoxed (room_of row own false).dims
room_boxed row own is = boxed_dims row.dims (hull own).dims (hull_boxed own is.padded)

pub room_wide : (row : ArrayRow) (own : Region) → IsRegion own → All HasWideBounds (room_of row own false).dims
room_wide row own is = wide_dims row.dims (hull own).dims (wide_bounds (hull own).dims (hull_region own is).dims)
