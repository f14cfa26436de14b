-- The copy of an array that is read round its home box is a box within the limit, where accepted
-- settings say so; and where the array isn't moved it is, whatever they say.
use Rattle.std.proofs.Common.{◌≡◌, ℕ, zero, suc, ◌-◌, ◌<◌, Bool, true, false, cond, ℤ, pos, ◌+ℤ◌, ◌≤ℤ◌, List, [], ◌∷◌, map, length, refl, sym, ap, ap₂, ◌∙◌, subst, arith}
use native.Mathlib.Nat.{zero-mod}
use Rattle.std.specs.Prelude.{All, int_rem}
use Rattle.std.specs.Int.{int_max, int_min}
use Rattle.std.proofs.lemmas.Int.{ints, clamps}
use Rattle.std.proofs.lemmas.List.Elements.{All-from_recursion}
use Rattle.zpl_region.specs.declared.dims.Dim.{Dim}
use Rattle.zpl_region.specs.declared.dims.Dim.TheVariants as dim
use Rattle.zpl_region.specs.declared.regions.Region.{Region}
use Rattle.zpl_region.specs.Dim.{HasStep, dim_moved, extent}
use Rattle.zpl_region.specs.Region.{IsWithinLimit, components, each, moved}
use Rattle.zpl_region.specs.Ends.{coordinate_count, first_of, has_none, last_of, tuple_count}
use Rattle.zpl_region.specs.Hull.{all_from, dim_hull, dim_hull_with, each_hull_with, emptied, hull, hull_with}
use Rattle.zpl_region.specs.Tests.{is_within_limit}
use Rattle.zpl_region.proofs.DimLemmas.{pos-extent}
use Rattle.zpl_region.proofs.EndLemmas.{positive_left, positive_right}
use Rattle.zpl_region.proofs.HullLemmas.{count-all_from, first-all_from, last-all_from, some_from}
use Rattle.zpl_arrays.specs.Around.{copy_shift, copy_storage, each_rest}
use Rattle.zpl_tree.specs.Syntax.{Dir, Program}
use Rattle.zpl_binding.specs.Copies.{copy_of}
use Rattle.zpl_binding.specs.Outcome.{Outcome, Gives, Fails, RegionLimit, and_then, value_or}
use Rattle.zpl_binding.specs.Regions.{Known, limited}
use Rattle.zpl_binding.specs.Storages.{home_at}
use Rattle.zpl_binding.specs.Vectors.{dir_of, three_components}
use Rattle.lowering_fits.specs.of_zpl_meaning.Regions.{vector_in}
use Rattle.lowering_fits.specs.Reach.{IsBox}
use Rattle.lowering_fits.specs.Storages.{AllBoxed, IsStorage}
use Rattle.lowering_fits.proofs.ArrayLemmas.{PadsFrom, pads}
use Rattle.lowering_fits.proofs.BracketLemmas.{LimitsAreTold}
use Rattle.lowering_fits.proofs.FrameLemmas.{boxed_steps}
use Rattle.lowering_fits.proofs.StorageLemmas.{IsHull, copy_is, hull_with_is, three_of}
use Rattle.lowered_flat.proofs.LimitLemmas.{empty_limit}

-- ---- vectors of zeros

abbrev no_shift : List ℤ
no_shift = pos 0 ∷ pos 0 ∷ pos 0 ∷ []

nothing_left : (n : ℕ) → int_rem (pos 0) (pos n) ≡ pos 0
nothing_left n = ap pos (zero-mod n)

rest_of : (lo hi step align : ℤ) (dims : List Dim) (v : List ℤ) →
    each_rest (pos 0 ∷ v) (dim.Range lo hi step align ∷ dims) ≡ pos 0 ∷ each_rest v dims
rest_of lo hi step align dims v = ap (λ z. z ∷ each_rest v dims) (nothing_left (extent lo hi))

rest_first : (v rests : List ℤ) (d : Dim) (dims : List Dim) → each_rest v dims ≡ rests →
    each_rest (pos 0 ∷ v) (d ∷ dims) ≡ pos 0 ∷ rests
rest_first v rests (dim.Range lo hi step align) dims is =
    rest_of lo hi step align dims v ∙ ap (λ zs. pos 0 ∷ zs) is
rest_first v rests dim.Flood dims is = ap (λ zs. pos 0 ∷ zs) is

three_rests : (dims : List Dim) → length dims ≡ 3 → each_rest no_shift dims ≡ no_shift
three_rests [] three = let no : ⊥ = omega (arith, three) in absurd no
three_rests (a ∷ []) three = let no : ⊥ = omega (arith, three) in absurd no
three_rests (a ∷ b ∷ []) three = let no : ⊥ = omega (arith, three) in absurd no
three_rests (a ∷ b ∷ c ∷ []) three =
    rest_first (pos 0 ∷ pos 0 ∷ []) (pos 0 ∷ pos 0 ∷ []) a (b ∷ c ∷ [])
    (rest_first (pos 0 ∷ []) (pos 0 ∷ []) b (c ∷ []) (rest_first [] [] c [] refl))
three_rests (a ∷ b ∷ c ∷ d ∷ dims) three = let no : ⊥ = omega (arith, three) in absurd no

shift_stays : (home : Region) → length home.dims ≡ 3 → copy_shift home no_shift ≡ no_shift
shift_stays home three = by (has_none home)
  where
    by : (b : Bool) → cond b no_shift (each_rest no_shift home.dims) ≡ no_shift
    by true = refl
    by false = three_rests home.dims three

components_stay : (rank : ℕ) → components rank no_shift ≡ no_shift
components_stay zero = refl
components_stay (suc zero) = refl
components_stay (suc (suc zero)) = refl
components_stay (suc (suc (suc rank))) = refl

same_range : (lo hi step align low high at : ℤ) → low ≡ lo → high ≡ hi → at ≡ align →
    dim.Range low high step at ≡ dim.Range lo hi step align
same_range lo hi step align low high at a b c = cc

unmoved : (z : ℤ) → z +ℤ pos 0 ≡ z
unmoved z = omega (arith, ints)

dim_stays : (d : Dim) → dim_moved (pos 0) d ≡ d
dim_stays (dim.Range lo hi step align) =
    same_range lo hi step align (lo +ℤ pos 0) (hi +ℤ pos 0) (align +ℤ pos 0) (unmoved lo)
    (unmoved hi) (unmoved align)
dim_stays dim.Flood = refl

one_stays : (v : List ℤ) (d : Dim) (dims : List Dim) → each dim_moved v dims ≡ dims →
    each dim_moved (pos 0 ∷ v) (d ∷ dims) ≡ d ∷ dims
one_stays v d dims is = ap₂ (λ a b. a ∷ b) (dim_stays d) is

dims_stay : (dims : List Dim) → each dim_moved no_shift dims ≡ dims
dims_stay [] = refl
dims_stay (a ∷ []) = one_stays (pos 0 ∷ pos 0 ∷ []) a [] refl
dims_stay (a ∷ b ∷ []) =
    one_stays (pos 0 ∷ pos 0 ∷ []) a (b ∷ []) (one_stays (pos 0 ∷ []) b [] refl)
dims_stay (a ∷ b ∷ c ∷ dims) =
    one_stays (pos 0 ∷ pos 0 ∷ []) a (b ∷ c ∷ dims)
    (one_stays (pos 0 ∷ []) b (c ∷ dims) (one_stays [] c dims refl))

region_stays : (home : Region) → moved no_shift home ≡ home
region_stays home =
    ap (λ (dims : List Dim). record { rank = home.rank; dims = dims })
    (ap (λ v. each dim_moved v home.dims) (components_stay home.rank) ∙ dims_stay home.dims)

copy_stays : (home : Region) → length home.dims ≡ 3 →
    copy_storage home no_shift ≡ hull_with home home
copy_stays home three =
    ap (λ v. hull_with home (moved v home)) (shift_stays home three)
    ∙ ap (λ (other : Region). hull_with home other) (region_stays home)

-- ---- a box around itself

wide_same : (lo hi first last : ℤ) → first ≡ lo → last ≡ hi →
    all_from (int_min first first) (int_max last last) ≡ all_from lo hi
wide_same lo hi first last is are =
    let low : int_min first first ≡ lo = omega (arith, ints, clamps) in
    let high : int_max last last ≡ hi = omega (arith, ints, clamps) in
    ap₂ (λ a b. all_from a b) low high

some_order : (lo hi : ℤ) → 0 < coordinate_count (all_from lo hi) → lo ≤ℤ hi
some_order lo hi some =
    omega (arith, ints, clamps, count-all_from lo hi, pos-extent lo hi, some)

box_same : (lo hi : ℤ) → 0 < coordinate_count (all_from lo hi) →
    dim_hull_with (all_from lo hi) (all_from lo hi) ≡ all_from lo hi
box_same lo hi some =
    wide_same lo hi (first_of (all_from lo hi)) (last_of (all_from lo hi)) (first-all_from lo hi)
    (last-all_from lo hi (some_order lo hi some))

boxes_same : (dims : List Dim) → AllBoxed dims → 0 < tuple_count dims →
    each_hull_with dims dims ≡ dims
boxes_same [] boxed some = refl
boxes_same (dim.Range lo hi step align ∷ dims) boxed some =
    ap₂ (λ a b. a ∷ b)
    (by step align boxed.0.0 boxed.0.1
    (positive_left (coordinate_count (dim.Range lo hi step align)) (tuple_count dims) some))
    (boxes_same dims boxed.1
    (positive_right (coordinate_count (dim.Range lo hi step align)) (tuple_count dims) some))
  where
    Same : ℤ → ℤ → Type 0
    Same step align =
        0 < coordinate_count (dim.Range lo hi step align) →
        dim_hull_with (dim.Range lo hi step align) (dim.Range lo hi step align) ≡
        dim.Range lo hi step align

    by : (step align : ℤ) → step ≡ pos 1 → align ≡ lo → Same step align
    by step align one same =
        subst (λ z. Same step z) (sym same)
        (subst (λ z. Same z lo) (sym one) (box_same lo hi))
boxes_same (dim.Flood ∷ dims) boxed some =
    ap (λ b. dim.Flood ∷ b)
    (boxes_same dims boxed.1 (positive_right (coordinate_count dim.Flood) (tuple_count dims) some))

around_itself : (home : Region) → IsStorage home → IsWithinLimit (hull_with home home)
around_itself home kept = by (has_none home) (has_none home) refl refl
  where
    padded : PadsFrom home.rank home.dims
    padded = pads (3 - home.rank) home.rank home.dims kept.padded

    empty : has_none home ≡ true → IsWithinLimit (hull home)
    empty none =
        subst (λ b. IsWithinLimit (record {
          rank = home.rank;
          dims = cond b (emptied home.rank home.dims) (map dim_hull home.dims);
        })) (sym none) (empty_limit home.rank home.dims padded)

    by : (b c : Bool) → has_none home ≡ b → has_none home ≡ c →
        IsWithinLimit (cond b (hull home) (cond c (hull home)
        (record { rank = home.rank; dims = each_hull_with home.dims home.dims })))
    by true c is also = empty is
    by false true is also = empty also
    by false false is also =
        subst (λ (dims : List Dim). IsWithinLimit (record { rank = home.rank; dims = dims }))
        (sym (boxes_same home.dims kept.boxed (some_from home is))) kept.limit

-- ---- copies

box_of : (home : Region) → IsStorage home → IsBox home.rank home
box_of home kept = record {
  steps = boxed_steps home.dims kept.boxed;
  padded = kept.padded;
  three = kept.three;
  same = refl;
}

copy_within : LimitsAreTold → (home : Region) (vector : List ℤ) → IsStorage home →
    is_within_limit (copy_storage home vector) ≡ true → IsStorage (copy_storage home vector)
copy_within limits home vector kept within =
    copy_is limits home.rank home vector kept.is_rank (box_of home kept) within

unmoved_within : LimitsAreTold → (home : Region) → IsStorage home →
    IsStorage (copy_storage home (three_components []))
unmoved_within limits home kept =
    let storage = hull_with home home in
    let three = three_of home.rank home (box_of home kept) in
    let hulls : IsHull home.rank storage = hull_with_is home.rank home home three three in
    let steps : All HasStep storage.dims =
    All-from_recursion HasStep storage.dims (boxed_steps storage.dims hulls.boxed) in
    let within : is_within_limit storage ≡ true =
    (limits storage steps).1 (around_itself home kept) in
    copy_within limits home (three_components []) kept
    (subst (λ (region : Region). is_within_limit region ≡ true)
    (sym (copy_stays home kept.three)) within)

no_limit : (storage : Region) → ¬ (limited storage ≡ Fails RegionLimit) →
    is_within_limit storage ≡ true
no_limit storage none = by (is_within_limit storage) refl none
  where
    by : (b : Bool) → is_within_limit storage ≡ b →
        ¬ (cond b (Gives storage) (Fails RegionLimit) ≡ Fails RegionLimit) →
        is_within_limit storage ≡ true
    by true is none = is
    by false is none = absurd (none refl)

-- the copy of a read with a shift, where the home box is told by an offset
pub copy_kept : LimitsAreTold → (program : Program) (known : Known) (variable : ℕ) (shift : Dir)
    (home : Region) → home_at program known variable ≡ Gives home → IsStorage home →
    ¬ (copy_of program known variable shift ≡ Fails RegionLimit) →
    IsStorage (copy_storage home (vector_in known shift))
copy_kept limits program known variable shift home told kept within =
    by (dir_of known.values known.directions shift)
    (subst (λ outcome. ¬ (and_then outcome (λ box.
    and_then (dir_of known.values known.directions shift) (λ vector.
    limited (copy_storage box vector))) ≡ Fails RegionLimit)) told within)
  where
    by : (vector : Outcome (List ℤ)) →
        ¬ (and_then vector (λ vector. limited (copy_storage home vector)) ≡ Fails RegionLimit) →
        IsStorage (copy_storage home (value_or (three_components []) vector))
    by (Gives vector) none =
        copy_within limits home vector kept (no_limit (copy_storage home vector) none)
    by (Fails fault) none = unmoved_within limits home kept
