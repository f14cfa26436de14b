-- A home box is within the limit where the storage around it is, and lies in it.
use Rattle.std.proofs.Common.{◌≡◌, ℕ, zero, suc, ◌*◌, ◌-◌, ◌<◌, ◌≤◌, Bool, true, false, ◌||◌, ◌&&◌, cond, ℤ, pos, ◌≤ℤ◌, List, [], ◌∷◌, map, refl, sym, ap, subst, arith, true≢false}
use Rattle.std.specs.Prelude.{◌==◌, All, int_lt}
use Rattle.std.specs.Int.RustNames.{int_le}
use Rattle.std.specs.Int.{int_max, int_min}
use Rattle.std.specs.List.{AllByRecursion, AllZip}
use Rattle.std.proofs.lemmas.Bool.{and_from, eq-eqb, eqb-true}
use Rattle.std.proofs.lemmas.Int.{ints, clamps}
use Rattle.std.proofs.lemmas.Nat.{mul-le}
use Rattle.std.proofs.lemmas.List.Elements.{All-from_recursion, recursion_from_All}
use Rattle.zpl_region.specs.declared.dims.Dim.{Dim}
use Rattle.zpl_region.specs.declared.dims.Dim.TheVariants as dim
use Rattle.zpl_region.specs.declared.regions.Region.{Region}
use Rattle.zpl_region.specs.Dim.{HasStep, IsDimWithinLimit, dim_outside_of, extent}
use Rattle.zpl_region.specs.Region.{IsWithinLimit, components, each, outside_of, padding}
use Rattle.zpl_region.specs.Ends.{coordinate_count, first_of, has_none, last_of, tuple_count}
use Rattle.zpl_region.specs.Hull.{IsBoxed, IsSameKind, all_from, dim_hull, dim_hull_with, each_hull_with, emptied, hull, hull_with}
use Rattle.zpl_region.specs.Tests.{is_dim_in_box, is_within_limit}
use Rattle.zpl_region.proofs.DimLemmas.{pos-extent}
use Rattle.zpl_region.proofs.EndLemmas.{Among-first, between_ends, length-tuple_count, positive_left, positive_right}
use Rattle.zpl_region.proofs.ListLemmas.{test_from_le}
use Rattle.zpl_region.proofs.HullLemmas.{count-all_from, first-all_from, last-all_from, no_count, some-all_from, some_from}
use Rattle.zpl_arrays.specs.Reference.{dim_lies_in, each_lies_in, lies_in}
use Rattle.zpl_tree.specs.Syntax.{Inner}
use Rattle.zpl_names.specs.Kinds.{Shape}
use Rattle.zpl_binding.specs.Outcome.{Outcome, Gives, Fails, RegionLimit, and_then, outcome_of}
use Rattle.zpl_binding.specs.Vectors.{three_components}
use Rattle.zpl_binding.specs.Regions.{Known, inner_of, limited}
use Rattle.zpl_binding.specs.Storages.{Border, shape_borders, storage_of, widened}
use Rattle.lowering_fits.specs.of_meaning_ranks.Shaped.{AreFloods}
use Rattle.lowering_fits.specs.Reach.{IsBox}
use Rattle.lowering_fits.specs.Storages.{AllBoxed, IsHomeIn, IsStorage}
use Rattle.lowering_fits.proofs.ArrayLemmas.{PadsFrom, pads}
use Rattle.lowering_fits.proofs.FrameLemmas.{boxed_steps}
use Rattle.lowering_fits.proofs.HullLemmas.{storage_like}
use Rattle.lowering_fits.proofs.StorageLemmas.{emptied_boxed, hulls_boxed}

-- ---- a box with coordinates, and one around it

abbrev pub Over : Dim → Dim → Type 0
Over (dim.Range lo hi step align) (dim.Range low high by at) =
    (lo ≤ℤ hi) × (low ≤ℤ lo) × (hi ≤ℤ high) × (by ≡ pos 1) × (at ≡ low)
Over (dim.Range lo hi step align) dim.Flood = ⊥
Over dim.Flood (dim.Range low high by at) = ⊥
Over dim.Flood dim.Flood = Unit {0}

abbrev pub AllOver : List Dim → List Dim → Type 0
AllOver [] [] = Unit {0}
AllOver [] (d ∷ ds) = ⊥
AllOver (h ∷ hs) [] = ⊥
AllOver (h ∷ hs) (d ∷ ds) = Over h d × AllOver hs ds

itself : (z : ℤ) → z ≤ℤ z
itself z = omega (arith, ints)

over_start : (d : Dim) → HasStep d → 0 < coordinate_count d → Over (dim_hull d) (dim_hull d)
over_start (dim.Range lo hi step align) steps some =
    let d = dim.Range lo hi step align in
    let ends = between_ends d (first_of d) steps (Among-first d steps some) in
    (ends.1, itself (first_of d), itself (last_of d), refl, refl)
over_start dim.Flood steps some = tt

all_start : (dims : List Dim) → AllByRecursion HasStep dims → 0 < tuple_count dims →
    AllOver (map dim_hull dims) (map dim_hull dims)
all_start [] steps some = tt
all_start (d ∷ dims) steps some = (
  over_start d steps.0 (positive_left (coordinate_count d) (tuple_count dims) some),
  all_start dims steps.1 (positive_right (coordinate_count d) (tuple_count dims) some),
)

-- a box that is a dimension of the kind
as_box : (Holds : Dim → Type 0) (low high by at : ℤ) → by ≡ pos 1 → at ≡ low →
    Holds (all_from low high) → Holds (dim.Range low high by at)
as_box Holds low high by at one same holds =
    subst (λ z. Holds (dim.Range low high by z)) (sym same)
    (subst (λ z. Holds (dim.Range low high z low)) (sym one) holds)

in_order : (lo hi low high : ℤ) → lo ≤ℤ hi → low ≤ℤ lo → hi ≤ℤ high → low ≤ℤ high
in_order lo hi low high a b c = omega (arith, ints)

over_some : (h d : Dim) → Over h d → 0 < coordinate_count d
over_some (dim.Range lo hi step align) (dim.Range low high by at) is =
    as_box (λ d. 0 < coordinate_count d) low high by at is.3 is.4
    (some-all_from low high (in_order lo hi low high is.0 is.1 is.2))
over_some (dim.Range lo hi step align) dim.Flood is = absurd is
over_some dim.Flood (dim.Range low high by at) is = absurd is
over_some dim.Flood dim.Flood is = omega arith

positive : (m n : ℕ) → 0 < m → 0 < n → 0 < m * n
positive m n f g = grind arith

all_some : (hs ds : List Dim) → AllOver hs ds → 0 < tuple_count ds
all_some [] [] are = omega arith
all_some [] (d ∷ ds) are = absurd are
all_some (h ∷ hs) [] are = absurd are
all_some (h ∷ hs) (d ∷ ds) are =
    positive (coordinate_count d) (tuple_count ds) (over_some h d are.0) (all_some hs ds are.1)

-- ---- its hull, and the hull with another region

over_hull : (h d : Dim) → Over h d → Over h (dim_hull d)
over_hull (dim.Range lo hi step align) (dim.Range low high by at) is =
    let order = in_order lo hi low high is.0 is.1 is.2 in
    let first = first-all_from low high in
    let last = last-all_from low high order in
    as_box (λ d. Over (dim.Range lo hi step align) (dim_hull d)) low high by at is.3 is.4 (
      is.0,
      subst (λ z. z ≤ℤ lo) (sym first) is.1,
      subst (λ z. hi ≤ℤ z) (sym last) is.2,
      refl,
      refl,
    )
over_hull (dim.Range lo hi step align) dim.Flood is = absurd is
over_hull dim.Flood (dim.Range low high by at) is = absurd is
over_hull dim.Flood dim.Flood is = tt

all_hull : (hs ds : List Dim) → AllOver hs ds → AllOver hs (map dim_hull ds)
all_hull [] [] are = tt
all_hull [] (d ∷ ds) are = absurd are
all_hull (h ∷ hs) [] are = absurd are
all_hull (h ∷ hs) (d ∷ ds) are = (over_hull h d are.0, all_hull hs ds are.1)

least_below : (lo low first other : ℤ) → low ≤ℤ lo → first ≡ low →
    int_min first other ≤ℤ lo
least_below lo low first other below is = omega (arith, ints, clamps)

greatest_above : (hi high last other : ℤ) → hi ≤ℤ high → last ≡ high →
    hi ≤ℤ int_max last other
greatest_above hi high last other above is = omega (arith, ints, clamps)

over_with : (h d e : Dim) → Over h d → IsSameKind h e → Over h (dim_hull_with d e)
over_with (dim.Range lo hi step align) (dim.Range low high by at) (dim.Range a b c f) is same =
    let order = in_order lo hi low high is.0 is.1 is.2 in
    let other = dim.Range a b c f in
    as_box (λ d. Over (dim.Range lo hi step align) (dim_hull_with d other)) low high by at is.3
    is.4 (
      is.0,
      least_below lo low (first_of (all_from low high)) (first_of other) is.1
          (first-all_from low high),
      greatest_above hi high (last_of (all_from low high)) (last_of other) is.2
          (last-all_from low high order),
      refl,
      refl,
    )
over_with (dim.Range lo hi step align) (dim.Range low high by at) dim.Flood is same = absurd same
over_with (dim.Range lo hi step align) dim.Flood e is same = absurd is
over_with dim.Flood (dim.Range low high by at) e is same = absurd is
over_with dim.Flood dim.Flood e is same = tt

all_with : (hs ds es : List Dim) → AllOver hs ds → AllZip IsSameKind hs es →
    AllOver hs (each_hull_with ds es)
all_with [] [] es are same = tt
all_with [] (d ∷ ds) es are same = absurd are
all_with (h ∷ hs) [] es are same = absurd are
all_with (h ∷ hs) (d ∷ ds) [] are same = absurd same
all_with (h ∷ hs) (d ∷ ds) (e ∷ es) are same =
    (over_with h d e are.0 same.0, all_with hs ds es are.1 same.1)

hulls_alike : (dims : List Dim) → AllZip IsSameKind (map dim_hull dims) dims
hulls_alike [] = tt
hulls_alike (dim.Range lo hi step align ∷ dims) = (tt, hulls_alike dims)
hulls_alike (dim.Flood ∷ dims) = (tt, hulls_alike dims)

outside_alike : (v : List ℤ) (dims : List Dim) →
    AllZip IsSameKind (map dim_hull dims) (each dim_outside_of v dims)
outside_alike [] dims = hulls_alike dims
outside_alike (d ∷ v) [] = tt
outside_alike (d ∷ v) (dim.Flood ∷ dims) = (tt, outside_alike v dims)
outside_alike (d ∷ v) (dim.Range lo hi step align ∷ dims) =
    by (int_lt (pos 0) d) (int_lt d (pos 0)) _ _ _ _ (outside_alike v dims)
  where
    by : (a b : Bool) (low high lower higher : ℤ) →
        AllZip IsSameKind (map dim_hull dims) (each dim_outside_of v dims) →
        AllZip IsSameKind (dim_hull (dim.Range lo hi step align) ∷ map dim_hull dims)
        (cond a (dim.Range low high step align)
        (cond b (dim.Range lower higher step align) (dim.Range lo hi step align))
        ∷ each dim_outside_of v dims)
    by true b low high lower higher rest = (tt, rest)
    by false true low high lower higher rest = (tt, rest)
    by false false low high lower higher rest = (tt, rest)

-- ---- storages

-- the storage is around the hull of the region, where that has coordinates
abbrev IsAround : Region → Region → Type 0
IsAround region storage =
    has_none region ≡ false → AllOver (map dim_hull region.dims) storage.dims

around_hull : (region : Region) → AllByRecursion HasStep region.dims →
    IsAround region (hull region)
around_hull region steps none =
    subst (λ b. AllOver (map dim_hull region.dims)
    (cond b (emptied region.rank region.dims) (map dim_hull region.dims))) (sym none)
    (all_start region.dims steps (some_from region none))

abbrev HasOver : List Dim → Region → Type 0
HasOver hs storage = AllOver hs storage.dims

around_more : (region storage : Region) (v : List ℤ) → IsAround region storage →
    IsAround region (hull_with storage (outside_of v region))
around_more region storage v around none =
    by (has_none other) (has_none storage) some
  where
    hs : List Dim
    hs = map dim_hull region.dims

    other : Region
    other = outside_of v region

    here : AllOver hs storage.dims
    here = around none

    some : has_none storage ≡ false
    some = no_count (tuple_count storage.dims) (all_some hs storage.dims here)

    by : (b c : Bool) → c ≡ false →
        HasOver hs (cond b (hull storage) (cond c (hull other)
        (record { rank = storage.rank; dims = each_hull_with storage.dims other.dims })))
    by true c is =
        subst (λ b. AllOver hs
        (cond b (emptied storage.rank storage.dims) (map dim_hull storage.dims))) (sym some)
        (all_hull hs storage.dims here)
    by false true is = absurd (true≢false is)
    by false false is =
        all_with hs storage.dims other.dims here
        (outside_alike (components region.rank v) region.dims)

abbrev AroundOf : Region → Outcome Region → Type 0
AroundOf region (Gives storage) = IsAround region storage
AroundOf region (Fails fault) = Unit {0}

widened_around : (known : Known) (region storage : Region) (borders : List Border) →
    IsAround region storage → AroundOf region (widened known region storage borders)
widened_around known region storage [] around = around
widened_around known region storage (border ∷ rest) around =
    by (outcome_of (three_components []) known.directions border.direction.text)
    (λ v. widened_around known region (hull_with storage (outside_of v region)) rest
    (around_more region storage v around))
  where
    by : (vector : Outcome (List ℤ)) →
        ((v : List ℤ) →
        AroundOf region (widened known region (hull_with storage (outside_of v region)) rest)) →
        AroundOf region (and_then vector (λ v.
        widened known region (hull_with storage (outside_of v region)) rest))
    by (Gives v) later = later v
    by (Fails fault) later = tt

limited_around : (region : Region) (outcome : Outcome Region) → AroundOf region outcome →
    AroundOf region (and_then outcome limited)
limited_around region (Fails fault) around = tt
limited_around region (Gives storage) around = by (is_within_limit storage)
  where
    by : (b : Bool) → AroundOf region (cond b (Gives storage) (Fails RegionLimit))
    by true = around
    by false = tt

storage_around : (known : Known) (borders : List Border) (inner : Inner)
    (region storage : Region) → AllByRecursion HasStep region.dims →
    inner_of known inner ≡ Gives region → storage_of known borders inner ≡ Gives storage →
    IsAround region storage
storage_around known borders inner region storage steps is given =
    subst (AroundOf region) given
    (subst (λ outcome. AroundOf region (and_then outcome (λ region.
    and_then (widened known region (hull region) (shape_borders known borders inner)) limited)))
    (sym is)
    (limited_around region (widened known region (hull region) (shape_borders known borders inner))
    (widened_around known region (hull region) (shape_borders known borders inner)
    (around_hull region steps))))

-- ---- limits

count_boxed : (lo hi step align : ℤ) → step ≡ pos 1 → align ≡ lo →
    coordinate_count (dim.Range lo hi step align) ≡ extent lo hi
count_boxed lo hi step align one same =
    as_box (λ d. coordinate_count d ≡ extent lo hi) lo hi step align one same
    (count-all_from lo hi)

over_limit : (h d : Dim) → IsBoxed h → Over h d → IsDimWithinLimit d → IsDimWithinLimit h
over_limit (dim.Range lo hi step align) (dim.Range low high by at) boxed is limit =
    let from = limit.0.0 in
    let to = limit.1.1 in
    let order = is.0 in
    let below = is.1 in
    let above = is.2 in
    let one = boxed.0 in
    let same = boxed.1 in (
      (omega (arith, ints), omega (arith, ints)),
      (omega (arith, ints), omega (arith, ints)),
      omega (arith, ints),
      (omega (arith, ints), omega (arith, ints)),
    )
over_limit (dim.Range lo hi step align) dim.Flood boxed is limit = absurd is
over_limit dim.Flood (dim.Range low high by at) boxed is limit = absurd is
over_limit dim.Flood dim.Flood boxed is limit = tt

over_count : (h d : Dim) → IsBoxed h → Over h d → coordinate_count h ≤ coordinate_count d
over_count (dim.Range lo hi step align) (dim.Range low high by at) boxed is =
    let here = count_boxed lo hi step align boxed.0 boxed.1 in
    let there = count_boxed low high by at is.3 is.4 in
    let below = is.1 in
    let above = is.2 in
    omega (arith, ints, clamps, here, there, pos-extent lo hi, pos-extent low high)
over_count (dim.Range lo hi step align) dim.Flood boxed is = absurd is
over_count dim.Flood (dim.Range low high by at) boxed is = absurd is
over_count dim.Flood dim.Flood boxed is = omega arith

all_limit : (hs ds : List Dim) → AllBoxed hs → AllOver hs ds →
    AllByRecursion IsDimWithinLimit ds → AllByRecursion IsDimWithinLimit hs
all_limit [] [] boxed are limits = tt
all_limit [] (d ∷ ds) boxed are limits = absurd are
all_limit (h ∷ hs) [] boxed are limits = absurd are
all_limit (h ∷ hs) (d ∷ ds) boxed are limits =
    (over_limit h d boxed.0 are.0 limits.0, all_limit hs ds boxed.1 are.1 limits.1)

all_count : (hs ds : List Dim) → AllBoxed hs → AllOver hs ds → tuple_count hs ≤ tuple_count ds
all_count [] [] boxed are = omega arith
all_count [] (d ∷ ds) boxed are = absurd are
all_count (h ∷ hs) [] boxed are = absurd are
all_count (h ∷ hs) (d ∷ ds) boxed are =
    mul-le (coordinate_count h) (tuple_count hs) (coordinate_count d) (tuple_count ds)
    (over_count h d boxed.0 are.0) (all_count hs ds boxed.1 are.1)

-- no tuples
padding_limit : IsDimWithinLimit padding
padding_limit = (
  (omega (arith, ints), omega (arith, ints)),
  (omega (arith, ints), omega (arith, ints)),
  omega (arith, ints),
  (omega (arith, ints), omega (arith, ints)),
)

pads_limit : (dims : List Dim) → PadsFrom zero dims → AllByRecursion IsDimWithinLimit dims
pads_limit [] are = tt
pads_limit (d ∷ dims) are =
    (subst IsDimWithinLimit (sym are.0) padding_limit, pads_limit dims are.1)

emptied_limit : (rank : ℕ) (dims : List Dim) → PadsFrom rank dims →
    AllByRecursion IsDimWithinLimit (emptied rank dims)
emptied_limit zero dims are = pads_limit dims are
emptied_limit (suc rank) [] are = tt
emptied_limit (suc rank) (dim.Range lo hi step align ∷ dims) are = (
  (
    (omega (arith, ints), omega (arith, ints)),
    (omega (arith, ints), omega (arith, ints)),
    omega (arith, ints),
    (omega (arith, ints), omega (arith, ints)),
  ),
  emptied_limit rank dims are,
)
emptied_limit (suc rank) (dim.Flood ∷ dims) are = (tt, emptied_limit rank dims are)

one_more : (m n : ℕ) → m ≤ 1 → n ≤ 1 → m * n ≤ 1
one_more m n one other = mul-le m n 1 1 one other

pads_count : (dims : List Dim) → PadsFrom zero dims → tuple_count dims ≤ 1
pads_count [] are = omega arith
pads_count (d ∷ dims) are =
    let here : coordinate_count padding ≤ 1 = omega arith in
    one_more (coordinate_count d) (tuple_count dims)
    (subst (λ d. coordinate_count d ≤ 1) (sym are.0) here) (pads_count dims are.1)

emptied_count : (rank : ℕ) (dims : List Dim) → PadsFrom rank dims →
    tuple_count (emptied rank dims) ≤ 1
emptied_count zero dims are = pads_count dims are
emptied_count (suc rank) [] are = omega arith
emptied_count (suc rank) (dim.Range lo hi step align ∷ dims) are =
    let here : coordinate_count (all_from (pos 1) (pos 0)) ≤ 1 = omega arith in
    one_more (coordinate_count (all_from (pos 1) (pos 0))) (tuple_count (emptied rank dims)) here
    (emptied_count rank dims are)
emptied_count (suc rank) (dim.Flood ∷ dims) are =
    let here : coordinate_count dim.Flood ≤ 1 = omega arith in
    one_more (coordinate_count dim.Flood) (tuple_count (emptied rank dims)) here
    (emptied_count rank dims are)

-- a region of these dimensions
of_dims : (rank : ℕ) (dims : List Dim) → AllBoxed dims → AllByRecursion IsDimWithinLimit dims →
    tuple_count dims ≤ 4194304 → IsWithinLimit (record { rank = rank; dims = dims })
of_dims rank dims boxed limits few =
    let steps : All HasStep dims = All-from_recursion HasStep dims (boxed_steps dims boxed) in
    record {
      dims = All-from_recursion IsDimWithinLimit dims limits;
      points = subst (λ n. n ≤ 4194304) (sym (length-tuple_count dims steps)) few;
    }

pub empty_limit : (rank : ℕ) (dims : List Dim) → PadsFrom rank dims →
    IsWithinLimit (record { rank = rank; dims = emptied rank dims })
empty_limit rank dims padded =
    let few = emptied_count rank dims padded in
    of_dims rank (emptied rank dims) (emptied_boxed rank dims padded)
    (emptied_limit rank dims padded) (omega (arith, few))

pub home_limit : (known : Known) (borders : List Border) (inner : Inner)
    (region storage : Region) → IsBox region.rank region →
    inner_of known inner ≡ Gives region → storage_of known borders inner ≡ Gives storage →
    IsStorage storage → IsWithinLimit (hull region)
home_limit known borders inner region storage box is given kept =
    by (has_none region) refl
  where
    padded : PadsFrom region.rank region.dims
    padded = pads (3 - region.rank) region.rank region.dims box.padded

    by : (b : Bool) → has_none region ≡ b →
        IsWithinLimit (record {
          rank = region.rank;
          dims = cond b (emptied region.rank region.dims) (map dim_hull region.dims);
        })
    by true none = empty_limit region.rank region.dims padded
    by false some =
        let hs = map dim_hull region.dims in
        let boxed = hulls_boxed region.dims in
        let over = storage_around known borders inner region storage box.steps is given some in
        let steps : All HasStep storage.dims =
        All-from_recursion HasStep storage.dims (boxed_steps storage.dims kept.boxed) in
        let few : tuple_count storage.dims ≤ 4194304 =
        subst (λ n. n ≤ 4194304) (length-tuple_count storage.dims steps) kept.limit.points in
        let less = all_count hs storage.dims boxed over in
        of_dims region.rank hs boxed
        (all_limit hs storage.dims boxed over
        (recursion_from_All IsDimWithinLimit storage.dims kept.limit.dims))
        (omega (arith, few, less))

-- ---- the home box lies in the storage

in_box : (lo hi low high : ℤ) → lo ≤ℤ hi → low ≤ℤ lo → hi ≤ℤ high →
    is_dim_in_box low high (all_from lo hi) ≡ true
in_box lo hi low high order below above =
    by (coordinate_count (all_from lo hi) == 0)
    (and_from (int_le low (first_of (all_from lo hi))) (int_le (last_of (all_from lo hi)) high)
    (test_from_le low (first_of (all_from lo hi)) (omega (arith, ints, first-all_from lo hi)))
    (test_from_le (last_of (all_from lo hi)) high
    (omega (arith, ints, last-all_from lo hi order))))
  where
    by : (b : Bool) → int_le low (first_of (all_from lo hi))
        && int_le (last_of (all_from lo hi)) high ≡ true →
        b || (int_le low (first_of (all_from lo hi))
        && int_le (last_of (all_from lo hi)) high) ≡ true
    by true holds = refl
    by false holds = holds

over_lies : (d e : Dim) → Over (dim_hull d) e → dim_lies_in (dim_hull d) e ≡ true
over_lies (dim.Range lo hi step align) (dim.Range low high by at) is =
    in_box (first_of (dim.Range lo hi step align)) (last_of (dim.Range lo hi step align)) low high
    is.0 is.1 is.2
over_lies (dim.Range lo hi step align) dim.Flood is = absurd is
over_lies dim.Flood (dim.Range low high by at) is = absurd is
over_lies dim.Flood dim.Flood is = refl

all_lie : (ds es : List Dim) → AllOver (map dim_hull ds) es →
    each_lies_in (map dim_hull ds) es ≡ true
all_lie [] es are = refl
all_lie (d ∷ ds) [] are = refl
all_lie (d ∷ ds) (e ∷ es) are =
    and_from (dim_lies_in (dim_hull d) e) (each_lies_in (map dim_hull ds) es)
    (over_lies d e are.0) (all_lie ds es are.1)

-- where there is no tuple, there is none in the hull
emptied_none : (rank : ℕ) (dims : List Dim) → tuple_count dims ≡ 0 →
    tuple_count (emptied rank dims) ≡ 0
emptied_none zero dims none = none
emptied_none (suc rank) [] none = none
emptied_none (suc rank) (dim.Range lo hi step align ∷ dims) none =
    no_product (tuple_count (emptied rank dims))
  where
    no_product : (n : ℕ) → coordinate_count (all_from (pos 1) (pos 0)) * n ≡ 0
    no_product n = omega arith
emptied_none (suc rank) (dim.Flood ∷ dims) none =
    one_product (tuple_count (emptied rank dims))
    (emptied_none rank dims (omega (arith, none)))
  where
    one_product : (n : ℕ) → n ≡ 0 → coordinate_count dim.Flood * n ≡ 0
    one_product n e = omega (arith, e)

-- flood dimensions of the hull are the region's own
hulls_own : (shape : Shape) (dims : List Dim) → AreFloods shape (map dim_hull dims) →
    AreFloods shape dims
hulls_own [] dims are = tt
hulls_own (flood ∷ shape) [] are = absurd are
hulls_own (flood ∷ shape) (dim.Range lo hi step align ∷ dims) are =
    (are.0, hulls_own shape dims are.1)
hulls_own (flood ∷ shape) (dim.Flood ∷ dims) are = (are.0, hulls_own shape dims are.1)

emptied_own : (shape : Shape) (rank : ℕ) (dims : List Dim) → AreFloods shape (emptied rank dims) →
    AreFloods shape dims
emptied_own shape zero dims are = are
emptied_own [] (suc rank) dims are = tt
emptied_own (flood ∷ shape) (suc rank) [] are = absurd are
emptied_own (flood ∷ shape) (suc rank) (dim.Range lo hi step align ∷ dims) are =
    (are.0, emptied_own shape rank dims are.1)
emptied_own (flood ∷ shape) (suc rank) (dim.Flood ∷ dims) are =
    (are.0, emptied_own shape rank dims are.1)

hull_own : (shape : Shape) (region : Region) → AreFloods shape (hull region).dims →
    AreFloods shape region.dims
hull_own shape region = by (has_none region)
  where
    by : (b : Bool) → AreFloods shape
        (cond b (emptied region.rank region.dims) (map dim_hull region.dims)) →
        AreFloods shape region.dims
    by true are = emptied_own shape region.rank region.dims are
    by false are = hulls_own shape region.dims are

pub home_lies : (known : Known) (borders : List Border) (inner : Inner)
    (region storage : Region) → IsBox region.rank region →
    inner_of known inner ≡ Gives region → storage_of known borders inner ≡ Gives storage →
    lies_in (hull region) storage ≡ true
home_lies known borders inner region storage box is given = by (has_none region) refl
  where
    by : (b : Bool) → has_none region ≡ b →
        lies_in (record {
          rank = region.rank;
          dims = cond b (emptied region.rank region.dims) (map dim_hull region.dims);
        }) storage ≡ true
    by true none =
        ap (λ b. b || each_lies_in (emptied region.rank region.dims) storage.dims)
        (eq-eqb (tuple_count (emptied region.rank region.dims)) 0
        (emptied_none region.rank region.dims (eqb-true (tuple_count region.dims) 0 none)))
    by false some =
        or_right (tuple_count (map dim_hull region.dims) == 0)
        (all_lie region.dims storage.dims
        (storage_around known borders inner region storage box.steps is given some))
      where
        or_right : (b : Bool) {c : Bool} → c ≡ true → b || c ≡ true
        or_right true e = refl
        or_right false e = e

-- all that is asked of a home box beside its storage
pub home_in : (known : Known) (borders : List Border) (inner : Inner) (region storage : Region) →
    IsBox region.rank region → inner_of known inner ≡ Gives region →
    storage_of known borders inner ≡ Gives storage → IsStorage (hull region) →
    IsHomeIn storage (hull region)
home_in known borders inner region storage box is given kept = record {
  kept = kept;
  floods = λ shape are.
      (storage_like known borders inner region storage is given).2 shape
      (hull_own shape region are);
  lies = home_lies known borders inner region storage box is given;
}
