-- A storage has the rank and the flood dimensions of its array's region.
use Rattle.std.proofs.Common.{◌≡◌, ℕ, zero, suc, Bool, true, false, cond, ℤ, List, [], ◌∷◌, map, take, refl, sym, subst}
use Rattle.std.specs.Prelude.{pos, int_lt}
use Rattle.zpl_region.specs.declared.dims.Dim.{Dim}
use Rattle.zpl_region.specs.declared.dims.Dim.TheVariants as dim
use Rattle.zpl_region.specs.declared.regions.Region.{Region}
use Rattle.zpl_region.specs.Dim.{dim_outside_of}
use Rattle.zpl_region.specs.Region.{components, each, outside_of}
use Rattle.zpl_region.specs.Ends.{has_none}
use Rattle.zpl_region.specs.Hull.{dim_hull, emptied, hull, each_hull_with, hull_with}
use Rattle.zpl_region.specs.Tests.{is_within_limit}
use Rattle.meaning_ranks.specs.of_zpl_tree.Syntax.{Inner}
use Rattle.meaning_ranks.specs.of_zpl_names.Kinds.{Shape}
use Rattle.meaning_ranks.specs.of_zpl_binding.Outcome.{RegionLimit, Outcome, Gives, Fails, and_then, outcome_of}
use Rattle.meaning_ranks.specs.of_zpl_binding.Vectors.{three_components}
use Rattle.meaning_ranks.specs.of_zpl_binding.Regions.{Known, limited, inner_of}
use Rattle.meaning_ranks.specs.of_zpl_binding.Storages.{Border, widened, shape_borders, storage_of}
use Rattle.meaning_ranks.specs.Shaped.{AreFloods}
use Rattle.lowering_fits.specs.Slates.{AllRanges}

-- ---- dimensions

hulls_range : (n : ℕ) (dims : List Dim) → AllRanges (take n dims) →
    AllRanges (take n (map dim_hull dims))
hulls_range zero dims are = tt
hulls_range (suc n) [] are = tt
hulls_range (suc n) (dim.Range lo hi step align ∷ dims) are = hulls_range n dims are
hulls_range (suc n) (dim.Flood ∷ dims) are = absurd are

emptied_range : (n rank : ℕ) (dims : List Dim) → AllRanges (take n dims) →
    AllRanges (take n (emptied rank dims))
emptied_range n zero dims are = are
emptied_range zero (suc rank) dims are = tt
emptied_range (suc n) (suc rank) [] are = tt
emptied_range (suc n) (suc rank) (dim.Range lo hi step align ∷ dims) are =
    emptied_range n rank dims are
emptied_range (suc n) (suc rank) (dim.Flood ∷ dims) are = absurd are

pairs_range : (n : ℕ) (ds es : List Dim) → AllRanges (take n ds) → AllRanges (take n es) →
    AllRanges (take n (each_hull_with ds es))
pairs_range zero ds es are others = tt
pairs_range (suc n) [] es are others = tt
pairs_range (suc n) (d ∷ ds) [] are others = tt
pairs_range (suc n) (dim.Flood ∷ ds) (e ∷ es) are others = absurd are
pairs_range (suc n) (dim.Range lo hi step align ∷ ds) (dim.Flood ∷ es) are others = absurd others
pairs_range (suc n) (dim.Range lo hi step align ∷ ds) (dim.Range low high by at ∷ es) are others =
    pairs_range n ds es are others

outside_range : (n : ℕ) (v : List ℤ) (dims : List Dim) → AllRanges (take n dims) →
    AllRanges (take n (each dim_outside_of v dims))
outside_range n [] dims are = are
outside_range zero (d ∷ v) dims are = tt
outside_range (suc n) (d ∷ v) [] are = tt
outside_range (suc n) (d ∷ v) (dim.Flood ∷ dims) are = absurd are
outside_range (suc n) (d ∷ v) (dim.Range lo hi step align ∷ dims) are =
    by (int_lt (pos 0) d) (int_lt d (pos 0)) _ _ _ _ (outside_range n v dims are)
  where
    by : (a b : Bool) (low high lower higher : ℤ) →
        AllRanges (take n (each dim_outside_of v dims)) →
        AllRanges (cond a (dim.Range low high step align)
        (cond b (dim.Range lower higher step align) (dim.Range lo hi step align))
        ∷ take n (each dim_outside_of v dims))
    by true b low high lower higher rest = rest
    by false true low high lower higher rest = rest
    by false false low high lower higher rest = rest

-- ---- flood dimensions

hulls_flood : (shape : Shape) (dims : List Dim) → AreFloods shape dims →
    AreFloods shape (map dim_hull dims)
hulls_flood [] dims are = tt
hulls_flood (flood ∷ shape) [] are = absurd are
hulls_flood (flood ∷ shape) (dim.Range lo hi step align ∷ dims) are =
    (are.0, hulls_flood shape dims are.1)
hulls_flood (flood ∷ shape) (dim.Flood ∷ dims) are = (are.0, hulls_flood shape dims are.1)

emptied_flood : (shape : Shape) (rank : ℕ) (dims : List Dim) → AreFloods shape dims →
    AreFloods shape (emptied rank dims)
emptied_flood shape zero dims are = are
emptied_flood [] (suc rank) dims are = tt
emptied_flood (flood ∷ shape) (suc rank) [] are = absurd are
emptied_flood (flood ∷ shape) (suc rank) (dim.Range lo hi step align ∷ dims) are =
    (are.0, emptied_flood shape rank dims are.1)
emptied_flood (flood ∷ shape) (suc rank) (dim.Flood ∷ dims) are =
    (are.0, emptied_flood shape rank dims are.1)

pairs_flood : (shape : Shape) (ds es : List Dim) → AreFloods shape ds → AreFloods shape es →
    AreFloods shape (each_hull_with ds es)
pairs_flood [] ds es are others = tt
pairs_flood (flood ∷ shape) [] es are others = absurd are
pairs_flood (flood ∷ shape) (d ∷ ds) [] are others = absurd others
pairs_flood (flood ∷ shape) (dim.Flood ∷ ds) (e ∷ es) are others =
    (are.0, pairs_flood shape ds es are.1 others.1)
pairs_flood (flood ∷ shape) (dim.Range lo hi step align ∷ ds) (dim.Flood ∷ es) are others =
    (others.0, pairs_flood shape ds es are.1 others.1)
pairs_flood (flood ∷ shape) (dim.Range lo hi step align ∷ ds) (dim.Range low high by at ∷ es) are
    others = (are.0, pairs_flood shape ds es are.1 others.1)

outside_flood : (shape : Shape) (v : List ℤ) (dims : List Dim) → AreFloods shape dims →
    AreFloods shape (each dim_outside_of v dims)
outside_flood shape [] dims are = are
outside_flood [] (d ∷ v) dims are = tt
outside_flood (flood ∷ shape) (d ∷ v) [] are = absurd are
outside_flood (flood ∷ shape) (d ∷ v) (dim.Flood ∷ dims) are =
    (are.0, outside_flood shape v dims are.1)
outside_flood (flood ∷ shape) (d ∷ v) (dim.Range lo hi step align ∷ dims) are =
    by (int_lt (pos 0) d) (int_lt d (pos 0)) _ _ _ _ are.0 (outside_flood shape v dims are.1)
  where
    by : (a b : Bool) (low high lower higher : ℤ) → false ≡ flood →
        AreFloods shape (each dim_outside_of v dims) →
        AreFloods (flood ∷ shape) (cond a (dim.Range low high step align)
        (cond b (dim.Range lower higher step align) (dim.Range lo hi step align))
        ∷ each dim_outside_of v dims)
    by true b low high lower higher first rest = (first, rest)
    by false true low high lower higher first rest = (first, rest)
    by false false low high lower higher first rest = (first, rest)

-- ---- hulls

-- of the rank, with ranges alone where a condition holds, and with the flood dimensions of a shape
-- where another does
record IsOver (rank : ℕ) (Base : Type 0) (Floods : Shape → Type 0) (region : Region) : Type 0 where
  same : region.rank ≡ rank
  ranges : Base → AllRanges (take rank region.dims)
  floods : (shape : Shape) → Floods shape → AreFloods shape region.dims

hull_over : (rank : ℕ) (Base : Type 0) (Floods : Shape → Type 0) (region : Region) → IsOver rank Base Floods region →
    IsOver rank Base Floods (hull region)
hull_over rank Base Floods region is = record {
  same = is.same;
  ranges = λ base. by (has_none region) (is.ranges base);
  floods = λ shape holds. either (has_none region) shape (is.floods shape holds);
}
  where
    either : (b : Bool) (shape : Shape) → AreFloods shape region.dims → AreFloods shape
        (cond b (emptied region.rank region.dims) (map dim_hull region.dims))
    either true shape are = emptied_flood shape region.rank region.dims are
    either false shape are = hulls_flood shape region.dims are

    by : (b : Bool) → AllRanges (take rank region.dims) →
        AllRanges (take rank (cond b (emptied region.rank region.dims) (map dim_hull region.dims)))
    by true are = emptied_range rank region.rank region.dims are
    by false are = hulls_range rank region.dims are

hull_with_over : (rank : ℕ) (Base : Type 0) (Floods : Shape → Type 0) (one other : Region) → IsOver rank Base Floods one →
    IsOver rank Base Floods other → IsOver rank Base Floods (hull_with one other)
hull_with_over rank Base Floods one other is are = by (has_none other) (has_none one)
  where
    by : (b c : Bool) → IsOver rank Base Floods (cond b (hull one) (cond c (hull other)
        (record { rank = one.rank; dims = each_hull_with one.dims other.dims })))
    by true c = hull_over rank Base Floods one is
    by false true = hull_over rank Base Floods other are
    by false false = record {
      same = is.same;
      ranges = λ base. pairs_range rank one.dims other.dims (is.ranges base) (are.ranges base);
      floods = λ shape holds. pairs_flood shape one.dims other.dims (is.floods shape holds)
          (are.floods shape holds);
    }

outside_over : (rank : ℕ) (Base : Type 0) (Floods : Shape → Type 0) (v : List ℤ) (region : Region) →
    IsOver rank Base Floods region → IsOver rank Base Floods (outside_of v region)
outside_over rank Base Floods v region is = record {
  same = is.same;
  ranges = λ base. outside_range rank (components region.rank v) region.dims (is.ranges base);
  floods = λ shape holds. outside_flood shape (components region.rank v) region.dims
      (is.floods shape holds);
}

abbrev OverOf : ℕ → Type 0 → (Shape → Type 0) → Outcome Region → Type 0
OverOf rank Base Floods (Gives region) = IsOver rank Base Floods region
OverOf rank Base Floods (Fails fault) = Unit {0}

widened_over : (rank : ℕ) (Base : Type 0) (Floods : Shape → Type 0) (known : Known) (region storage : Region)
    (borders : List Border) → IsOver rank Base Floods region → IsOver rank Base Floods storage →
    OverOf rank Base Floods (widened known region storage borders)
widened_over rank Base Floods known region storage [] is over = over
widened_over rank Base Floods known region storage (border ∷ rest) is over =
    by (outcome_of (three_components []) known.directions border.direction.text)
    (λ v. widened_over rank Base Floods known region (hull_with storage (outside_of v region)) rest is
    (hull_with_over rank Base Floods storage (outside_of v region) over
    (outside_over rank Base Floods v region is)))
  where
    by : (vector : Outcome (List ℤ)) →
        ((v : List ℤ) →
        OverOf rank Base Floods (widened known region (hull_with storage (outside_of v region)) rest)) →
        OverOf rank Base Floods (and_then vector (λ v.
        widened known region (hull_with storage (outside_of v region)) rest))
    by (Gives v) later = later v
    by (Fails fault) later = tt

limited_over : (rank : ℕ) (Base : Type 0) (Floods : Shape → Type 0) (outcome : Outcome Region) → OverOf rank Base Floods outcome →
    OverOf rank Base Floods (and_then outcome limited)
limited_over rank Base Floods (Fails fault) is = tt
limited_over rank Base Floods (Gives region) is = by (is_within_limit region)
  where
    by : (b : Bool) → OverOf rank Base Floods (cond b (Gives region) (Fails RegionLimit))
    by true = is
    by false = tt

-- what is computed of the region that it is declared over
abbrev HasOver : Outcome Region → Outcome Region → Type 0
HasOver (Gives region) storage =
    OverOf region.rank (AllRanges (take region.rank region.dims))
    (λ shape. AreFloods shape region.dims) storage
HasOver (Fails fault) storage = Unit {0}

storage_over : (known : Known) (borders : List Border) (inner : Inner) →
    HasOver (inner_of known inner) (storage_of known borders inner)
storage_over known borders inner = by (inner_of known inner)
  where
    by : (outcome : Outcome Region) → HasOver outcome (and_then outcome (λ region.
        and_then (widened known region (hull region) (shape_borders known borders inner)) limited))
    by (Fails fault) = tt
    by (Gives region) =
        let base = AllRanges (take region.rank region.dims) in
        let floods : Shape → Type 0 = λ shape. AreFloods shape region.dims in
        let start : IsOver region.rank base floods region =
        record { same = refl; ranges = λ are. are; floods = λ shape are. are } in
        limited_over region.rank base floods
        (widened known region (hull region) (shape_borders known borders inner))
        (widened_over region.rank base floods known region (hull region)
        (shape_borders known borders inner) start (hull_over region.rank base floods region start))

pub storage_like : (known : Known) (borders : List Border) (inner : Inner)
    (region storage : Region) → inner_of known inner ≡ Gives region →
    storage_of known borders inner ≡ Gives storage →
    (storage.rank ≡ region.rank)
    × (AllRanges (take region.rank region.dims) → AllRanges (take storage.rank storage.dims))
    × ((shape : Shape) → AreFloods shape region.dims → AreFloods shape storage.dims)
storage_like known borders inner region storage is given =
    by (subst (λ outcome. HasOver outcome (Gives storage)) is
    (subst (HasOver (inner_of known inner)) given (storage_over known borders inner)))
  where
    by : HasOver (Gives region) (Gives storage) →
        (storage.rank ≡ region.rank)
        × (AllRanges (take region.rank region.dims) → AllRanges (take storage.rank storage.dims))
        × ((shape : Shape) → AreFloods shape region.dims → AreFloods shape storage.dims)
    by over = (
      over.same,
      (λ are. subst (λ n. AllRanges (take n storage.dims)) (sym over.same) (over.ranges are)),
      over.floods,
    )
