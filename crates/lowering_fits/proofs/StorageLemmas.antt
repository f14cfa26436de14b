-- Storages of declared arrays are boxes within the limit.
use Rattle.std.proofs.Common.{◌≡◌, ℕ, zero, suc, ◌-◌, Bool, true, false, if◌then◌else◌, ℤ, List, [], ◌∷◌, map, length, drop, refl, sym, ap, ◌∙◌, subst, arith}
use Rattle.std.specs.Prelude.{replicate, All, IsTrue}
use Rattle.std.proofs.lemmas.List.{length-map}
use Rattle.std.proofs.lemmas.List.Elements.{All-from_recursion}
use Rattle.zpl_region.specs.declared.dims.Dim.{Dim}
use Rattle.zpl_region.specs.declared.dims.Dim.TheVariants as dim
use Rattle.zpl_region.specs.declared.regions.Region.{Region}
use Rattle.zpl_region.specs.Dim.{HasStep}
use Rattle.zpl_region.specs.Region.{padding, outside_of, moved}
use Rattle.zpl_region.specs.Ends.{has_none}
use Rattle.zpl_region.specs.Hull.{IsBoxed, dim_hull, emptied, hull, dim_hull_with, each_hull_with, hull_with}
use Rattle.zpl_region.specs.Tests.{is_within_limit}
use Rattle.stored_shifts.specs.of_zpl_arrays.Around.{copy_shift, copy_storage}
use Rattle.meaning_ranks.specs.of_zpl_tree.Syntax.{Inner}
use Rattle.meaning_ranks.specs.of_zpl_binding.Outcome.{RegionLimit, Outcome, Gives, Fails, and_then, outcome_of}
use Rattle.meaning_ranks.specs.of_zpl_binding.Vectors.{three_components}
use Rattle.meaning_ranks.specs.of_zpl_binding.Regions.{Known, limited, inner_of}
use Rattle.meaning_ranks.specs.of_zpl_binding.Storages.{Border, widened, shape_borders, storage_of}
use Rattle.stored_shifts.specs.of_node_form.Fits.{IsRank}
use Rattle.lowering_fits.specs.Reach.{IsBox}
use Rattle.lowering_fits.specs.Storages.{AllBoxed, IsStorage}
use Rattle.lowering_fits.proofs.ArrayLemmas.{PadsFrom, pads}
use Rattle.lowering_fits.proofs.BracketLemmas.{LimitsAreTold, outside_box, moved_box}
use Rattle.lowering_fits.proofs.FrameLemmas.{boxed_steps}
use Rattle.lowering_fits.proofs.RegionLemmas.{AreGood, IsGoodRegion, inner_good}

-- ---- padding

all_pads : (dims : List Dim) → PadsFrom zero dims → dims ≡ replicate (length dims) padding
all_pads [] are = refl
all_pads (one ∷ dims) are = by are.0 (all_pads dims are.1)
  where
    by : one ≡ padding → dims ≡ replicate (length dims) padding →
        one ∷ dims ≡ padding ∷ replicate (length dims) padding
    by first rest = cc

pub padded_from : (n rank : ℕ) (dims : List Dim) → length dims ≡ n → PadsFrom rank dims →
    drop rank dims ≡ replicate (n - rank) padding
padded_from n zero dims same are =
    let less : length dims ≡ n - 0 = omega arith in
    all_pads dims are ∙ ap (λ k. replicate k padding) less
padded_from n (suc rank) [] same are =
    let less : 0 ≡ n - suc rank = omega arith in ap (λ k. replicate k padding) less
padded_from n (suc rank) (one ∷ dims) same are =
    let less : (n - 1) - rank ≡ n - suc rank = omega arith in
    padded_from (n - 1) rank dims (omega arith) are ∙ ap (λ k. replicate k padding) less

pad_boxed : (one : Dim) → one ≡ padding → IsBoxed one
pad_boxed one is = subst IsBoxed (sym is) (refl, refl)

-- ---- hulls

-- a region with three dimensions, padded past its rank
pub record IsThree (rank : ℕ) (region : Region) : Type 0 where
  pub three : length region.dims ≡ 3
  pub padded : PadsFrom rank region.dims
  pub same : region.rank ≡ rank

pub record IsHull (rank : ℕ) (region : Region) : Type 0 where
  pub boxed : AllBoxed region.dims
  pub is_three : IsThree rank region

hull_pad : dim_hull padding ≡ padding
hull_pad = refl

pair_pad : dim_hull_with padding padding ≡ padding
pair_pad = refl

pub hulls_boxed : (dims : List Dim) → AllBoxed (map dim_hull dims)
hulls_boxed [] = tt
hulls_boxed (dim.Range lo hi step align ∷ dims) = ((refl, refl), hulls_boxed dims)
hulls_boxed (dim.Flood ∷ dims) = (tt, hulls_boxed dims)

hulls_padded : (rank : ℕ) (dims : List Dim) → PadsFrom rank dims →
    PadsFrom rank (map dim_hull dims)
hulls_padded rank [] are = tt
hulls_padded zero (one ∷ dims) are =
    (ap dim_hull are.0 ∙ hull_pad, hulls_padded zero dims are.1)
hulls_padded (suc rank) (one ∷ dims) are = hulls_padded rank dims are

all_boxed : (dims : List Dim) → PadsFrom zero dims → AllBoxed dims
all_boxed [] are = tt
all_boxed (one ∷ dims) are = (pad_boxed one are.0, all_boxed dims are.1)

pub emptied_boxed : (rank : ℕ) (dims : List Dim) → PadsFrom rank dims → AllBoxed (emptied rank dims)
emptied_boxed zero dims are = all_boxed dims are
emptied_boxed (suc rank) [] are = tt
emptied_boxed (suc rank) (dim.Range lo hi step align ∷ dims) are =
    ((refl, refl), emptied_boxed rank dims are)
emptied_boxed (suc rank) (dim.Flood ∷ dims) are = (tt, emptied_boxed rank dims are)

emptied_padded : (rank : ℕ) (dims : List Dim) → PadsFrom rank dims →
    PadsFrom rank (emptied rank dims)
emptied_padded zero dims are = are
emptied_padded (suc rank) [] are = tt
emptied_padded (suc rank) (one ∷ dims) are = emptied_padded rank dims are

emptied_count : (rank : ℕ) (dims : List Dim) → length (emptied rank dims) ≡ length dims
emptied_count zero dims = refl
emptied_count (suc rank) [] = refl
emptied_count (suc rank) (one ∷ dims) = ap suc (emptied_count rank dims)

pub hull_is : (rank : ℕ) (region : Region) → IsThree rank region → IsHull rank (hull region)
hull_is rank region is =
    by (has_none region) (subst (λ n. PadsFrom n region.dims) (sym is.same) is.padded)
  where
    by : (b : Bool) → PadsFrom region.rank region.dims →
        IsHull rank (record {
          rank = region.rank;
          dims = if b then emptied region.rank region.dims else map dim_hull region.dims;
        })
    by true padded = record {
      boxed = emptied_boxed region.rank region.dims padded;
      is_three = record {
        three = emptied_count region.rank region.dims ∙ is.three;
        padded = subst (λ n. PadsFrom n (emptied region.rank region.dims)) is.same
            (emptied_padded region.rank region.dims padded);
        same = is.same;
      };
    }
    by false padded = record {
      boxed = hulls_boxed region.dims;
      is_three = record {
        three = length-map region.dims dim_hull ∙ is.three;
        padded = hulls_padded rank region.dims is.padded;
        same = is.same;
      };
    }

pairs_boxed : (ds es : List Dim) → AllBoxed (each_hull_with ds es)
pairs_boxed [] es = tt
pairs_boxed (d ∷ ds) [] = tt
pairs_boxed (dim.Flood ∷ ds) (e ∷ es) = (tt, pairs_boxed ds es)
pairs_boxed (dim.Range lo hi step align ∷ ds) (dim.Flood ∷ es) = (tt, pairs_boxed ds es)
pairs_boxed (dim.Range lo hi step align ∷ ds) (dim.Range low high by at ∷ es) =
    ((refl, refl), pairs_boxed ds es)

pairs_padded : (rank : ℕ) (ds es : List Dim) → PadsFrom rank ds → PadsFrom rank es →
    PadsFrom rank (each_hull_with ds es)
pairs_padded rank [] es one other = tt
pairs_padded rank (d ∷ ds) [] one other = tt
pairs_padded zero (d ∷ ds) (e ∷ es) one other = (
  ap (λ a. dim_hull_with a e) one.0 ∙ (ap (dim_hull_with padding) other.0 ∙ pair_pad),
  pairs_padded zero ds es one.1 other.1,
)
pairs_padded (suc rank) (d ∷ ds) (e ∷ es) one other = pairs_padded rank ds es one other

pairs_count : (ds es : List Dim) → length ds ≡ length es →
    length (each_hull_with ds es) ≡ length ds
pairs_count [] es same = refl
pairs_count (d ∷ ds) [] same = sym same
pairs_count (d ∷ ds) (e ∷ es) same = ap suc (pairs_count ds es (omega arith))

pub hull_with_is : (rank : ℕ) (one other : Region) → IsThree rank one → IsThree rank other →
    IsHull rank (hull_with one other)
hull_with_is rank one other is are = by (has_none other) (has_none one)
  where
    by : (b c : Bool) →
        IsHull rank (if b then hull one else if c then hull other
        else record { rank = one.rank; dims = each_hull_with one.dims other.dims })
    by true c = hull_is rank one is
    by false true = hull_is rank other are
    by false false = record {
      boxed = pairs_boxed one.dims other.dims;
      is_three = record {
        three = pairs_count one.dims other.dims (is.three ∙ sym are.three) ∙ is.three;
        padded = pairs_padded rank one.dims other.dims is.padded are.padded;
        same = is.same;
      };
    }

pub three_of : (rank : ℕ) (region : Region) → IsBox rank region → IsThree rank region
three_of rank region is = record {
  three = is.three;
  padded = subst (λ n. PadsFrom n region.dims) is.same
      (pads (3 - region.rank) region.rank region.dims is.padded);
  same = is.same;
}

-- ---- storages

abbrev HullOf : ℕ → Outcome Region → Type 0
HullOf rank (Gives region) = IsHull rank region
HullOf rank (Fails fault) = Unit {0}

widened_is : (known : Known) (rank : ℕ) (region storage : Region) (borders : List Border) →
    IsBox rank region → IsHull rank storage →
    HullOf rank (widened known region storage borders)
widened_is known rank region storage [] is hulls = hulls
widened_is known rank region storage (border ∷ rest) is hulls =
    by (outcome_of (three_components []) known.directions border.direction.text)
    (λ v. widened_is known rank region (hull_with storage (outside_of v region)) rest is
    (hull_with_is rank storage (outside_of v region) hulls.is_three
    (three_of rank (outside_of v region) (outside_box rank v region is))))
  where
    by : (vector : Outcome (List ℤ)) →
        ((v : List ℤ) →
        HullOf rank (widened known region (hull_with storage (outside_of v region)) rest)) →
        HullOf rank (and_then vector (λ v.
        widened known region (hull_with storage (outside_of v region)) rest))
    by (Gives v) later = later v
    by (Fails fault) later = tt

-- what is given is a box within the limit
abbrev IsKeptBox : Outcome Region → Type 0
IsKeptBox (Gives storage) = IsHull storage.rank storage × IsTrue (is_within_limit storage)
IsKeptBox (Fails fault) = Unit {0}

limited_kept : (rank : ℕ) (storage : Region) → IsHull rank storage → IsKeptBox (limited storage)
limited_kept rank storage is = by (is_within_limit storage) (λ yes. yes)
  where
    by : (b : Bool) → (IsTrue b → IsTrue (is_within_limit storage)) →
        IsKeptBox (if b then Gives storage else Fails RegionLimit)
    by true told = (subst (λ n. IsHull n storage) (sym is.is_three.same) is, told refl)
    by false told = tt

storage_kept : (known : Known) (borders : List Border) (inner : Inner) → AreGood known.regions →
    IsKeptBox (storage_of known borders inner)
storage_kept known borders inner are = by (inner_of known inner) (inner_good known inner are)
  where
    limits : (rank : ℕ) (outcome : Outcome Region) → HullOf rank outcome →
        IsKeptBox (and_then outcome limited)
    limits rank (Gives storage) is = limited_kept rank storage is
    limits rank (Fails fault) is = tt

    by : (outcome : Outcome Region) → IsGoodRegion outcome →
        IsKeptBox (and_then outcome (λ region.
        and_then (widened known region (hull region) (shape_borders known borders inner)) limited))
    by (Gives region) good =
        limits region.rank (widened known region (hull region) (shape_borders known borders inner))
        (widened_is known region.rank region (hull region) (shape_borders known borders inner)
        good.0 (hull_is region.rank region (three_of region.rank region good.0)))
    by (Fails fault) good = tt

pub storage_is : LimitsAreTold → (known : Known) (borders : List Border) (inner : Inner) →
    AreGood known.regions → (storage : Region) → storage_of known borders inner ≡ Gives storage →
    IsRank storage.rank → IsStorage storage
storage_is limits known borders inner are storage is rank =
    by (subst IsKeptBox is (storage_kept known borders inner are))
  where
    by : IsKeptBox (Gives storage) → IsStorage storage
    by kept =
        let hulls = kept.0 in
        let steps : All HasStep storage.dims =
        All-from_recursion HasStep storage.dims (boxed_steps storage.dims hulls.boxed) in
        record {
          is_rank = rank;
          boxed = hulls.boxed;
          three = hulls.is_three.three;
          padded = padded_from 3 storage.rank storage.dims hulls.is_three.three
              hulls.is_three.padded;
          limit = (limits storage steps).0 kept.1;
        }

-- ---- copies

pub copy_is : LimitsAreTold → (rank : ℕ) (home : Region) (shift : List ℤ) → IsRank rank →
    IsBox rank home → IsTrue (is_within_limit (copy_storage home shift)) →
    IsStorage (copy_storage home shift)
copy_is limits rank home shift is box within =
    let storage : Region = copy_storage home shift in
    let moves : List ℤ = copy_shift home shift in
    let hulls : IsHull rank storage =
    hull_with_is rank home (moved moves home) (three_of rank home box)
    (three_of rank (moved moves home) (moved_box rank moves home box)) in
    let steps : All HasStep storage.dims =
    All-from_recursion HasStep storage.dims (boxed_steps storage.dims hulls.boxed) in
    let same : storage.rank ≡ rank = hulls.is_three.same in
    record {
      is_rank = subst IsRank (sym same) is;
      boxed = hulls.boxed;
      three = hulls.is_three.three;
      padded = padded_from 3 storage.rank storage.dims hulls.is_three.three
          (subst (λ n. PadsFrom n storage.dims) (sym same) hulls.is_three.padded);
      limit = (limits storage steps).0 within;
    }
