-- Regions whose flood dimensions are known before the run: those that are made of dimensions, and
-- what forms make of them.
use Rattle.std.proofs.Common.{◌≡◌, refl, sym, ◌∙◌, ap, arith, ℕ, zero, suc, ◌≤◌}
use Rattle.std.proofs.Common.{Bool, true, false, cond, ℤ, pos, List, [], ◌∷◌, length, map, take}
use Rattle.std.specs.Prelude.{All, int_lt}
use Rattle.std.specs.List.{AllByRecursion}
use Rattle.std.proofs.lemmas.List.{length-map}
use Rattle.std.proofs.lemmas.List.Elements.{All-cons, All-head, All-nil, All-tail, All-from_recursion, recursion_from_All}
use Rattle.zpl_region.specs.declared.dims.Dim.{Dim}
use Rattle.zpl_region.specs.declared.dims.Dim.TheVariants.{Range, Flood}
use Rattle.zpl_region.specs.declared.regions.Region.{Region}
use Rattle.zpl_region.specs.Dim.{HasStep, IsDim, IsDimWithinLimit, dim_outside_of, dim_inside_of, dim_moved, dim_strided}
use Rattle.zpl_region.specs.Region.{IsRegion, components, each, formed}
use Rattle.zpl_region.specs.Tests.{is_within_limit}
use Rattle.zpl_region.proofs.HullLemmas.{has_steps}
use Rattle.zpl_region.proofs.RegionLemmas.{within_is_dim}
use Rattle.zpl_region.proofs.TestLemmas.{is_within_limit_iff}
use Rattle.zpl_binding.specs.Regions.{dims_of, region_over}
use Rattle.zpl_binding.proofs.KeptLemmas.{Formed, formed-kept}
use Rattle.node_form.specs.Control.{formed_by}
use Rattle.node_form.specs.declared.instructions.RegionForm.{RegionForm}
use Rattle.node_form.specs.declared.instructions.RegionForm.TheVariants as form
use Rattle.array_runs.specs.of_zpl_lowering.Where.{is_flood, flood_of}
use Rattle.prefix_runs.specs.Opens.{IsOpenedAs}

-- ---- within the limit

all_dims : (dims : List Dim) → All HasStep dims → All IsDimWithinLimit dims → All IsDim dims
all_dims [] steps within = All-nil IsDim
all_dims (one ∷ dims) steps within =
    All-cons IsDim one dims
    (within_is_dim one (All-head HasStep one dims steps)
    (All-head IsDimWithinLimit one dims within))
    (all_dims dims (All-tail HasStep one dims steps) (All-tail IsDimWithinLimit one dims within))

pub is_region : (region : Region) → 1 ≤ region.rank → region.rank ≤ 3 → Formed region
    → is_within_limit region ≡ true → IsRegion region
is_region region above below formed within =
    let steps : All HasStep region.dims = All-from_recursion HasStep region.dims formed.0 in
    record {
      rank_above = above;
      rank_below = below;
      dims = all_dims region.dims steps ((is_within_limit_iff region steps).0 within).dims;
      padded = formed.1;
    }

pub formed_of : (region : Region) → IsRegion region → Formed region
formed_of region is =
    (recursion_from_All HasStep region.dims (has_steps region.dims is.dims), is.padded)

-- ---- ranks

taken_length : (n : ℕ) (dims : List Dim) → n ≤ length dims → length (take n dims) ≡ n
taken_length zero dims le = refl
taken_length (suc n) [] le = absurd (omega (arith, le))
taken_length (suc n) (one ∷ dims) le = ap suc (taken_length n dims (omega (arith, le)))

pub flood_length : (region : Region) → IsRegion region → length region.dims ≡ 3
    → region.rank ≡ length (flood_of region)
flood_length region is three =
    sym (length-map (take region.rank region.dims) is_flood
    ∙ taken_length region.rank region.dims (omega (arith, is.rank_below, three)))

pub opened_itself : (region : Region) → IsRegion region → length region.dims ≡ 3
    → IsOpenedAs (flood_of region) region
opened_itself region is three = record {
  is = is;
  three = three;
  ranked = flood_length region is three;
  flood_is = refl;
}

-- ---- of dimensions

over_three : (n : ℕ) (dims : List Dim) → length (dims_of n dims) ≡ n
over_three zero dims = refl
over_three (suc n) [] = ap suc (over_three n [])
over_three (suc n) (one ∷ dims) = ap suc (over_three n dims)

pub over_front : (n : ℕ) (dims : List Dim) → length dims ≤ n → take (length dims) (dims_of n dims) ≡ dims
over_front n [] le = refl
over_front zero (one ∷ dims) le = absurd (omega (arith, le))
over_front (suc n) (one ∷ dims) le = ap (λ xs. one ∷ xs) (over_front n dims (omega (arith, le)))

pub over_opened : (flood : List Bool) (dims : List Dim) → map is_flood dims ≡ flood
    → AllByRecursion HasStep dims → 1 ≤ length dims → length dims ≤ 3
    → is_within_limit (region_over dims) ≡ true → IsOpenedAs flood (region_over dims)
over_opened flood dims are steps above below within = record {
  is = is_region (region_over dims) above below (formed-kept.over dims steps) within;
  three = over_three 3 dims;
  ranked = sym (ap (λ (bs : List Bool). length bs) (sym are) ∙ length-map dims is_flood);
  flood_is = ap (map is_flood) (over_front 3 dims below) ∙ are;
}

-- ---- forms

abbrev pub Keeps : (ℤ → Dim → Dim) → Type 0
Keeps change = (d : ℤ) (dim : Dim) → is_flood (change d dim) ≡ is_flood dim

chosen_range : (a b : Bool) (one two three : Dim) → is_flood one ≡ false → is_flood two ≡ false
    → is_flood three ≡ false → is_flood (cond a one (cond b two three)) ≡ false
chosen_range true b one two three h k j = h
chosen_range false true one two three h k j = k
chosen_range false false one two three h k j = j

pub outside_keeps : Keeps dim_outside_of
outside_keeps d Flood = refl
outside_keeps d (Range lo hi step align) =
    chosen_range (int_lt (pos 0) d) (int_lt d (pos 0)) _ _ _ refl refl refl

pub inside_keeps : Keeps dim_inside_of
inside_keeps d Flood = refl
inside_keeps d (Range lo hi step align) =
    chosen_range (int_lt (pos 0) d) (int_lt d (pos 0)) _ _ _ refl refl refl

strided_keeps : Keeps dim_strided
strided_keeps d Flood = refl
strided_keeps d (Range lo hi step align) =
    chosen_range (int_lt (pos 0) d) (int_lt d (pos 0)) _ _ _ refl refl refl

moved_keeps : Keeps dim_moved
moved_keeps d Flood = refl
moved_keeps d (Range lo hi step align) = refl

pub each_length : (change : ℤ → Dim → Dim) (v : List ℤ) (dims : List Dim)
    → length (each change v dims) ≡ length dims
each_length change [] dims = refl
each_length change (d ∷ v) [] = refl
each_length change (d ∷ v) (one ∷ dims) = ap suc (each_length change v dims)

each_flood : (change : ℤ → Dim → Dim) → Keeps change → (rank : ℕ) (v : List ℤ) (dims : List Dim)
    → map is_flood (take rank (each change v dims)) ≡ map is_flood (take rank dims)
each_flood change keeps zero v dims = refl
each_flood change keeps (suc rank) [] dims = refl
each_flood change keeps (suc rank) (d ∷ v) [] = refl
each_flood change keeps (suc rank) (d ∷ v) (one ∷ dims) =
    ap (λ b. b ∷ map is_flood (take rank (each change v dims))) (keeps d one)
    ∙ ap (λ bs. is_flood one ∷ bs) (each_flood change keeps rank v dims)

by_form : (flood : List Bool) (change : ℤ → Dim → Dim) → Keeps change → (d : List ℤ)
    (region : Region) → Formed (formed change d region)
    → is_within_limit (formed change d region) ≡ true → IsOpenedAs flood region
    → IsOpenedAs flood (formed change d region)
by_form flood change keeps d region are within h = record {
  is = is_region (formed change d region) h.is.rank_above h.is.rank_below are within;
  three = each_length change (components region.rank d) region.dims ∙ h.three;
  ranked = h.ranked;
  flood_is = each_flood change keeps region.rank (components region.rank d) region.dims ∙ h.flood_is;
}

pub form_opened : (flood : List Bool) (one : RegionForm) (d : List ℤ) (region : Region)
    → is_within_limit (formed_by one d region) ≡ true → IsOpenedAs flood region
    → IsOpenedAs flood (formed_by one d region)
form_opened flood form.Of d region within h =
    by_form flood dim_outside_of outside_keeps d region
    (formed-kept.outside d region (formed_of region h.is)) within h
form_opened flood form.Inside d region within h =
    by_form flood dim_inside_of inside_keeps d region
    (formed-kept.inside d region (formed_of region h.is)) within h
form_opened flood form.At d region within h =
    by_form flood dim_moved moved_keeps d region
    (formed-kept.moves d region (formed_of region h.is)) within h
form_opened flood form.By d region within h =
    by_form flood dim_strided strided_keeps d region
    (formed-kept.strides d region (formed_of region h.is)) within h
