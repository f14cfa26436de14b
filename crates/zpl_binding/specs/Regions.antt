-- Regions that are declared. Each step of a region is tested at the limit of the language.
use Rattle.std.specs.Prelude.{ℕ, zero, suc, Bool, ℤ, pos, if◌then◌else◌, List, [], ◌∷◌, length}
use Rattle.std.specs.List.{list_any}
use Rattle.std.specs.Str.{bytes_eq}
use Rattle.zpl_arrays.specs.of_zpl_region.declared.dims.Dim.{Dim}
use Rattle.zpl_arrays.specs.of_zpl_region.declared.dims.Dim.TheVariants as dim
use Rattle.zpl_arrays.specs.of_zpl_region.declared.regions.Region.{Region}
use Rattle.zpl_arrays.specs.of_zpl_region.Region.{padding, outside_of, inside_of, moved, strided}
use Rattle.zpl_arrays.specs.of_zpl_region.Tests.{is_within_limit}
use Rattle.zpl_arrays.specs.of_zpl_region.Hull.{all_from}
use Rattle.zpl_tree.specs.Syntax.{Name, Pre, NamedRegion, Ditto, Inner, Rexpr, Dims, Posts, NoPost, ThenPost, DimText, Blank, Star, One, Span, DimTexts, NoDim, ThenDim, RegionDef}
use Rattle.zpl_binding.specs.Outcome.{RegionLimit, Outcome, Gives, Fails, and_then, Computed, outcome_of}
use Rattle.zpl_binding.specs.Constants.{value_of}
use Rattle.zpl_binding.specs.Vectors.{three_components, dir_of}

-- What has been computed: configs and constants, regions, and directions.
pub record Known : Type 0 where
  pub values : List (Computed ℤ)
  pub regions : List (Computed Region)
  pub directions : List (Computed (List ℤ))

-- ---- dimensions

-- A region has three dimensions. Those past its rank are `0..0`.
abbrev pub dims_of : ℕ → List Dim → List Dim
dims_of zero dims = []
dims_of (suc count) [] = padding ∷ dims_of count []
dims_of (suc count) (first ∷ rest) = first ∷ dims_of count rest

abbrev pub region_over : List Dim → Region
region_over dims = record { rank = length dims; dims = dims_of 3 dims }

-- the region, where it is within the limit
abbrev pub limited : Region → Outcome Region
limited region = if is_within_limit region then Gives region else Fails RegionLimit

-- no declaration of an accepted program has a blank; it counts as `1..0`
abbrev pub dim_of : Known → DimText → Outcome Dim
dim_of known (Blank at) = Gives (all_from (pos 1) (pos 0))
dim_of known (Star at) = Gives dim.Flood
dim_of known (One index) =
    and_then (value_of known.values index) (λ value. Gives (all_from value value))
dim_of known (Span low high) =
    and_then (value_of known.values low) (λ first.
    and_then (value_of known.values high) (λ last. Gives (all_from first last)))

abbrev pub each_dim_of : Known → DimTexts → Outcome (List Dim)
each_dim_of known NoDim = Gives []
each_dim_of known (ThenDim first rest) =
    and_then (dim_of known first) (λ dim.
    and_then (each_dim_of known rest) (λ dims. Gives (dim ∷ dims)))

-- all bounds are computed before the limit is tested
abbrev pub spanned : Known → DimTexts → Outcome Region
spanned known dims = and_then (each_dim_of known dims) (λ all. limited (region_over all))

-- ---- forms

-- what a form makes of a region, with its vector
abbrev pub formed_by : (List ℤ → Region → Region) → Outcome (List ℤ) → Outcome Region →
    Outcome Region
formed_by form vector region =
    and_then region (λ within. and_then vector (λ d. limited (form d within)))

-- `R at d` and `R by d`, one after the other
abbrev pub behind : Known → Outcome Region → Posts → Outcome Region
behind known region NoPost = region
behind known region (ThenPost stride dir rest) =
    let vector = dir_of known.values known.directions dir in
    behind known (formed_by (if stride then strided else moved) vector region) rest

-- `d of R` and `d in R`, the one directly before R first
abbrev pub before : Known → List Pre → Outcome Region → Outcome Region
before known [] region = region
before known (pre ∷ rest) region =
    let vector = outcome_of (three_components []) known.directions pre.dir.text in
    formed_by (if pre.outside then outside_of else inside_of) vector (before known rest region)

-- no accepted program names a region that isn't declared, or has a ditto here; both count as `1..0`
abbrev pub no_region : Region
no_region = region_over (all_from (pos 1) (pos 0) ∷ [])

abbrev pub is_region_name : Known → Name → Bool
is_region_name known name = list_any (λ one. bytes_eq one.name name.text) known.regions

abbrev pub region_named : Known → Name → Outcome Region
region_named known name = outcome_of no_region known.regions name.text

-- an index of rank 1
abbrev pub index_of : Known → Name → Outcome Region
index_of known name =
    and_then (outcome_of (pos 0) known.values name.text) (λ value.
    limited (region_over (all_from value value ∷ [])))

-- a single name that isn't a region's is an index
abbrev pub named_or_index : Known → List Pre → Name → Posts → Outcome Region
named_or_index known [] name NoPost =
    if is_region_name known name then region_named known name else index_of known name
named_or_index known pre name post = before known pre (behind known (region_named known name) post)

-- What stands between brackets. `of` and `in` bind weaker than `at` and `by`.
abbrev pub inner_of : Known → Inner → Outcome Region
inner_of known (Rexpr pre (NamedRegion name) post) = named_or_index known pre name post
inner_of known (Rexpr pre (Ditto at) post) = Gives no_region
inner_of known (Dims dims) = spanned known dims

-- a declared region, with what stands behind its bracket
abbrev pub region_of : Known → RegionDef → Outcome Region
region_of known region = behind known (inner_of known region.body) region.posts
