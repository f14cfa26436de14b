-- Vectors have at most three components, and regions and storages at most three dimensions.
use Rattle.std.proofs.Common.{◌≡◌, ℕ, zero, suc, ◌≤◌, Bool, true, false, if◌then◌else◌, ℤ, List, [], ◌∷◌, ◌++◌, map, length, Some, refl, ap, arith}
use Rattle.std.specs.Prelude.{find, cond, pos}
use Rattle.std.specs.List.{list_all}
use Rattle.std.specs.Str.{bytes_eq}
use Rattle.std.proofs.lemmas.List.{length-map}
use Rattle.zpl_region.specs.declared.dims.Dim.{Dim}
use Rattle.zpl_region.specs.declared.regions.Region.{Region}
use Rattle.zpl_region.specs.Region.{components, each, outside_of, inside_of, moved, strided}
use Rattle.zpl_region.specs.Dim.{dim_outside_of, dim_inside_of, dim_moved, dim_strided}
use Rattle.zpl_region.specs.Ends.{has_none}
use Rattle.zpl_region.specs.Tests.{is_within_limit}
use Rattle.zpl_region.specs.Hull.{all_from, dim_hull, emptied, hull, hull_with, each_hull_with}
use Rattle.zpl_arrays.specs.Around.{zeros, each_rest, copy_shift}
use Rattle.zpl_tree.specs.Syntax.{Name, Pre, NamedRegion, Ditto, Exprs, Dir, NamedDir, Vector, Inner, Rexpr, Dims, Posts, NoPost, ThenPost, DimTexts, RegionDef, DirDef, Decl, Config, Constant, Regions, Directions, Vars, Defined, Program}
use Rattle.zpl_binding.specs.Outcome.{DirectionLimit, RegionLimit, Outcome, Gives, Fails, and_then, value_or, Computed, outcome_or, outcome_of}
use Rattle.zpl_binding.specs.Vectors.{components_of, three_components, values_of, limited_vector, is_component, vector_of, dir_of}
use Rattle.zpl_binding.specs.Regions.{Known, dims_of, region_over, limited, each_dim_of, spanned, formed_by, behind, before, no_region, is_region_name, region_named, index_of, named_or_index, inner_of}
use Rattle.zpl_binding.specs.Settings.{Setting}
use Rattle.zpl_binding.specs.Declarations.{with_value, with_region, with_direction, with_config, with_constant, with_all, with_decl, nothing_known, known_of}
use Rattle.zpl_binding.specs.Storages.{Border, shape_borders, widened, storage_of}
use Rattle.zpl_meaning.specs.Regions.{vector_in}
use Rattle.zpl_meaning.specs.Variables.{storage_box}

abbrev pub FitsRegion : Outcome Region → Type 0
FitsRegion (Gives region) = length region.dims ≤ 3
FitsRegion (Fails fault) = Unit {0}

abbrev pub FitsVector : Outcome (List ℤ) → Type 0
FitsVector (Gives vector) = length vector ≤ 3
FitsVector (Fails fault) = Unit {0}

abbrev pub FitRegions : List (Computed Region) → Type 0
FitRegions [] = Unit {0}
FitRegions (one ∷ rest) = FitsRegion one.outcome × FitRegions rest

abbrev pub FitVectors : List (Computed (List ℤ)) → Type 0
FitVectors [] = Unit {0}
FitVectors (one ∷ rest) = FitsVector one.outcome × FitVectors rest

pub record HasThree (known : Known) : Type 0 where
  pub regions : FitRegions known.regions
  pub vectors : FitVectors known.directions

-- ---- what names stand for

region_found : (all : List (Computed Region)) (text : List ℕ) → FitRegions all →
    FitsRegion (outcome_of no_region all text)
region_found [] text fit = omega arith
region_found (one ∷ rest) text fit =
    by (bytes_eq one.name text) (region_found rest text fit.1)
  where
    by : (b : Bool) → FitsRegion (outcome_of no_region rest text) →
        FitsRegion (outcome_or no_region
        (cond b (Some one) (find (λ one. bytes_eq one.name text) rest)))
    by true fits = fit.0
    by false fits = fits

vector_found : (all : List (Computed (List ℤ))) (text : List ℕ) → FitVectors all →
    FitsVector (outcome_of (three_components []) all text)
vector_found [] text fit = omega arith
vector_found (one ∷ rest) text fit =
    by (bytes_eq one.name text) (vector_found rest text fit.1)
  where
    by : (b : Bool) → FitsVector (outcome_of (three_components []) rest text) →
        FitsVector (outcome_or (three_components [])
        (cond b (Some one) (find (λ one. bytes_eq one.name text) rest)))
    by true fits = fit.0
    by false fits = fits

-- ---- vectors

components_count : (n : ℕ) (parts : List ℤ) → length (components_of n parts) ≡ n
components_count zero parts = refl
components_count (suc n) [] = ap suc (components_count n [])
components_count (suc n) (part ∷ parts) = ap suc (components_count n parts)

vector_fits : (values : List (Computed ℤ)) (parts : Exprs) → FitsVector (vector_of values parts)
vector_fits values parts = by (values_of values parts)
  where
    limit : (parts : List ℤ) (b : Bool) →
        FitsVector (if b then Gives (three_components parts) else Fails
        DirectionLimit)
    limit parts true = omega (arith, components_count 3 parts)
    limit parts false = tt

    by : (outcome : Outcome (List ℤ)) → FitsVector (and_then outcome limited_vector)
    by (Fails fault) = tt
    by (Gives parts) = limit parts (list_all is_component parts)

dir_fits : (known : Known) (dir : Dir) → HasThree known →
    FitsVector (dir_of known.values known.directions dir)
dir_fits known (NamedDir name) three = vector_found known.directions name.text three.vectors
dir_fits known (Vector parts) three = vector_fits known.values parts

pub vector_three : (known : Known) (dir : Dir) → HasThree known → length (vector_in known dir) ≤ 3
vector_three known dir three = by (dir_of known.values known.directions dir) (dir_fits known dir three)
  where
    by : (outcome : Outcome (List ℤ)) → FitsVector outcome →
        length (value_or (three_components []) outcome) ≤ 3
    by (Gives vector) fits = fits
    by (Fails fault) fits = omega arith

zeros_count : (shift : List ℤ) → length (zeros shift) ≤ length shift
zeros_count [] = omega arith
zeros_count (d ∷ shift) = omega (arith, zeros_count shift)

rest_count : (shift : List ℤ) (dims : List Dim) → length (each_rest shift dims) ≤ length shift
rest_count [] dims = omega arith
rest_count (d ∷ shift) [] = omega arith
rest_count (d ∷ shift) (dim ∷ dims) = omega (arith, rest_count shift dims)

pub copy_shift_count : (home : Region) (shift : List ℤ) →
    length (copy_shift home shift) ≤ length shift
copy_shift_count home shift = by (has_none home)
  where
    by : (b : Bool) → length (if b then zeros shift else each_rest shift home.dims) ≤ length shift
    by true = zeros_count shift
    by false = rest_count shift home.dims

-- ---- regions

limited_fits : (region : Region) → length region.dims ≤ 3 → FitsRegion (limited region)
limited_fits region narrow = by (is_within_limit region)
  where
    by : (b : Bool) →
        FitsRegion (if b then Gives region else Fails
        RegionLimit)
    by true = narrow
    by false = tt

dims_count : (n : ℕ) (dims : List Dim) → length (dims_of n dims) ≡ n
dims_count zero dims = refl
dims_count (suc n) [] = ap suc (dims_count n [])
dims_count (suc n) (dim ∷ dims) = ap suc (dims_count n dims)

over_fits : (dims : List Dim) → FitsRegion (limited (region_over dims))
over_fits dims =
    let three : length (region_over dims).dims ≤ 3 = omega (arith, dims_count 3 dims) in
    limited_fits (region_over dims) three

span_fits : (known : Known) (dims : DimTexts) → FitsRegion (spanned known dims)
span_fits known dims = by (each_dim_of known dims)
  where
    by : (outcome : Outcome (List Dim)) →
        FitsRegion (and_then outcome (λ all. limited (region_over all)))
    by (Fails fault) = tt
    by (Gives all) = over_fits all

each_count : (form : ℤ → Dim → Dim) (vector : List ℤ) (dims : List Dim) →
    length (each form vector dims) ≤ length dims
each_count form [] dims = omega arith
each_count form (d ∷ vector) [] = omega arith
each_count form (d ∷ vector) (dim ∷ dims) = omega (arith, each_count form vector dims)

form_fits : (form : List ℤ → Region → Region) →
    ((d : List ℤ) (r : Region) → length (form d r).dims ≤ length r.dims) →
    (vector : Outcome (List ℤ)) (region : Outcome Region) → FitsRegion region →
    FitsRegion (formed_by form vector region)
form_fits form keeps vector (Fails fault) fits = tt
form_fits form keeps (Fails fault) (Gives region) fits = tt
form_fits form keeps (Gives d) (Gives region) fits =
    let three : length (form d region).dims ≤ 3 = omega (arith, keeps d region, fits) in
    limited_fits (form d region) three

outside_keeps : (d : List ℤ) (r : Region) → length (outside_of d r).dims ≤ length r.dims
outside_keeps d r = each_count dim_outside_of (components r.rank d) r.dims

inside_keeps : (d : List ℤ) (r : Region) → length (inside_of d r).dims ≤ length r.dims
inside_keeps d r = each_count dim_inside_of (components r.rank d) r.dims

moved_keeps : (d : List ℤ) (r : Region) → length (moved d r).dims ≤ length r.dims
moved_keeps d r = each_count dim_moved (components r.rank d) r.dims

strided_keeps : (d : List ℤ) (r : Region) → length (strided d r).dims ≤ length r.dims
strided_keeps d r = each_count dim_strided (components r.rank d) r.dims

behind_fits : (known : Known) (region : Outcome Region) (post : Posts) → FitsRegion region →
    FitsRegion (behind known region post)
behind_fits known region NoPost fits = fits
behind_fits known region (ThenPost stride dir rest) fits =
    let vector = dir_of known.values known.directions dir in
    behind_fits known (formed_by (if stride then strided else moved) vector region) rest
    (by stride vector)
  where
    by : (b : Bool) (vector : Outcome (List ℤ)) →
        FitsRegion (formed_by (if b then strided else moved) vector region)
    by true vector = form_fits strided strided_keeps vector region fits
    by false vector = form_fits moved moved_keeps vector region fits

before_fits : (known : Known) (pre : List Pre) (region : Outcome Region) → FitsRegion region →
    FitsRegion (before known pre region)
before_fits known [] region fits = fits
before_fits known (pre ∷ rest) region fits =
    by pre.outside (outcome_of (three_components []) known.directions pre.dir.text)
    (before known rest region) (before_fits known rest region fits)
  where
    by : (b : Bool) (vector : Outcome (List ℤ)) (region : Outcome Region) → FitsRegion region →
        FitsRegion (formed_by (if b then outside_of else inside_of) vector region)
    by true vector region fits = form_fits outside_of outside_keeps vector region fits
    by false vector region fits = form_fits inside_of inside_keeps vector region fits

index_fits : (known : Known) (name : Name) → FitsRegion (index_of known name)
index_fits known name = by (outcome_of (pos 0) known.values name.text)
  where
    by : (outcome : Outcome ℤ) →
        FitsRegion (and_then outcome (λ value.
        limited (region_over (all_from value value ∷ []))))
    by (Fails fault) = tt
    by (Gives value) = over_fits (all_from value value ∷ [])

named_fits : (known : Known) (name : Name) → HasThree known → FitsRegion (region_named known name)
named_fits known name three = region_found known.regions name.text three.regions

named_or_index_fits : (known : Known) (pre : List Pre) (name : Name) (post : Posts) →
    HasThree known → FitsRegion (named_or_index known pre name post)
named_or_index_fits known [] name NoPost three = by (is_region_name known name)
  where
    by : (b : Bool) → FitsRegion (if b then region_named known name else index_of known name)
    by true = named_fits known name three
    by false = index_fits known name
named_or_index_fits known [] name (ThenPost stride dir rest) three =
    behind_fits known (region_named known name) (ThenPost stride dir rest)
    (named_fits known name three)
named_or_index_fits known (pre ∷ rest) name post three =
    before_fits known (pre ∷ rest) (behind known (region_named known name) post)
    (behind_fits known (region_named known name) post (named_fits known name three))

inner_fits : (known : Known) (inner : Inner) → HasThree known → FitsRegion (inner_of known inner)
inner_fits known (Rexpr pre (NamedRegion name) post) three =
    named_or_index_fits known pre name post three
inner_fits known (Rexpr pre (Ditto at) post) three = omega arith
inner_fits known (Dims dims) three = span_fits known dims

-- ---- declarations

more_regions : (all : List (Computed Region)) (one : Computed Region) → FitRegions all →
    FitsRegion one.outcome → FitRegions (all ++ one ∷ [])
more_regions [] one fit fits = (fits, tt)
more_regions (first ∷ all) one fit fits = (fit.0, more_regions all one fit.1 fits)

more_vectors : (all : List (Computed (List ℤ))) (one : Computed (List ℤ)) → FitVectors all →
    FitsVector one.outcome → FitVectors (all ++ one ∷ [])
more_vectors [] one fit fits = (fits, tt)
more_vectors (first ∷ all) one fit fits = (fit.0, more_vectors all one fit.1 fits)

value_keeps : (known : Known) (name : Name) (value : Outcome ℤ) → HasThree known →
    HasThree (with_value known name value)
value_keeps known name value three =
    record { regions = three.regions; vectors = three.vectors }

region_keeps : (known : Known) (region : RegionDef) → HasThree known →
    HasThree (with_region known region)
region_keeps known region three = record {
  regions = more_regions known.regions _ three.regions
      (behind_fits known (inner_of known region.body) region.posts
      (inner_fits known region.body three));
  vectors = three.vectors;
}

direction_keeps : (known : Known) (direction : DirDef) → HasThree known →
    HasThree (with_direction known direction)
direction_keeps known direction three = record {
  regions = three.regions;
  vectors = more_vectors known.directions _ three.vectors
      (vector_fits known.values direction.parts);
}

all_keep : {A : Type 0} (adds : Known → A → Known) →
    ((known : Known) (one : A) → HasThree known → HasThree (adds known one)) →
    (known : Known) (all : List A) → HasThree known → HasThree (with_all adds known all)
all_keep adds keeps known [] three = three
all_keep adds keeps known (one ∷ rest) three =
    all_keep adds keeps (adds known one) rest (keeps known one three)

decl_keeps : (settings : List Setting) (known : Known) (decl : Decl) → HasThree known →
    HasThree (with_decl settings known decl)
decl_keeps settings known (Config configs) three =
    all_keep (with_config settings)
    (λ known config three. value_keeps known config.name _ three) known configs three
decl_keeps settings known (Constant constants) three =
    all_keep with_constant
    (λ known constant three. value_keeps known constant.name _ three) known constants three
decl_keeps settings known (Regions regions) three =
    all_keep with_region region_keeps known regions three
decl_keeps settings known (Directions directions) three =
    all_keep with_direction direction_keeps known directions three
decl_keeps settings known (Vars vars) three = three
decl_keeps settings known (Defined procedure) three = three

pub known_three : (program : Program) (settings : List Setting) →
    HasThree (known_of program settings)
known_three program settings =
    all_keep (with_decl settings) (decl_keeps settings) nothing_known program.decls
    (record { regions = tt; vectors = tt })

-- ---- storages

emptied_count : (rank : ℕ) (dims : List Dim) → length (emptied rank dims) ≤ length dims
emptied_count zero dims = omega arith
emptied_count (suc rank) [] = omega arith
emptied_count (suc rank) (dim ∷ dims) = omega (arith, emptied_count rank dims)

hull_count : (region : Region) → length (hull region).dims ≤ length region.dims
hull_count region = by (has_none region)
  where
    by : (b : Bool) →
        length (if b then emptied region.rank region.dims else map dim_hull region.dims)
        ≤ length region.dims
    by true = emptied_count region.rank region.dims
    by false = omega (arith, length-map region.dims dim_hull)

each_hull_count : (dims other : List Dim) → length (each_hull_with dims other) ≤ length dims
each_hull_count [] other = omega arith
each_hull_count (dim ∷ dims) [] = omega arith
each_hull_count (dim ∷ dims) (one ∷ other) = omega (arith, each_hull_count dims other)

hull_with_narrow : (one other : Region) → length one.dims ≤ 3 → length other.dims ≤ 3 →
    length (hull_with one other).dims ≤ 3
hull_with_narrow one other narrow thin = by (has_none other) (has_none one)
  where
    by : (b c : Bool) →
        length (if b then hull one else if c then hull other
        else record { rank = one.rank; dims = each_hull_with one.dims other.dims }).dims ≤ 3
    by true c = omega (arith, hull_count one)
    by false true = omega (arith, hull_count other)
    by false false = omega (arith, each_hull_count one.dims other.dims)

widened_fits : (known : Known) (region storage : Region) (borders : List Border) →
    length region.dims ≤ 3 → length storage.dims ≤ 3 →
    FitsRegion (widened known region storage borders)
widened_fits known region storage [] narrow thin = thin
widened_fits known region storage (border ∷ rest) narrow thin =
    by (outcome_of (three_components []) known.directions border.direction.text)
    (λ storage thin. widened_fits known region storage rest narrow thin)
  where
    by : (outcome : Outcome (List ℤ)) →
        ((storage : Region) → length storage.dims ≤ 3 →
        FitsRegion (widened known region storage rest)) →
        FitsRegion (and_then outcome (λ vector.
        widened known region (hull_with storage (outside_of vector region)) rest))
    by (Fails fault) others = tt
    by (Gives vector) others =
        let outside : length (outside_of vector region).dims ≤ 3 =
        omega (arith, outside_keeps vector region) in
        others (hull_with storage (outside_of vector region))
        (hull_with_narrow storage (outside_of vector region) thin outside)

storage_fits : (known : Known) (borders : List Border) (inner : Inner) → HasThree known →
    FitsRegion (storage_of known borders inner)
storage_fits known borders inner three = by (inner_of known inner) (inner_fits known inner three)
  where
    second : (outcome : Outcome Region) → FitsRegion outcome →
        FitsRegion (and_then outcome limited)
    second (Fails fault) fits = tt
    second (Gives storage) fits = limited_fits storage fits

    by : (outcome : Outcome Region) → FitsRegion outcome →
        FitsRegion (and_then outcome (λ region.
        and_then (widened known region (hull region) (shape_borders known borders inner)) limited))
    by (Fails fault) fits = tt
    by (Gives region) fits =
        let hulled : length (hull region).dims ≤ 3 = omega (arith, hull_count region, fits) in
        second (widened known region (hull region) (shape_borders known borders inner))
        (widened_fits known region (hull region) (shape_borders known borders inner) fits hulled)

pub storage_three : (known : Known) (borders : List Border) (inner : Inner) → HasThree known →
    length (storage_box known borders inner).dims ≤ 3
storage_three known borders inner three =
    by (storage_of known borders inner) (storage_fits known borders inner three)
  where
    by : (outcome : Outcome Region) → FitsRegion outcome →
        length (value_or no_region outcome).dims ≤ 3
    by (Gives region) fits = fits
    by (Fails fault) fits = omega arith
