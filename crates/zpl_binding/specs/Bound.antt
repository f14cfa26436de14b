-- What a program is bound to by settings, what is wrong with them, and settings that it accepts.
use Rattle.std.specs.Prelude.{◌≡◌, ◌+◌, ℤ, IsTrue, All, length, if◌then◌else◌, List, [], ◌∷◌, ◌++◌, map, flat_map, Contains, ◌⊎◌}
use Rattle.std.specs.List.{list_all}
use Rattle.zpl_arrays.specs.of_zpl_region.declared.regions.Region.{Region}
use Rattle.zpl_arrays.specs.of_zpl_region.Dim.{HasStep}
use Rattle.zpl_arrays.specs.of_zpl_region.Region.{IsPadded}
use Rattle.zpl_arrays.specs.of_zpl_region.Tests.{is_within_limit}
use Rattle.zpl_tree.specs.Syntax.{Exprs, Vector, Program}
use Rattle.zpl_names.specs.Declared.{globals_of}
use Rattle.zpl_names.specs.Sites.{Site, AtDir, text_sites}
use Rattle.zpl_binding.specs.Outcome.{BindFault, RegionLimit, Outcome, Gives, failures}
use Rattle.zpl_binding.specs.Settings.{Setting, setting_faults, twice_set}
use Rattle.zpl_binding.specs.Vectors.{vector_of, is_component}
use Rattle.zpl_binding.specs.Declarations.{known_of, value_names, region_names, direction_names}
use Rattle.zpl_binding.specs.Storages.{arrays_of, storages_of}
use Rattle.zpl_binding.specs.Copies.{HasCopyPastLimit}

-- ---- vectors in statements: computed after all declarations

abbrev pub vectors_at : Site → List Exprs
vectors_at (AtDir reach (Vector parts)) = if reach.declared then [] else parts ∷ []
vectors_at site = []

-- those of the text, in its order
abbrev pub vectors_in : Program → List Exprs
vectors_in program = flat_map vectors_at (text_sites program)

-- ---- the four lists, each in text order

-- configs and constants
abbrev pub computed_values : Program → List Setting → List (Outcome ℤ)
computed_values program settings =
    map (λ one. one.outcome) (known_of program settings).values

-- declared regions
abbrev pub computed_regions : Program → List Setting → List (Outcome Region)
computed_regions program settings =
    map (λ one. one.outcome) (known_of program settings).regions

-- directions, and then the vectors in statements
abbrev pub computed_vectors : Program → List Setting → List (Outcome (List ℤ))
computed_vectors program settings =
    map (λ one. one.outcome) (known_of program settings).directions ++
    map (vector_of (known_of program settings).values) (vectors_in program)

-- the storages of global arrays, and then those of local arrays
abbrev pub computed_storages : Program → List Setting → List (Outcome Region)
computed_storages program settings = storages_of program (known_of program settings)

-- What binding answers.
pub record Bound : Type 0 where
  pub values : List ℤ
  pub regions : List Region
  pub vectors : List (List ℤ)
  pub storages : List Region

-- Each entry has a value, and these are they.
pub record Binds (program : Program) (settings : List Setting) (bound : Bound) : Type 0 where
  pub values : computed_values program settings ≡ map Gives bound.values
  pub regions : computed_regions program settings ≡ map Gives bound.regions
  pub vectors : computed_vectors program settings ≡ map Gives bound.vectors
  pub storages : computed_storages program settings ≡ map Gives bound.storages

-- The lists have an entry for each name, or vector, of the text.
pub record HasEntries (program : Program) (bound : Bound) : Type 0 where
  pub values : length bound.values ≡ length (flat_map value_names program.decls)
  pub regions : length bound.regions ≡ length (flat_map region_names program.decls)
  pub vectors : length bound.vectors ≡
      length (flat_map direction_names program.decls) + length (vectors_in program)
  pub storages : length bound.storages ≡ length (arrays_of program)

-- three components, each within the limit
abbrev pub IsVector : List ℤ → Type 0
IsVector vector = (length vector ≡ 3) × IsTrue (list_all is_component vector)

-- What is bound is within the limits.
pub record IsWithinLimits (bound : Bound) : Type 0 where
  pub regions : All (λ region. IsTrue (is_within_limit region)) bound.regions
  pub vectors : All IsVector bound.vectors
  pub storages : All (λ storage. IsTrue (is_within_limit storage)) bound.storages

-- A region with steps of at least 1, whose dimensions past the rank are `0..0`.
pub record IsFormed (region : Region) : Type 0 where
  pub steps : All HasStep region.dims
  pub padded : IsPadded region.rank region.dims

-- ---- faults

-- the faults of the settings themselves
abbrev pub faults_of_settings : Program → List Setting → List BindFault
faults_of_settings program settings =
    setting_faults (globals_of program) settings ++ twice_set settings

-- and those of all that is computed, copies aside
abbrev pub faults_of : Program → List Setting → List BindFault
faults_of program settings =
    faults_of_settings program settings ++
    failures (computed_values program settings) ++
    failures (computed_regions program settings) ++
    failures (computed_vectors program settings) ++
    failures (computed_storages program settings)

-- A fault holds: the text and the settings have it; or it is the limit of regions, and a copy is
-- past that.
abbrev pub HasBindFault : Program → List Setting → BindFault → Type 0
HasBindFault program settings RegionLimit =
    Contains (faults_of program settings) RegionLimit ⊎
    HasCopyPastLimit program (known_of program settings)
HasBindFault program settings fault = Contains (faults_of program settings) fault

-- No fault holds.
abbrev pub IsAcceptedWith : Program → List Setting → Type 0
IsAcceptedWith program settings = (fault : BindFault) → ¬ HasBindFault program settings fault
