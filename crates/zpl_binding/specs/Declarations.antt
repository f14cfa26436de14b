-- The declarations of a program, computed in text order: each sees what stands earlier.
use Rattle.std.specs.Prelude.{ℕ, ℤ, List, [], ◌∷◌, ◌++◌, map}
use Rattle.zpl_tree.specs.Syntax.{Name, Define, RegionDef, DirDef, Decl, Config, Constant, Regions, Directions, Vars, Defined, Program}
use Rattle.zpl_binding.specs.Outcome.{Outcome, Computed}
use Rattle.zpl_binding.specs.Settings.{Setting, setting_of}
use Rattle.zpl_binding.specs.Constants.{constant_value, config_value}
use Rattle.zpl_binding.specs.Vectors.{vector_of}
use Rattle.zpl_binding.specs.Regions.{Known, region_of}

abbrev pub computed_for : {A : Type 0} → Name → Outcome A → Computed A
computed_for name outcome = record { name = name.text; outcome = outcome }

abbrev pub with_value : Known → Name → Outcome ℤ → Known
with_value known name value =
    record known { values = known.values ++ computed_for name value ∷ [] }

abbrev pub with_region : Known → RegionDef → Known
with_region known region =
    record known {
      regions = known.regions ++ computed_for region.name (region_of known region) ∷ [];
    }

abbrev pub with_direction : Known → DirDef → Known
with_direction known direction =
    let vector = vector_of known.values direction.parts in
    record known { directions = known.directions ++ computed_for direction.name vector ∷ [] }

abbrev pub with_config : List Setting → Known → Define → Known
with_config settings known config =
    let text = setting_of settings config.name.text in
    with_value known config.name (config_value text known.values config)

abbrev pub with_constant : Known → Define → Known
with_constant known constant =
    with_value known constant.name (constant_value known.values constant)

-- what a list of definitions adds, one after the other
abbrev pub with_all : {A : Type 0} → (Known → A → Known) → Known → List A → Known
with_all adds known [] = known
with_all adds known (first ∷ rest) = with_all adds (adds known first) rest

abbrev pub with_decl : List Setting → Known → Decl → Known
with_decl settings known (Config configs) = with_all (with_config settings) known configs
with_decl settings known (Constant constants) = with_all with_constant known constants
with_decl settings known (Regions regions) = with_all with_region known regions
with_decl settings known (Directions directions) = with_all with_direction known directions
with_decl settings known (Vars vars) = known
with_decl settings known (Defined procedure) = known

abbrev pub nothing_known : Known
nothing_known = record { values = []; regions = []; directions = [] }

-- all of the text
abbrev pub known_of : Program → List Setting → Known
known_of program settings = with_all (with_decl settings) nothing_known program.decls

-- ---- the names for which there is something computed

abbrev pub config_names : Decl → List (List ℕ)
config_names (Config configs) = map (λ config. config.name.text) configs
config_names decl = []

abbrev pub value_names : Decl → List (List ℕ)
value_names (Config configs) = map (λ config. config.name.text) configs
value_names (Constant constants) = map (λ constant. constant.name.text) constants
value_names decl = []

abbrev pub region_names : Decl → List (List ℕ)
region_names (Regions regions) = map (λ region. region.name.text) regions
region_names decl = []

abbrev pub direction_names : Decl → List (List ℕ)
direction_names (Directions directions) = map (λ direction. direction.name.text) directions
direction_names decl = []

abbrev pub names_of : {A : Type 0} → List (Computed A) → List (List ℕ)
names_of all = map (λ one. one.name) all
