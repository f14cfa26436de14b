-- What is wrong with settings, for the types of configs.
use Rattle.std.specs.Prelude.{ℕ, List, [], ◌∷◌, ◌++◌, map, flat_map, Option, Some, None}
use Rattle.zpl_tree.specs.Syntax.{Base, Decl, Config}
use Rattle.zpl_tree.specs.View.{base_type_of}
use Rattle.zpl_tree.specs.declared.declarations.Base.{Base as Arena}
use Rattle.zpl_parts.specs.of_zpl_binding.Outcome.{BindFault, UnknownConfig}
use Rattle.zpl_parts.specs.of_zpl_binding.Settings.{Setting, value_fault, value_in, twice_set}
use Rattle.zpl_bind.specs.Tables.{found}

-- the types of the configs of a declaration
abbrev pub config_bases : Decl → List (List ℕ × Base)
config_bases (Config configs) = map (λ config. (config.name.text, config.base)) configs
config_bases decl = []

-- types in memory, as plain ones
abbrev pub bases_of : List (List ℕ × Arena) → List (List ℕ × Base)
bases_of entries = map (λ entry. (entry.0, base_type_of entry.1)) entries

abbrev pub type_fault : Option Base → List ℕ → List BindFault
type_fault None text = UnknownConfig ∷ []
type_fault (Some base) text = value_fault (value_in base text)

abbrev pub text_faults : List (List ℕ × Base) → List Setting → List BindFault
text_faults bases settings =
    flat_map (λ setting. type_fault (found bases setting.name) setting.value) settings

abbrev pub all_text_faults : List (List ℕ × Base) → List Setting → List BindFault
all_text_faults bases settings = text_faults bases settings ++ twice_set settings
