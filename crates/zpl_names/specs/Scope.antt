-- The names in reach of a place.
use Rattle.std.specs.Prelude.{ℕ, Bool, true, false, List, Option, Some, None, option_map, find}
use Rattle.std.specs.Option.{option_or}
use Rattle.std.specs.Str.{bytes_eq}
use Rattle.zpl_tree.specs.Syntax.{Name}
use Rattle.zpl_names.specs.Kinds.{Kind, Config, Constant, Region, Direction, Scalar, Array, Procedure}

-- A name where it is declared, and what it stands for.
pub record Entry : Type 0 where
  pub name : Name
  pub kind : Kind

-- The parameters and local variables of a procedure, which hide global names; the global names; and
-- whether variables are out of reach, as they are in declarations and vectors.
pub record Scope : Type 0 where
  pub own : List Entry
  pub globals : List Entry
  pub constants : Bool

-- of two entries of one name the first counts
abbrev pub kind_in : List Entry → List ℕ → Option Kind
kind_in entries text =
    option_map (λ entry. entry.kind) (find (λ entry. bytes_eq entry.name.text text) entries)

-- without variables, where they are out of reach
abbrev pub in_reach : Bool → Option Kind → Option Kind
in_reach true (Some (Scalar base)) = None
in_reach true (Some (Array base shape)) = None
in_reach _ kind = kind

-- what a name stands for, or none where it isn't declared in reach
abbrev pub kind_of : Scope → Name → Option Kind
kind_of scope name = in_reach scope.constants
    (option_or (kind_in scope.own name.text) (kind_in scope.globals name.text))

-- the same names, without variables
abbrev pub constants_of : Scope → Scope
constants_of scope = record scope { constants = true }

-- ---- what a place takes

-- a value: a config, a constant or a variable
abbrev pub is_value : Option Kind → Bool
is_value (Some (Config base)) = true
is_value (Some (Constant base)) = true
is_value (Some (Scalar base)) = true
is_value (Some (Array base shape)) = true
is_value _ = false

abbrev pub is_array : Option Kind → Bool
is_array (Some (Array base shape)) = true
is_array _ = false

-- what isn't an array and has a value
abbrev pub is_scalar : Option Kind → Bool
is_scalar (Some (Config base)) = true
is_scalar (Some (Constant base)) = true
is_scalar (Some (Scalar base)) = true
is_scalar _ = false

-- a config or a constant, which isn't assigned
abbrev pub is_fixed : Option Kind → Bool
is_fixed (Some (Config base)) = true
is_fixed (Some (Constant base)) = true
is_fixed _ = false

abbrev pub is_region : Option Kind → Bool
is_region (Some (Region shape)) = true
is_region _ = false

abbrev pub is_direction : Option Kind → Bool
is_direction (Some (Direction rank)) = true
is_direction _ = false

abbrev pub is_procedure : Option Kind → Bool
is_procedure (Some (Procedure signature)) = true
is_procedure _ = false
