-- Global names, each with its kind.
use Rattle.std.specs.Prelude.{ℕ, List, map, find, Option}
use Rattle.std.specs.Option.{option_map}
use Rattle.std.specs.Borrow.{Bor}
use Rattle.std.specs.Str.{bytes_eq}
use Rattle.zpl_tree.specs.Syntax.{Program}
use Rattle.zpl_names.specs.Kinds as names
use Rattle.zpl_names.specs.Scope.{Entry}
use Rattle.zpl_names.specs.Declared.{globals_of}
use Rattle.rank_types.specs.declared.symbols.NameKind.{NameKind}
use Rattle.rank_types.specs.declared.symbols.NameKind.TheVariants.{Config, Constant, Region, Direction, Scalar, Array, Procedure}

pub record Symbol : Type 0 where
  pub name : List ℕ
  pub kind : NameKind

-- an entry of the table, by its name's text
abbrev pub row_of : Bor (List ℕ) × NameKind → Symbol
row_of row = record { name = row.0.now; kind = row.1 }

abbrev pub name_kind : names.Kind → NameKind
name_kind (names.Config base) = Config
name_kind (names.Constant base) = Constant
name_kind (names.Region shape) = Region
name_kind (names.Direction rank) = Direction
name_kind (names.Scalar base) = Scalar
name_kind (names.Array base shape) = Array
name_kind (names.Procedure signature) = Procedure

abbrev pub symbol_of : Entry → Symbol
symbol_of entry = record { name = entry.name.text; kind = name_kind entry.kind }

-- the global names of a program, in text order
abbrev pub symbols_of : Program → List Symbol
symbols_of program = map symbol_of (globals_of program)

-- the kind of a name, or nothing exactly where none of the names is this one
abbrev pub kind_named : List Symbol → List ℕ → Option NameKind
kind_named symbols name =
    option_map (λ symbol. symbol.kind) (find (λ symbol. bytes_eq symbol.name name) symbols)
