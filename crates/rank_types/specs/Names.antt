-- The global names of a text with their kinds, in text order.
use Rattle.std.specs.Prelude.{◌≡◌, ℕ, List, [], ◌∷◌, map, flat_map, Contains}
use Rattle.zpl_tree.specs.Syntax as plain
use Rattle.zpl_tree.specs.Syntax.{Bracket, NoBracket, Bracketed, Config, Constant, Regions, Directions, Vars, Defined, Program}
use Rattle.zpl_tree.specs.View.{name_of}
use Rattle.zpl_names.specs.Faults.{repeated}
use Rattle.zpl_names.specs.Declared.{globals_of}
use Rattle.rank_types.specs.Symbols.{Symbol}
use Rattle.rank_types.specs.declared.faults.Fault.{Fault}
use Rattle.rank_types.specs.declared.faults.Fault.TheVariants.{UnknownName, TwiceNamed, UnknownType, TypeClash, RankClash, NoRegion, FloodClash, ShatterBody, NotAssignable, Arguments, Recursion, ReturnPlace, CallPlace, MaskPlace, BorderForm, NoEntry, RankUnknown, DeepCalls, NoMemory}
use Rattle.rank_types.specs.declared.names.Row.{Row as CodeRow}
use Rattle.rank_types.specs.declared.symbols.NameKind.{NameKind}
use Rattle.rank_types.specs.declared.symbols.NameKind.TheVariants as kind

-- a global name and its kind
pub record Row : Type 0 where
  pub name : plain.Name
  pub kind : NameKind

abbrev pub row : NameKind → plain.Name → Row
row kind name = record { name = name; kind = kind }

abbrev pub row_of : CodeRow → Row
row_of code = row code.kind (name_of code.name)

abbrev pub row_names : List Row → List plain.Name
row_names rows = map (λ row. row.name) rows

abbrev pub row_symbol : Row → Symbol
row_symbol row = record { name = row.name.text; kind = row.kind }

abbrev pub row_symbols : List Row → List Symbol
row_symbols rows = map row_symbol rows

-- ---- what declarations add

abbrev pub rows_for : NameKind → List plain.Name → List Row
rows_for kind names = map (row kind) names

abbrev pub define_rows : NameKind → List plain.Define → List Row
define_rows kind defines = map (λ define. row kind define.name) defines

abbrev pub region_rows : List plain.RegionDef → List Row
region_rows regions = map (λ region. row kind.Region region.name) regions

abbrev pub direction_rows : List plain.DirDef → List Row
direction_rows directions = map (λ direction. row kind.Direction direction.name) directions

abbrev pub variable_kind : Bracket → NameKind
variable_kind NoBracket = kind.Scalar
variable_kind (Bracketed inner) = kind.Array

abbrev pub var_rows : List plain.VarDef → List Row
var_rows vars = flat_map (λ var. rows_for (variable_kind var.shape) var.names) vars

abbrev pub decl_rows : plain.Decl → List Row
decl_rows (Config defines) = define_rows kind.Config defines
decl_rows (Constant defines) = define_rows kind.Constant defines
decl_rows (Regions regions) = region_rows regions
decl_rows (Directions directions) = direction_rows directions
decl_rows (Vars vars) = var_rows vars
decl_rows (Defined procedure) = row kind.Procedure procedure.name ∷ []

-- ---- second names

-- no global name is a second one
abbrev pub AreDistinct : Program → Type 0
AreDistinct program = repeated [] (map (λ entry. entry.name) (globals_of program)) ≡ []

-- a second name among names, or want of memory
abbrev pub IsSecond : List plain.Name → Fault → Type 0
IsSecond names (TwiceNamed at) = Contains (repeated [] names) at
IsSecond names NoMemory = Unit {0}
IsSecond names (UnknownName at) = ⊥
IsSecond names (UnknownType at) = ⊥
IsSecond names (TypeClash at) = ⊥
IsSecond names (RankClash at) = ⊥
IsSecond names (NoRegion at) = ⊥
IsSecond names (FloodClash at) = ⊥
IsSecond names (ShatterBody at) = ⊥
IsSecond names (NotAssignable at) = ⊥
IsSecond names (Arguments at) = ⊥
IsSecond names (Recursion at) = ⊥
IsSecond names (ReturnPlace at) = ⊥
IsSecond names (CallPlace at) = ⊥
IsSecond names (MaskPlace at) = ⊥
IsSecond names (BorderForm at) = ⊥
IsSecond names (NoEntry at) = ⊥
IsSecond names (RankUnknown at) = ⊥
IsSecond names (DeepCalls at) = ⊥
