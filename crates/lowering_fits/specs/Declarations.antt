-- When arrays are declared as the text says: their ranks, and which dimensions are flood dimensions.
use Rattle.std.specs.Prelude.{◌≡◌, List, [], ◌∷◌, length, Some, option_map, Contains}
use Rattle.meaning_ranks.specs.of_zpl_tree.Syntax.{Bracket, NoBracket, Bracketed, VarDef, Decl, Config, Constant, Regions, Directions, Vars, Defined, Program}
use Rattle.meaning_ranks.specs.of_zpl_names.Scope.{Entry, Scope}
use Rattle.meaning_ranks.specs.of_zpl_names.Shapes.{declared_shape}
use Rattle.meaning_ranks.specs.of_zpl_names.Declared.{Routine, own_entries, declaring, head_scope, routines_of, with_decl, with_variables}
use Rattle.meaning_ranks.specs.of_zpl_binding.Settings.{Setting}
use Rattle.meaning_ranks.specs.of_zpl_meaning.Context.{Setup}
use Rattle.meaning_ranks.specs.of_zpl_meaning.Variables.{home_box, storage_box}
use Rattle.meaning_ranks.specs.of_zpl_meaning.Visited.{first_setup}
use Rattle.lowering_fits.specs.Slates.{FitsBox}
use Rattle.lowering_fits.specs.Storages.{IsHomeIn, IsStorage}
use Rattle.lowering_fits.specs.Reach.{IsStoredAs}

-- the storage and the home box of a declared array are as the text says, and may stand in tables
abbrev pub FitsDeclared : Setup → Scope → Bracket → Type 0
FitsDeclared setup scope NoBracket = Unit {0}
FitsDeclared setup scope (Bracketed inner) =
    let shape = declared_shape scope inner in
    let home = home_box setup.known inner in
    let storage = storage_box setup.known setup.borders inner in
    IsStoredAs shape (record { array = 0; storage = storage })
    × FitsBox home × (option_map length shape ≡ Some home.rank) × IsStorage storage
    × IsHomeIn storage home

abbrev pub FitAllDeclared : Setup → Scope → List VarDef → Type 0
FitAllDeclared setup scope [] = Unit {0}
FitAllDeclared setup scope (var ∷ vars) =
    FitsDeclared setup scope var.shape × FitAllDeclared setup scope vars

-- those of global variables, each behind what stands earlier
abbrev pub FitGlobals : Setup → List Entry → List VarDef → Type 0
FitGlobals setup earlier [] = Unit {0}
FitGlobals setup earlier (var ∷ vars) =
    FitsDeclared setup (declaring [] earlier) var.shape
    × FitGlobals setup (with_variables earlier var) vars

abbrev pub FitsDecl : Setup → List Entry → Decl → Type 0
FitsDecl setup earlier (Config defines) = Unit {0}
FitsDecl setup earlier (Constant defines) = Unit {0}
FitsDecl setup earlier (Regions regions) = Unit {0}
FitsDecl setup earlier (Directions directions) = Unit {0}
FitsDecl setup earlier (Vars vars) = FitGlobals setup earlier vars
FitsDecl setup earlier (Defined procedure) = Unit {0}

abbrev pub FitDecls : Setup → List Entry → List Decl → Type 0
FitDecls setup earlier [] = Unit {0}
FitDecls setup earlier (decl ∷ decls) =
    FitsDecl setup earlier decl × FitDecls setup (with_decl earlier decl) decls

-- all arrays of a program under settings
pub record FitsProgram (program : Program) (settings : List Setting) : Type 0 where
  pub globals : FitDecls (first_setup program settings) [] program.decls
  pub locals : (routine : Routine) → Contains (routines_of program) routine →
      (earlier : List Entry) → routine.own ≡ own_entries earlier routine.procedure →
      FitAllDeclared (first_setup program settings) (head_scope earlier routine.procedure)
      routine.procedure.locals
