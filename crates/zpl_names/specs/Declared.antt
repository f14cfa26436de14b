-- What a program declares: its global names in text order, and the parameters and local variables
-- of its procedures.
use Rattle.std.specs.Prelude.{◌≡◌, ℕ, true, false, List, [], ◌∷◌, ◌++◌, map, flat_map, find, Option}
use Rattle.std.specs.Str.{bytes_eq}
use Rattle.zpl_tree.specs.Syntax.{Name, Bracket, NoBracket, Bracketed, Base, Integer, Define, RegionDef, DirDef, VarDef, Param, Decl, Config, Constant, Regions, Directions, Vars, Defined, Program}
use Rattle.zpl_tree.specs.Syntax as plain
use Rattle.zpl_names.specs.Kinds as kind
use Rattle.zpl_names.specs.Kinds.{Kind, Formal, ScalarFormal, ArrayFormal, Signature}
use Rattle.zpl_names.specs.Scope.{Entry, Scope}
use Rattle.zpl_names.specs.Ranks.{at_most_three, exprs_count}
use Rattle.zpl_names.specs.Shapes.{declared_shape, variable_kind}

abbrev pub entry_for : Kind → Name → Entry
entry_for kind name = record { name = name; kind = kind }

-- A declaration sees only what stands earlier in the text, and of that no variables.
abbrev pub declaring : List Entry → List Entry → Scope
declaring own earlier = record { own = own; globals = earlier; constants = true }

-- ---- the names of a procedure

-- all names of its parameters and of its local variables
abbrev pub own_names : plain.Procedure → List Name
own_names procedure =
    flat_map (λ param. param.names) procedure.params ++ flat_map (λ var. var.names) procedure.locals

-- Its own names hide global ones also in its head and where its variables are declared; being
-- variables, they are then out of reach themselves.
abbrev pub head_scope : List Entry → plain.Procedure → Scope
head_scope earlier procedure =
    declaring (map (entry_for (kind.Scalar Integer)) (own_names procedure)) earlier

-- the parameters and the local variables with what they stand for
abbrev pub own_entries : List Entry → plain.Procedure → List Entry
own_entries earlier procedure =
    let scope = head_scope earlier procedure in
    flat_map (λ param. map (entry_for (variable_kind scope param.shape param.base)) param.names)
    procedure.params ++
    flat_map (λ var. map (entry_for (variable_kind scope var.shape var.base)) var.names)
    procedure.locals

abbrev pub formal_of : Scope → Param → Formal
formal_of scope param = shaped param.shape
  where
    shaped : Bracket → Formal
    shaped NoBracket = ScalarFormal param.by_ref param.base
    shaped (Bracketed inner) = ArrayFormal param.by_ref param.base (declared_shape scope inner)

-- one formal for each name
abbrev pub formals_of : Scope → List Param → List Formal
formals_of scope params = flat_map (λ param. map (λ name. formal_of scope param) param.names) params

abbrev pub signature_of : List Entry → plain.Procedure → Signature
signature_of earlier procedure =
    let scope = head_scope earlier procedure in
    record { formals = formals_of scope procedure.params; result = procedure.result }

-- ---- global names: each declaration adds its names to those that stand earlier

abbrev pub with_define : (Base → Kind) → List Entry → Define → List Entry
with_define of_base earlier define = earlier ++ entry_for (of_base define.base) define.name ∷ []

abbrev pub region_entry : List Entry → RegionDef → Entry
region_entry earlier region =
    entry_for (kind.Region (declared_shape (declaring [] earlier) region.body)) region.name

abbrev pub with_region : List Entry → RegionDef → List Entry
with_region earlier region = earlier ++ region_entry earlier region ∷ []

abbrev pub direction_entry : DirDef → Entry
direction_entry direction =
    entry_for (kind.Direction (at_most_three (exprs_count direction.parts))) direction.name

abbrev pub with_direction : List Entry → DirDef → List Entry
with_direction earlier direction = earlier ++ direction_entry direction ∷ []

abbrev pub with_variables : List Entry → VarDef → List Entry
with_variables earlier var =
    earlier ++ map (entry_for (variable_kind (declaring [] earlier) var.shape var.base)) var.names

abbrev pub procedure_entry : List Entry → plain.Procedure → Entry
procedure_entry earlier procedure =
    entry_for (kind.Procedure (signature_of earlier procedure)) procedure.name

abbrev pub with_procedure : List Entry → plain.Procedure → List Entry
with_procedure earlier procedure = earlier ++ procedure_entry earlier procedure ∷ []

-- what a list of definitions adds, one after the other
abbrev pub with_each : {A : Type 0} → (List Entry → A → List Entry) → List Entry → List A →
    List Entry
with_each adds earlier [] = earlier
with_each adds earlier (first ∷ rest) = with_each adds (adds earlier first) rest

abbrev pub with_decl : List Entry → Decl → List Entry
with_decl earlier (Config defines) = with_each (with_define kind.Config) earlier defines
with_decl earlier (Constant defines) = with_each (with_define kind.Constant) earlier defines
with_decl earlier (Regions regions) = with_each with_region earlier regions
with_decl earlier (Directions directions) = with_each with_direction earlier directions
with_decl earlier (Vars vars) = with_each with_variables earlier vars
with_decl earlier (Defined procedure) = with_procedure earlier procedure

-- the global names, in text order
abbrev pub globals_of : Program → List Entry
globals_of program = with_each with_decl [] program.decls

-- ---- procedures

-- A procedure with its own names.
pub record Routine : Type 0 where
  pub procedure : plain.Procedure
  pub own : List Entry

abbrev pub routine_of : List Entry → plain.Procedure → Routine
routine_of earlier procedure = record { procedure = procedure; own = own_entries earlier procedure }

-- a procedure with its own names and a signature, as it stands behind earlier names
pub record IsProcedureOf (signature : Signature) (routine : Routine) : Type 0 where
  pub earlier : List Entry
  pub own : routine.own ≡ own_entries earlier routine.procedure
  pub signed : signature ≡ signature_of earlier routine.procedure

abbrev pub routines_behind : List Entry → List Decl → List Routine
routines_behind earlier [] = []
routines_behind earlier (Defined procedure ∷ decls) =
    routine_of earlier procedure ∷ routines_behind (with_procedure earlier procedure) decls
routines_behind earlier (decl ∷ decls) = routines_behind (with_decl earlier decl) decls

-- the procedures, in text order
abbrev pub routines_of : Program → List Routine
routines_of program = routines_behind [] program.decls

-- the first with a name
abbrev pub routine_named : Program → List ℕ → Option Routine
routine_named program text =
    find (λ routine. bytes_eq routine.procedure.name.text text) (routines_of program)

-- the entry procedure has the program's name
abbrev pub entry_of : Program → Option Routine
entry_of program = routine_named program program.name.text

-- what the statements of a procedure see: its own names, which hide global ones, and every global
-- name of the text
abbrev pub scope_of : Program → Routine → Scope
scope_of program routine =
    record { own = routine.own; globals = globals_of program; constants = false }
