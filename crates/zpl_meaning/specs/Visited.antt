-- The places at which the statements of a program are run, whatever values variables have.
use Rattle.std.specs.Prelude.{◌≡◌, ℕ, ℤ, List, [], ◌∷◌, ◌++◌, length, Some, None, Contains}
use Rattle.zpl_binding.specs.of_zpl_tree.Syntax.{Name, Call, Exprs, Prefix, Program, Stmt, Prefixed, Stmts}
use Rattle.zpl_binding.specs.of_zpl_tree.Syntax.{NoStmt, ThenStmt, Form, Assign, Invoke, Block, If, While, Repeat}
use Rattle.zpl_binding.specs.of_zpl_tree.Syntax.{For, Border, Write, Return, Tested, Arms, NoArm, ThenArm}
use Rattle.zpl_binding.specs.of_zpl_tree.Syntax.{Otherwise, NoElse, Else}
use Rattle.zpl_binding.specs.of_zpl_names.Kinds.{Formal}
use Rattle.zpl_binding.specs.of_zpl_names.Scope.{kind_of}
use Rattle.zpl_binding.specs.of_zpl_names.Declared.{Routine, routine_named, entry_of}
use Rattle.zpl_binding.specs.Settings.{Setting}
use Rattle.zpl_binding.specs.Declarations.{known_of}
use Rattle.zpl_binding.specs.Storages.{borders_of}
use Rattle.zpl_meaning.specs.Store.{Store}
use Rattle.zpl_meaning.specs.Context.{Over, Setup, Place}
use Rattle.zpl_meaning.specs.Regions.{under_prefix}
use Rattle.zpl_meaning.specs.Calls.{Handed, Called, formals_in, value_exprs, handed_on, entered}
use Rattle.zpl_meaning.specs.Calls.{place_in}
use Rattle.zpl_meaning.specs.Program.{setup_of, entry_call, first_frame}

-- the place behind prefixes, whatever regions and masks they have
pub data IsUnder : List Prefix → Place → Place → Type 0 where
  Itself : {place : Place} → IsUnder [] place place
  Behind : {prefix : Prefix} {rest : List Prefix} {place inner : Place} (over : Over) →
      IsUnder rest (under_prefix place prefix over) inner → IsUnder (prefix ∷ rest) place inner

-- ---- the statements in a statement

abbrev pub list_of : Stmts → List Stmt
list_of NoStmt = []
list_of (ThenStmt first rest) = first ∷ list_of rest

abbrev pub arms_parts : Arms → List Stmt
arms_parts NoArm = []
arms_parts (ThenArm (Tested at test body) rest) = list_of body ++ arms_parts rest

abbrev pub else_parts : Otherwise → List Stmt
else_parts NoElse = []
else_parts (Else body) = list_of body

abbrev pub parts_of : Form → List Stmt
parts_of (Block body) = list_of body
parts_of (If arms otherwise) = arms_parts arms ++ else_parts otherwise
parts_of (While test body) = list_of body
parts_of (Repeat body until test) = list_of body
parts_of (For head body) = list_of body
parts_of (Assign name op value) = []
parts_of (Invoke name actuals) = []
parts_of (Border kind names) = []
parts_of (Write line items) = []
parts_of (Return value) = []

-- ---- calls

pub data IsCall : Form → Name → Exprs → Type 0 where
  AsStatement : {name : Name} {actuals : Exprs} → IsCall (Invoke name actuals) name actuals
  AsAnswer : {target name : Name} {at : ℕ} {actuals : Exprs} →
      IsCall (Assign target None (Call at name actuals)) name actuals

abbrev pub formals_at : Place → Name → List Formal
formals_at place name = formals_in (kind_of place.scope name)

-- what a call hands on, with these values of the actuals that are values
abbrev pub handed_at : Place → Store → Name → Exprs → List ℤ → List Handed
handed_at place store name actuals values =
    handed_on place.environment store (formals_at place name) actuals values

-- where the body of a procedure stands
abbrev pub body_place : Setup → Routine → Called → Store → Place
body_place setup routine called store =
    place_in setup routine called (entered setup routine called.actuals store)

-- ---- visits

-- The entry procedure's body; the statements in a visited one, behind its prefixes; and the body of
-- a procedure that one calls, with a value for each actual that is a value.
pub data IsVisited (setup : Setup) : Place → Stmt → Type 0 where
  Begins : (routine : Routine) (store : Store) → entry_of setup.program ≡ Some routine →
      IsVisited setup (body_place setup routine (entry_call setup.program) store)
      routine.procedure.body
  Holds : (place inner : Place) (at : ℕ) (prefixes : List Prefix) (form : Form) (part : Stmt) →
      IsVisited setup place (Prefixed at prefixes form) → IsUnder prefixes place inner →
      Contains (parts_of form) part → IsVisited setup inner part
  Calls : (place inner : Place) (at : ℕ) (prefixes : List Prefix) (form : Form) (name : Name)
      (actuals : Exprs) (values : List ℤ) (before store : Store) (result : ℕ) (routine : Routine) →
      IsVisited setup place (Prefixed at prefixes form) → IsUnder prefixes place inner →
      IsCall form name actuals →
      length values ≡ length (value_exprs inner (formals_at inner name) actuals) →
      routine_named setup.program name.text ≡ Some routine →
      IsVisited setup (body_place setup routine (record {
        name = name.text;
        actuals = handed_at inner before name actuals values;
        currents = inner.currents;
        result = result;
      }) store) routine.procedure.body

-- what a run of a program under settings knows
abbrev pub first_setup : Program → List Setting → Setup
first_setup program settings =
    let known = known_of program settings in
    let borders = borders_of program in
    setup_of program known borders (first_frame program known borders)

-- the procedure that is called is visited, wherever its body is run
abbrev pub IsVisitedCall : Setup → Called → Type 0
IsVisitedCall setup called =
    (routine : Routine) (store : Store) →
    routine_named setup.program called.name ≡ Some routine →
    IsVisited setup (body_place setup routine called store) routine.procedure.body
