-- What a call hands to a procedure, and what the procedure makes of it.
use Rattle.std.specs.Prelude.{ℕ, true, false, ℤ, pos, List, [], ◌∷◌, ◌++◌, Option, Some, None}
use Rattle.zpl_binding.specs.of_zpl_region.declared.regions.Region.{Region}
use Rattle.zpl_binding.specs.of_zpl_arrays.Array.{Array}
use Rattle.zpl_binding.specs.of_zpl_tree.Syntax.{Name, Expr, Named, Exprs, NoExpr, ThenExpr}
use Rattle.zpl_binding.specs.of_zpl_names.Kinds.{Formal, ScalarFormal, ArrayFormal, Kind, Procedure}
use Rattle.zpl_binding.specs.of_zpl_names.Scope.{kind_of}
use Rattle.zpl_binding.specs.of_zpl_names.Declared.{Routine, scope_of}
use Rattle.zpl_binding.specs.of_zpl_names.Expansion.{FormalName, formal_names}
use Rattle.zpl_binding.specs.of_zpl_names.Sites.{Actual}
use Rattle.zpl_meaning.specs.Computed.{Computed, Gives, computed_then}
use Rattle.zpl_meaning.specs.Store.{Thing, ArrayAt, Environment, Store, thing_of, array_at}
use Rattle.zpl_meaning.specs.Context.{Currents, Setup, Place}
use Rattle.zpl_meaning.specs.Settled.{Placed}
use Rattle.zpl_meaning.specs.Phases.{placed_in, scalars_in}
use Rattle.zpl_meaning.specs.Variables.{Frame, with_thing, with_scalar_named, with_array_named}
use Rattle.zpl_meaning.specs.Variables.{with_variables}

-- What a parameter takes: a value or a copy of an array, with its home box, or what a variable's
-- name stands for.
pub data Handed : Type 0 where
  Copied : (value : ℤ) → Handed
  CopiedArray : (array : Array) (home : Region) → Handed
  Referred : (thing : Thing) → Handed

-- The procedure's name, what its parameters take, the current regions that it inherits, and the
-- place of the scalar that takes what it answers.
pub record Called : Type 0 where
  pub name : List ℕ
  pub actuals : List Handed
  pub currents : Currents
  pub result : ℕ

-- ---- at the call

abbrev pub formals_in : Option Kind → List Formal
formals_in (Some (Procedure signature)) = signature.formals
formals_in kind = []

-- the actuals of parameters that take a value
abbrev pub value_exprs : Place → List Formal → Exprs → List Placed
value_exprs place [] actuals = []
value_exprs place (formal ∷ formals) NoExpr = []
value_exprs place (ScalarFormal false base ∷ formals) (ThenExpr actual rest) =
    placed_in place Actual actual ∷ value_exprs place formals rest
value_exprs place (formal ∷ formals) (ThenExpr actual rest) = value_exprs place formals rest

-- what an actual that is a name stands for; no other actual of an accepted program is asked
abbrev pub actual_thing : Environment → Expr → Option Thing
actual_thing environment (Named at name) = thing_of environment name.text
actual_thing environment actual = None

-- no accepted program hands on a name that stands for nothing; it counts as 0
abbrev pub referred : Option Thing → Handed
referred (Some thing) = Referred thing
referred None = Copied (pos 0)

abbrev pub copied_array : Store → Option Thing → Handed
copied_array store (Some (ArrayAt place home)) = CopiedArray (array_at store place) home
copied_array store thing = Copied (pos 0)

-- what each parameter takes, with the values of those that take one
abbrev pub handed_on : Environment → Store → List Formal → Exprs → List ℤ → List Handed
handed_on environment store [] actuals values = []
handed_on environment store (formal ∷ formals) NoExpr values = []
handed_on environment store (ScalarFormal false base ∷ formals) (ThenExpr actual rest) [] = []
handed_on environment store (ScalarFormal false base ∷ formals) (ThenExpr actual rest)
    (value ∷ values) =
    Copied value ∷ handed_on environment store formals rest values
handed_on environment store (ScalarFormal true base ∷ formals) (ThenExpr actual rest) values =
    referred (actual_thing environment actual) ∷ handed_on environment store formals rest values
handed_on environment store (ArrayFormal true base shape ∷ formals) (ThenExpr actual rest) values =
    referred (actual_thing environment actual) ∷ handed_on environment store formals rest values
handed_on environment store (ArrayFormal false base shape ∷ formals) (ThenExpr actual rest) values =
    copied_array store (actual_thing environment actual)
    ∷ handed_on environment store formals rest values

-- the evaluation of a call's actuals
abbrev pub actuals_in : Place → Store → Name → Exprs → Computed (List Handed)
actuals_in place store name actuals =
    let formals = formals_in (kind_of place.scope name) in
    computed_then (scalars_in place store (value_exprs place formals actuals)) (λ values.
    Gives (handed_on place.environment store formals actuals values))

-- ---- in the procedure

abbrev pub with_handed : Frame → Name → Handed → Frame
with_handed frame name (Copied value) = with_scalar_named frame name value
with_handed frame name (CopiedArray array home) = with_array_named frame name home array
with_handed frame name (Referred thing) = with_thing frame name thing

abbrev pub with_formals : Frame → List FormalName → List Handed → Frame
with_formals frame [] actuals = frame
with_formals frame (formal ∷ formals) [] = frame
with_formals frame (formal ∷ formals) (actual ∷ actuals) =
    with_formals (with_handed frame formal.name actual) formals actuals

-- the parameters and then the local variables, behind what the store has
abbrev pub entered : Setup → Routine → List Handed → Store → Frame
entered setup routine actuals store =
    let formals = formal_names routine.procedure.params in
    let empty : Frame = record { names = []; store = store } in
    with_variables setup.known setup.borders (with_formals empty formals actuals)
    routine.procedure.locals

-- where its body stands: its own names hide global ones, it inherits the current regions, and no
-- prefix of its text encloses it
abbrev pub place_in : Setup → Routine → Called → Frame → Place
place_in setup routine called frame = record {
  setup = setup;
  scope = scope_of setup.program routine;
  environment = record { names = frame.names ++ setup.globals };
  result = called.result;
  prefix = Some 0;
  currents = called.currents;
  edge = None;
}
