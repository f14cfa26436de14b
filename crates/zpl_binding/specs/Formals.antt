-- Which arrays the array parameters of procedures may stand for: a set for each, closed under
-- calls.
use Rattle.std.specs.Prelude.{◌≡◌, ℕ, Bool, true, List, ◌++◌, [], ◌∷◌, flat_map, Option, Some, None, option_map, if◌then◌else◌, Contains, ◌⊎◌}
use Rattle.zpl_tree.specs.Syntax.{Named, Around, Exprs, ThenExpr, Dir, Program}
use Rattle.zpl_names.specs.Scope.{kind_of, is_array}
use Rattle.zpl_names.specs.Shapes.{unknown_shapes}
use Rattle.zpl_names.specs.Declared.{Routine, routine_named, scope_of}
use Rattle.zpl_names.specs.Sites.{Site, AtExpr, CallSite}
use Rattle.zpl_names.specs.Reached.{Reaches, calls_in, sites_at}
use Rattle.zpl_names.specs.Expansion.{FormalName, formal_names, formal_named, bound_in, local_arrays, global_array, ExpandedArray, Instance}

-- ---- a name in the text of a procedure

-- a local array counts before a parameter, and that before a global array
abbrev pub first_variable : Option ExpandedArray → Option FormalName → Option ExpandedArray →
    Option ℕ
first_variable (Some local) formal global = Some local.storage
first_variable None (Some formal) global = None
first_variable None None global = option_map (λ array. array.storage) global

-- the offset of the local array that it is, or else of the global one, if any
abbrev pub variable_named : Program → Routine → List ℕ → Option ℕ
variable_named program routine text =
    first_variable (bound_in (local_arrays [] routine.procedure.locals) text)
    (formal_named (formal_names routine.procedure.params) text) (global_array program text)

abbrev pub is_array_name : Program → Routine → List ℕ → Bool
is_array_name program routine text =
    is_array (kind_of (scope_of program routine) (record { text = text; at = 0 }))

-- none where it is a parameter or no array
abbrev pub declared_array : Program → Routine → List ℕ → Option ℕ
declared_array program routine text =
    if is_array_name program routine text then variable_named program routine text else None

abbrev pub array_in : Program → Option Routine → List ℕ → Option ℕ
array_in program None text = None
array_in program (Some routine) text = declared_array program routine text

-- ---- calls

-- the name of a parameter and the name that a call hands to it
pub record Handed : Type 0 where
  pub formal : List ℕ
  pub actual : List ℕ

abbrev pub each_handed : List FormalName → Exprs → List Handed
each_handed (formal ∷ formals) (ThenExpr (Named at actual) rest) =
    record { formal = formal.name.text; actual = actual.text } ∷ each_handed formals rest
each_handed (formal ∷ formals) (ThenExpr actual rest) = each_handed formals rest
each_handed formals actuals = []

abbrev pub handed_to : Option Routine → Exprs → List Handed
handed_to None actuals = []
handed_to (Some routine) actuals =
    each_handed (formal_names routine.procedure.params) actuals

abbrev pub handed_by : Program → CallSite → List Handed
handed_by program call = handed_to (routine_named program call.name.text) call.actuals

-- the procedures that calls come to, from the entry procedure on
abbrev pub IsCalled : Program → List ℕ → Type 0
IsCalled program text = Reaches program program.name.text text

-- ---- what a name may stand for

-- In a procedure a name may stand for the array that is declared at an offset: it is that array, or
-- it is a parameter to which a call hands a name that may stand for it.
pub data StandsFor (program : Program) : List ℕ → List ℕ → ℕ → Type 0 where
  Itself : (text name : List ℕ) (variable : ℕ) →
      array_in program (routine_named program text) name ≡ Some variable →
      StandsFor program text name variable
  Parameter : (text : List ℕ) (call : CallSite) (handed : Handed) (variable : ℕ) →
      IsCalled program text → Contains (calls_in program text) call →
      Contains (handed_by program call) handed →
      StandsFor program text handed.actual variable →
      StandsFor program call.name.text handed.formal variable

-- ---- lists that are closed under calls

-- a parameter of a procedure, and an array that it may stand for
pub record Standing : Type 0 where
  pub procedure : List ℕ
  pub formal : List ℕ
  pub variable : ℕ

-- a name stands for the array by itself, or as a list tells
abbrev pub IsListed : Program → List Standing → List ℕ → List ℕ → ℕ → Type 0
IsListed program standings text name variable =
    (array_in program (routine_named program text) name ≡ Some variable) ⊎
    Contains standings (record { procedure = text; formal = name; variable = variable })

-- A list of procedures that has the entry procedure and all that they call, and a list of what
-- parameters stand for that has what their calls hand on.
pub record AreClosed (program : Program) (called : List (List ℕ)) (standings : List Standing) :
    Type 0 where
  pub entry : Contains called program.name.text
  pub calls : (text : List ℕ) (call : CallSite) → Contains called text →
      Contains (calls_in program text) call → Contains called call.name.text
  pub handed : (text : List ℕ) (call : CallSite) (handed : Handed) (variable : ℕ) →
      Contains called text → Contains (calls_in program text) call →
      Contains (handed_by program call) handed →
      IsListed program standings text handed.actual variable →
      Contains standings
      (record { procedure = call.name.text; formal = handed.formal; variable = variable })

-- ---- reads that wrap round

-- `A@^d`, as it is written
pub record AroundRead : Type 0 where
  pub array : List ℕ
  pub shift : Dir

abbrev pub around_at : Site → List AroundRead
around_at (AtExpr reach rank (Around at name shift)) =
    record { array = name.text; shift = shift } ∷ []
around_at site = []

-- those of a procedure
abbrev pub around_reads : Program → List ℕ → List AroundRead
around_reads program text = flat_map around_at (sites_at program text unknown_shapes)

-- A procedure that is called reads an array with a shift that wraps round.
pub record IsReadAround (program : Program) (variable : ℕ) (shift : Dir) : Type 0 where
  pub text : List ℕ
  pub read : AroundRead
  pub called : IsCalled program text
  pub there : Contains (around_reads program text) read
  pub stands : StandsFor program text read.array variable
  pub shifted : read.shift ≡ shift

-- In the expanded program, a call has an array for each parameter of its procedure that is one.
abbrev pub HasActuals : Program → Instance → Type 0
HasActuals program instance =
    (text : List ℕ) → is_array_name program instance.routine text ≡ true →
    bound_in (instance.referred ++ instance.own) text ≡ None →
    formal_named (formal_names instance.routine.procedure.params) text ≡ None
