-- Arrays that are declared, and the numbers behind them.
use Rattle.std.specs.Prelude.{ℕ, ◌+◌, Bool, true, false, length, sum_by}
use Rattle.zpl_tree.specs.Syntax.{Bracket, NoBracket, Bracketed, Param, VarDef, Decl, Config, Constant, Regions, Directions, Vars, Defined, Program, Procedure}
use Rattle.expanded_counts.specs.of_zpl_names.Declared.{Routine}
use Rattle.lower_draft.specs.of_zpl_lowering.Where.{Next}

-- names with a bracket are those of arrays
abbrev pub bracket_arrays : Bracket → ℕ → ℕ
bracket_arrays NoBracket names = 0
bracket_arrays (Bracketed inner) names = names

abbrev pub var_arrays : VarDef → ℕ
var_arrays var = bracket_arrays var.shape (length var.names)

-- a parameter by reference has no array of its own
abbrev pub value_arrays : Bool → Bracket → ℕ → ℕ
value_arrays true shape names = 0
value_arrays false shape names = bracket_arrays shape names

abbrev pub param_arrays : Param → ℕ
param_arrays param = value_arrays param.by_ref param.shape (length param.names)

abbrev pub procedure_arrays : Procedure → ℕ
procedure_arrays procedure =
    sum_by param_arrays procedure.params + sum_by var_arrays procedure.locals

-- the arrays that each call of a procedure has of its own
abbrev pub own_arrays : Routine → ℕ
own_arrays routine = procedure_arrays routine.procedure

abbrev pub decl_arrays : Decl → ℕ
decl_arrays (Config defines) = 0
decl_arrays (Constant defines) = 0
decl_arrays (Regions regions) = 0
decl_arrays (Directions directions) = 0
decl_arrays (Vars vars) = sum_by var_arrays vars
decl_arrays (Defined procedure) = 0

abbrev pub global_arrays : Program → ℕ
global_arrays program = sum_by decl_arrays program.decls

-- the numbers behind so many arrays, and so many copies
abbrev pub first_numbers : ℕ → ℕ → Next
first_numbers arrays copies = record {
  scalars = 0;
  slots = 0;
  arrays = 0;
  copies = arrays;
  later = arrays;
  temps = arrays + copies;
}
