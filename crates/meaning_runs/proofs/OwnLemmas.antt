-- The own names of procedures stand for variables alone, so that a procedure, a region or a
-- direction in a procedure's scope is a global one.
use Rattle.std.proofs.Common.{◌≡◌, ℕ, Bool, true, false, cond, inl, inr, List, [], ◌∷◌, ◌++◌, map}
use Rattle.std.proofs.Common.{Option, Some, None, option_map, refl, sym, subst}
use Rattle.std.specs.Prelude.{find}
use Rattle.std.specs.List.{AllByRecursion, flat_map}
use Rattle.std.specs.Option.{option_or}
use Rattle.std.specs.Str.{bytes_eq}
use Rattle.zpl_meaning.specs.of_zpl_tree.Syntax.{Name, Base, Bracket, NoBracket, Bracketed, Param, VarDef, Decl}
use Rattle.zpl_meaning.specs.of_zpl_tree.Syntax.{Config, Constant, Regions, Directions, Vars, Defined, Program}
use Rattle.zpl_meaning.specs.of_zpl_tree.Syntax as plain
use Rattle.zpl_meaning.specs.of_zpl_names.Kinds as kind
use Rattle.zpl_meaning.specs.of_zpl_names.Kinds.{Kind, Signature}
use Rattle.zpl_meaning.specs.of_zpl_names.Scope.{Entry, Scope, kind_in, kind_of}
use Rattle.zpl_meaning.specs.of_zpl_names.Shapes.{variable_kind}
use Rattle.zpl_meaning.specs.of_zpl_names.Declared.{entry_for, head_scope, own_entries, Routine}
use Rattle.zpl_meaning.specs.of_zpl_names.Declared.{routines_behind, routines_of, routine_named, scope_of}
use Rattle.zpl_meaning.specs.of_zpl_names.Declared.{globals_of}
use Rattle.zpl_meaning.specs.of_zpl_names.Declared.{with_procedure}
use Rattle.zpl_meaning.proofs.of_zpl_names.ListLemmas.{Among}
use Rattle.zpl_meaning.proofs.VisitLemmas.{IsOwn, AllOwn, own_append, own_variable, own_each}
use Rattle.zpl_meaning.proofs.VisitLemmas.{own_flat, all_own, own_in, find_among}

-- a kind that no own name has
abbrev pub IsGlobal : Kind → Type 0
IsGlobal (kind.Scalar base) = ⊥
IsGlobal (kind.Array base shape) = ⊥
IsGlobal (kind.Config base) = Unit {0}
IsGlobal (kind.Constant base) = Unit {0}
IsGlobal (kind.Region shape) = Unit {0}
IsGlobal (kind.Direction rank) = Unit {0}
IsGlobal (kind.Procedure signature) = Unit {0}

among_globals : (own globals : Option Kind) (thing : Kind) → IsOwn own → IsGlobal thing
    → option_or own globals ≡ Some thing → globals ≡ Some thing
among_globals None globals thing h is e = e
among_globals (Some (kind.Scalar base)) globals thing h is e =
    let same : kind.Scalar base ≡ thing = cc in absurd (subst IsGlobal (sym same) is)
among_globals (Some (kind.Array base shape)) globals thing h is e =
    let same : kind.Array base shape ≡ thing = cc in absurd (subst IsGlobal (sym same) is)
among_globals (Some (kind.Config base)) globals thing h is e = absurd h
among_globals (Some (kind.Constant base)) globals thing h is e = absurd h
among_globals (Some (kind.Region shape)) globals thing h is e = absurd h
among_globals (Some (kind.Direction rank)) globals thing h is e = absurd h
among_globals (Some (kind.Procedure other)) globals thing h is e = absurd h

-- ---- procedures of the text

record IsBehind (routine : Routine) : Type 0 where
  earlier : List Entry
  own : routine.own ≡ own_entries earlier routine.procedure

routine_behind : (decls : List Decl) (earlier : List Entry) (routine : Routine)
    → Among (routines_behind earlier decls) routine → IsBehind routine
routine_behind [] earlier routine m = absurd m
routine_behind (Defined procedure ∷ decls) earlier routine (inl e) =
    subst IsBehind e (record { earlier = earlier; own = refl })
routine_behind (Defined procedure ∷ decls) earlier routine (inr m) =
    routine_behind decls (with_procedure earlier procedure) routine m
routine_behind (Config defines ∷ decls) earlier routine m = routine_behind decls _ routine m
routine_behind (Constant defines ∷ decls) earlier routine m = routine_behind decls _ routine m
routine_behind (Regions regions ∷ decls) earlier routine m = routine_behind decls _ routine m
routine_behind (Directions directions ∷ decls) earlier routine m =
    routine_behind decls _ routine m
routine_behind (Vars vars ∷ decls) earlier routine m = routine_behind decls _ routine m

pub global_in : (program : Program) (routine : Routine) → Among (routines_of program) routine
    → (text : List ℕ) (thing : Kind) → IsGlobal thing
    → option_or (kind_in routine.own text) (kind_in (globals_of program) text) ≡ Some thing
    → kind_in (globals_of program) text ≡ Some thing
global_in program routine m text thing is e =
    let behind = routine_behind program.decls [] routine m in
    among_globals (kind_in routine.own text) (kind_in (globals_of program) text) thing
    (subst (λ entries. IsOwn (kind_in entries text)) (sym behind.own)
    (own_in (own_entries behind.earlier routine.procedure) text
    (all_own behind.earlier routine.procedure))) is e

pub global_kind : (program : Program) (routine : Routine) → Among (routines_of program) routine
    → (name : Name) (thing : Kind) → IsGlobal thing
    → kind_of (scope_of program routine) name ≡ Some thing
    → kind_in (globals_of program) name.text ≡ Some thing
global_kind program routine m name thing is e =
    global_in program routine m name.text thing is e

pub named_among : (program : Program) (text : List ℕ) (routine : Routine)
    → routine_named program text ≡ Some routine → Among (routines_of program) routine
named_among program text routine e =
    find_among (λ routine. bytes_eq routine.procedure.name.text text) (routines_of program) routine
    e
