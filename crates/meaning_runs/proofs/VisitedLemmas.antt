-- A statement that a run comes to is one that is visited.
use Rattle.std.proofs.Common.{◌≡◌, ℕ, suc, Bool, true, false, ◌&&◌, ℤ, List, [], ◌∷◌, length}
use Rattle.std.proofs.Common.{Some, None, refl, subst, arith}
use Rattle.zpl_nums.specs.declared.ends.TrapKind.{TrapKind}
use Rattle.zpl_meaning.specs.of_zpl_tree.Syntax.{Name, Call, Exprs, Prefix, Stmt, Prefixed, Form, Assign, Invoke}
use Rattle.zpl_meaning.specs.of_zpl_names.Declared.{Routine, routine_named}
use Rattle.zpl_meaning.proofs.of_zpl_names.ListLemmas.{Contains-from_among}
use Rattle.zpl_meaning.specs.Computed.{Computed, Gives, Traps, computed_then, both_then, provided}
use Rattle.zpl_meaning.specs.Store.{Store}
use Rattle.zpl_meaning.specs.Context.{Place}
use Rattle.zpl_meaning.specs.Regions.{under_prefix}
use Rattle.zpl_meaning.specs.Term.{Terms, NoTerm, ThenTerm}
use Rattle.zpl_meaning.specs.Settled.{Placed, settled, settled_each}
use Rattle.zpl_meaning.specs.Checks.{conform, refer}
use Rattle.zpl_meaning.specs.Fields.{Field, field_of, fields_of}
use Rattle.zpl_meaning.specs.Phases.{scalar_values, scalars_in}
use Rattle.zpl_meaning.specs.Calls.{Handed, Called, value_exprs, handed_on, actuals_in}
use Rattle.zpl_meaning.specs.Visited.{IsUnder, parts_of, IsCall, formals_at, handed_at, body_place}
use Rattle.zpl_meaning.specs.Visited.{IsVisited}
use Rattle.meaning_runs.specs.Met.{ComesUnder, call_of, MakesCall, Opening, context_at}
use Rattle.meaning_runs.specs.Met.{IsMet}
use Rattle.meaning_runs.proofs.PartLemmas.{goes_among}
use Rattle.zpl_meaning.proofs.HandedLemmas.{handed_values}

-- ---- what is met is visited

comes_under : (store : Store) (prefixes : List Prefix) (place inner : Place)
    → ComesUnder store prefixes place inner → IsUnder prefixes place inner
comes_under store prefixes place inner (ComesUnder.Bare same) = IsUnder.Itself
comes_under store prefixes place inner
    (ComesUnder.Behind prefix rest outer last over is comes) =
    IsUnder.Behind over (comes_under store rest (under_prefix outer prefix over) last comes)

module _ (opening : Opening) where
  abbrev Visited : Place → Stmt → Type 0
  Visited place stmt = IsVisited opening.setup place stmt

  called_visited : (place inner : Place) (at : ℕ) (prefixes : List Prefix) (form : Form)
      (store : Store) (called : Called) (before : Store) (routine : Routine)
      → Visited place (Prefixed at prefixes form) → IsUnder prefixes place inner
      → MakesCall inner store form called before
      → routine_named opening.setup.program called.name ≡ Some routine
      → Visited (body_place opening.setup routine called before) routine.procedure.body
  called_visited place inner at prefixes form store called before routine visited under
      (MakesCall.AsStatement name actuals handed has) named =
      let from = handed_values inner store name actuals handed has in
      subst (λ given. Visited
      (body_place opening.setup routine (call_of inner name given 0) before)
      routine.procedure.body) from.same
      (IsVisited.Calls place inner at prefixes (Invoke name actuals) name actuals from.values store
      before 0 routine visited under IsCall.AsStatement from.many named)
  called_visited place inner at prefixes form store called before routine visited under
      (MakesCall.AsAnswer target name offset actuals handed has) named =
      let from = handed_values inner store name actuals handed has in
      subst (λ given. Visited
      (body_place opening.setup routine (call_of inner name given (length store.scalars)) before)
      routine.procedure.body) from.same
      (IsVisited.Calls place inner at prefixes (Assign target None (Call offset name actuals)) name
      actuals from.values store before (length store.scalars) routine visited under IsCall.AsAnswer
      from.many named)

  pub met_visited : (deeper : ℕ) (place : Place) (stmt : Stmt) (store : Store)
      → IsMet opening deeper place stmt store → Visited place stmt
  met_visited deeper place stmt store (IsMet.Begins less routine chain named) =
      IsVisited.Begins routine opening.store named
  met_visited deeper place stmt store
      (IsMet.Holds less outer inner at prefixes form from part later met comes goes) =
      IsVisited.Holds outer inner at prefixes form part
      (met_visited less outer (Prefixed at prefixes form) from met)
      (comes_under from prefixes outer inner comes)
      (Contains-from_among (parts_of form) part
      (goes_among (context_at opening less inner) opening.bound at form from part later goes))
  met_visited deeper place stmt store
      (IsMet.Calls less outer inner at prefixes form from called before routine met comes makes
      named) =
      called_visited outer inner at prefixes form from called before routine
      (met_visited (suc less) outer (Prefixed at prefixes form) from met)
      (comes_under from prefixes outer inner comes) makes named
