-- A call as a statement goes as its code does, where what is called does.
use Rattle.std.proofs.Common.{◌≡◌, ℕ, ◌+◌, ℤ, List, [], map, length, sym, ap, ◌∙◌, subst, arith}
use Rattle.zpl_tree.specs.Syntax.{Name, Expr, Exprs, Invoke}
use Rattle.zpl_names.specs.Counts.{exprs_nodes}
use Rattle.zpl_names.specs.Scope.{kind_of}
use Rattle.zpl_meaning.specs.Context.{Place}
use Rattle.zpl_meaning.specs.Outcome as out
use Rattle.zpl_meaning.specs.Outcome.{Outcome}
use Rattle.zpl_meaning.specs.Phases.{scalars_in}
use Rattle.zpl_meaning.specs.Settled.{Placed}
use Rattle.zpl_meaning.specs.Calls as mean_calls
use Rattle.zpl_meaning.specs.Calls.{Called, Handed, formals_in, handed_on}
use Rattle.zpl_meaning.specs.Statement as mean
use Rattle.row_runs.specs.Structured as code
use Rattle.prefix_runs.specs.of_zpl_lowering.Where.{Where, line_of}
use Rattle.prefix_runs.specs.of_zpl_lowering.Lowered.{behind, joined, phased}
use Rattle.prefix_runs.specs.of_zpl_lowering.Statement as low
use Rattle.prefix_runs.specs.of_zpl_lowering.Statement.{Given}
use Rattle.prefix_runs.specs.of_lowering_runs.Seen.{numbered, seen_place}
use Rattle.prefix_runs.specs.of_lowering_runs.Run.{does}
use Rattle.prefix_runs.specs.of_lowering_runs.Agrees.{Agrees}
use Rattle.prefix_runs.specs.of_lowering_runs.Stands.{HasRoom, IsLike}
use Rattle.prefix_runs.specs.of_lowering_runs.Goes.{World, Goes, ValuesGo}
use Rattle.prefix_runs.specs.of_lowering_runs.Values.{AreSet, nodes_of}
use Rattle.prefix_runs.specs.of_lowering_runs.Frames.{seen_given}
use Rattle.prefix_runs.specs.of_lowering_runs.Called.{calling_at}
use Rattle.prefix_runs.proofs.of_lowering_runs.CallLemmas.{value_meant}
use Rattle.prefix_runs.proofs.of_lowering_runs.FitLemmas.{room_coded, room_first, room_rest}
use Rattle.prefix_runs.proofs.of_lowering_runs.HeadLemmas.{phased_length, with_computed_value}
use Rattle.prefix_runs.proofs.of_lowering_runs.ListLemmas.{filled_agrees, meant_length}
use Rattle.call_runs.specs.Taken.{CallsGo, IsInvoked}
use Rattle.call_runs.proofs.ActualLemmas.{given_earlier, given_is, handed_is, values_are, values_counted}

module _ (IsCalled : Where → List Given → Called → Type 0) (IsValue : Expr → Where → Place → Type 0)
    (world : World) (calls : CallsGo IsCalled world) (valued : ValuesGo world IsValue) (at : ℕ)
    (name : Name) (actuals : Exprs) where
  pub invoke_goes : Goes world (IsInvoked IsCalled IsValue name actuals)
      (λ c store. mean.exec_form c world.turns at (Invoke name actuals) store)
      (λ l next. low.lowered_form l next at (Invoke name actuals)) (exprs_nodes actuals)
  invoke_goes sight w next start stands served room store now like =
      let tables = world.tables in
      let n = world.turns in
      let Like = IsLike tables sight.spots w next start in
      let p = seen_place sight w start in
      let line = line_of w at in
      let formals = formals_in (kind_of w.scope name) in
      let exprs = low.value_exprs w formals actuals in
      let phases = phased w line next exprs in
      let first = next.scalars + phases.lowered.scalars in
      let own = low.with_values line first phases in
      let more = behind next own in
      let givens = low.given_to w first formals actuals in
      let calling = calling_at w name.text givens 0 line in
      let few = values_counted IsValue sight w start formals actuals in
      let rooms : HasRoom tables next (joined (code.Rows []) own (world.code calling more)) =
      room_coded tables next (code.Rows []) _ room in
      let many = phased_length w line next exprs in
      let handed : List ℤ → List Handed =
      λ values. handed_on p.environment store formals actuals values in
      let called : List Handed → Called = λ hs.
      record { name = name.text; actuals = hs; currents = p.currents; result = 0 } in
      subst (λ (o : Outcome). Agrees Like n (exprs_nodes actuals) o
      (code.then_do (does tables n own.code now) (does tables n (world.code calling more).code)))
      (sym (with_computed_value (scalars_in p store (mean_calls.value_exprs p formals actuals)) handed
      store line (λ hs. world.call (called hs) store)))
      (subst (λ (es : List Placed). Agrees Like n (exprs_nodes actuals)
      (out.with_value (scalars_in p store es) store line (λ vs. world.call (called (handed vs)) store))
      (code.then_do (does tables n own.code now) (does tables n (world.code calling more).code)))
      (value_meant sight w start formals actuals)
      (filled_agrees Like (λ vs after. Like store after × AreSet first (length exprs) vs after) n 0
      line (nodes_of exprs) (exprs_nodes actuals) store
      (λ vs. world.call (called (handed vs)) store) (does tables n (world.code calling more).code) _ _
      (omega (arith, few))
      (λ vs after l.
      let same : handed vs ≡ map (seen_given sight.spots after) givens =
      handed_is IsValue sight w start next stands formals actuals first vs store after served.actuals_are
      l.1.as_many l.1.held l.0.seen in
      subst (λ (hs : List Handed). Agrees Like n 0 (world.call (called hs) store)
      (does tables n (world.code calling more).code after)) (sym same)
      (calls.by sight.spots w next more start name.text givens line stands
      (record { scalars = omega arith; slots = omega arith; arrays = omega arith })
      (given_earlier (length (numbered sight.spots)) w.numbers.arrays next.scalars first givens
      more.scalars (omega arith)
      (given_is IsValue sight w start next stands formals actuals first more.scalars served.actuals_are
      (omega (arith, many))))
      (room_rest tables next (code.Rows []) own (world.code calling more) rooms) store after l.0
      (subst (λ (hs : List Handed). IsCalled w givens (called hs)) same
      (served.from first vs store (l.1.as_many
      ∙ sym (meant_length exprs)
      ∙ ap (λ es. length es) (value_meant sight w start formals actuals))))))
      (valued sight w next start line exprs stands
      (values_are IsValue sight w start formals actuals served.actuals_are)
      (room_first tables next (code.Rows []) own (world.code calling more) rooms) store now like)))
