-- A `return` whose value has operators over regions.
use Rattle.std.proofs.Common.{refl, sym, subst, arith, ℕ, ◌+◌, ◌≤◌, ℤ, [], ◌∷◌, None, Some}
use Rattle.zpl_tree.specs.Syntax.{Expr, Return}
use Rattle.zpl_names.specs.Counts.{expr_nodes}
use Rattle.zpl_names.specs.Sites.{Role, Result}
use Rattle.zpl_meaning.specs.Computed as mean
use Rattle.zpl_meaning.specs.Store.{Store}
use Rattle.zpl_meaning.specs.Store as mean_store
use Rattle.zpl_meaning.specs.Context.{Place}
use Rattle.zpl_meaning.specs.Phases.{scalar_in}
use Rattle.zpl_meaning.specs.Outcome as out
use Rattle.zpl_meaning.specs.Statement as mean_statement
use Rattle.node_form.specs.declared.tables.Tables.{Tables}
use Rattle.node_form.specs.Expression.{Expression, words_of}
use Rattle.node_form.specs.Value.{scalar_operands, value_of}
use Rattle.row_runs.specs.Run.{Step}
use Rattle.row_runs.specs.Structured as code
use Rattle.row_runs.specs.Structured.{Course, by_step, rows_do}
use Rattle.flat_form.specs.Whole.{Whole}
use Rattle.print_runs.specs.of_zpl_lowering.Where.{Where, Next, line_of}
use Rattle.print_runs.specs.of_zpl_lowering.Lowered.{first_left, phased}
use Rattle.print_runs.specs.of_zpl_lowering.Statement as low
use Rattle.print_runs.specs.of_lowering_runs.Seen.{Sight, seen_place, seen_store}
use Rattle.print_runs.specs.of_lowering_runs.Run.{decide, does, step}
use Rattle.print_runs.specs.of_lowering_runs.Agrees.{Agrees, Trapping}
use Rattle.print_runs.specs.of_lowering_runs.Goes.{World}
use Rattle.print_runs.specs.of_lowering_runs.Stands.{HasRoom, IsLike, Stands}
use Rattle.print_runs.proofs.of_lowering_runs.AgreeLemmas.{goes_agrees, led_agrees, weaker_agrees}
use Rattle.print_runs.proofs.of_lowering_runs.FitLemmas.{anew_goes_to}
use Rattle.print_runs.proofs.of_lowering_runs.RowLemmas.{set_step}
use Rattle.print_runs.proofs.of_lowering_runs.ScalarLemmas.{set_agrees}
use Rattle.call_runs.specs.Answered.{HasReturned, Returns}
use Rattle.call_runs.proofs.EndLemmas.{returned_carried}
use Rattle.operator_runs.specs.Operated.{IsOperated}
use Rattle.operator_runs.specs.Served.{OperatedValue}
use Rattle.operator_runs.proofs.NodeLemmas.{tests_few}
use Rattle.operator_runs.proofs.PhaseLemmas.{room_phases}
use Rattle.operator_runs.proofs.ScalarLemmas.{Came, CameTo, Fell, comes}

module _ (tables : Tables) (n : ℕ) (sight : Sight) (w : Where) (next : Next) (now : Whole)
    (stands : Stands sight.spots w next) (room : next.scalars ≤ tables.scalars) (role : Role)
    (line : ℕ) (expr : Expr) where
  abbrev place : Place
  place = seen_place sight w now

  abbrev store : Store
  store = seen_store sight.spots w.numbers.arrays now

  abbrev Ended : Store → Whole → Type 0
  Ended = HasReturned tables sight w next now

  abbrev left : Expression
  left = first_left (phased w line next (low.placed_in w role expr ∷ [])).left

  returned : IsOperated w place None expr → IsLike tables sight.spots w next now store now
      → (let made = low.lowered_scalar w line next (low.placed_in w role expr) (Some w.result) in
      HasRoom tables next made
      → Agrees Ended n (expr_nodes expr)
      (out.with_value (scalar_in place store role expr) store line (λ answer.
      out.goes_on (mean_store.with_scalar store sight.answer answer)))
      (does tables n made.code now))
  returned operated like space =
      by _ _
      (comes tables n sight w next now stands room role line (expr_nodes expr) expr
      (tests_few expr w line next (low.placed_in w role expr).rank) operated like
      (room_phases tables next (phased w line next (low.placed_in w role expr ∷ [])).lowered _ space))
    where
      by : (value : mean.Computed ℤ) (course : Course Whole)
          → Came tables n sight w next now stands room line (expr_nodes expr) left value course
          → Agrees Ended n (expr_nodes expr)
          (out.with_value value store line (λ answer.
          out.goes_on (mean_store.with_scalar store sight.answer answer)))
          (code.then_do course (rows_do (step tables n) (decide tables n)
          (low.set_row line left (Some w.result))))
      by value course (Fell less) = Trapping (omega (arith, less))
      by value course (CameTo {after = after} {jumps = jumps} like same less) =
          weaker_agrees Ended n n (jumps + 0) (expr_nodes expr) _ _ (omega arith) (omega (arith, less))
          (led_agrees Ended n 0 jumps _ _
          (subst (λ (one : Step Whole). Agrees Ended n 0
          (out.with_value value store line (λ answer.
          out.goes_on (mean_store.with_scalar store sight.answer answer)))
          (by_step after one (λ end. code.goes_on end)))
          (sym (set_step tables n after like.sound.settled w.result line (words_of left)))
          (set_agrees tables n sight w next now stands room Ended n 0 w.result line store after value
          (value_of (scalar_operands after.scalars) (words_of left))
          (λ answer. out.goes_on (mean_store.with_scalar store sight.answer answer))
          (λ end. code.goes_on end) same
          (λ v f. goes_agrees Ended n _ _ (record {
            before = store;
            mid = after;
            value = v;
            integer = f;
            like = like;
            store_is = refl;
            whole_is = refl;
          })))))

pub return_goes : (world : World) (at : ℕ) (value : Expr)
    → Returns world (OperatedValue value)
    (λ c store. mean_statement.exec_form c world.turns at (Return value) store)
    (λ l next. low.lowered_form l next at (Return value)) (1 + expr_nodes value)
return_goes world at value =
    anew_goes_to world (λ sight w next start. HasReturned world.tables sight w next start)
    (returned_carried world.tables) (OperatedValue value)
    (λ c store. mean_statement.exec_form c world.turns at (Return value) store)
    (λ l next. low.lowered_form l next at (Return value)) (1 + expr_nodes value)
    (λ sight w next now stands served room like.
    weaker_agrees (HasReturned world.tables sight w next now) world.turns world.turns
    (expr_nodes value) (1 + expr_nodes value) _ _ (omega arith) (omega arith)
    (returned world.tables world.turns sight w next now stands
    (let le : next.scalars ≤ world.tables.scalars = omega (arith, room.scalars) in le) (Result None)
    (line_of w at) value served like room))
