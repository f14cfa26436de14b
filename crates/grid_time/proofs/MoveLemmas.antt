-- The moves of a run, turn by turn.
use Rattle.std.proofs.Common.{◌≡◌, ℕ, zero, suc, ◌+◌, ◌<◌, ◌≤◌, List, [], ◌∷◌, ◌++◌, length, Option, Some, None, refl, sym, ◌∙◌, ap, subst, arith, add-one, length-append}
use Rattle.std.proofs.Common.{⊎_elim}
use Rattle.std.proofs.Math.Nat.{eq-or-lt_of_le}
use Rattle.grid_links.specs.Machine.{Moves, Waiting, Over, Stuck}
use Rattle.grid_links.specs.Run as links
use Rattle.grid_meaning.specs.Grid.{after_from, next_turn, processors, start_grid, system_over}
use Rattle.grid_meaning.specs.Order.{given}
use Rattle.grid_meaning.specs.Turn.{Turn}
use Rattle.grid_meaning.proofs.GridLemmas.{world-after}
use Rattle.grid_runs.specs.Run.{Run, grid_at, next_processor}
use Rattle.grid_sim.specs.Simulation.{IsTold, turn_in, turned_by}
use Rattle.grid_sim.specs.Run.{run_to}
use Rattle.grid_sim.specs.declared.turns.Told.{Told}
use Rattle.grid_sim.specs.declared.turns.Turned.{Turned}
use Rattle.grid_sim.specs.declared.turns.Turned.TheVariants as turned
use Rattle.grid_ticks.specs.Ticks.{GoesOnWith, TellsMovesOn}
use Rattle.grid_timetable.specs.Adding.{MayAdd, most_moves, move_of}
use Rattle.grid_timetable.specs.History.{CanMove, History, with_move}
use Rattle.grid_timetable.specs.Table.{IsTableOf}
use Rattle.grid_timetable.specs.declared.table.Table.{Table}
use Rattle.grid_time.specs.Timed.{IsPastMoves, MayAddTurn, history_at, history_with, moves_at}

-- ---- a turn
-- the moves with that of the turn, which may be added
pub record IsToldOn (old new : History) (p : ℕ) (told : Told) : Type 0 where
  pub history : new ≡ history_with old p told told.turned
  pub may : (table : Table) → IsTableOf table old → MayAddTurn table p told told.turned

moved_on : (old new : History) (p : ℕ) (told : Told) (t : Turned) → told.turned ≡ t
    → new ≡ history_with old p told t
    → ((table : Table) → IsTableOf table old → MayAddTurn table p told t)
    → IsToldOn old new p told
moved_on old new p told t e history may = record {
  history = history ∙ ap (history_with old p told) (sym e);
  may = λ table is. subst (MayAddTurn table p told) (sym e) (may table is);
}

pub told_on : (old new : History) (p : ℕ) (turn : Turn) (told : Told) → GoesOnWith old new p turn
    → IsTold turn told → IsToldOn old new p told
told_on old new p (Moves move) told goes is =
    let same : turned.Moved ≡ told.turned = (let both : Some turned.Moved ≡ Some told.turned = is.turned in cc) in
    let move_is : move_of p told.sent told.took ≡ move_of p _ _ =
    ap (λ sent. move_of p sent told.took) is.sent ∙ ap (move_of p _) is.took in
    moved_on old new p told turned.Moved (sym same)
    (goes.told ∙ ap (with_move old) (sym move_is))
    (λ table table_is. record {
      history = old;
      is = table_is;
      can = subst (CanMove old) (sym move_is) goes.can;
    })
told_on old new p Waiting told goes is =
    let same : turned.Waiting ≡ told.turned = (let both : Some turned.Waiting ≡ Some told.turned = is.turned in cc) in
    moved_on old new p told turned.Waiting (sym same) goes (λ table table_is. tt)
told_on old new p Over told goes is =
    let same : turned.Over ≡ told.turned = (let both : Some turned.Over ≡ Some told.turned = is.turned in cc) in
    moved_on old new p told turned.Over (sym same) goes (λ table table_is. tt)
told_on old new p (Stuck kind) told goes is = absurd (let no : ⊥ = cc in no)

-- ---- turns of a run
module _ (run : Run) (start : run.start ≡ start_grid run.code)
    (tells : TellsMovesOn (system_over run.code run.capacity)) where
  world_at : (k : ℕ) → (grid_at run k).world
      ≡ links.after (system_over run.code run.capacity) (given run.order (processors run.code) k)
  world_at k =
      ap (λ grid. (after_from run.code run.capacity grid (given run.order (processors run.code) k)).world) start
      ∙ world-after run.code run.capacity (given run.order (processors run.code) k)

  turn_at : (k : ℕ) → turn_in (run_to run k) (next_processor run k)
      ≡ links.next_turn (system_over run.code run.capacity)
      (links.after (system_over run.code run.capacity) (given run.order (processors run.code) k))
      (next_processor run k)
  turn_at k =
      ap (λ world. links.next_turn (system_over run.code run.capacity) world (next_processor run k)) (world_at k)

  pub goes_on_at : (latency k : ℕ)
      → GoesOnWith (history_at run latency k) (history_at run latency (suc k)) (next_processor run k)
      (turn_in (run_to run k) (next_processor run k))
  goes_on_at latency k =
      subst (GoesOnWith (history_at run latency k) (history_at run latency (suc k)) (next_processor run k))
      (sym (turn_at k)) (tells latency (given run.order (processors run.code) k) (next_processor run k))

  -- the number of moves never falls
  more_with : (old new : History) (p : ℕ) (turn : Turn) → GoesOnWith old new p turn
      → length old.moves ≤ length new.moves
  more_with old new p (Moves move) goes =
      let many : length new.moves ≡ length old.moves + 1 =
      ap (λ (h : History). length h.moves) goes.told ∙ length-append old.moves _ in
      omega (arith, many)
  more_with old new p Waiting goes = omega (arith, ap (λ (h : History). length h.moves) goes)
  more_with old new p Over goes = omega (arith, ap (λ (h : History). length h.moves) goes)
  more_with old new p (Stuck kind) goes = omega (arith, ap (λ (h : History). length h.moves) goes)

  pub more_moves : (k : ℕ) → moves_at run k ≤ moves_at run (suc k)
  more_moves k = more_with _ _ (next_processor run k) _ (goes_on_at 0 k)

  pub no_fewer : (j k : ℕ) → j ≤ k → moves_at run j ≤ moves_at run k
  no_fewer j zero less = subst (λ n. moves_at run n ≤ moves_at run 0) (let e : 0 ≡ j = omega (arith, less) in e) (omega arith)
  no_fewer j (suc k) less =
      ⊎_elim (λ same. subst (λ n. moves_at run j ≤ moves_at run n) same (omega arith))
      (λ below. let step = no_fewer j k (omega (arith, below)) in omega (arith, step, more_moves k))
      (eq-or-lt_of_le less)

  -- the first move that is one too many
  pub past_at : (k : ℕ) → moves_at run k ≡ most_moves → moves_at run (suc k) ≡ moves_at run k + 1
      → IsPastMoves run (suc k)
  past_at k all one = record {
    past = omega (arith, all, one);
    first = λ j less. (let few = no_fewer j k (omega (arith, less)) in omega (arith, few, all));
  }
