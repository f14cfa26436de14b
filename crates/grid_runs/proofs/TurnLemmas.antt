-- Turns of a run.
use Rattle.std.proofs.Common.{◌≡◌, ℕ, ◌+◌, List, [], ◌∷◌, length, Option, ap, ◌∙◌, arith, add-one}
use Rattle.std.proofs.lemmas.List.Sums.{fold-append}
use Rattle.grid_meaning.specs.of_node_form.declared.tables.Tables.{Tables}
use Rattle.grid_meaning.specs.Grid.{Grid, after_from, given_turn, processors}
use Rattle.grid_meaning.specs.Order.{given, turn_number}
use Rattle.grid_meaning.proofs.GridLemmas.{length-given}
use Rattle.grid_runs.specs.Run.{Run, grid_at, next_processor}

-- a turn more
pub after_more : (run : Run) (k : ℕ)
    → grid_at run (k + 1) ≡ given_turn run.code run.capacity (grid_at run k) (next_processor run k)
after_more run k =
    let count = processors run.code in
    ap (grid_at run) (add-one k)
    ∙ fold-append (given_turn run.code run.capacity) run.start (given run.order count k)
    (turn_number run.order count k ∷ [])

turns-after_from : (code : Tables) (links : Option ℕ) (grid : Grid) (order : List ℕ)
    → (after_from code links grid order).turns ≡ grid.turns + length order
turns-after_from code links grid [] = omega arith
turns-after_from code links grid (p ∷ order) =
    let rest = turns-after_from code links (given_turn code links grid p) order in
    omega arith

pub turns_at : (run : Run) (k : ℕ) → (grid_at run k).turns ≡ run.start.turns + k
turns_at run k =
    turns-after_from run.code run.capacity run.start (given run.order (processors run.code) k)
    ∙ ap (λ n. run.start.turns + n) (length-given run.order (processors run.code) k)
