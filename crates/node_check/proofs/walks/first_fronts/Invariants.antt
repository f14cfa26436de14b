use Rattle.std.proofs.Common.{◌≡◌, ◌+◌, ℕ, List, [], ◌∷◌, length, Some}
use Rattle.node_check.specs.Front.{start_point}
use Rattle.node_check.specs.Walk.{front_at}
use Rattle.node_check.proofs.walks.first_fronts.Given as goal

abbrev pub invariant-loop-number : goal.invariant-loop-number
invariant-loop-number l = record {
  same :
      (at : ℕ) → front_at l.fronts.items at
      ≡ front_at (Some (start_point l.tables) ∷ []) at;
  many : length l.fronts.items ≡ l._number + 1;
}
