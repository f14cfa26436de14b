use Rattle.std.proofs.Common.{◌≡◌, ℕ, ◌<◌, true, false, get_or}
use Rattle.grid_sim.proofs.marks.Marks.first_unmarked.Given as goal

abbrev pub invariant-loop-p : goal.invariant-loop-p
invariant-loop-p l = (q : ℕ) → q < l.p → get_or l.self-inside.marks.items q false ≡ true
