use Rattle.std.proofs.Common.{◌≤◌, ℕ}
use Rattle.std.specs.List.{flat_map, range_with_len}
use Rattle.std.specs.Prelude.{slice_get}
use Rattle.grid_meaning.specs.Local.{processors}
use Rattle.grid_save.specs.Writing.{Writes}
use Rattle.grid_save.specs.Written.{state_lines}
use Rattle.grid_save.proofs.writes.add_states.Given as goal

abbrev pub invariant-loop-p : goal.invariant-loop-p
invariant-loop-p l =
    let f = λ (q : ℕ). state_lines l.sim.code l.sim.grid.world.links q (slice_get l.sim.grid.world.locals q) in
    (l.p ≤ processors l.sim.code) × Writes l.initial.text.items (flat_map f (range_with_len 0 l.p)) l.text.items
