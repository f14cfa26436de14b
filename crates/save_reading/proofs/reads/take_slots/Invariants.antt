use Rattle.std.proofs.Common.{ℕ, ◌≤◌, length, drop}
use Rattle.grid_save.specs.Reads.{First, IsSlotLine, NoFirst}
use Rattle.save_reading.proofs.ReadLemmas.{Along}
use Rattle.save_reading.proofs.reads.take_slots.Given as goal

abbrev pub invariant-loop-i : goal.invariant-loop-i
invariant-loop-i l = record {
  along : Along (λ (rank : ℕ). First (IsSlotLine rank)) (λ (rank : ℕ). NoFirst (IsSlotLine rank)) l.code.slots (drop l.fn.from l.lines) l.regions.items (drop l.i l.code.slots) (drop l.at l.lines);
  inside : l.at ≤ length l.lines;
}
