use Rattle.std.proofs.Common.{◌≤◌, length, map, drop}
use Rattle.node_form.specs.declared.arrays.ArrayRow.{ArrayRow}
use Rattle.node_local.specs.Standing.{array_in}
use Rattle.grid_save.specs.Reads.{First, IsStoreLine, NoFirst}
use Rattle.save_reading.proofs.ReadLemmas.{Along}
use Rattle.save_reading.proofs.reads.take_stores.Given as goal

abbrev pub invariant-loop-i : goal.invariant-loop-i
invariant-loop-i l = record {
  along : Along (λ (row : ArrayRow). First (IsStoreLine l.code l.p row)) (λ (row : ArrayRow). NoFirst (IsStoreLine l.code l.p row)) l.code.arrays (drop l.fn.from l.lines) (map array_in l.stores.items) (drop l.i l.code.arrays) (drop l.at l.lines);
  inside : l.at ≤ length l.lines;
}
