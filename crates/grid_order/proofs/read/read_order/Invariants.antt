use Rattle.std.proofs.Common.{◌≡◌, ◌≤◌}
use Rattle.grid_order.specs.Reading.{reading}
use Rattle.grid_order.proofs.ReadLemmas.{open_at}
use Rattle.grid_order.proofs.read.read_order.Given as goal

abbrev pub invariant-loop-i : goal.invariant-loop-i
invariant-loop-i l = record {
  begun : l.from ≤ l.i;
  read : open_at l.count l.order l.bytes l.from l.i ≡ reading l.count l.bytes;
}
