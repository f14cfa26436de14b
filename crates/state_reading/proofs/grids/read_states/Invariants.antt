use Rattle.std.proofs.Common.{◌≡◌, ◌≤◌, length, map, drop}
use Rattle.grid_meaning.specs.Local.{processor_numbers}
use Rattle.save_reading.specs.of_grid_save.Reads.{BreaksState, ReadsState}
use Rattle.save_reading.proofs.ReadLemmas.{Along}
use Rattle.state_reading.specs.Read.{AreReady, state_in}
use Rattle.state_reading.proofs.grids.read_states.Given as goal

abbrev pub invariant-loop-p : goal.invariant-loop-p
invariant-loop-p l = record {
  along : Along (ReadsState l.code) (BreaksState l.code) (processor_numbers l.code) l.lines (map state_in l.states.items) (drop l.p (processor_numbers l.code)) (drop l.at l.lines);
  inside : l.at ≤ length l.lines;
  many : length l.states.items ≡ l.p;
  ready : AreReady l.code l.states.items;
}
