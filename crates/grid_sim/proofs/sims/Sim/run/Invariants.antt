use Rattle.std.proofs.Common.{◌≡◌, ◌+◌, length}
use Rattle.grid_meaning.specs.Local.{processors}
use Rattle.grid_sim.specs.Counting.{AddTurns}
use Rattle.grid_sim.specs.Run.{run_in}
use Rattle.grid_sim.specs.Simulation.{counts_of}
use Rattle.grid_sim.proofs.RunLemmas.{HasGiven}
use Rattle.grid_sim.proofs.sims.Sim.run.Given as goal

abbrev pub invariant-turns : goal.invariant-turns
invariant-turns g l = record {
  so : HasGiven (run_in l.fn.self l.fn.order l.tail_limit) l.self l.order l.rounds (g.O.Sink.tells l.fn.out) (g.O.Sink.tells l.out);
  count : l.rounds.count ≡ processors l.fn.self.code;
  adds : AddTurns (counts_of l.fn.self.grid) (counts_of l.self.grid);
  faults : g.O.Sink.faults l.out ≡ g.O.Sink.faults l.fn.out;
  last : g.O.Sink.has_failed l.out → g.O.Sink.has_failed l.fn.out;
}

abbrev pub decreases-turns : goal.decreases-turns
decreases-turns g l = length l.order + l.rounds.left
