use Rattle.std.proofs.Common.{◌≡◌}
use Rattle.grid_sim.proofs.TeamLemmas.{HaveSought}
use Rattle.grid_sim.proofs.processors.Processors.seek.Given as goal

abbrev pub invariant-loop-k : goal.invariant-loop-k
invariant-loop-k l = record {
  locals : l.self.locals ≡ l.fn.self.locals;
  links : l.self.links ≡ l.fn.self.links;
  sought : HaveSought l.code l.self l.k;
}
