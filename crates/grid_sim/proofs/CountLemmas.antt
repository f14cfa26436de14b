-- What turns add to counts.
use Rattle.std.proofs.Common.{arith}
use Rattle.grid_sim.specs.declared.counts.Counts.{Counts}
use Rattle.grid_sim.specs.Counting.{AddTurns}

-- turns, and further ones
pub adds_on : (old mid new : Counts) → AddTurns old mid → AddTurns mid new → AddTurns old new
adds_on old mid new first more = record {
  turns = omega (arith, first.turns, more.turns);
  sends = omega (arith, first.sends, more.sends);
  words = omega (arith, first.words, more.words);
}
