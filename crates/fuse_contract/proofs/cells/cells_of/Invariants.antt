use Rattle.fuse_contract.proofs.StateLemmas.{IsFilling}
use Rattle.fuse_contract.proofs.cells.cells_of.Given as goal

abbrev pub invariant-loop-state : goal.invariant-loop-state
invariant-loop-state l = IsFilling l.made l.cells l.states l.state-index
