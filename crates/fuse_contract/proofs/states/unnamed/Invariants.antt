use Rattle.std.proofs.Common.{◌≡◌, replicate}
use Rattle.fuse_contract.specs.declared.states.CellState.TheVariants as state
use Rattle.fuse_contract.proofs.states.unnamed.Given as goal

abbrev pub invariant-loop : goal.invariant-loop
invariant-loop l = l.states.items ≡ replicate l.counter state.Unnamed
