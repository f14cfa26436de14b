use Rattle.fuse_contract.proofs.TurnLemmas.{contracted_turns, fused_turns}
use Rattle.fuse_contract.proofs.groups_turn_no_more.Goals as goal

pub returns : goal.returns
returns c = record { fused = fused_turns; contracted = contracted_turns }
