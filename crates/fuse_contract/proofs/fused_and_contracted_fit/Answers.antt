use Rattle.fuse_contract.proofs.CellFitLemmas.{contracted_fits}
use Rattle.fuse_contract.proofs.FitLemmas.{fused_fits}
use Rattle.fuse_contract.proofs.fused_and_contracted_fit.Goals as goal

pub returns : goal.returns
returns c = record { fused = fused_fits; contracted = contracted_fits }
