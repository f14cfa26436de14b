use Rattle.pass_parts.proofs.ContractedLemmas.{none_left}
use Rattle.pass_parts.proofs.LeftLemmas.{none_could}
use Rattle.pass_parts.proofs.laws.no_cells_are_left.Goals as goal

pub returns : goal.returns
returns c = record { contracted = none_left; tidy = none_could }
