use Rattle.scan_plan.proofs.BlockScanLemmas.{totals_value}
use Rattle.scan_plan.proofs.laws.totals_are_those_of_the_values.Goals as goal

pub returns : goal.returns
returns c = totals_value
