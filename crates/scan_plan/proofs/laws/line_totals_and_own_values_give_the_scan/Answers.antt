use Rattle.scan_plan.proofs.BlockScanLemmas.{whole_from_totals}
use Rattle.scan_plan.proofs.laws.line_totals_and_own_values_give_the_scan.Goals as goal

pub returns : goal.returns
returns c = whole_from_totals
