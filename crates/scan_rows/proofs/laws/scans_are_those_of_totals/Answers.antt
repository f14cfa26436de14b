use Rattle.scan_rows.proofs.ScanLemmas.{scan_of_total}
use Rattle.scan_rows.proofs.laws.scans_are_those_of_totals.Goals as goal

pub returns : goal.returns
returns c = scan_of_total
