use Rattle.scan_lines.proofs.TotalLemmas.{scan_of_total}
use Rattle.scan_lines.proofs.laws.line_scans_are_those_of_totals.Goals as goal

pub returns : goal.returns
returns c = scan_of_total
