use Rattle.zpl_arrays.proofs.ScanLemmas.{scanned_by_lines, scanned_by_parts}
use Rattle.zpl_arrays.proofs.laws.scans_go_by_lines.Goals as goal

pub returns : goal.returns
returns c = record { lines = scanned_by_lines; parts = scanned_by_parts }
