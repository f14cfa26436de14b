use Rattle.message_runs.proofs.ScanRows.{scan_agrees}
use Rattle.message_runs.proofs.scans_agree.Goals as goal

pub returns : goal.returns
returns c = scan_agrees
