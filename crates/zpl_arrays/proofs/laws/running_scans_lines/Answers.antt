use Rattle.zpl_arrays.proofs.LineLemmas.{running_along, running_onward, running_whole}
use Rattle.zpl_arrays.proofs.laws.running_scans_lines.Goals as goal

pub returns : goal.returns
returns c = record { along = running_along; onward = running_onward; whole = running_whole }
