use Rattle.zpl_names.proofs.DeclaredLemmas.{known_scope}
use Rattle.zpl_names.proofs.RankedLemmas.{ranks_known}
use Rattle.zpl_names.proofs.laws.faultless_programs_leave_nothing_open.Goals as goal

pub returns : goal.returns
returns c = record { names = known_scope; sites = ranks_known }
