use Rattle.lowering_checks.proofs.FreeTableLemmas.{program_reads_apart}
use Rattle.lowering_checks.proofs.laws.loops_read_apart.Goals as goal

pub returns : goal.returns
returns c = program_reads_apart c.faultless_programs_leave_nothing_open.ensures.sites
