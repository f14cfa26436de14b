use Rattle.meaning_phases.proofs.TrapLemmas.{region_trap, value_trap, plain_trap, left_trap}
use Rattle.meaning_phases.proofs.laws.phases_have_their_traps.Goals as goal

pub returns : goal.returns
returns c =
    record { regions = region_trap; values = value_trap; plain = plain_trap; left = left_trap }
