use Rattle.counted_code.proofs.GridLemmas.{after_alike, idle_alike, stuck_alike, turn_alike}
use Rattle.counted_code.proofs.laws.counted_code_goes_alike.Goals as goal

pub returns-clause-grids : goal.returns-clause-grids
returns-clause-grids c n code links order fits room = after_alike n code links fits order room

pub returns-clause-turns : goal.returns-clause-turns
returns-clause-turns c n code links order p fits room = turn_alike n code links fits order room p

pub returns-clause-stuck : goal.returns-clause-stuck
returns-clause-stuck c n code links order fits room stuck =
    stuck_alike n code links fits order room stuck

pub returns-clause-idle : goal.returns-clause-idle
returns-clause-idle c n code links order fits room idle =
    idle_alike n code links fits order room idle
