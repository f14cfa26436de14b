use Rattle.checked_runs.proofs.RunLemmas.{run_not_idle, run_not_stuck}
use Rattle.checked_runs.proofs.laws.runs_of_checked_code_go_on.Goals as goal

pub returns-clause-not_stuck : goal.returns-clause-not_stuck
returns-clause-not_stuck c run needed k p kind tables checked room start stuck =
    run_not_stuck run start
    (c.checked_code_never_stops.ensures run.code needed run.capacity tables checked room)
    (λ order. c.turns_count.ensures.locals run.code run.capacity order) k p kind stuck

pub returns-clause-not_idle : goal.returns-clause-not_idle
returns-clause-not_idle c run needed k p tables checked room start idle =
    run_not_idle run start
    (c.checked_code_never_stops.ensures run.code needed run.capacity tables checked room)
    (λ order. c.turns_count.ensures.locals run.code run.capacity order) k p idle
