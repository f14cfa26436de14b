use Rattle.row_runs.proofs.TurnLemmas.{grow_by_turns}
use Rattle.row_runs.proofs.WantLemmas.{want_behind_turns}
use Rattle.row_runs.proofs.laws.wanting_takes_jumps.Goals as goal

pub returns : goal.returns
returns g c = record {
  jumps = λ step decide. want_behind_turns step decide;
  turns = λ step decide. grow_by_turns step decide;
}
