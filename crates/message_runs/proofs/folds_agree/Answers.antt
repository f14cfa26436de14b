use Rattle.message_runs.proofs.FoldRows.{fold_agrees}
use Rattle.message_runs.proofs.folds_agree.Goals as goal

pub returns : goal.returns
returns c = fold_agrees
