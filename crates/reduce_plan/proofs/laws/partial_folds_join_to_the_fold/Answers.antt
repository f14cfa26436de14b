use Rattle.reduce_plan.proofs.JoinLemmas.{join_is_fold}
use Rattle.reduce_plan.proofs.laws.partial_folds_join_to_the_fold.Goals as goal

pub returns : goal.returns
returns c = join_is_fold
