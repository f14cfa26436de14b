use Rattle.reduce_plan.proofs.JoinLemmas.{join_of_processors}
use Rattle.reduce_plan.proofs.laws.partial_folds_of_all_processors_join_to_the_fold.Goals as goal

pub returns : goal.returns
returns c = join_of_processors
