use Rattle.reduce_plan.proofs.JoinLemmas.{partials-array_of}
use Rattle.reduce_plan.proofs.laws.partial_folds_are_reductions_over_the_block.Goals as goal

pub returns : goal.returns
returns c = partials-array_of
