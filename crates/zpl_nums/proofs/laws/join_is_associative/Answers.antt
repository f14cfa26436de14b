use Rattle.zpl_nums.proofs.FoldLemmas.{joined_assoc}
use Rattle.zpl_nums.proofs.laws.join_is_associative.Goals as goal

pub returns : goal.returns
returns c = joined_assoc
