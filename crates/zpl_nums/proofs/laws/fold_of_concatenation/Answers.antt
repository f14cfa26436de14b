use Rattle.zpl_nums.proofs.FoldLemmas.{folded-append}
use Rattle.zpl_nums.proofs.laws.fold_of_concatenation.Goals as goal

pub returns : goal.returns
returns c = folded-append
