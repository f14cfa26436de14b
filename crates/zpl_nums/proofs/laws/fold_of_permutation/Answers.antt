use Rattle.zpl_nums.proofs.FoldLemmas.{folded-IsPermutation}
use Rattle.zpl_nums.proofs.laws.fold_of_permutation.Goals as goal

pub returns : goal.returns
returns c = folded-IsPermutation
