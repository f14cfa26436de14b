use Rattle.zpl_nums.proofs.FoldLemmas.{folded-cons, folded-one}
use Rattle.zpl_nums.proofs.laws.fold_of_first_and_rest.Goals as goal

pub returns : goal.returns
returns c = record { many = folded-cons; single = folded-one }
