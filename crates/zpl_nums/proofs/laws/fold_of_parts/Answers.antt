use Rattle.zpl_nums.proofs.FoldLemmas.{folded-flat_map}
use Rattle.zpl_nums.proofs.laws.fold_of_parts.Goals as goal

pub returns : goal.returns
returns c = folded-flat_map
