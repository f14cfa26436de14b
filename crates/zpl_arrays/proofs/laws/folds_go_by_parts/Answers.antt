use Rattle.zpl_arrays.proofs.FoldLemmas.{fold_of_parts}
use Rattle.zpl_arrays.proofs.laws.folds_go_by_parts.Goals as goal

pub returns : goal.returns
returns c = fold_of_parts
