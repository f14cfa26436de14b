use Rattle.zpl_nums.proofs.FoldLemmas.{IsValueOf-unit_of, IsValueOf-joined, IsValueOf-folded}
use Rattle.zpl_nums.proofs.laws.folds_stay_values.Goals as goal

pub returns : goal.returns
returns c = record { one = IsValueOf-unit_of; two = IsValueOf-joined; list = IsValueOf-folded }
