use Rattle.zpl_nums.proofs.FoldLemmas.{settled_value, settled_right}
use Rattle.zpl_nums.proofs.laws.unit_is_neutral.Goals as goal

pub returns : goal.returns
returns c = record {
  left = settled_value;
  right =
      λ o a f. settled_right o a (settled_value o a f);
}
