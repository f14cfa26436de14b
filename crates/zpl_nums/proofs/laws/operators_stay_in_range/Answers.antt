use Rattle.zpl_nums.proofs.OperatorLemmas.{IsInteger-applied, IsInteger-negated}
use Rattle.zpl_nums.proofs.OperatorLemmas.{IsInteger-absolute, IsInteger-applied_unary}
use Rattle.zpl_nums.proofs.laws.operators_stay_in_range.Goals as goal

pub returns-clause-binary : goal.returns-clause-binary
returns-clause-binary c = IsInteger-applied

pub returns-clause-negation : goal.returns-clause-negation
returns-clause-negation c = IsInteger-negated

pub returns-clause-absolute_value : goal.returns-clause-absolute_value
returns-clause-absolute_value c = IsInteger-absolute

pub returns-clause-unary : goal.returns-clause-unary
returns-clause-unary c = IsInteger-applied_unary
