use Rattle.node_form.proofs.Depth.{IsExpression-depth}
use Rattle.node_form.proofs.laws.expressions_leave_one_value.Goals as goal

pub returns : goal.returns
returns c = IsExpression-depth
