use Rattle.std.proofs.Common.{rules}
use Rattle.std.specs.Int.{int_wrap}
use Rattle.std.proofs.lemmas.Int.{wraps}
use Rattle.zpl_nums.proofs.operators.apply_unary.Goals as goal

pub returns-in-Neg : goal.returns-in-Neg
returns-in-Neg c = rw c.in-Neg.is (search (rules, wraps))

pub returns-in-Abs : goal.returns-in-Abs
unfolding int_wrap
returns-in-Abs c = rw c.in-Abs.is (search (rules, wraps))
