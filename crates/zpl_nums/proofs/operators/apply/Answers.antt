use Rattle.std.proofs.Common.{rules}
use Rattle.std.proofs.lemmas.Int.{wraps}
use Rattle.zpl_nums.proofs.IntegerLemmas.{wrapped_quotient}
use Rattle.zpl_nums.proofs.operators.apply.Goals as goal

pub returns-in-Add-clause-value : goal.returns-in-Add-clause-value
returns-in-Add-clause-value c = search (rules, wraps)

pub returns-in-Sub-clause-value : goal.returns-in-Sub-clause-value
returns-in-Sub-clause-value c = search (rules, wraps)

pub returns-in-Div-2-clause-value : goal.returns-in-Div-2-clause-value
returns-in-Div-2-clause-value c = search (rules, wrapped_quotient)
