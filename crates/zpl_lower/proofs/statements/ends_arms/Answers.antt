use Rattle.zpl_tree.specs.View.{else_of}
use Rattle.zpl_lower.proofs.FormLemmas.{ends_more}
use Rattle.zpl_lower.proofs.statements.ends_arms.Goals as goal

pub returns-then-number-arms : goal.returns-then-number-arms
returns-then-number-arms c =
    ends_more c.args.arms.now c.args.number (else_of c.args.otherwise.now) c.if-number-arms.true
