use Rattle.zpl_lower.proofs.FormLemmas.{arm_more}
use Rattle.zpl_lower.proofs.statements.arm_at.Goals as goal

pub returns-then-number-arms : goal.returns-then-number-arms
returns-then-number-arms c = arm_more c.args.arms.now c.args.number _ c.if-number-arms.true
