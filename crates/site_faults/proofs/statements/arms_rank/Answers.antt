use Rattle.std.proofs.Common.{ap, ◌∙◌}
use Rattle.zpl_tree.specs.View.{expr_of}
use Rattle.zpl_tree.specs.declared.statements.Arm.{out-Arm}
use Rattle.name_kinds.specs.of_zpl_names.Sites.{test_rank}
use Rattle.site_faults.specs.Reach.{reach_of}
use Rattle.site_faults.proofs.StatementTold.{arms-end, arms-step}
use Rattle.site_faults.proofs.statements.arms_rank.Goals as goal

pub loop-arm-preserved : goal.loop-arm-preserved
loop-arm-preserved c =
    arms-step (reach_of c.args.reach.now) c.loop-arm.rank c.first_rank-rank.result
    c.test_rank.result c.args.arms.now c.loop-arm.arm-index c.arm-item.result _
    c.loop-arm-test.true
    (c.test_rank.ensures ∙
    ap (λ arm. test_rank (reach_of c.args.reach.now) (expr_of (out-Arm arm).test.now)) c.arm-item.is)
    c.first_rank-rank.ensures c.loop-arm.invariant

pub returns : goal.returns
returns c =
    arms-end (reach_of c.args.reach.now) c.loop-arm.rank _ c.args.arms.now c.loop-arm.arm-index
    c.loop-arm-test.false c.loop-arm.invariant
