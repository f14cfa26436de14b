use Rattle.std.proofs.Common.{ap, ◌∙◌}
use Rattle.zpl_tree.specs.View.{expr_of}
use Rattle.zpl_tree.specs.declared.statements.Arm.{out-Arm}
use Rattle.name_kinds.specs.of_zpl_names.Accepted as kind
use Rattle.name_kinds.specs.of_zpl_names.Faults.{broken_test}
use Rattle.site_faults.specs.Findings.{tells}
use Rattle.site_faults.specs.Walk.{state_of}
use Rattle.site_faults.specs.Reach.{reach_of}
use Rattle.site_faults.proofs.StatementTold.{broken-end, broken-step}
use Rattle.site_faults.proofs.statements.tell_broken_arms.Goals as goal

pub loop-arm-preserved : goal.loop-arm-preserved
loop-arm-preserved c = (
  broken-step (reach_of c.args.reach.now) c.args.rank c.args.arms.now c.loop-arm.arm-index
      c.arm-item.result _ _ _ c.loop-arm-test.true
      (c.tell_broken_test.ensures.told ∙
      ap
      (λ arm. tells kind.ShatterBody
      (broken_test (reach_of c.args.reach.now) c.args.rank (expr_of (out-Arm arm).test.now))
      (state_of c.loop-arm.findings)) c.arm-item.is)
      c.loop-arm.invariant.0,
  c.tell_broken_test.ensures.reached ∙ c.loop-arm.invariant.1,
)

pub returns-clause-told : goal.returns-clause-told
returns-clause-told c =
    broken-end (reach_of c.args.reach.now) c.args.rank c.args.arms.now c.loop-arm.arm-index _ _
    c.loop-arm-test.false c.loop-arm.invariant.0
