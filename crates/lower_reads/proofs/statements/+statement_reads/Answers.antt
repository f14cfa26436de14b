use Rattle.std.proofs.Common.{◌≡◌, ◌+◌, ◌∙◌, ap, arith}
use Rattle.zpl_lowering.specs.of_zpl_tree.Syntax as plain
use Rattle.zpl_lowering.specs.of_zpl_tree.View.{arms_of, else_of, statement_of, stmts_of}
use Rattle.lower_reads.specs.Reads.{arms_reads, form_reads, stmts_reads}
use Rattle.lower_reads.proofs.ArmLemmas.{arms_on}
use Rattle.lower_reads.proofs.statements.+statement_reads.Goals as goal

pub count_arms-loop-arm-preserved : goal.count_arms-loop-arm-preserved
count_arms-loop-arm-preserved t c =
    arms_on c.args.arms.now c.loop-arm.arm-index c.arm-item.result c.loop-arm.count
    c.count_expr.new.count c.count_stmts.new.count _ c.loop-arm-test.true c.arm-item.is
    c.in_ok-count_expr.ensures c.in_ok-count_stmts.ensures c.loop-arm.invariant

pub count_stmt-returns-in-None : goal.count_stmt-returns-in-None
count_stmt-returns-in-None t c =
    let arms = c.in-If.arms in
    let is : form_reads (statement_of c.args.stmt.now.form) ≡ arms_reads (arms_of arms.now) + 0 =
    ap form_reads
    (ap statement_of c.in-If.is
    ∙ c.nodes_are_seen_with_their_lists.ensures.choice arms c.in-If.otherwise
    ∙ ap (λ o. plain.If (arms_of arms.now) (else_of o)) c.in-None.is) in
    omega (arith, is, c.in_ok-count_prefixes.ensures, c.in_ok-count_arms-in-If.ensures)

pub count_stmt-returns-in_ok-count_stmts-in-Some :
    goal.count_stmt-returns-in_ok-count_stmts-in-Some
count_stmt-returns-in_ok-count_stmts-in-Some t c =
    let arms = c.in-If.arms in
    let body = c.in-Some.body in
    let is : form_reads (statement_of c.args.stmt.now.form) ≡
    arms_reads (arms_of arms.now) + stmts_reads (stmts_of body.now) =
    ap form_reads
    (ap statement_of c.in-If.is
    ∙ c.nodes_are_seen_with_their_lists.ensures.choice arms c.in-If.otherwise
    ∙ ap (λ o. plain.If (arms_of arms.now) (else_of o)) c.in-Some.is) in
    omega (
      arith,
      is,
      c.in_ok-count_prefixes.ensures,
      c.in_ok-count_arms-in-If.ensures,
      c.in_ok-count_stmts-in-Some.ensures,
    )
