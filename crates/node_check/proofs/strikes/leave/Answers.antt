use Rattle.std.proofs.Common.{◌≡◌, ◌+◌, ◌∙◌, suc, arith, subst, sym}
use Rattle.node_check.specs.Strike.{IsLost, IsLostAt}
use Rattle.node_check.proofs.GoodLemmas.{leads_on, leads_to}
use Rattle.node_check.proofs.StrikeLemmas.{lost_behind}
use Rattle.node_check.proofs.strikes.leave.Goals as goal

pub returns-then-falls-clause-marks : goal.returns-then-falls-clause-marks
returns-then-falls-clause-marks c = λ at there here marks.
    c.mark_goal.ensures.marks c.args.tables.now
    (λ next is.
    lost_behind c.args.tables.now at next c.args.row.now c.in_ok-lost.lost c.pass.new.lost
    (subst (λ o. IsLostAt c.args.tables.now at o) c.in_ok-lost.was here) there
    (leads_to at c.args.row.now next is) c.pass.ensures)
    marks

pub returns-then-falls-clause-current : goal.returns-then-falls-clause-current
returns-then-falls-clause-current c = λ at there here.
    let more : suc at ≡ at + 1 = omega arith in
    subst (λ n. IsLost c.args.tables.now n c.pass.new.lost) more
    (lost_behind c.args.tables.now at (suc at) c.args.row.now c.in_ok-lost.lost c.pass.new.lost
    (subst (λ o. IsLostAt c.args.tables.now at o) c.in_ok-lost.was here) there
    (leads_on at c.args.row.now (sym c.falls.ensures ∙ c.if-falls.true)) c.pass.ensures)

pub returns-else-falls-clause-marks : goal.returns-else-falls-clause-marks
returns-else-falls-clause-marks c = λ at there here marks.
    c.mark_goal.ensures.marks c.args.tables.now
    (λ next is.
    lost_behind c.args.tables.now at next c.args.row.now c.in_ok-lost.lost c.pass.new.lost
    (subst (λ o. IsLostAt c.args.tables.now at o) c.in_ok-lost.was here) there
    (leads_to at c.args.row.now next is) c.pass.ensures)
    marks
