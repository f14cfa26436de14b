use Rattle.std.proofs.Common.{◌<◌, ap, arith, length, subst, sym}
use Rattle.node_check.specs.Settled.{IsGoodAt}
use Rattle.node_check.specs.Strike.{IsMarkAt, mark_at}
use Rattle.node_check.proofs.StrikeLemmas.{at_front, long_marks, more_marks}
use Rattle.node_check.proofs.strikes.first_marks.Goals as goal

pub loop-front-preserved : goal.loop-front-preserved
loop-front-preserved c =
    let code = c.args.tables.now in
    let fronts = c.args.fronts.now in
    let old = c.loop-front.marks.items in
    let i = c.loop-front.front-index in
    let mark = c.in_ok-first_mark.field-0 in
    let below : i < length fronts = omega arith in
    let good : IsGoodAt code i c.front-item.result =
    subst (λ o. IsGoodAt code i o) (at_front fronts i c.front-item.result below c.front-item.is)
    (c.requires.good i) in
    let one : IsMarkAt code (length old) mark =
    subst (λ n. IsMarkAt code n mark) (sym c.loop-front.invariant.many)
    (c.in_ok-first_mark.ensures i good) in
    let long = long_marks old mark in
    let same = ap length c.in_ok-push.ensures.items in
    record {
      marks = λ at.
          subst (λ marks. IsMarkAt code at (mark_at marks at)) (sym c.in_ok-push.ensures.items)
          (more_marks (IsMarkAt code) old mark (λ at. tt) c.loop-front.invariant.marks one at);
      many = omega (arith, same, long, c.loop-front.invariant.many);
    }
