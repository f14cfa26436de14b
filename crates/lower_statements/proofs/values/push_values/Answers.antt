use Rattle.std.proofs.Common.{ap}
use Rattle.std.specs.Vec.Iter.{into_iter_items}
use Rattle.lower_statements.proofs.FirstLemmas.{drained}
use Rattle.lower_statements.proofs.ValueLemmas.{valued, value_end, value_next}
use Rattle.lower_statements.proofs.values.push_values.Goals as goal

pub loop-expr-init : goal.loop-expr-init
loop-expr-init c =
    ap (valued c.args.line c.args.draft.now) c.into_iter-expr-iterator.ensures.into_iter_gives.0

pub loop-expr-preserved : goal.loop-expr-preserved
loop-expr-preserved c =
    value_next c.args.line c.in_ok-scalar.scalar c.in-Some.expr
    (into_iter_items c.loop-expr.expr-iterator) (into_iter_items c.next.new.self)
    c.loop-expr.draft c.add_scalar.new.self c.push.new.self _ c.in-Some.ensures.steps.0
    c.in_ok-scalar.ensures.number c.in_ok-scalar.ensures.added c.in_ok-push.ensures
    c.loop-expr.invariant

pub returns : goal.returns
returns c =
    value_end c.args.line (into_iter_items c.loop-expr.expr-iterator) c.loop-expr.draft _
    (drained c.loop-expr.expr-iterator c.in-None.ensures.steps.0) c.loop-expr.invariant
