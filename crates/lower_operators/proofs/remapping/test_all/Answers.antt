use Rattle.lower_regions.specs.of_lower_places.View.{slotted_of}
use Rattle.lower_operators.proofs.RemapLemmas.{tested}
use Rattle.lower_operators.proofs.remapping.test_all.Goals as goal

pub returns-clause-rows : goal.returns-clause-rows
returns-clause-rows c =
    tested c.args.numbers.now c.args.line (slotted_of c.args.over.now) c.args.draft.now
    c.add_scalar.new.self c.push.new.self c.push_loop.new.draft c.push_plain.new.draft
    c.in_ok-scalar.scalar c.in_ok-expr.expr c.args.outside c.in_ok-mask.mask
    c.in_ok-scalar.ensures.number c.in_ok-expr.ensures c.in_ok-mask.ensures
    c.in_ok-scalar.ensures.added c.in_ok-push.ensures c.in_ok-push_loop.ensures
    c.in_ok-push_plain.ensures
