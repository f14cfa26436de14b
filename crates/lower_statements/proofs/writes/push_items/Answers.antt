use Rattle.std.proofs.Common.{arith}
use Rattle.std.specs.Vec.Iter.{into_iter_items}
use Rattle.lower_points.specs.of_lower_places.View.{where_of}
use Rattle.lower_statements.specs.Writes.{rows_in}
use Rattle.lower_statements.proofs.WriteLemmas.{loop_next}
use Rattle.lower_statements.proofs.writes.push_items.Goals as goal

pub loop-item-preserved : goal.loop-item-preserved
loop-item-preserved c = λ exprs is.
    loop_next (where_of c.args.place.now) c.args.line c.args.ends c.args.draft.now
    c.loop-item.draft c.push_item.new.draft c.args.items.now c.loop-item.item-index exprs
    (into_iter_items c.loop-item.left) (into_iter_items c.push_item.new.left)
    (rows_in c.loop-item.prints.items) (rows_in c.push_item.new.prints.items) c.item-item.result
    (omega arith) c.item-item.is c.in_ok-push_item.ensures.code c.in_ok-push_item.ensures.prints
    c.in_ok-push_item.ensures.left (c.loop-item.invariant exprs is)
