use Rattle.std.proofs.Common.{arith}
use Rattle.lower_points.specs.of_lower_places.View.{where_of}
use Rattle.lower_statements.proofs.WriteLemmas.{item_fit, items_fit, printed_end, printed_next}
use Rattle.lower_statements.proofs.writes.printed.Goals as goal

pub push_printed-requires-clause-fit : goal.push_printed-requires-clause-fit
push_printed-requires-clause-fit c =
    item_fit c.args.items.now c.loop-item.item-index c.item-item.result (omega arith)
    c.item-item.is c.loop-item.invariant.rest

pub loop-item-preserved : goal.loop-item-preserved
loop-item-preserved c = record {
  exprs = printed_next (where_of c.args.place.now) c.args.items.now c.loop-item.item-index
      c.item-item.result _ _ _ (omega arith) c.item-item.is c.in_ok-push_printed.ensures.pushed
      c.loop-item.invariant.exprs;
  fit = c.in_ok-push_printed.ensures.fit;
  rest = items_fit c.args.items.now c.loop-item.item-index (omega arith)
      c.loop-item.invariant.rest;
}

pub returns-clause-exprs : goal.returns-clause-exprs
returns-clause-exprs c =
    printed_end (where_of c.args.place.now) c.args.items.now c.loop-item.item-index _ _
    (omega arith) c.loop-item.invariant.exprs
