use Rattle.std.proofs.Common.{ap}
use Rattle.std.specs.Vec.Iter.{into_iter_items}
use Rattle.lower_draft.specs.Drafted.{all_pushed}
use Rattle.lower_statements.specs.Writes.{rows_in}
use Rattle.lower_statements.proofs.FirstLemmas.{drained}
use Rattle.lower_statements.proofs.WriteLemmas.{rows_end, rows_next}
use Rattle.lower_statements.proofs.writes.push_rows.Goals as goal

pub loop-row-init : goal.loop-row-init
loop-row-init c =
    ap (λ rows. all_pushed c.args.draft.now (rows_in rows))
    c.into_iter-row-iterator.ensures.into_iter_gives.0

pub loop-row-preserved : goal.loop-row-preserved
loop-row-preserved c =
    rows_next c.in-Some.row (into_iter_items c.loop-row.row-iterator)
    (into_iter_items c.next.new.self) c.loop-row.draft c.push.new.self _ c.in-Some.ensures.steps.0
    c.in_ok-push.ensures c.loop-row.invariant

pub returns : goal.returns
returns c =
    rows_end (into_iter_items c.loop-row.row-iterator) c.loop-row.draft c.args.draft.now
    (rows_in c.args.rows.items)
    (drained c.loop-row.row-iterator c.in-None.ensures.steps.0) c.loop-row.invariant
