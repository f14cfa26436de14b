use Rattle.std.proofs.Common.{◌≡◌}
use Rattle.std.specs.Vec.Iter.{into_iter_items}
use Rattle.lower_draft.specs.Drafted.{all_pushed}
use Rattle.lower_statements.specs.Writes.{rows_in}
use Rattle.lower_statements.proofs.writes.push_rows.Given as goal

abbrev pub invariant-loop-row : goal.invariant-loop-row
invariant-loop-row l =
    all_pushed l.draft (rows_in (into_iter_items l.row-iterator))
    ≡ all_pushed l.initial.draft (rows_in l.fn.rows.items)
