use Rattle.std.proofs.Common.{sym, ◌∙◌, arith}
use Rattle.rank_types.proofs.NameTables.{second-there, table-all, table-step}
use Rattle.rank_types.proofs.names.table_of.Goals as goal

pub returns-then-contains_key-clause-err : goal.returns-then-contains_key-clause-err
returns-then-contains_key-clause-err c =
    second-there c.loop-row.entries.entries c.args.rows.now c.loop-row.row-index _
    c.loop-row-test.true c.loop-row.invariant
    (sym c.contains_key.ensures ∙ c.if-contains_key.true)

pub loop-row-preserved : goal.loop-row-preserved
loop-row-preserved c =
    table-step c.loop-row.entries.entries c.insert.new.self.entries c.args.rows.now
    c.loop-row.row-index _ c.loop-row-test.true c.loop-row.invariant
    (sym c.contains_key.ensures ∙ c.if-contains_key.false) c.in_ok-insert.ensures.entries

pub returns-clause-ok : goal.returns-clause-ok
returns-clause-ok c =
    (table-all c.loop-row.entries.entries c.args.rows.now c.loop-row.row-index (omega arith)
    c.loop-row.invariant).symbols

pub returns-clause-once : goal.returns-clause-once
returns-clause-once c =
    (table-all c.loop-row.entries.entries c.args.rows.now c.loop-row.row-index (omega arith)
    c.loop-row.invariant).once
