use Rattle.std.proofs.Common.{◌≡◌, length, replicate, rules, Some}
use Rattle.std.specs.Prelude.{slice_get}
use Rattle.fuse_contract.specs.Naming.{row_noted}
use Rattle.fuse_contract.specs.declared.states.CellState.TheVariants as state
use Rattle.fuse_contract.proofs.UseLemmas.{fold_more}
use Rattle.fuse_contract.proofs.states.rows_noted.Goals as goal

pub loop-i-preserved : goal.loop-i-preserved
loop-i-preserved c =
    let there : slice_get c.args.tables.now.code c.loop-i.i ≡ Some c.unwrap-row.result.now =
    search rules in
    fold_more row_noted c.args.tables.now.code c.loop-i.i c.unwrap-row.result.now
    (replicate (length c.args.tables.now.arrays) state.Unnamed) c.loop-i.states.items
    c.note_row.new.states.items there c.loop-i.invariant c.note_row.ensures
