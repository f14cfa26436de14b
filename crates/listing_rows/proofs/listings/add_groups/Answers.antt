use Rattle.std.proofs.Common.{◌≡◌, ◌++◌, Some, rules}
use Rattle.std.specs.Prelude.{slice_get}
use Rattle.listing_rows.specs.Rows.{group_lines}
use Rattle.listing_rows.proofs.Rests.{extended}
use Rattle.listing_rows.proofs.listings.add_groups.Goals as goal

pub loop-i-preserved : goal.loop-i-preserved
loop-i-preserved c =
    let here : slice_get c.args.tables.now.groups c.loop-i.i ≡ Some c.unwrap-row.result.now = search rules in
    let grown : c.add_group.new.lines.items ≡ c.loop-i.lines.items ++ group_lines c.unwrap-row.result.now = search rules in
    extended group_lines c.args.tables.now.groups c.loop-i.i c.unwrap-row.result.now c.loop-i.lines.items c.add_group.new.lines.items _ here grown c.loop-i.invariant
