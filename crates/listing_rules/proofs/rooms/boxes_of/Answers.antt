use Rattle.std.proofs.Common.{◌≡◌, ◌++◌, Some, rules}
use Rattle.std.specs.Prelude.{slice_get}
use Rattle.node_form.specs.declared.arrays.ArrayRow.{ArrayRow}
use Rattle.listing_rows.proofs.Rests.{extended}
use Rattle.listing_rules.specs.Room.{stored_box}
use Rattle.listing_rules.proofs.rooms.boxes_of.Goals as goal

pub loop-i-preserved : goal.loop-i-preserved
loop-i-preserved c =
    let row = c.unwrap-row.result.now in
    let here : slice_get c.args.tables.now.arrays c.loop-i.i ≡ Some row = search rules in
    let grown : c.push_box.new.boxes.items ≡ c.loop-i.boxes.items ++ stored_box row.stored row = search rules in
    extended (λ (row : ArrayRow). stored_box row.stored row) c.args.tables.now.arrays c.loop-i.i row c.loop-i.boxes.items c.push_box.new.boxes.items _ here grown c.loop-i.invariant
