use Rattle.std.proofs.Common.{◌≡◌, ◌+◌, ℕ, cond, length, take, sym, ap, ◌∙◌, arith}
use Rattle.std.specs.Prelude.{Option, slice_get}
use Rattle.std.specs.Option.{option_copied}
use Rattle.grid_meaning.specs.of_node_form.declared.arrays.ArrayRow.{ArrayRow}
use Rattle.grid_meaning.specs.of_node_form.declared.tables.Tables.{Tables}
use Rattle.grid_meaning.specs.Stored.{stored}
use Rattle.node_stages.proofs.PieceLemmas.{stored-more, stored-past}
use Rattle.node_stages.proofs.boxes.box_number.Goals as goal
use Rattle.node_stages.proofs.boxes.box_number.Goals.{in-Some+then-row, in-Some+else-row, in_default}

-- the row that was read is the code's
read_row : (code tables : Tables) (i place : ℕ) (found : Option ArrayRow) → tables ≡ code → place ≡ i
    → found ≡ slice_get tables.arrays place → slice_get code.arrays i ≡ found
read_row code tables i place found same there is =
    ap (λ (t : Tables). slice_get t.arrays i) (sym same) ∙ (ap (slice_get tables.arrays) (sym there) ∙ sym is)

pub loop-i-preserved : goal.loop-i-preserved
loop-i-preserved c =
    let read = read_row c.args.code.now c.tables.result.now c.loop-i.i c.from.result (option_copied c.get.result) c.tables.ensures.same c.from.ensures c.get.ensures.row in
    elim c.match-get.branch [
      | in-Some+then-row w ↦
          let more = stored-more c.args.code.now.arrays c.loop-i.i w.in-Some.row.now (read ∙ ap option_copied w.in-Some.is) in
          let one : length (stored (take (c.loop-i.i + 1) c.args.code.now.arrays)) ≡ length (stored (take c.loop-i.i c.args.code.now.arrays)) + 1 =
          more ∙ ap (λ b. length (stored (take c.loop-i.i c.args.code.now.arrays)) + cond b 1 0) w.if-row.true in
          record { counted = omega (arith, one); few = omega arith }
      | in-Some+else-row w ↦
          let more = stored-more c.args.code.now.arrays c.loop-i.i w.in-Some.row.now (read ∙ ap option_copied w.in-Some.is) in
          let none : length (stored (take (c.loop-i.i + 1) c.args.code.now.arrays)) ≡ length (stored (take c.loop-i.i c.args.code.now.arrays)) + 0 =
          more ∙ ap (λ b. length (stored (take c.loop-i.i c.args.code.now.arrays)) + cond b 1 0) w.if-row.false in
          record { counted = omega (arith, none); few = omega arith }
      | in_default w ↦
          let same = ap (λ rows. length (stored rows)) (stored-past c.args.code.now.arrays c.loop-i.i (read ∙ ap option_copied w.in_default.is)) in
          record { counted = omega (arith, same); few = omega arith }
    ]
