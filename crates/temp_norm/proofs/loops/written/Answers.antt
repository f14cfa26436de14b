use Rattle.std.proofs.Common.{◌≡◌, ◌≤◌, ◌∙◌, ◌++◌, ◌∷◌, [], ap, length, rules, arith, Some}
use Rattle.std.specs.Prelude.{slice_get}
use Rattle.flat_passes.specs.Draft.{moved_draft, with_rows}
use Rattle.flat_passes.specs.Numbers.{numbers_from}
use Rattle.flat_passes.proofs.DraftLemmas.{ahead_first, ahead_more, ahead_places, ahead_rows}
use Rattle.temp_norm.specs.Pieces.{row_written}
use Rattle.temp_norm.proofs.PieceLemmas.{all_written}
use Rattle.temp_norm.proofs.loops.written.Goals as goal

pub loop-i-init : goal.loop-i-init
loop-i-init c =
    ahead_first (row_written c.args.tables.now c.args.rows.now) c.args.tables.now.code
    c.new-draft.result c.new-numbers.result c.new-draft.ensures c.new-numbers.ensures

pub loop-i-preserved : goal.loop-i-preserved
loop-i-preserved c =
    let step = row_written c.args.tables.now c.args.rows.now in
    let here : slice_get c.args.tables.now.code c.loop-i.i ≡ Some c.unwrap-row.result.now =
    search rules in
    let more : c.write_row.new.draft ≡ with_rows c.loop-i.draft (step c.unwrap-row.result.now) =
    search rules in
    let noted : c.note.new.self ≡ c.loop-i.numbers ++ length c.loop-i.draft.code ∷ [] =
    search rules in
    ahead_more step c.args.tables.now.code c.loop-i.i c.unwrap-row.result.now c.loop-i.draft
    c.write_row.new.draft c.loop-i.numbers c.note.new.self here c.loop-i.invariant more noted

pub returns : goal.returns
returns c =
    let step = row_written c.args.tables.now c.args.rows.now in
    let past : length c.args.tables.now.code ≤ c.loop-i.i = omega arith in
    let moved : c.move_goals.new.self ≡ moved_draft c.loop-i.numbers c.loop-i.draft =
    c.in_ok-move_goals.ensures in
    moved
    ∙ (ap (λ n. moved_draft n c.loop-i.draft) (ahead_places step c.args.tables.now.code c.loop-i.i
    c.loop-i.draft c.loop-i.numbers c.loop-i.invariant past)
    ∙ (ap (moved_draft (numbers_from (λ row. length (step row)) 0 c.args.tables.now.code))
    (ahead_rows step c.args.tables.now.code c.loop-i.i c.loop-i.draft c.loop-i.numbers
    c.loop-i.invariant past)
    ∙ all_written c.args.tables.now c.args.rows.now))
