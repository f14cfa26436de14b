use Rattle.std.proofs.Common.{◌≡◌, ◌∙◌, ◌≤◌, ◌++◌, ◌∷◌, [], ap, arith, length, rules, Some}
use Rattle.std.specs.Prelude.{filter, map, slice_get}
use Rattle.flat_passes.proofs.of_node_form.GrowthLemmas.{Fits-instr-row}
use Rattle.flat_passes.specs.Numbers.{number_among, numbers_from}
use Rattle.flat_passes.specs.Rewritten.{with_moved_goal}
use Rattle.flat_passes.proofs.RowLemmas.{at_first, at_more, at_places, at_rows, recoded}
use Rattle.bound_check.specs.Checked.{rows_stayed, stays}
use Rattle.bound_check.proofs.WriteLemmas.{by_steps, moves, one_for_one}
use Rattle.bound_check.proofs.checks.code_stayed.Goals as goal

pub loop-i-init : goal.loop-i-init
loop-i-init c =
    at_first (rows_stayed c.args.tables.now) c.args.tables.now.code c.new-code.result
    c.new-numbers.result c.new-code.ensures c.new-numbers.ensures

pub push_if_stayed-requires-clause-row : goal.push_if_stayed-requires-clause-row
push_if_stayed-requires-clause-row c =
    let here : slice_get c.args.tables.now.code c.loop-i.i ≡ Some c.unwrap-row.result.now =
    search rules in
    Fits-instr-row c.args.tables.now c.loop-i.i c.unwrap-row.result.now c.requires.fits here

pub loop-i-preserved : goal.loop-i-preserved
loop-i-preserved c =
    let step = rows_stayed c.args.tables.now in
    let here : slice_get c.args.tables.now.code c.loop-i.i ≡ Some c.unwrap-row.result.now =
    search rules in
    let more : c.push_if_stayed.new.code ≡ c.loop-i.code ++ step c.unwrap-row.result.now =
    search rules in
    let noted : c.note.new.self ≡ c.loop-i.numbers ++ length c.loop-i.code ∷ [] = search rules in
    at_more step c.args.tables.now.code c.loop-i.i c.unwrap-row.result.now c.loop-i.code
    c.push_if_stayed.new.code c.loop-i.numbers c.note.new.self here c.loop-i.invariant more noted

pub returns : goal.returns
returns c =
    let tables = c.args.tables.now in
    let step = rows_stayed tables in
    let past : length tables.code ≤ c.loop-i.i = omega arith in
    let moved : c.move_goals.new.code
    ≡ map (with_moved_goal (number_among c.loop-i.numbers (length c.loop-i.code)))
    c.loop-i.code = c.in_ok-move_goals.ensures in
    moved
    ∙ (ap (λ n. map (with_moved_goal (number_among n (length c.loop-i.code))) c.loop-i.code)
    (at_places step tables.code c.loop-i.i c.loop-i.code c.loop-i.numbers c.loop-i.invariant past)
    ∙ (ap (λ rows. map (with_moved_goal (number_among
    (numbers_from (λ row. length (step row)) 0 tables.code) (length rows))) rows)
    (at_rows step tables.code c.loop-i.i c.loop-i.code c.loop-i.numbers c.loop-i.invariant past)
    ∙ recoded step (filter (stays tables)) tables.code (by_steps tables) (one_for_one tables)
    (moves tables)))
