use Rattle.std.proofs.Common.{◌≡◌, ◌≤◌, ◌∙◌, [], ap, length, rules, arith, Some}
use Rattle.std.specs.Prelude.{slice_get}
use Rattle.temp_norm.specs.Pieces.{kind_through, with_kind}
use Rattle.temp_norm.proofs.PieceLemmas.{kinds_all, kinds_more, temporaries_are, with_all}
use Rattle.temp_norm.proofs.temporaries.temporaries.Goals as goal

pub loop-i-init : goal.loop-i-init
loop-i-init c =
    let none : c.new-rows.result.items ≡ [] = search rules in
    ap (λ rows. with_all c.args.tables.now rows c.args.tables.now.code) none
    ∙ temporaries_are c.args.tables.now

pub loop-i-preserved : goal.loop-i-preserved
loop-i-preserved c =
    let here : slice_get c.args.tables.now.code c.loop-i.i ≡ Some c.unwrap-row.result.now =
    search rules in
    let more : c.add_kind.new.rows.items
    ≡ with_kind c.loop-i.rows.items (kind_through c.args.tables.now c.unwrap-row.result.now) =
    search rules in
    kinds_more c.args.tables.now c.loop-i.i c.unwrap-row.result.now c.loop-i.rows.items
    c.add_kind.new.rows.items here c.loop-i.invariant more

pub returns : goal.returns
returns c =
    let past : length c.args.tables.now.code ≤ c.loop-i.i = omega arith in
    kinds_all c.args.tables.now c.loop-i.i c.loop-i.rows.items past c.loop-i.invariant
