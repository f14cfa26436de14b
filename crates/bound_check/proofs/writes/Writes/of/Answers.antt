use Rattle.std.proofs.Common.{◌≡◌, ◌∙◌, ◌≤◌, [], ap, arith, length, replicate, rules, Some}
use Rattle.std.specs.Prelude.{slice_get}
use Rattle.bound_check.specs.Writes.{all_noted, noted, noted_from, write_of}
use Rattle.bound_check.proofs.WriteLemmas.{noted_all, noted_more}
use Rattle.bound_check.proofs.writes.Writes.of.Goals as goal

pub loop-i-init : goal.loop-i-init
loop-i-init c =
    let none : c.in_ok-writes.writes ≡ replicate (length c.args.tables.now.slots) [] =
    search rules in
    ap (λ lists. noted_from lists c.args.tables.now.code) none

pub loop-i-preserved : goal.loop-i-preserved
loop-i-preserved c =
    let here : slice_get c.args.tables.now.code c.loop-i.i ≡ Some c.unwrap-row.result.now =
    search rules in
    let more : c.note.new.self ≡ noted c.loop-i.writes (write_of c.unwrap-row.result.now) =
    search rules in
    noted_more c.args.tables.now.code c.loop-i.i c.unwrap-row.result.now c.loop-i.writes
    c.note.new.self (all_noted (length c.args.tables.now.slots) c.args.tables.now.code) here
    c.loop-i.invariant more

pub returns : goal.returns
returns c =
    let past : length c.args.tables.now.code ≤ c.loop-i.i = omega arith in
    noted_all c.args.tables.now.code c.loop-i.i c.loop-i.writes
    (all_noted (length c.args.tables.now.slots) c.args.tables.now.code) past c.loop-i.invariant
