use Rattle.std.proofs.Common.{◌≡◌, ◌∙◌, rules, arith, sym, Some}
use Rattle.std.specs.Prelude.{slice_get}
use Rattle.fuse_contract.proofs.JoinedLemmas.{fusing_begins, fusing_ends, fusing_steps}
use Rattle.fuse_contract.proofs.StepLemmas.{when_ok}
use Rattle.fuse_contract.proofs.joins.join_all.Goals as goal

pub loop-i-init : goal.loop-i-init
loop-i-init c =
    fusing_begins c.args.tables.now c.args.walk.now c.new-numbers.result c.requires.draft
    c.new-numbers.ensures c.requires.behind

pub loop-i-preserved : goal.loop-i-preserved
loop-i-preserved c =
    let there : slice_get c.args.tables.now.code c.loop-i.i ≡ Some c.unwrap-row.result.now =
    search rules in
    fusing_steps c.args.tables.now c.loop-i.walk c.forget_at_goal.new.walk c.add_row.new.walk
    c.loop-i.numbers c.note.new.self c.loop-i.i c.unwrap-row.result.now _ there
    (sym (c.requires.goals.marked c.loop-i.i (omega arith)))
    (c.in_ok-forget_at_goal.ensures c.args.tables.now) (search rules) c.in_ok-add_row.ensures
    c.loop-i.invariant

pub returns : goal.returns
returns c =
    when_ok c.move_goals.result
    (λ moved. moved ∙ fusing_ends c.args.tables.now c.loop-i.walk c.push_last.new.walk
    c.loop-i.numbers c.loop-i.i (omega arith) (c.in_ok-push_last.ensures c.args.tables.now)
    c.loop-i.invariant)
    c.move_goals.ensures
