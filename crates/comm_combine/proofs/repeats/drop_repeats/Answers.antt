use Rattle.std.proofs.Common.{◌≡◌, ◌∙◌, subst, sym, rules, arith, false, Some}
use Rattle.std.specs.Prelude.{slice_get}
use Rattle.std.proofs.lemmas.Option.{unwrap_or-slice_get}
use Rattle.last_writes.specs.of_code_parts.Stretch.{is_goal}
use Rattle.comm_combine.proofs.DropLemmas.{IsDropping, drop_begins, drop_ends, drop_one}
use Rattle.comm_combine.proofs.repeats.drop_repeats.Goals as goal

pub loop-i-init : goal.loop-i-init
loop-i-init c =
    subst (λ draft. IsDropping c.args.plan draft c.new-fresh.result 0) (sym c.new-draft.ensures)
    (drop_begins c.args.plan c.new-fresh.result c.new-fresh.ensures)

pub loop-i-preserved : goal.loop-i-preserved
loop-i-preserved c =
    let there : slice_get c.args.plan.code c.loop-i.i ≡ Some c.unwrap-row.result.now =
    search rules in
    let marked : is_goal c.args.plan.code c.loop-i.i ≡ c.is_marked.result =
    sym (c.is_marked.ensures
    ∙ (unwrap_or-slice_get c.in_ok-goals.goals.items c.loop-i.i false
    ∙ c.in_ok-goals.ensures.marked c.loop-i.i (omega arith))) in
    drop_one c.args.plan c.loop-i.draft c.begin_row.new.self c.add_row.new.draft c.loop-i.fresh
    c.forget_at_goal.new.fresh c.add_row.new.fresh c.loop-i.i c.unwrap-row.result.now
    c.is_marked.result there marked c.forget_at_goal.ensures c.in_ok-begin_row.ensures
    c.in_ok-add_row.ensures.written c.in_ok-add_row.ensures.fresh c.loop-i.invariant

pub returns : goal.returns
returns c =
    c.in_ok-dropped.ensures
    ∙ drop_ends c.args.plan c.loop-i.draft c.loop-i.fresh c.loop-i.i (omega arith)
    c.loop-i.invariant
