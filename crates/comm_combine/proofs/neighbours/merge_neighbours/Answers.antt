use Rattle.std.proofs.Common.{◌≡◌, ◌∙◌, ap, subst, sym, rules, arith, false, None, Some}
use Rattle.std.specs.Prelude.{slice_get}
use Rattle.std.proofs.lemmas.Option.{unwrap_or-slice_get}
use Rattle.last_writes.specs.of_code_parts.Stretch.{is_goal}
use Rattle.last_writes.specs.of_plan_form.Draft.{plan_of}
use Rattle.comm_combine.proofs.MergeLemmas.{IsMerging, merge_begins, merge_ends, merge_one}
use Rattle.comm_combine.proofs.neighbours.merge_neighbours.Goals as goal

pub loop-i-init : goal.loop-i-init
loop-i-init c =
    subst (λ draft. IsMerging c.args.plan draft None 0) (sym c.new-draft.ensures)
    (merge_begins c.args.plan)

pub loop-i-preserved : goal.loop-i-preserved
loop-i-preserved c =
    let there : slice_get c.args.plan.code c.loop-i.i ≡ Some c.unwrap-row.result.now =
    search rules in
    let marked : is_goal c.args.plan.code c.loop-i.i ≡ c.is_marked-goal.result =
    sym (c.is_marked-goal.ensures
    ∙ (unwrap_or-slice_get c.in_ok-goals.goals.items c.loop-i.i false
    ∙ c.in_ok-goals.ensures.marked c.loop-i.i (omega arith))) in
    merge_one c.args.plan c.loop-i.draft c.put_at_goal.new.draft c.begin_row.new.self
    c.add_row.new.draft c.loop-i.pending c.put_at_goal.new.pending c.add_row.new.pending c.loop-i.i
    c.unwrap-row.result.now c.is_marked-goal.result there marked
    c.in_ok-put_at_goal.ensures.written c.in_ok-put_at_goal.ensures.pending
    c.in_ok-begin_row.ensures c.in_ok-add_row.ensures.written c.in_ok-add_row.ensures.pending
    c.loop-i.invariant

pub returns : goal.returns
returns c =
    c.in_ok-merged.ensures
    ∙ (ap (λ draft. plan_of draft c.args.plan) c.in_ok-put_pending.ensures.written
    ∙ merge_ends c.args.plan c.loop-i.draft c.loop-i.pending c.loop-i.i (omega arith)
    c.loop-i.invariant)
