use Rattle.std.proofs.Common.{◌≡◌, ◌∙◌, ap, subst, sym, rules, arith, false, [], Some}
use Rattle.std.specs.Prelude.{slice_get}
use Rattle.std.proofs.lemmas.Option.{unwrap_or-slice_get}
use Rattle.last_writes.specs.of_code_parts.Stretch.{is_goal}
use Rattle.comm_early.proofs.SendLemmas.{IsFew, IsSending, few_noted, sends_begin, sends_end, sends_one}
use Rattle.comm_early.proofs.early.send_early.Goals as goal

pub loop-i-init : goal.loop-i-init
loop-i-init c =
    subst (λ code. IsSending c.args.plan c.args.links code c.new-sent.result.done
    c.new-stretch.result 0) (sym c.new-sent.ensures.code)
    (subst (λ done. IsSending c.args.plan c.args.links [] done c.new-stretch.result 0)
    (sym c.new-sent.ensures.done)
    (sends_begin c.args.plan c.args.links c.new-stretch.result c.new-stretch.ensures))

few : (c : goal.After-plan-1) → IsFew c.args.plan c.args.links c.put_at_goal.new.stretch c.loop-i.i
few c =
    let there : slice_get c.args.plan.code c.loop-i.i ≡ Some c.unwrap-row.result.now =
    search rules in
    let marked : is_goal c.args.plan.code c.loop-i.i ≡ c.is_marked.result =
    sym (c.is_marked.ensures
    ∙ (unwrap_or-slice_get c.in_ok-goals.goals.items c.loop-i.i false
    ∙ c.in_ok-goals.ensures.marked c.loop-i.i (omega arith))) in
    few_noted c.args.plan c.args.links c.unwrap-row.result.now c.is_marked.result c.loop-i.sent
    c.put_at_goal.new.sent c.loop-i.stretch c.put_at_goal.new.stretch c.loop-i.i there marked
    c.in_ok-put_at_goal.ensures c.loop-i.invariant

pub add_row-requires-clause-opened : goal.add_row-requires-clause-opened
add_row-requires-clause-opened c = let bound = (few c).opened in omega (arith, bound)

pub add_row-requires-clause-starts : goal.add_row-requires-clause-starts
add_row-requires-clause-starts c = let bound = (few c).starts in omega (arith, bound)

pub add_row-requires-clause-times : goal.add_row-requires-clause-times
add_row-requires-clause-times c = λ exchange.
    let bound = (few c).times exchange in omega (arith, bound)

pub loop-i-preserved : goal.loop-i-preserved
loop-i-preserved c =
    let there : slice_get c.args.plan.code c.loop-i.i ≡ Some c.unwrap-row.result.now =
    search rules in
    let marked : is_goal c.args.plan.code c.loop-i.i ≡ c.is_marked.result =
    sym (c.is_marked.ensures
    ∙ (unwrap_or-slice_get c.in_ok-goals.goals.items c.loop-i.i false
    ∙ c.in_ok-goals.ensures.marked c.loop-i.i (omega arith))) in
    sends_one c.args.plan c.args.links c.unwrap-row.result.now c.is_marked.result c.loop-i.sent
    c.put_at_goal.new.sent c.add_row.new.sent c.loop-i.stretch c.put_at_goal.new.stretch
    c.add_row.new.stretch c.loop-i.i there marked c.in_ok-put_at_goal.ensures
    c.in_ok-add_row.ensures c.loop-i.invariant

pub returns : goal.returns
returns c =
    let all : c.loop-i.i ≡ c.from.result = omega arith in
    ap (λ code. record c.args.plan { code = code })
    (sends_end c.args.plan c.args.links c.loop-i.sent c.write_to.new.self c.loop-i.stretch
    c.from.result (omega arith) c.in_ok-write_to.ensures
    (subst (IsSending c.args.plan c.args.links c.loop-i.sent.code c.loop-i.sent.done
    c.loop-i.stretch) all c.loop-i.invariant))
