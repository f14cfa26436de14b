use Rattle.std.proofs.Common.{◌≡◌, ◌∙◌, ap, arith, subst, rules, length, take, replicate, false}
use Rattle.std.proofs.Common.{get_or, Some}
use Rattle.std.specs.Prelude.{slice_get}
use Rattle.std.proofs.lemmas.List.{get_or-replicate, length-replicate, take_all}
use Rattle.plan_form.proofs.GoalLemmas.{AreMarked, all_marked, none_marked, one_more_marked}
use Rattle.plan_form.proofs.goals.goals_of.Goals as goal

pub loop-i-init : goal.loop-i-init
loop-i-init c =
    let items : c.in_ok-goals.goals.items ≡ replicate (length c.args.code.now) false =
    c.in_ok-goals.ensures.items_if_clones_equal (λ y e. e)
    ∙ ap (λ n. replicate n false) c.len.ensures in
    none_marked (length c.args.code.now) c.in_ok-goals.goals.items
    (ap length items ∙ length-replicate _ _)
    (λ at within. ap (λ l. get_or l at false) items ∙ get_or-replicate _ at false false within)

pub loop-i-preserved : goal.loop-i-preserved
loop-i-preserved c =
    one_more_marked c.args.code.now c.loop-i.i _ c.unwrap-row.result.now c.loop-i.goals.items _
    (search rules) c.loop-i.invariant c.mark.ensures

pub returns : goal.returns
returns c =
    all_marked c.args.code.now c.loop-i.goals.items
    (subst (λ rows. AreMarked rows (length c.args.code.now) c.loop-i.goals.items)
    (take_all c.loop-i.i c.args.code.now (omega arith)) c.loop-i.invariant)
