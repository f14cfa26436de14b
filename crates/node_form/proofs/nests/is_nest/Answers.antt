use Rattle.std.proofs.Common.{◌≡◌, ℕ, suc, ◌+◌, ◌<◌, Bool, false, true, List, [], length, get_or, take, refl, sym, ap, ◌∙◌, subst, arith}
use Rattle.std.proofs.lemmas.Bool.{not-false, not_from_true}
use Rattle.std.specs.Prelude.{Option, Some, None, is_some, slice_get}
use Rattle.node_form.specs.declared.members.Member.{Member}
use Rattle.node_form.specs.declared.members.Member.TheVariants.{Put}
use Rattle.node_form.specs.declared.nests.Opening.{Opening}
use Rattle.node_form.specs.Nest.{opened, open_behind, may_follow, is_closing}
use Rattle.node_form.proofs.NestLemmas.{IsWalked, IsWalked-step, IsNest-stopped, IsNest-walked, may_follow-open_behind, open_behind-opening}
use Rattle.node_form.proofs.nests.is_nest.Goals.{else-is_closing-via-then-is_closing+else-not-may_follow, else-is_closing-via-else-is_closing}
use Rattle.node_form.proofs.nests.is_nest.Goals as goal

abbrev any : Member
any = Put 0 0 None 0

-- what may follow the innermost opening is something that may stand there
told : (members : List Member) (k : ℕ) (innermost : Option Opening) (answer : Bool) → ((openings : List Opening) → opened [] (take k members) ≡ Some openings → innermost ≡ slice_get openings 0) → may_follow innermost (get_or members k any) ≡ answer → (openings : List Opening) → opened [] (take k members) ≡ Some openings → is_some (open_behind openings (get_or members k any)) ≡ answer
told members k innermost answer is tells openings e =
    sym (may_follow-open_behind openings (get_or members k any)) ∙ (ap (λ o. may_follow o (get_or members k any)) (sym (is openings e)) ∙ tells)

pub loop-i-init : goal.loop-i-init
loop-i-init c = record { walked = ([], refl) }

pub returns-then-not-may_follow : goal.returns-then-not-may_follow
returns-then-not-may_follow c =
    let stops = told c.args.members.now c.loop-i.i c.innermost.result false c.innermost.ensures (sym c.may_follow.ensures ∙ c.if-not-may_follow.true) in
    (λ h. cc, λ nest. absurd (IsNest-stopped c.args.members.now c.loop-i.i any c.loop-i-test.true stops nest))

pub loop-i-preserved : goal.loop-i-preserved
loop-i-preserved c =
    let e : suc c.loop-i.i ≡ c.loop-i.i + 1 = omega arith in
    let on : ((openings : List Opening) → opened [] (take c.loop-i.i c.args.members.now) ≡ Some openings → is_some (open_behind openings (get_or c.args.members.now c.loop-i.i any)) ≡ true) → IsWalked c.args.members.now (c.loop-i.i + 1) = λ some. subst (IsWalked c.args.members.now) e (IsWalked-step c.args.members.now c.loop-i.i any c.loop-i-test.true c.loop-i.invariant.walked some) in
    elim c.else-is_closing.branch [
      | else-is_closing-via-then-is_closing+else-not-may_follow w ↦ record { walked = on (told c.args.members.now c.loop-i.i w.innermost.result true w.innermost.ensures (sym w.may_follow.ensures ∙ w.if-not-may_follow.false)) }
      | else-is_closing-via-else-is_closing w ↦ record { walked = on (λ openings e. open_behind-opening openings (get_or c.args.members.now c.loop-i.i any) (sym c.is_closing.ensures ∙ w.if-is_closing.false)) }
    ]

pub returns : goal.returns
returns c =
    let past = c.loop-i-test.false in
    let all : c.loop-i.i ≡ length c.args.members.now = omega (arith, c.loop-i.auto.i-end) in
    let nest = IsNest-walked c.args.members.now c.innermost-2.result (subst (IsWalked c.args.members.now) all c.loop-i.invariant.walked) c.innermost-2.ensures in
    (λ none. nest.1 (c.is_none.ensures ∙ not_from_true c.is_none.result none), λ h. not-false c.is_none.result (sym c.is_none.ensures ∙ nest.0 h))
