use Rattle.std.proofs.Common.{◌≡◌, suc, ◌-◌, ◌≤◌, ◌+◌, ◌<◌, length, sym, ◌∙◌, subst, arith}
use Rattle.node_form.proofs.NestLemmas.{IsAtDepth, IsAtDepth-start, IsAtDepth-step, IsAtDepth-stop, IsAtDepth-end, back_over-bound}
use Rattle.node_form.proofs.nests.innermost.Goals as goal

pub loop-rest-init : goal.loop-rest-init
loop-rest-init c = record { small = omega arith; left = IsAtDepth-start c.args.members.now }

pub loop-rest-preserved : goal.loop-rest-preserved
loop-rest-preserved c =
    let some = c.loop-rest-test.true in
    let small = c.loop-rest.invariant.small in
    let e : c.loop-rest.rest ≡ suc (c.loop-rest.rest - 1) = omega arith in
    let at = subst (λ k. IsAtDepth c.args.members.now k c.loop-rest.depth) e c.loop-rest.invariant.left in
    let flow = sym c.back_over.ensures ∙ c.in-Continue.is in
    let bound : c.in-Continue.next ≤ c.loop-rest.depth + 1 = back_over-bound _ _ _ flow in
    let inside : c.loop-rest.rest - 1 < length c.args.members.now = omega arith in
    record { small = omega arith; left = IsAtDepth-step c.args.members.now (c.loop-rest.rest - 1) c.loop-rest.depth c.in-Continue.next _ inside at flow }

pub returns-in-Break : goal.returns-in-Break
returns-in-Break c =
    let some = c.loop-rest-test.true in
    let small = c.loop-rest.invariant.small in
    let e : c.loop-rest.rest ≡ suc (c.loop-rest.rest - 1) = omega arith in
    let at = subst (λ k. IsAtDepth c.args.members.now k c.loop-rest.depth) e c.loop-rest.invariant.left in
    let inside : c.loop-rest.rest - 1 < length c.args.members.now = omega arith in
    IsAtDepth-stop c.args.members.now (c.loop-rest.rest - 1) c.loop-rest.depth c.in-Break.opening _ inside at (sym c.back_over.ensures ∙ c.in-Break.is)

pub returns : goal.returns
returns c =
    let none = c.loop-rest-test.false in
    let e : c.loop-rest.rest ≡ 0 = omega arith in
    IsAtDepth-end c.args.members.now c.loop-rest.depth (subst (λ k. IsAtDepth c.args.members.now k c.loop-rest.depth) e c.loop-rest.invariant.left)
