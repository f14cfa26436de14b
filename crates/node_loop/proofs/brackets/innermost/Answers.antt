use Rattle.std.proofs.Common.{◌≡◌, ◌+◌, ◌-◌, ◌<◌, length, sym, ◌∙◌, arith}
use Rattle.node_loop.proofs.BracketLemmas.{inward-starts, inward-passes, inward-ends, inward-none}
use Rattle.node_loop.proofs.brackets.innermost.Goals as goal

pub loop-rest-init : goal.loop-rest-init
loop-rest-init c = inward-starts c.args.members.now c.args.number

pub loop-rest-preserved : goal.loop-rest-preserved
loop-rest-preserved c =
    let some = c.loop-rest-test.true in
    let deep = c.loop-rest.invariant.deep in
    let more : c.loop-rest.rest ≡ c.loop-rest.rest - 1 + 1 = omega arith in
    let inside : c.loop-rest.rest - 1 < length c.args.members.now = omega arith in
    inward-passes c.args.members.now c.args.number c.loop-rest.rest (c.loop-rest.rest - 1) c.loop-rest.depth c.in-Some.next _
    more inside c.loop-rest.invariant (sym c.back_over.ensures ∙ c.in-Some.is)

pub returns-in-None : goal.returns-in-None
returns-in-None c =
    let some = c.loop-rest-test.true in
    let deep = c.loop-rest.invariant.deep in
    let more : c.loop-rest.rest ≡ c.loop-rest.rest - 1 + 1 = omega arith in
    let inside : c.loop-rest.rest - 1 < length c.args.members.now = omega arith in
    inward-ends c.args.members.now c.args.number c.loop-rest.rest (c.loop-rest.rest - 1) c.loop-rest.depth _
    more inside c.loop-rest.invariant (sym c.back_over.ensures ∙ c.in-None.is)

pub returns : goal.returns
returns c =
    let none = c.loop-rest-test.false in
    inward-none c.args.members.now c.args.number c.loop-rest.rest c.loop-rest.depth (omega arith) c.loop-rest.invariant
