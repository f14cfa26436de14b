use Rattle.std.proofs.Common.{◌≡◌, ◌+◌, ◌-◌, ◌<◌, length, sym, ◌∙◌, arith}
use Rattle.node_loop.proofs.BracketLemmas.{outward-passes, outward-reaches}
use Rattle.node_loop.proofs.brackets.outermost.Goals as goal

pub loop-rest-preserved-in-Some : goal.loop-rest-preserved-in-Some
loop-rest-preserved-in-Some c =
    let some = c.loop-rest-test.true in
    let deep = c.loop-rest.invariant.deep in
    let more : c.loop-rest.rest ≡ c.loop-rest.rest - 1 + 1 = omega arith in
    let inside : c.loop-rest.rest - 1 < length c.args.members.now = omega arith in
    outward-passes c.args.members.now c.args.number c.loop-rest.rest (c.loop-rest.rest - 1) c.loop-rest.depth c.in-Some.next
    c.loop-rest.outer _ more inside c.loop-rest.invariant (sym c.back_over.ensures ∙ c.in-Some.is)

pub loop-rest-preserved : goal.loop-rest-preserved
loop-rest-preserved c =
    let some = c.loop-rest-test.true in
    let deep = c.loop-rest.invariant.deep in
    let more : c.loop-rest.rest ≡ c.loop-rest.rest - 1 + 1 = omega arith in
    let inside : c.loop-rest.rest - 1 < length c.args.members.now = omega arith in
    outward-reaches c.args.members.now c.args.number c.loop-rest.rest (c.loop-rest.rest - 1) c.loop-rest.depth
    c.loop-rest.outer _ more inside c.loop-rest.invariant (sym c.back_over.ensures ∙ c.in-None.is)
