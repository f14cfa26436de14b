use Rattle.zpl_text.proofs.Bodies.{IsBodyUpTo-none, IsBodyUpTo-plain, IsBodyUpTo-escape}
use Rattle.zpl_text.proofs.strings.past_body.Goals as goal

pub loop-rest-init : goal.loop-rest-init
loop-rest-init c = IsBodyUpTo-none c.args.bytes.now

pub loop-rest-preserved-then-begins_escape : goal.loop-rest-preserved-then-begins_escape
loop-rest-preserved-then-begins_escape c =
    IsBodyUpTo-escape c.args.bytes.now c.loop-rest.rest.now c.loop-rest.invariant
    (c.begins_escape.ensures.0 c.if-begins_escape.true)

pub loop-rest-preserved : goal.loop-rest-preserved
loop-rest-preserved c =
    IsBodyUpTo-plain c.args.bytes.now c.loop-rest.rest.now c.loop-rest.invariant
    (c.begins_plain.ensures.0 c.if-begins_plain.true)
