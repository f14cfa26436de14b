use Rattle.std.proofs.Common.{length}
use Rattle.zpl_text.proofs.Bodies.{IsBodyUpTo}
use Rattle.zpl_text.proofs.strings.past_body.Given as goal

abbrev pub invariant-loop-rest : goal.invariant-loop-rest
invariant-loop-rest l = IsBodyUpTo l.bytes l.rest

abbrev pub decreases-loop-rest : goal.decreases-loop-rest
decreases-loop-rest l = length l.rest
