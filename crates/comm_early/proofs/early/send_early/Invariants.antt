use Rattle.comm_early.proofs.SendLemmas.{IsSending}
use Rattle.comm_early.proofs.early.send_early.Given as goal

abbrev pub invariant-loop-i : goal.invariant-loop-i
invariant-loop-i l = IsSending l.plan l.fn.links l.sent.code l.sent.done l.stretch l.i
