use Rattle.zpl_text.proofs.Comments.{NoneBefore}
use Rattle.zpl_text.proofs.gaps.past_comment.Given as goal

abbrev pub invariant-loop-i : goal.invariant-loop-i
invariant-loop-i l = NoneBefore l.bytes l.i
