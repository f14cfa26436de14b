use Rattle.std.proofs.Common.{length, arith}
use Rattle.zpl_text.proofs.Comments.{ends_line_at, ends_line_past, line_comment_at}
use Rattle.zpl_text.proofs.gaps.past_line.Goals as goal

pub returns-then-byte-eq10-clause-comment : goal.returns-then-byte-eq10-clause-comment
returns-then-byte-eq10-clause-comment c =
    line_comment_at c.args.bytes.now c.loop-i.i c.loop-i.invariant c.loop-i.auto.i-end
    (ends_line_at c.args.bytes.now c.loop-i.i c.loop-i-test.true c.if-byte-eq10.true)

pub returns-clause-comment : goal.returns-clause-comment
returns-clause-comment c =
    let bytes = c.args.bytes.now in
    line_comment_at bytes (length bytes) (λ k below. c.loop-i.invariant k (omega arith))
    (omega arith) (ends_line_past bytes (length bytes) (omega arith))
