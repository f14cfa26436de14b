use Rattle.zpl_text.proofs.Comments.{block_comment_at, open_comment_from}
use Rattle.zpl_text.proofs.gaps.past_comment.Goals as goal

pub returns-then-bytes-i-eq47-clause-comment : goal.returns-then-bytes-i-eq47-clause-comment
returns-then-bytes-i-eq47-clause-comment c =
    block_comment_at c.args.bytes.now c.loop-i.i c.loop-i.invariant c.loop-i.auto.i
    c.loop-i-test.true c.if-bytes-i-eq42.true c.if-bytes-i-eq47.true

pub returns-clause-comment : goal.returns-clause-comment
returns-clause-comment c =
    open_comment_from c.args.bytes.now c.loop-i.i c.loop-i.invariant c.loop-i-test.false
