use Rattle.std.proofs.Common.{drop, inl, inr, length, arith}
use Rattle.save_texts.proofs.CutFound.{past_end}
use Rattle.save_texts.proofs.CutOnce.{begins_whole, cut_at}
use Rattle.save_texts.proofs.cuts.listing_len.Goals as goal

pub returns-then-begins_state-clause-cut : goal.returns-then-begins_state-clause-cut
returns-then-begins_state-clause-cut c =
    cut_at c.args.bytes.now c.loop-at.at (omega (arith, c.loop-at-test.true)) c.loop-at.invariant
    (inr (c.begins_line.ensures.0 c.if-begins_line.true, begins_whole _ (drop c.loop-at.at c.args.bytes.now) (c.begins_state.ensures.0 c.if-begins_state.true)))

pub returns-clause-cut : goal.returns-clause-cut
returns-clause-cut c =
    cut_at c.args.bytes.now (length c.args.bytes.now) (omega arith)
    (λ k below. c.loop-at.invariant k (omega (arith, below, c.loop-at-test.false)))
    (inl (past_end c.args.bytes.now (length c.args.bytes.now) (omega arith)))
