use Rattle.std.proofs.Common.{map, arith}
use Rattle.lower_frames.specs.Frames.{framed_of, given_of}
use Rattle.lower_frames.specs.Rows.{named_givens}
use Rattle.lower_frames.proofs.FrameLemmas.{given_next, givens_end}
use Rattle.lower_frames.proofs.givens.with_givens.Goals as goal

pub loop-at-preserved : goal.loop-at-preserved
loop-at-preserved c =
    given_next c.args.line (λ name. name.now) given_of c.args.names.now c.args.givens.now
    c.loop-at.at _ _ (framed_of c.loop-at.framed) (framed_of c.in_ok-framed.framed)
    c.args.draft.now c.loop-at.draft c.with_given.new.draft
    (λ rest. named_givens c.args.line (map (λ name. name.now) c.args.names.now)
    (map given_of c.args.givens.now) (framed_of c.args.framed) c.args.draft.now.next rest)
    (omega (arith, c.min-count.ensures, c.loop-at-test.true))
    (omega (arith, c.min-count.ensures, c.loop-at-test.true))
    c.in_ok-framed.ensures c.loop-at.invariant

pub returns : goal.returns
returns c =
    givens_end c.args.line (λ name. name.now) given_of c.args.names.now c.args.givens.now
    c.loop-at.at (framed_of c.loop-at.framed) c.args.draft.now c.loop-at.draft
    (λ rest. named_givens c.args.line (map (λ name. name.now) c.args.names.now)
    (map given_of c.args.givens.now) (framed_of c.args.framed) c.args.draft.now.next rest)
    (omega (arith, c.min-count.ensures, c.loop-at-test.false, c.loop-at.auto.at-end))
    c.loop-at.invariant
