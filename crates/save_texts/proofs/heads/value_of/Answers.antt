use Rattle.std.proofs.Common.{arith}
use Rattle.save_texts.proofs.HeadLemmas.{no_digit, too_large, value_told}
use Rattle.save_texts.proofs.heads.value_of.Goals as goal

pub returns-in_default : goal.returns-in_default
returns-in_default c = λ n below e.
    absurd (no_digit n c.loop-byte.byte-index c.args.digits.now below e (omega (arith, c.loop-byte-test.true)) c.in_default.ensures)

pub returns-then-value-ge-MOST_FRONT : goal.returns-then-value-ge-MOST_FRONT
returns-then-value-ge-MOST_FRONT c = λ n below e.
    absurd (too_large n c.loop-byte.byte-index c.loop-byte.value c.args.digits.now below e (omega (arith, c.loop-byte-test.true)) c.loop-byte.invariant
    (omega (arith, c.if-value-ge-MOST_FRONT.true)))

pub returns : goal.returns
returns c = λ n below e.
    value_told n c.loop-byte.value c.loop-byte.byte-index c.args.digits.now below e (omega (arith, c.loop-byte-test.false)) c.loop-byte.invariant
