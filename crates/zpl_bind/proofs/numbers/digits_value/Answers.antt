use Rattle.std.proofs.Common.{◌+◌, arith}
use Rattle.std.proofs.lemmas.Int.Digits.{digits_value_more}
use Rattle.std.proofs.lemmas.Str.Parse.{digits_value-take-le}
use Rattle.zpl_bind.proofs.DigitLemmas.{digit_at}
use Rattle.zpl_bind.proofs.numbers.digits_value.Goals as goal

pub returns-in_err-checked_mul : goal.returns-in_err-checked_mul
returns-in_err-checked_mul c =
    let more = digits_value_more 10 c.args.digits.now c.loop-digit.digit-index
    c.loop-digit-test.true in
    let whole = digits_value-take-le 10 c.args.digits.now (c.loop-digit.digit-index + 1)
    (omega arith) in
    let over = c.in_err-checked_mul.ensures {u = tt} in
    rw c.from_residual.ensures (omega arith)

pub returns-in_err-value : goal.returns-in_err-value
returns-in_err-value c =
    let more = digits_value_more 10 c.args.digits.now c.loop-digit.digit-index
    c.loop-digit-test.true in
    let digit = digit_at c.args.digits.now c.loop-digit.digit-index c.requires
    c.loop-digit-test.true in
    let whole = digits_value-take-le 10 c.args.digits.now (c.loop-digit.digit-index + 1)
    (omega arith) in
    let over = c.in_err-value.ensures {u = tt} in
    rw c.from_residual-in_err-value.ensures (omega arith)

pub loop-digit-preserved : goal.loop-digit-preserved
loop-digit-preserved c =
    let more = digits_value_more 10 c.args.digits.now c.loop-digit.digit-index
    c.loop-digit-test.true in
    let digit = digit_at c.args.digits.now c.loop-digit.digit-index c.requires
    c.loop-digit-test.true in
    omega arith
