use Rattle.std.proofs.Common.{◌≡◌, ◌<◌, ◌+◌, ◌*◌, ◌-◌, arith, take, length, true, sym, ◌∙◌, ap, Some, ◌&&◌, eqb-true}
use Rattle.std.specs.Char.{is_ascii_digit}
use Rattle.std.specs.List.{list_all}
use Rattle.std.proofs.lemmas.List.{take_all}
use Rattle.std.proofs.lemmas.List.Sums.{fold_more}
use Rattle.std.proofs.lemmas.List.Folds.{list_all_more}
use Rattle.grid_order.specs.Item.{decimal}
use Rattle.grid_order.proofs.NumberLemmas.{eqb-false-pos, false_last, no_digits, no_digit, too_great, is_number}
use Rattle.grid_order.proofs.words.number_below.Goals as goal

pub returns-then-is_empty : goal.returns-then-is_empty
returns-then-is_empty c =
    no_digits c.args.limit c.args.word.now (eqb-true _ _ (sym (c.if-is_empty.ensures {u = tt})))

pub returns-then-not-is_ascii_digit : goal.returns-then-not-is_ascii_digit
returns-then-not-is_ascii_digit c =
    let w = c.args.word.now in
    let more = list_all_more is_ascii_digit w c.loop-byte.byte-index 0 c.loop-byte-test.true in
    no_digit c.args.limit w (c.loop-byte.byte-index + 1)
    (more ∙ ap (λ b. list_all is_ascii_digit (take c.loop-byte.byte-index w) && b) (sym (c.if-not-is_ascii_digit.ensures {u = tt}).value)
    ∙ false_last (list_all is_ascii_digit (take c.loop-byte.byte-index w)))

pub returns-then-number-from : goal.returns-then-number-from
returns-then-number-from c =
    let w = c.args.word.now in
    let more = fold_more (λ number digit. 10 * number + (digit - 48)) 0 w c.loop-byte.byte-index 0 c.loop-byte-test.true in
    too_great c.args.limit w (c.loop-byte.byte-index + 1) (omega (arith, more))

pub returns : goal.returns
returns c =
    let w = c.args.word.now in
    let all : take c.loop-byte.byte-index w ≡ w = take_all _ _ (omega arith) in
    let number : c.loop-byte.number ≡ decimal w = c.loop-byte.invariant.number ∙ ap decimal all in
    let digits : list_all is_ascii_digit w ≡ true = sym (ap (list_all is_ascii_digit) all) ∙ c.loop-byte.invariant.digits in
    let some : 0 < length w = eqb-false-pos (length w) (sym (c.if-is_empty.ensures {u = tt})) in
    let below : c.loop-byte.number < c.args.limit = c.loop-byte.invariant.below (omega arith) in
    ap Some number ∙ is_number c.args.limit w some digits (omega (arith, number))
