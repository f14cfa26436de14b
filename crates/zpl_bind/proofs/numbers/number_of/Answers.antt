use Rattle.std.proofs.Common.{sym, ◌∙◌}
use Rattle.zpl_bind.proofs.NumberLemmas.{no-digits, not-digits, all-digits, told_number}
use Rattle.zpl_bind.proofs.numbers.number_of.Goals as goal

pub returns-then-is_empty : goal.returns-then-is_empty
returns-then-is_empty c =
    rw (no-digits c.args.text.now (sym c.is_empty.ensures ∙ c.if-is_empty.true)) tt

pub returns-then-not-are_digits : goal.returns-then-not-are_digits
returns-then-not-are_digits c =
    rw (not-digits c.args.text.now (sym c.are_digits.ensures ∙ c.if-not-are_digits.true)) tt

pub returns : goal.returns
returns c =
    rw (all-digits c.args.text.now (sym c.is_empty.ensures ∙ c.if-is_empty.false)
    (sym c.are_digits.ensures ∙ c.if-not-are_digits.false))
    (told_number c.digits_value.result _ c.digits_value.ensures)
