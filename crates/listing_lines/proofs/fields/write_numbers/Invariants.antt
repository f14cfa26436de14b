use Rattle.std.proofs.Common.{◌≡◌, ◌++◌, drop}
use Rattle.listing_lines.specs.declared.fields.Nth.TheVariants.{First}
use Rattle.listing_lines.specs.Field.{numbers_text}
use Rattle.listing_lines.proofs.fields.write_numbers.Given as goal

abbrev pub invariant-loop-number : goal.invariant-loop-number
invariant-loop-number l =
    l.into.items ++ numbers_text l.mark l.nth (drop l.number-index l.numbers) ≡ l.initial.into.items ++ numbers_text l.mark First l.numbers
