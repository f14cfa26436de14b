use Rattle.std.proofs.Common.{◌≡◌, ◌∙◌, Ok}
use Rattle.std.specs.Fmt.{signed_decimal}
use Rattle.listing_lines.proofs.Numerals.{IsUtf8-number, parsed}
use Rattle.save_lines.proofs.numbers.number_of.Goals as goal

pub returns-in-Ok-clause-found : goal.returns-in-Ok-clause-found
returns-in-Ok-clause-found c = λ number range written.
    let same : c.in-Ok.text.now ≡ signed_decimal number = c.in-Ok.ensures.cases.0 ∙ written in
    let read : c.parse.result ≡ Ok number = parsed number c.in-Ok.text.now c.parse.result range same c.parse.ensures.value.0 in
    rw read at c.ok.ensures.value

pub returns-in-Err-clause-found : goal.returns-in-Err-clause-found
returns-in-Err-clause-found c = λ number range written.
    absurd (c.in-Err.ensures.cases.0 (IsUtf8-number number c.args.word.now range written))
