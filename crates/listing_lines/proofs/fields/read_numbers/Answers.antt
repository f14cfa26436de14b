use Rattle.std.proofs.Common.{◌≡◌, map}
use Rattle.std.specs.Fmt.{signed_decimal}
use Rattle.listing_lines.specs.declared.fields.Nth.TheVariants.{First}
use Rattle.listing_lines.specs.Field.{numbers_text}
use Rattle.listing_lines.specs.Reading.{number_texts, mark_of}
use Rattle.listing_lines.proofs.FieldTexts.{numbers_found, mark_found}
use Rattle.listing_lines.proofs.fields.read_numbers.Goals as goal

pub returns-in_default : goal.returns-in_default
returns-in_default c = λ mark numbers count range written.
    let texts : number_texts c.args.word.now ≡ map signed_decimal numbers = rw written (numbers_found mark First numbers range) in
    let found = c.in_ok-numbers.ensures.found numbers range texts in
    rw c.in_default.is at found

pub returns-then-not-has_count : goal.returns-then-not-has_count
returns-then-not-has_count c = λ mark numbers count range written.
    let texts : number_texts c.args.word.now ≡ map signed_decimal numbers = rw written (numbers_found mark First numbers range) in
    let found = rw c.in-Some.is at c.in_ok-numbers.ensures.found numbers range texts in
    let own : mark_of c.args.word.now ≡ mark = rw written (mark_found mark numbers count range) in
    cc

pub returns-then-not-branch : goal.returns-then-not-branch
returns-then-not-branch c = λ mark numbers count range written.
    let texts : number_texts c.args.word.now ≡ map signed_decimal numbers = rw written (numbers_found mark First numbers range) in
    let found = rw c.in-Some.is at c.in_ok-numbers.ensures.found numbers range texts in
    let own : mark_of c.args.word.now ≡ mark = rw written (mark_found mark numbers count range) in
    let same : c.args.word.now ≡ numbers_text c.mark_of-mark.result First c.of.result = cc in
    let yes = c.in_ok-is_written.ensures.1 same in
    cc
