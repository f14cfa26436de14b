use Rattle.std.proofs.Common.{◌≡◌, None, sym, ◌∙◌, reverse}
use Rattle.std.specs.Prelude.{if◌then◌else◌}
use Rattle.listing_lines.specs.Form.{has_form}
use Rattle.listing_lines.specs.Place.{Place, part_behind, role_of}
use Rattle.listing_lines.proofs.OneText.{same_line}
use Rattle.listing_lines.proofs.Steps.{line_found, no_part, no_opening}
use Rattle.listing_lines.proofs.listings.next_line.Goals as goal

pub returns-in_default : goal.returns-in_default
returns-in_default c = λ begins.
    let first = line_found c.args.bytes.now _ c.line_len-len.result begins c.line_len-len.ensures.before c.line_len-len.ensures.within c.line_len-len.ensures.found in
    let none = rw c.in_default.is at c.in_ok-line.ensures in
    none begins.line begins.is_line first.whole

pub returns-in_default-next_part : goal.returns-in_default-next_part
returns-in_default-next_part c = λ begins.
    let place : Place = record { part = c.args.part; openings = reverse c.args.openings.now.items } in
    let first = line_found c.args.bytes.now place c.line_len-len.result begins c.line_len-len.ensures.before c.line_len-len.ensures.within c.line_len-len.ensures.found in
    let some = rw c.in-Some.is at c.in_ok-line.ensures in
    let same = same_line c.in-Some.line begins.line some.0 begins.is_line (sym some.1 ∙ first.whole) in
    let none : (if has_form c.in-Some.line then part_behind place.part (role_of c.in-Some.line.keyword) else None) ≡ None = sym c.next_part.ensures ∙ c.in_default-next_part.is in
    no_part place begins.line begins.next (rw same at none) begins.stands

pub returns-then-not-branch : goal.returns-then-not-branch
returns-then-not-branch c = λ begins.
    let place : Place = record { part = c.args.part; openings = reverse c.args.openings.now.items } in
    let first = line_found c.args.bytes.now place c.line_len-len.result begins c.line_len-len.ensures.before c.line_len-len.ensures.within c.line_len-len.ensures.found in
    let some = rw c.in-Some.is at c.in_ok-line.ensures in
    let same = same_line c.in-Some.line begins.line some.0 begins.is_line (sym some.1 ∙ first.whole) in
    let none = rw c.if-not-branch.true at c.in_ok-reopen.ensures in
    no_opening place begins.line begins.next (rw same at none) begins.stands
