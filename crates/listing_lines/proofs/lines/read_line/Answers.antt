use Rattle.std.proofs.Common.{◌≡◌, ◌∷◌, map, sym, ◌∙◌, ap}
use Rattle.std.specs.List.{slice_split}
use Rattle.std.specs.Prelude.{◌==◌}
use Rattle.listing_lines.specs.Field.{field_text}
use Rattle.listing_lines.specs.Keyword.{keyword_text}
use Rattle.listing_lines.proofs.LineTexts.{split_line, joined_line}
use Rattle.listing_lines.proofs.KeywordTexts.{same_keyword}
use Rattle.listing_lines.proofs.lines.read_line.Goals as goal

pub returns-in_default-keyword_of : goal.returns-in_default-keyword_of
returns-in_default-keyword_of c = λ line is written.
    let words : slice_split (λ byte. byte == 32) c.args.text.now ≡ c.in-Some.first.now.now ∷ map (λ word. word.now) c.in-Some.rest.now =
    sym c.in_ok-words.ensures ∙ ap (map (λ word. word.now)) (sym c.deref.ensures.value ∙ c.in-Some.ensures.cases.0) in
    let parts : slice_split (λ byte. byte == 32) c.args.text.now ≡ keyword_text line.keyword ∷ map field_text line.fields = rw written (split_line line is) in
    let same : c.in-Some.first.now.now ≡ keyword_text line.keyword = cc in
    c.in_default-keyword_of.ensures line.keyword same

pub returns-in-Some-2 : goal.returns-in-Some-2
returns-in-Some-2 c =
    let words : slice_split (λ byte. byte == 32) c.args.text.now ≡ c.in-Some.first.now.now ∷ map (λ word. word.now) c.in-Some.rest.now =
    sym c.in_ok-words.ensures ∙ ap (map (λ word. word.now)) (sym c.deref.ensures.value ∙ c.in-Some.ensures.cases.0) in
    let found = rw c.in-Some-2.is at c.in_ok-fields.ensures in
    let parts : slice_split (λ byte. byte == 32) c.args.text.now ≡ keyword_text c.in-Some-keyword_of.keyword ∷ map field_text c.of.result =
    cc (found.1, c.in-Some-keyword_of.ensures, c.of.ensures) in
    (rw (c.of.ensures, ← c.is_text.ensures) found.0, joined_line c.args.text.now record { keyword = c.in-Some-keyword_of.keyword; fields = c.of.result } parts)

pub returns : goal.returns
returns c = λ line is written.
    let words : slice_split (λ byte. byte == 32) c.args.text.now ≡ c.in-Some.first.now.now ∷ map (λ word. word.now) c.in-Some.rest.now =
    sym c.in_ok-words.ensures ∙ ap (map (λ word. word.now)) (sym c.deref.ensures.value ∙ c.in-Some.ensures.cases.0) in
    let parts : slice_split (λ byte. byte == 32) c.args.text.now ≡ keyword_text line.keyword ∷ map field_text line.fields = rw written (split_line line is) in
    let key : c.in-Some-keyword_of.keyword ≡ line.keyword = same_keyword c.in-Some-keyword_of.keyword line.keyword (cc c.in-Some-keyword_of.ensures) in
    let none = rw c.in-None.is at c.in_ok-fields.ensures in
    none line.fields (rw (c.is_text.ensures, key) is) cc
