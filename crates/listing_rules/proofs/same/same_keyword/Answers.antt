use Rattle.std.proofs.Common.{sym, ◌∙◌, ap}
use Rattle.listing_rows.specs.of_listing_lines.Keyword.{keyword_text}
use Rattle.listing_rows.proofs.of_listing_lines.KeywordTexts.{same_keyword}
use Rattle.listing_rules.proofs.same.same_keyword.Goals as goal

pub returns : goal.returns
returns c =
    let text = c.same_text.ensures in (
      λ h. same_keyword c.args.one c.args.other (sym c.text.ensures ∙ (text.0 h ∙ c.text-2.ensures)),
      λ e. text.1 (c.text.ensures ∙ (ap keyword_text e ∙ sym c.text-2.ensures)),
    )
