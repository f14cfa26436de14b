use Rattle.shown_texts.proofs.FormLemmas.{program_shown}
use Rattle.shown_texts.proofs.TextLemmas.{numerals_small}
use Rattle.shown_texts.proofs.texts_of_shown_forms_are_shown.Goals as goal

pub returns : goal.returns
returns c =
    λ text tokens program settings are tree forms.
    program_shown program settings (numerals_small text tokens program are tree.spelled) forms
