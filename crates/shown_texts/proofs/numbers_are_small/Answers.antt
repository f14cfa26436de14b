use Rattle.shown_texts.proofs.TextLemmas.{numerals_small}
use Rattle.shown_texts.proofs.numbers_are_small.Goals as goal

pub returns : goal.returns
returns c = λ text tokens program are tree. numerals_small text tokens program are tree.spelled
