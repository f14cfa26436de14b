use Rattle.shown_texts.proofs.ValueLemmas.{values_small}
use Rattle.shown_texts.proofs.values_are_small.Goals as goal

pub returns : goal.returns
returns c = values_small
