use Rattle.lowering_sizes.proofs.TextLemmas.{texts_law, different_law}
use Rattle.lowering_sizes.proofs.laws.texts_are_strings.Goals as goal

pub returns : goal.returns
returns c = record { strings = texts_law; different = different_law }
