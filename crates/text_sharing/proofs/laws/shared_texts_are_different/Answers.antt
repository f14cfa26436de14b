use Rattle.text_sharing.proofs.DifferentLemmas.{different-distinct, different-kept, different-old}
use Rattle.text_sharing.proofs.laws.shared_texts_are_different.Goals as goal

pub returns : goal.returns
returns c = record {
  distinct = λ tables. different-distinct tables.texts;
  old = λ tables. different-old tables.texts;
  kept = λ tables. different-kept tables.texts;
}
