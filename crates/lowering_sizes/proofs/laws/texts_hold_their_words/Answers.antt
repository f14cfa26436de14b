use Rattle.lowering_sizes.proofs.SpelledLemmas.{text_holds, text_has}
use Rattle.lowering_sizes.proofs.laws.texts_hold_their_words.Goals as goal

pub returns : goal.returns
returns c = record {
  words = λ text tokens program are tree.
      text_holds text tokens program
      (λ words same. c.words_fit_their_text.ensures text tokens words are same) tree;
  tokens = text_has;
}
