use Rattle.std.proofs.Common.{arith}
use Rattle.zpl_grammar.proofs.WordLemmas.{words_fit}
use Rattle.zpl_grammar.proofs.words_fit_their_text.Goals as goal

pub returns : goal.returns
returns c = λ text tokens words are_tokens are_words.
    omega (
      arith,
      words_fit text 0 tokens words (omega arith) (c.tokens_are_in_order.ensures.tokens text
          tokens are_tokens) are_words,
    )
