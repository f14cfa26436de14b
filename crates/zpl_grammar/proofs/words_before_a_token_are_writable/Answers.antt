use Rattle.zpl_grammar.proofs.TextWords.{words_before_writable}
use Rattle.zpl_grammar.proofs.words_before_a_token_are_writable.Goals as goal

pub returns : goal.returns
returns c = λ text tokens front back token words is split are.
    words_before_writable text tokens front back token words (c.tokens_are_in_order.ensures.tokens
    text) is split are
