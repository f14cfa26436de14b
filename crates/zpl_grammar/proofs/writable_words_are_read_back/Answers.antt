use Rattle.zpl_grammar.proofs.OneWords.{text_words_unique}
use Rattle.zpl_grammar.proofs.ReadBack.{words_read_back}
use Rattle.zpl_grammar.proofs.TextWords.{text_words_writable}
use Rattle.zpl_grammar.proofs.writable_words_are_read_back.Goals as goal

pub returns-clause-printed : goal.returns-clause-printed
returns-clause-printed c = words_read_back

pub returns-clause-any : goal.returns-clause-any
returns-clause-any c =
    λ text words has. text_words_writable text words (c.tokens_are_in_order.ensures.tokens text) has

pub returns-clause-one : goal.returns-clause-one
returns-clause-one c =
    λ text words others has has'.
    text_words_unique text words others (c.text_is_cut_one_way.ensures.tokens text) has has'
