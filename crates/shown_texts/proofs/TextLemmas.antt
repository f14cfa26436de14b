-- The tree of a text has small numerals.
use Rattle.std.proofs.Common.{ℕ, List}
use Rattle.zpl_text.specs.declared.tokens.Token.{Token}
use Rattle.zpl_text.specs.Tokens.{IsTokens}
use Rattle.zpl_text.proofs.InOrder.{tokens_in_order}
use Rattle.zpl_tree.specs.Spelling.{program_words}
use Rattle.zpl_tree.specs.Syntax.{Program}
use Rattle.zpl_grammar.specs.Texts.{TokensSpell}
use Rattle.zpl_grammar.proofs.Respelled.{program_writable}
use Rattle.zpl_grammar.proofs.TextWords.{text_words_writable}
use Rattle.shown_texts.specs.Numerals.{HasSmallNumerals}
use Rattle.shown_texts.proofs.WordLemmas.{writable_small}
use Rattle.shown_texts.proofs.NumeralLemmas.{program_small}

pub numerals_small : (text : List ℕ) (tokens : List Token) (program : Program)
    → IsTokens text tokens → TokensSpell text tokens program → HasSmallNumerals program
numerals_small text tokens program are spelled =
    let writable = text_words_writable text spelled.words (tokens_in_order text) (record {
      tokens = tokens;
      are_tokens = are;
      are = spelled.are;
    }) in
    program_small program (writable_small (program_words program)
    (program_writable program spelled.words spelled.spells writable))
