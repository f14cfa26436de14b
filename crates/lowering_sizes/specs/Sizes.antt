-- What a program's text has of bytes and of tokens, by words that its tree may be written as. A
-- text may have others than those that are printed: a region may stand there with or without its
-- bracket.
use Rattle.std.specs.Prelude.{◌≤◌, ℕ, List, length, sum_by}
use Rattle.zpl_tree.specs.Grammar.{Spells}
use Rattle.zpl_tree.specs.Syntax.{Program}
use Rattle.zpl_tree.specs.Word.{Word, word_text}

-- The source is at least as long as words that the tree is written as.
pub record HoldsItsWords (program : Program) : Type 0 where
  pub words : List Word
  pub spells : Spells program words
  pub fit : sum_by (λ word. length (word_text word)) words ≤ length program.source

-- There are at least as many tokens as words that the tree is written as.
pub record HasTokens (program : Program) (tokens : ℕ) : Type 0 where
  pub words : List Word
  pub spells : Spells program words
  pub fit : length words ≤ tokens
