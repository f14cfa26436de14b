-- What it means that a text has a tree, and what is wrong with one that has none.
use Rattle.std.specs.Prelude.{◌≡◌, ℕ, ◌<◌, ◌≤◌, List, [], ◌∷◌, ◌++◌, ⊤}
use Rattle.zpl_text.specs.declared.tokens.Token.{Token}
use Rattle.zpl_text.specs.Tokens.{IsTokens}
use Rattle.zpl_tree.specs.Word.{Word}
use Rattle.zpl_tree.specs.Syntax.{Program}
use Rattle.zpl_tree.specs.Depth.{depth}
use Rattle.zpl_tree.specs.Grammar.{Spells}
use Rattle.zpl_grammar.specs.Lexeme.{lexemes_of}
use Rattle.zpl_grammar.specs.Offsets.{ProgramAt}
use Rattle.zpl_grammar.specs.Written.{IsWord, AreWords}
use Rattle.zpl_grammar.specs.Writable.{AreWritable}

-- the greatest depth of a tree
abbrev pub most_deep : ℕ
most_deep = 200

-- The tokens are the words that come first, one by one.
abbrev pub AreFirstWords : List ℕ → List Token → List Word → Type 0
AreFirstWords text [] words = ⊤
AreFirstWords text (token ∷ tokens) [] = ⊥
AreFirstWords text (token ∷ tokens) (word ∷ words) =
    IsWord text token word × AreFirstWords text tokens words

-- The words of some program begin with the tokens, whether or not a text can have those words.
pub record BeginsWords (text : List ℕ) (tokens : List Token) : Type 0 where
  pub program : Program
  pub words : List Word
  pub spells : Spells program words
  pub first : AreFirstWords text tokens words

-- Some text of the grammar begins with the tokens: the words that they begin are words that a text
-- can have.
pub record BeginsText (text : List ℕ) (tokens : List Token) : Type 0 where
  pub begun : BeginsWords text tokens
  pub writable : AreWritable begun.words

-- The tokens are words that the tree may be written as, whatever its offsets and its source are.
pub record TokensSpell (text : List ℕ) (tokens : List Token) (program : Program) : Type 0 where
  pub words : List Word
  pub spells : Spells program words
  pub are : AreWords text tokens words

-- the text's tokens are such words
pub record TextSpells (text : List ℕ) (program : Program) : Type 0 where
  pub tokens : List Token
  pub are_tokens : IsTokens text tokens
  pub spell : TokensSpell text tokens program

-- The tree of the text: its tokens are words of the tree, whose offsets are those of the tokens and
-- whose source is the text. There is one at most, however deep it is.
pub record IsTreeOf (text : List ℕ) (tokens : List Token) (program : Program) : Type 0 where
  pub spelled : TokensSpell text tokens program
  pub offsets : ProgramAt (lexemes_of text tokens) program
  pub source : program.source ≡ text

-- the tree of the text, where it is not too deep
pub record IsShallowTree (text : List ℕ) (tokens : List Token) (program : Program) : Type 0 where
  pub tree : IsTreeOf text tokens program
  pub shallow : depth program ≤ most_deep

-- At the first token with which no text of the grammar begins: some text begins with those before
-- it. With that token
-- no program's words begin at all.
pub record IsSyntaxFault (text : List ℕ) (tokens : List Token) (at : ℕ) : Type 0 where
  pub front : List Token
  pub token : Token
  pub back : List Token
  pub split : tokens ≡ front ++ token ∷ back
  pub offset : token.from ≡ at
  pub begins : BeginsText text front
  pub none : ¬ BeginsWords text (front ++ token ∷ [])

-- some front of the tokens begins a text of the grammar, and no tree that is not too deep
pub record IsTooDeep (text : List ℕ) (tokens : List Token) : Type 0 where
  pub front : List Token
  pub back : List Token
  pub split : tokens ≡ front ++ back
  pub begins : BeginsText text front
  pub deep : (program : Program) (words : List Word) → Spells program words
      → AreFirstWords text front words → most_deep < depth program
