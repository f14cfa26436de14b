-- Which words a text can have, and what it means that a text has words.
use Rattle.std.specs.Prelude.{◌≡◌, ℕ, Bool, false, List, [], ◌∷◌, ◌++◌, ⊤}
use Rattle.zpl_text.specs.declared.tokens.Token.{Token}
use Rattle.zpl_text.specs.Kinds.{IsToken}
use Rattle.zpl_text.specs.Cutting.{opens_ditto, MayStand}
use Rattle.zpl_text.specs.Spans.{IsWithinLimit}
use Rattle.zpl_text.specs.Tokens.{IsTokens}
use Rattle.zpl_tree.specs.Word.{Word, End, kind_of, word_text}
use Rattle.zpl_grammar.specs.Written.{AreWords}

-- The word is written as a token of its kind, one that may stand where a quote is a ditto, or where
-- it isn't. The end is no
-- such word.
pub record IsWritable (ditto : Bool) (word : Word) : Type 0 where
  pub token : IsToken (word_text word) (kind_of word)
  pub stands : MayStand ditto (kind_of word)
  pub limit : IsWithinLimit (kind_of word)

-- Each word may stand behind the one before it. Whether a quote is a ditto before the first is
-- told.
abbrev pub EachIsWritable : Bool → List Word → Type 0
EachIsWritable ditto [] = ⊤
EachIsWritable ditto (word ∷ words) =
    IsWritable ditto word × EachIsWritable (opens_ditto (kind_of word)) words

-- The words can be the tokens of a text: each may stand where it does, and then comes the end.
pub record AreWritable (words : List Word) : Type 0 where
  pub before : List Word
  pub split : words ≡ before ++ End ∷ []
  pub each : EachIsWritable false before

-- the tokens of the text are the words
pub record HasWords (text : List ℕ) (words : List Word) : Type 0 where
  pub tokens : List Token
  pub are_tokens : IsTokens text tokens
  pub are : AreWords text tokens words
