-- What a tree says of a token: its kind, its bytes and its offset.
use Rattle.std.specs.Prelude.{ℕ, Bool, false, List, [], ◌∷◌, map}
use Rattle.zpl_tokens.specs.declared.Kind.{Kind}
use Rattle.zpl_tokens.specs.declared.Kind.TheVariants.{End}
use Rattle.zpl_text.specs.declared.tokens.Token.{Token}
use Rattle.zpl_tree.specs.Word.{Word, kind_of, word_text}
use Rattle.zpl_grammar.specs.Written.{token_text}
use Rattle.zpl_grammar.specs.Same.{same}

pub record Lexeme : Type 0 where
  pub kind : Kind
  pub bytes : List ℕ
  pub at : ℕ

-- a token of a text
abbrev pub lexeme_of : List ℕ → Token → Lexeme
lexeme_of text token = record { kind = token.kind; bytes = token_text text token; at = token.from }

abbrev pub lexemes_of : List ℕ → List Token → List Lexeme
lexemes_of text tokens = map (lexeme_of text) tokens

-- a word that stands at an offset
abbrev pub lexeme_at : ℕ → Word → Lexeme
lexeme_at at word = record { kind = kind_of word; bytes = word_text word; at = at }

-- the kind of the first one, and the end's where there is none
abbrev pub head_kind : List Lexeme → Kind
head_kind [] = End
head_kind (first ∷ rest) = first.kind

-- the kind of the second one, and the end's where there is none
abbrev pub second_kind : List Lexeme → Kind
second_kind [] = End
second_kind (first ∷ rest) = head_kind rest

-- the offset of the first one, and 0 where there is none
abbrev pub head_at : List Lexeme → ℕ
head_at [] = 0
head_at (first ∷ rest) = first.at

-- all but the first one
abbrev pub behind : List Lexeme → List Lexeme
behind [] = []
behind (first ∷ rest) = rest

-- the first one is of the kind
abbrev pub next_is : Kind → List Lexeme → Bool
next_is wanted [] = false
next_is wanted (first ∷ rest) = same first.kind wanted
