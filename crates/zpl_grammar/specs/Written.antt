-- How the tokens of a text are the words of a tree.
use Rattle.std.specs.Prelude.{◌≡◌, ℕ, List, [], ◌∷◌, slice_range, ⊤}
use Rattle.zpl_text.specs.declared.tokens.Token.{Token}
use Rattle.zpl_tree.specs.Word.{Word, Name, Number, Str, Ditto, Symbol, Keyword, End, kind_of, word_text}

-- the bytes of a token
abbrev pub token_text : List ℕ → Token → List ℕ
token_text text token = slice_range text token.from token.to

-- The bytes are those of a name or a string. The other words are told by their tokens' kinds.
abbrev pub HasBytes : Word → List ℕ → Type 0
HasBytes (Name name) bytes = bytes ≡ name
HasBytes (Str string) bytes = bytes ≡ word_text (Str string)
HasBytes (Number value) bytes = ⊤
HasBytes Ditto bytes = ⊤
HasBytes (Symbol symbol) bytes = ⊤
HasBytes (Keyword key) bytes = ⊤
HasBytes End bytes = ⊤

-- The token of the text is the word.
pub record IsWord (text : List ℕ) (token : Token) (word : Word) : Type 0 where
  pub kind : token.kind ≡ kind_of word
  pub bytes : HasBytes word (token_text text token)

-- The tokens of the text are the words, one by one.
abbrev pub AreWords : List ℕ → List Token → List Word → Type 0
AreWords text [] [] = ⊤
AreWords text [] (word ∷ words) = ⊥
AreWords text (token ∷ tokens) [] = ⊥
AreWords text (token ∷ tokens) (word ∷ words) = IsWord text token word × AreWords text tokens words
