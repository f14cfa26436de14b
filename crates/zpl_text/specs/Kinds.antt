-- When a list of bytes, taken as a whole, is one token of a kind.
use Rattle.std.specs.Prelude.{◌≡◌, ◌≢◌, ℕ, pos, List, [], ◌∷◌, ◌++◌, IsTrue}
use Rattle.std.specs.List.{list_all}
use Rattle.std.specs.Char.{is_ascii_digit}
use Rattle.std.specs.Str.Parse.{digits_value}
use Rattle.zpl_tokens.specs.declared.Kind.{Kind}
use Rattle.zpl_tokens.specs.declared.Kind.TheVariants.{Name, Number, Str, Ditto, Symbol, Word, End}
use Rattle.zpl_tokens.specs.declared.keywords.Key.{Key}
use Rattle.zpl_tokens.specs.Key.{keyword_text}
use Rattle.zpl_tokens.specs.Sym.{symbol_text}
use Rattle.zpl_text.specs.Bytes.{newline, quote, backslash, is_word_start, is_word_byte, is_escape}

-- a letter or `_`, and then letters, digits and `_`: a name or a keyword
abbrev pub IsWord : List ℕ → Type 0
IsWord [] = ⊥
IsWord (b ∷ after) = IsTrue (is_word_start b) × IsTrue (list_all is_word_byte after)

-- digits, one at least
abbrev pub IsNumeral : List ℕ → Type 0
IsNumeral [] = ⊥
IsNumeral (b ∷ after) = IsTrue (list_all is_ascii_digit (b ∷ after))

-- what may stand between the quotes of a string: bytes that stand for themselves, and escapes
pub data IsBody : List ℕ → Type 0 where
  nothing : IsBody []
  plain : {b : ℕ} {after : List ℕ} → b ≢ quote → b ≢ newline → b ≢ backslash → IsBody after
      → IsBody (b ∷ after)
  escape : {b : ℕ} {after : List ℕ} → IsTrue (is_escape b) → IsBody after
      → IsBody (backslash ∷ b ∷ after)

-- The bytes, all of them, are a token of the kind. A number may have any size here: where tokens
-- are cut off, one over the greatest integer is a fault. The end is no bytes.
abbrev pub IsToken : List ℕ → Kind → Type 0
IsToken bytes Name = IsWord bytes × ((k : Key) → bytes ≢ keyword_text k)
IsToken bytes (Number n) = IsNumeral bytes × (n ≡ pos (digits_value 10 bytes))
IsToken bytes Str = (body : List ℕ) × IsBody body × (bytes ≡ quote ∷ (body ++ quote ∷ []))
IsToken bytes Ditto = bytes ≡ quote ∷ []
IsToken bytes (Symbol s) = bytes ≡ symbol_text s
IsToken bytes (Word k) = bytes ≡ keyword_text k
IsToken bytes End = bytes ≡ []
