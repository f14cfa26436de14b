-- How a token's bytes look, by its kind, and how its first byte tells kinds apart.
use Rattle.std.proofs.Common.{◌≡◌, ℕ, ◌≤◌, Bool, true, false, not, ◌&&◌, leb, List, [], ◌∷◌, ◌++◌}
use Rattle.std.proofs.Common.{length, refl, sym, subst, arith}
use Rattle.std.specs.List.{list_all}
use Rattle.std.specs.Char.{is_ascii_digit}
use Rattle.std.specs.Prelude.{◌==◌}
use Rattle.std.proofs.lemmas.Bool.{false≢true, and_parts, or_right, or_left, both_ways, not-true}
use Rattle.std.proofs.lemmas.Bool.{leb-true}
use Rattle.std.proofs.lemmas.Bool.Decides.{nat_tests}
use Rattle.zpl_tokens.specs.declared.Kind.{Kind}
use Rattle.zpl_tokens.specs.declared.Kind.TheVariants.{Name, Number, Str, Ditto, Symbol, Word, End}
use Rattle.zpl_tokens.specs.declared.keywords.Key.{Key}
use Rattle.zpl_tokens.specs.declared.keywords.Key.TheVariants.{Program}
use Rattle.zpl_tokens.specs.declared.symbols.Sym.{Sym}
use Rattle.zpl_tokens.specs.declared.symbols.Sym.TheVariants.{Assign}
use Rattle.zpl_tokens.specs.Key.{keyword_text}
use Rattle.zpl_tokens.specs.Sym.{symbol_text}
use Rattle.zpl_text.specs.Bytes.{quote, is_word_start, is_word_byte, FirstPasses}
use Rattle.zpl_text.specs.Kinds.{IsWord, IsNumeral, IsBody, IsToken}

-- a byte that begins neither a word nor a number nor a string
abbrev pub is_mark : ℕ → Bool
is_mark b = not (is_word_byte b) && not (b == quote)

abbrev is_word : List ℕ → Bool
is_word [] = false
is_word (b ∷ after) = is_word_start b && list_all is_word_byte after

abbrev is_symbol : List ℕ → Bool
is_symbol [] = false
is_symbol (b ∷ after) = is_mark b && leb (length after) 1

-- every keyword is a word, and every symbol is one or two bytes of which the first is a mark
keyword_is_word : (k : Key) → is_word (keyword_text k) ≡ true
keyword_is_word Program = refl
keyword_is_word _ = refl

symbol_is_symbol : (s : Sym) → is_symbol (symbol_text s) ≡ true
symbol_is_symbol Assign = refl
symbol_is_symbol _ = refl

IsWord-from_test : (bytes : List ℕ) → is_word bytes ≡ true → IsWord bytes
IsWord-from_test [] test = absurd (false≢true test)
IsWord-from_test (b ∷ after) test = and_parts (is_word_start b) (list_all is_word_byte after) test

-- the first byte of a symbol, and its length
pub record IsMarked (bytes : List ℕ) : Type 0 where
  pub first : FirstPasses is_mark bytes
  pub short : length bytes ≤ 2

IsMarked-from_test : (bytes : List ℕ) → is_symbol bytes ≡ true → IsMarked bytes
IsMarked-from_test [] test = absurd (false≢true test)
IsMarked-from_test (b ∷ after) test =
    let parts = and_parts (is_mark b) (leb (length after) 1) test in
    let short = leb-true (length after) 1 parts.1 in
    record { first = parts.0; short = omega arith }

pub keyword_word : (k : Key) → IsWord (keyword_text k)
keyword_word k = IsWord-from_test (keyword_text k) (keyword_is_word k)

pub symbol_marked : (s : Sym) → IsMarked (symbol_text s)
symbol_marked s = IsMarked-from_test (symbol_text s) (symbol_is_symbol s)

-- how the bytes of a token look
abbrev pub HasShape : Kind → List ℕ → Type 0
HasShape Name bytes = IsWord bytes
HasShape (Number n) bytes = IsNumeral bytes
HasShape Str bytes = (body : List ℕ) × IsBody body × (bytes ≡ quote ∷ (body ++ quote ∷ []))
HasShape Ditto bytes = bytes ≡ quote ∷ []
HasShape (Symbol s) bytes = IsMarked bytes
HasShape (Word k) bytes = IsWord bytes
HasShape End bytes = bytes ≡ []

pub shape_of : (kind : Kind) (bytes : List ℕ) → IsToken bytes kind → HasShape kind bytes
shape_of Name bytes token = token.0
shape_of (Number n) bytes token = token.0
shape_of Str bytes token = token
shape_of Ditto bytes token = token
shape_of (Symbol s) bytes token = subst IsMarked (sym token) (symbol_marked s)
shape_of (Word k) bytes token = subst IsWord (sym token) (keyword_word k)
shape_of End bytes token = token

-- what a first byte can't be twice
pub apart_word_digit : (b : ℕ) → is_word_start b ≡ true → is_ascii_digit b ≡ true → ⊥
apart_word_digit b word digit = grind (arith, nat_tests)

pub apart_word_quote : (b : ℕ) → is_word_start b ≡ true → b ≡ quote → ⊥
apart_word_quote b word is =
    both_ways (is_word_start quote) refl (subst (λ (n : ℕ). is_word_start n ≡ true) is word)

pub apart_digit_quote : (b : ℕ) → is_ascii_digit b ≡ true → b ≡ quote → ⊥
apart_digit_quote b digit is =
    both_ways (is_ascii_digit quote) refl (subst (λ (n : ℕ). is_ascii_digit n ≡ true) is digit)

pub apart_mark_word : (b : ℕ) → is_mark b ≡ true → is_word_start b ≡ true → ⊥
apart_mark_word b mark word =
    let parts = and_parts (not (is_word_byte b)) (not (b == quote)) mark in
    both_ways (is_word_byte b) (not-true (is_word_byte b) parts.0)
    (or_left (is_word_start b) (is_ascii_digit b) word)

pub apart_mark_digit : (b : ℕ) → is_mark b ≡ true → is_ascii_digit b ≡ true → ⊥
apart_mark_digit b mark digit =
    let parts = and_parts (not (is_word_byte b)) (not (b == quote)) mark in
    both_ways (is_word_byte b) (not-true (is_word_byte b) parts.0)
    (or_right (is_word_start b) (is_ascii_digit b) digit)

pub apart_mark_quote : (b : ℕ) → is_mark b ≡ true → b ≡ quote → ⊥
apart_mark_quote b mark is =
    both_ways (is_mark quote) refl (subst (λ (n : ℕ). is_mark n ≡ true) is mark)
