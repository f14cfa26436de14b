-- The words of a text's tokens take no more bytes than the text.
use Rattle.std.proofs.Common.{◌≡◌, ℕ, ◌+◌, ◌-◌, ◌<◌, ◌≤◌, ◌^◌, Bool, true, false, ◌&&◌, List, [], ◌∷◌, length, IsTrue, sum_by, ℤ, pos, ◌≤ℤ◌, refl, sym, ap, subst, arith}
use Rattle.std.proofs.lemmas.List.{length-take, length-drop}
use Rattle.std.proofs.lemmas.List.Sums.{sum_by-cons}
use Rattle.std.proofs.lemmas.Bool.Decides.{nat_tests}
use Rattle.std.proofs.lemmas.Int.Digits.{digits_value-lt}
use Rattle.std.proofs.lemmas.Fmt.{length-decimal-le}
use Rattle.std.proofs.lemmas.Int.{ints}
use Rattle.std.specs.Fmt.{signed_decimal}
use Rattle.std.specs.List.{list_all, slice_range}
use Rattle.std.specs.Char.{is_ascii_digit, digit_value}
use Rattle.std.specs.Str.Parse.{AllDigits, digits_value}
use Rattle.zpl_text.specs.declared.tokens.Token.{Token}
use Rattle.zpl_text.specs.Kinds.{IsToken, IsNumeral}
use Rattle.zpl_text.specs.Cutting.{greatest}
use Rattle.zpl_text.specs.Spans.{IsSpan, AreSpans, IsWithinLimit}
use Rattle.zpl_tree.specs.Word.{Word, Name, Number, Str, Ditto, Symbol, Keyword, End, kind_of, word_text}
use Rattle.zpl_grammar.specs.Written.{token_text, HasBytes, IsWord, AreWords}

-- a digit's value is below ten
digit_below : (c : ℕ) → IsTrue (is_ascii_digit c) → digit_value c < 10
digit_below c h = grind (arith, nat_tests)

both : (a b : Bool) → IsTrue (a && b) → IsTrue a × IsTrue b
both true b h = (refl, h)
both false b h = cc

digits_all : (bytes : List ℕ) → IsTrue (list_all is_ascii_digit bytes) → AllDigits 10 bytes
digits_all [] h = tt
digits_all (c ∷ bytes) h =
    let parts = both (is_ascii_digit c) (list_all is_ascii_digit bytes) h in
    (digit_below c parts.0, digits_all bytes parts.1)

length-slice_range : (text : List ℕ) (from to : ℕ) → from ≤ to → to ≤ length text
    → length (slice_range text from to) ≡ to - from
length-slice_range text from to in_order within = simp (length-take, length-drop) (omega arith)

number_fits : (bytes : List ℕ) (value : ℤ) → IsNumeral bytes → value ≡ pos (digits_value 10 bytes)
    → value ≤ℤ greatest → length (signed_decimal value) ≤ length bytes
number_fits [] value digits is limit = absurd digits
number_fits (b ∷ after) value digits is limit =
    let bytes : List ℕ = b ∷ after in
    let small : pos (digits_value 10 bytes) ≤ℤ greatest = subst (λ z. z ≤ℤ greatest) is limit in
    let below : digits_value 10 bytes < 2 ^ 64 = omega (arith, ints) in
    let some : 0 < length bytes = omega arith in
    subst (λ z. length (signed_decimal z) ≤ length bytes) (sym is)
    (length-decimal-le (length bytes) (digits_value 10 bytes) some
    (digits_value-lt 10 bytes (digits_all bytes digits)) below)

-- the bytes of a token are as many as its word's, or more where a number has leading zeros
same_fits : (bytes text : List ℕ) → bytes ≡ text → length text ≤ length bytes
same_fits bytes text e = let same = ap length e in omega arith

word_fits : (bytes : List ℕ) (word : Word) → IsToken bytes (kind_of word)
    → IsWithinLimit (kind_of word) → HasBytes word bytes → length (word_text word) ≤ length bytes
word_fits bytes (Name name) token limit has = same_fits bytes name has
word_fits bytes (Number value) token limit has = number_fits bytes value token.0 token.1 limit
word_fits bytes (Str string) token limit has = same_fits bytes (word_text (Str string)) has
word_fits bytes Ditto token limit has = same_fits bytes (word_text Ditto) token
word_fits bytes (Symbol symbol) token limit has = same_fits bytes (word_text (Symbol symbol)) token
word_fits bytes (Keyword key) token limit has = same_fits bytes (word_text (Keyword key)) token
word_fits bytes End token limit has = omega arith

-- one token, at its place
span_fits : (text : List ℕ) (at : ℕ) (token : Token) (word : Word) → IsSpan text at token
    → IsWord text token word → at + length (word_text word) ≤ token.to
span_fits text at token word span is =
    let bytes : List ℕ = token_text text token in
    let kind : IsToken bytes (kind_of word) = subst (IsToken bytes) is.kind span.text_of in
    let limit : IsWithinLimit (kind_of word) = subst IsWithinLimit is.kind span.limit in
    omega (
      arith,
      word_fits bytes word kind limit is.bytes,
      length-slice_range text token.from token.to span.in_order span.within,
      span.behind,
      span.in_order,
    )

-- and one after another
pub words_fit : (text : List ℕ) (at : ℕ) (tokens : List Token) (words : List Word)
    → at ≤ length text → AreSpans text at tokens → AreWords text tokens words
    → at + sum_by (λ word. length (word_text word)) words ≤ length text
words_fit text at [] [] within spans are = omega arith
words_fit text at [] (word ∷ words) within spans are = absurd are
words_fit text at (token ∷ tokens) [] within spans are = absurd are
words_fit text at (token ∷ tokens) (word ∷ words) within spans are =
    let first = span_fits text at token word spans.0 are.0 in
    let rest = words_fit text token.to tokens words spans.0.within spans.1 are.1 in
    omega (arith, first, rest, sum_by-cons (λ (w : Word). length (word_text w)) word words)
