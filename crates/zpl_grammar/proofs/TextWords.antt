-- The words of a text are writable.
use Rattle.std.proofs.Common.{◌≡◌, ℕ, ◌<◌, ◌≤◌, ◌^◌, ℤ, pos, ◌≤ℤ◌, Bool, true, false, List, [], ◌∷◌, ◌++◌, length, refl, sym, ◌∙◌, ap, subst, arith}
use Rattle.std.specs.Char.{is_ascii_digit}
use Rattle.std.specs.Fmt.{decimal, signed_decimal}
use Rattle.std.specs.List.{list_all}
use Rattle.std.specs.Str.Parse.{AllDigits, digits_value}
use Rattle.std.proofs.lemmas.Bool.{and_from}
use Rattle.std.proofs.lemmas.Bool.Decides.{nat_tests}
use Rattle.std.proofs.lemmas.Fmt.{decimal_is_IsNumeral}
use Rattle.std.proofs.lemmas.Int.{ints}
use Rattle.std.proofs.lemmas.Str.Parse.{digit_from_value}
use Rattle.zpl_tokens.specs.declared.Kind.{Kind}
use Rattle.zpl_tokens.specs.declared.Kind.TheVariants as kind
use Rattle.zpl_text.specs.declared.tokens.Token.{Token}
use Rattle.zpl_text.specs.Kinds.{IsNumeral, IsToken}
use Rattle.zpl_text.specs.Cutting.{opens_ditto, MayStand, greatest}
use Rattle.zpl_text.specs.Spans.{IsSpan, AreSpans, IsWithinLimit}
use Rattle.zpl_text.specs.Tokens.{Place, Takes, Cuts, nothing, token, end_of, IsTokens}
use Rattle.zpl_tree.specs.Word.{Word, Name, Number, Str, Ditto, Symbol, Keyword, End, kind_of, word_text}
use Rattle.zpl_grammar.specs.Written.{token_text, HasBytes, IsWord, AreWords}
use Rattle.zpl_grammar.specs.Writable.{IsWritable, EachIsWritable, AreWritable, HasWords}

-- decimal text is a numeral
digit_passes : (c : ℕ) → 48 ≤ c → c ≤ 57 → is_ascii_digit c ≡ true
digit_passes c low high = grind (arith, nat_tests)

digits_pass : (bytes : List ℕ) → AllDigits 10 bytes → list_all is_ascii_digit bytes ≡ true
digits_pass [] all = refl
digits_pass (c ∷ bytes) all =
    let range = digit_from_value c all.0 in
    and_from (is_ascii_digit c) (list_all is_ascii_digit bytes) (digit_passes c range.0 range.1)
    (digits_pass bytes all.1)

numeral_from : (bytes : List ℕ) → 0 < length bytes → AllDigits 10 bytes → IsNumeral bytes
numeral_from [] some all = absurd (omega arith)
numeral_from (c ∷ bytes) some all = digits_pass (c ∷ bytes) all

number_token : (n : ℕ) → n < 2 ^ 64 → IsToken (decimal n) (kind.Number (pos n))
number_token n below =
    let is = decimal_is_IsNumeral n below in
    (numeral_from (decimal n) is.0.0 is.0.1, ap pos (sym is.1))

number_written : (value : ℤ) (n : ℕ) → value ≡ pos n → value ≤ℤ greatest
    → IsToken (signed_decimal value) (kind.Number value)
number_written value n is limit =
    let small : pos n ≤ℤ greatest = subst (λ (z : ℤ). z ≤ℤ greatest) is limit in
    subst (λ (z : ℤ). IsToken (signed_decimal z) (kind.Number z)) (sym is)
    (number_token n (omega (arith, ints)))

-- where some bytes are a token, the word's text is one
written_token : (bytes : List ℕ) (word : Word) → IsToken bytes (kind_of word)
    → IsWithinLimit (kind_of word) → HasBytes word bytes → IsToken (word_text word) (kind_of word)
written_token bytes (Name name) is limit has = subst (λ (xs : List ℕ). IsToken xs kind.Name) has is
written_token bytes (Number value) is limit has =
    number_written value (digits_value 10 bytes) is.1 limit
written_token bytes (Str string) is limit has = subst (λ (xs : List ℕ). IsToken xs kind.Str) has is
written_token bytes Ditto is limit has = refl
written_token bytes (Symbol symbol) is limit has = refl
written_token bytes (Keyword key) is limit has = refl
written_token bytes End is limit has = refl

-- one token
is_writable : (text : List ℕ) (here next : Place) (at : ℕ) (t : Token) (word : Word)
    → Takes text here t next → IsSpan text at t → IsWord text t word → IsWritable here.ditto word
is_writable text here next at t word step span is =
    let limit : IsWithinLimit (kind_of word) = subst IsWithinLimit is.kind span.limit in
    record {
      token = written_token (token_text text t) word
          (subst (λ (k : Kind). IsToken (token_text text t) k) is.kind span.text_of) limit is.bytes;
      stands = subst (λ (k : Kind). MayStand here.ditto k) is.kind step.cut.place;
      limit = limit;
    }

-- the last word is the end
end_word : (word : Word) → kind.End ≡ kind_of word → word ≡ End
end_word (Name name) same = cc
end_word (Number value) same = cc
end_word (Str string) same = cc
end_word Ditto same = cc
end_word (Symbol symbol) same = cc
end_word (Keyword key) same = cc
end_word End same = refl

-- the words behind a place
record AreWritableFrom (ditto : Bool) (words : List Word) : Type 0 where
  before : List Word
  split : words ≡ before ++ End ∷ []
  each : EachIsWritable ditto before

writable_from : {text : List ℕ} {here last : Place} {found : List Token} (at : ℕ)
    (words : List Word) → Cuts text here found last → AreSpans text at (found ++ end_of text ∷ [])
    → AreWords text (found ++ end_of text ∷ []) words
    → AreWritableFrom here.ditto words
writable_from at [] nothing spans are = absurd are
writable_from at (word ∷ []) nothing spans are =
    record { before = []; split = ap (λ (w : Word). w ∷ []) (end_word word are.0.kind); each = tt }
writable_from at (word ∷ other ∷ words) nothing spans are = absurd are.1
writable_from at [] (token step steps) spans are = absurd are
writable_from {text = text} {here = here} at (word ∷ words) (token {next = next} {t = t} step steps)
    spans are =
    let more = writable_from t.to words steps spans.1 are.1 in
    let ditto : next.ditto ≡ opens_ditto (kind_of word) = step.ditto ∙ ap opens_ditto are.0.kind in
    record {
      before = word ∷ more.before;
      split = ap (λ (ws : List Word). word ∷ ws) more.split;
      each = (
        is_writable text here next at t word step spans.0 are.0,
        subst (λ (d : Bool). EachIsWritable d more.before) ditto more.each,
      );
    }

pub text_words_writable : (text : List ℕ) (words : List Word)
    → ((tokens : List Token) → IsTokens text tokens → AreSpans text 0 tokens) → HasWords text words
    → AreWritable words
text_words_writable text words in_order has =
    let is = has.are_tokens in
    let spans = subst (λ (ts : List Token). AreSpans text 0 ts) is.all (in_order has.tokens is) in
    let are = subst (λ (ts : List Token). AreWords text ts words) is.all has.are in
    let from = writable_from 0 words is.cuts spans are in
    record { before = from.before; split = from.split; each = from.each }

-- lists that are the same
list_head : {x y : Token} {xs ys : List Token} → x ∷ xs ≡ y ∷ ys → y ≡ x
list_head same = cc

list_tail : {x y : Token} {xs ys : List Token} → x ∷ xs ≡ y ∷ ys → xs ≡ ys
list_tail same = cc

none_behind : {A : Type 0} (front back : List Token) (t : Token) → [] ≡ front ++ t ∷ back → A
none_behind [] back t same = absurd cc
none_behind (first ∷ front) back t same = absurd cc

-- the words before some token behind a place
front_writable : {text : List ℕ} {here last : Place} {found : List Token} (at : ℕ)
    (front back : List Token) (t : Token) (words : List Word) → Cuts text here found last
    → AreSpans text at (found ++ end_of text ∷ [])
    → found ++ end_of text ∷ [] ≡ front ++ t ∷ back → AreWords text front words
    → EachIsWritable here.ditto words
front_writable at [] back t [] cuts spans split are = tt
front_writable at [] back t (word ∷ words) cuts spans split are = absurd are
front_writable at (first ∷ front) back t [] cuts spans split are = absurd are
front_writable {text = text} at (first ∷ front) back t (word ∷ words) nothing spans split are =
    none_behind front back t (list_tail split)
front_writable {text = text} {here = here} at (first ∷ front) back t (word ∷ words) (token {next =
    next} {t = u} step steps) spans split are =
    let same : first ≡ u = list_head split in
    let is : IsWord text u word = subst (λ (x : Token). IsWord text x word) same are.0 in
    let ditto : next.ditto ≡ opens_ditto (kind_of word) = step.ditto ∙ ap opens_ditto is.kind in (
      is_writable text here next at u word step spans.0 is,
      subst (λ (d : Bool). EachIsWritable d words) ditto (front_writable u.to front back t words
          steps spans.1 (list_tail split) are.1),
    )

pub words_before_writable : (text : List ℕ) (tokens front back : List Token) (t : Token)
    (words : List Word) → ((tokens : List Token) → IsTokens text tokens → AreSpans text 0 tokens)
    → IsTokens text tokens
    → tokens ≡ front ++ t ∷ back → AreWords text front words → EachIsWritable false words
words_before_writable text tokens front back t words in_order is split are =
    front_writable 0 front back t words is.cuts (subst (λ (ts : List Token). AreSpans text 0 ts)
    is.all (in_order tokens is)) (sym is.all ∙ split) are
