-- A word that white space follows is cut off as its token.
use Rattle.std.proofs.Common.{◌≡◌, ℕ, ◌-◌, ℤ, pos, Bool, true, false, List, [], ◌∷◌, ◌++◌, length, take, drop, codes, refl, sym, ◌∙◌, ap, subst, arith, append_assoc, ⊎_elim}
use Rattle.std.specs.Char.{is_ascii_digit}
use Rattle.std.specs.List.{list_all, list_any, prefix_len}
use Rattle.std.specs.Str.Parse.{digits_value}
use Rattle.std.proofs.lemmas.Bool.{and_parts, both_ways, false_from_ne_true}
use Rattle.std.proofs.lemmas.Bool.Decides.{nat_tests}
use Rattle.std.proofs.lemmas.List.{take_rest, take_at, drop_at}
use Rattle.zpl_tokens.specs.declared.Kind.{Kind}
use Rattle.zpl_tokens.specs.declared.Kind.TheVariants as kind
use Rattle.zpl_tokens.specs.declared.symbols.Sym.{Sym}
use Rattle.zpl_tokens.specs.declared.symbols.Sym.TheVariants.{Assign}
use Rattle.zpl_tokens.specs.Key.{keyword_text}
use Rattle.zpl_tokens.specs.Sym.{symbol_text}
use Rattle.zpl_text.specs.Bytes.{quote, is_white, is_word_byte, BeginsWith, FirstPasses}
use Rattle.zpl_text.specs.Kinds.{IsWord, IsNumeral, IsToken}
use Rattle.zpl_text.specs.Gaps.{IsPastGap}
use Rattle.zpl_text.specs.Cutting.{MayStand, IsCut, IsFloatTail, IsSound, is_dot, is_exponent_mark}
use Rattle.zpl_text.proofs.Cuts.{heads, word_cut, numeral_cut}
use Rattle.zpl_text.proofs.Marks.{single_from_pairs, single_cut, double_cut}
use Rattle.zpl_text.proofs.Quoted.{StopsBody-quote, IsQuoted, ditto_cut, string_cut}
use Rattle.zpl_text.proofs.Shapes.{IsMarked, is_mark, keyword_word, symbol_marked, apart_mark_word, apart_mark_digit, apart_mark_quote}
use Rattle.zpl_text.proofs.Written.{symbol_absent}
use Rattle.zpl_tree.specs.Word.{Word, Name, Number, Str, Ditto, Symbol, Keyword, End, kind_of, word_text}
use Rattle.zpl_grammar.specs.Writable.{IsWritable}

-- what white space is not
white_no_word : (b : ℕ) → is_white b ≡ true → is_word_byte b ≡ true → ⊥
white_no_word b white is = grind (arith, nat_tests)

white_no_digit : (b : ℕ) → is_white b ≡ true → is_ascii_digit b ≡ true → ⊥
white_no_digit b white is = grind (arith, nat_tests)

white_no_quote : (b : ℕ) → is_white b ≡ true → b ≡ quote → ⊥
white_no_quote b white is =
    both_ways (is_white quote) refl (subst (λ (n : ℕ). is_white n ≡ true) is white)

white_no_dot : (b : ℕ) → is_white b ≡ true → is_dot b ≡ true → ⊥
white_no_dot b white is = grind (arith, nat_tests)

white_no_exponent : (b : ℕ) → is_white b ≡ true → is_exponent_mark b ≡ true → ⊥
white_no_exponent b white is = grind (arith, nat_tests)

-- a run of bytes that pass, with one behind it that doesn't
prefix_len_before : (test : ℕ → Bool) (front : List ℕ) (b : ℕ) (rest : List ℕ) → list_all test front
    ≡ true → test b ≡ false → prefix_len test (front ++ b ∷ rest) ≡ length front
prefix_len_before test [] b rest all stops = rw stops refl
prefix_len_before test (c ∷ front) b rest all stops =
    let parts = and_parts (test c) (list_all test front) all in
    let more = prefix_len_before test front b rest parts.1 stops in
    rw parts.0 (omega (arith, more))

-- a word or a keyword
word_before : (ditto : Bool) (text : List ℕ) (k : Kind) (b : ℕ) (rest : List ℕ) → is_white b ≡ true
    → IsWord text → IsToken text k → MayStand ditto k → IsCut ditto (text ++ b ∷ rest) k (b ∷ rest)
word_before ditto [] k b rest white word token place = absurd word
word_before ditto (c ∷ text) k b rest white word token place =
    let bytes : List ℕ = c ∷ (text ++ b ∷ rest) in
    let passes : list_all is_word_byte (c ∷ text) ≡ true = grind (arith, word) in
    let run =
    prefix_len_before is_word_byte (c ∷ text) b rest passes (false_from_ne_true (is_word_byte b)
    (white_no_word b white)) in
    let front : take (prefix_len is_word_byte bytes) bytes ≡ c ∷ text =
    take_at (c ∷ text) (b ∷ rest) (prefix_len is_word_byte bytes) (sym run) in
    let back : drop (prefix_len is_word_byte bytes) bytes ≡ b ∷ rest =
    drop_at (c ∷ text) (b ∷ rest) (prefix_len is_word_byte bytes) (sym run) in
    subst (λ (xs : List ℕ). IsCut ditto bytes k xs) back
    (word_cut ditto bytes k word.0 (subst (λ (xs : List ℕ). IsToken xs k) (sym front) token)
    place)

-- a number
number_before : (ditto : Bool) (text : List ℕ) (n : ℤ) (b : ℕ) (rest : List ℕ) → is_white b ≡ true
    → IsToken text (kind.Number n) → IsCut ditto (text ++ b ∷ rest) (kind.Number n) (b ∷ rest)
number_before ditto [] n b rest white token = absurd token.0
number_before ditto (c ∷ text) n b rest white token =
    let bytes : List ℕ = c ∷ (text ++ b ∷ rest) in
    let run =
    prefix_len_before is_ascii_digit (c ∷ text) b rest token.0
    (false_from_ne_true (is_ascii_digit b) (white_no_digit b white)) in
    let front : take (prefix_len is_ascii_digit bytes) bytes ≡ c ∷ text =
    take_at (c ∷ text) (b ∷ rest) (prefix_len is_ascii_digit bytes) (sym run) in
    let back : drop (prefix_len is_ascii_digit bytes) bytes ≡ b ∷ rest =
    drop_at (c ∷ text) (b ∷ rest) (prefix_len is_ascii_digit bytes) (sym run) in
    let value : pos (digits_value 10 (take (prefix_len is_ascii_digit bytes) bytes)) ≡ n =
    ap (λ (xs : List ℕ). pos (digits_value 10 xs)) front ∙ sym token.1 in
    subst (λ (m : ℤ). IsCut ditto bytes (kind.Number m) (b ∷ rest)) value
    (subst (λ (xs : List ℕ).
    IsCut ditto bytes
    (kind.Number (pos (digits_value 10 (take (prefix_len is_ascii_digit bytes) bytes)))) xs)
    back
    (numeral_cut ditto bytes (and_parts (is_ascii_digit c) (list_all is_ascii_digit text)
    token.0).0))

-- a string, and a ditto
string_before : (text : List ℕ) (b : ℕ) (rest : List ℕ) → IsToken text kind.Str
    → IsCut false (text ++ b ∷ rest) kind.Str (b ∷ rest)
string_before text b rest token =
    let bytes : List ℕ = text ++ b ∷ rest in
    let tail : List ℕ = quote ∷ b ∷ rest in
    let quoted : IsQuoted bytes tail = record {
      body = token.0;
      split = ap (λ (xs : List ℕ). xs ++ b ∷ rest) token.2
          ∙ ap (λ (xs : List ℕ). quote ∷ xs) (append_assoc token.0 (quote ∷ []) (b ∷ rest));
      within = token.1;
      stops = StopsBody-quote (b ∷ rest);
    } in
    subst (λ (xs : List ℕ). IsCut false bytes kind.Str xs) (take_rest tail 1)
    (string_cut bytes tail quoted refl)

ditto_before : (b : ℕ) (rest : List ℕ) → IsCut true (quote ∷ b ∷ rest) kind.Ditto (b ∷ rest)
ditto_before b rest =
    let bytes : List ℕ = quote ∷ b ∷ rest in
    subst (λ (xs : List ℕ). IsCut true bytes kind.Ditto xs) (take_rest bytes 1)
    (ditto_cut bytes (omega arith) refl)

-- no symbol has white space in it
symbol_black : (s : Sym) → list_any is_white (symbol_text s) ≡ false
symbol_black Assign = refl
symbol_black _ = refl

first_black : (s : Sym) (c : ℕ) (text : List ℕ) → symbol_text s ≡ c ∷ text → is_white c ≡ true → ⊥
first_black s c text same white =
    let black : list_any is_white (c ∷ text) ≡ false =
    subst (λ (xs : List ℕ). list_any is_white xs ≡ false) same (symbol_black s) in
    grind arith

second_black : (c b : ℕ) (s : Sym) → is_white b ≡ true → symbol_text s ≡ c ∷ b ∷ [] → ⊥
second_black c b s white same =
    let black : list_any is_white (c ∷ b ∷ []) ≡ false =
    subst (λ (xs : List ℕ). list_any is_white xs ≡ false) same (symbol_black s) in
    grind arith

-- a symbol, of one byte or two
symbol_before : (ditto : Bool) (text : List ℕ) (s : Sym) (b : ℕ) (rest : List ℕ) → is_white b ≡ true
    → symbol_text s ≡ text → IsMarked text
    → IsCut ditto (text ++ b ∷ rest) (kind.Symbol s) (b ∷ rest)
symbol_before ditto [] s b rest white same marked = absurd marked.first
symbol_before ditto (c ∷ []) s b rest white same marked =
    let bytes : List ℕ = c ∷ b ∷ rest in
    subst (λ (xs : List ℕ). IsCut ditto bytes (kind.Symbol s) xs) (take_rest bytes 1)
    (single_cut ditto bytes s marked.first (omega arith)
    (single_from_pairs bytes (λ t is. second_black c b t white is)) same)
symbol_before ditto (c ∷ d ∷ []) s b rest white same marked =
    let bytes : List ℕ = c ∷ d ∷ b ∷ rest in
    let no_bars : BeginsWith (codes "|||") bytes → ⊥ = λ bars. bar_no_white b white c d rest bars in
    let back : take (length bytes - 2) (drop 2 bytes) ≡ b ∷ rest = take_rest bytes 2 in
    subst (λ (xs : List ℕ). IsCut ditto bytes (kind.Symbol s) xs) back
    (double_cut ditto bytes s marked.first (record {
      no_bars = no_bars;
      at_front =
          (b ∷ rest, ap (λ (xs : List ℕ). xs ++ b ∷ rest) (sym same));
      two = ap length same;
    }))
  where
    bar_no_white : (b : ℕ) → is_white b ≡ true → (c d : ℕ) (rest : List ℕ) →
        BeginsWith (codes "|||") (c ∷ d ∷ b ∷ rest) → ⊥
    bar_no_white b white c d rest (after, same) =
        let third : b ≡ 124 = cc in
        both_ways (is_white 124) refl (subst (λ (n : ℕ). is_white n ≡ true) third white)
symbol_before ditto (c ∷ d ∷ e ∷ text) s b rest white same marked =
    absurd (omega (arith, marked.short))

-- each word
pub word_before_white : (ditto : Bool) (word : Word) (b : ℕ) (rest : List ℕ) → is_white b ≡ true
    → IsWritable ditto word → IsCut ditto (word_text word ++ b ∷ rest) (kind_of word) (b ∷ rest)
word_before_white ditto (Name text) b rest white is =
    word_before ditto text kind.Name b rest white is.token.0 is.token is.stands
word_before_white ditto (Number value) b rest white is =
    number_before ditto (word_text (Number value)) value b rest white is.token
word_before_white ditto (Str bytes) b rest white is =
    subst (λ (d : Bool). IsCut d (word_text (Str bytes) ++ b ∷ rest) kind.Str (b ∷ rest))
    (sym is.stands) (string_before (word_text (Str bytes)) b rest is.token)
word_before_white ditto Ditto b rest white is =
    subst (λ (d : Bool). IsCut d (quote ∷ b ∷ rest) kind.Ditto (b ∷ rest)) (sym is.stands)
    (ditto_before b rest)
word_before_white ditto (Symbol s) b rest white is =
    symbol_before ditto (symbol_text s) s b rest white refl (symbol_marked s)
word_before_white ditto (Keyword k) b rest white is =
    word_before ditto (keyword_text k) (kind.Word k) b rest white (keyword_word k) refl is.stands
word_before_white ditto End b rest white is = absurd is.stands

-- No gap begins with a word.
past_unmarked : (c : ℕ) (after : List ℕ) → (is_white c ≡ true → ⊥) → (is_mark c ≡ true → ⊥)
    → IsPastGap (c ∷ after)
past_unmarked c after black unmarked = record {
  no_white = black;
  no_line = λ begins. unmarked (subst (λ (n : ℕ). is_mark n ≡ true) (sym (heads begins.1)) refl);
  no_block = λ begins. unmarked (subst (λ (n : ℕ). is_mark n ≡ true) (sym (heads begins.1)) refl);
}

-- a symbol that white space follows begins no comment
pair_begins : (p q : ℕ) (text : List ℕ) (b : ℕ) (rest : List ℕ) → is_white b ≡ true → is_white q
    ≡ false → IsMarked text → BeginsWith (p ∷ q ∷ []) (text ++ b ∷ rest) → text ≡ p ∷ q ∷ []
pair_begins p q [] b rest white black marked begins = absurd marked.first
pair_begins p q (c ∷ []) b rest white black marked (after, same) =
    let second : b ≡ q = cc in
    absurd (both_ways (is_white q) black (subst (λ (n : ℕ). is_white n ≡ true) second white))
pair_begins p q (c ∷ d ∷ []) b rest white black marked (after, same) =
    let first : c ≡ p = cc in
    let second : d ≡ q = cc in
    λ i. first i ∷ (second i ∷ [])
pair_begins p q (c ∷ d ∷ e ∷ text) b rest white black marked begins =
    absurd (omega (arith, marked.short))

symbol_no_white : (text : List ℕ) (s : Sym) (b : ℕ) (rest : List ℕ) → symbol_text s ≡ text
    → IsMarked text → FirstPasses is_white (text ++ b ∷ rest) → ⊥
symbol_no_white [] s b rest same marked white = marked.first
symbol_no_white (c ∷ text) s b rest same marked white = first_black s c text same white

symbol_past : (s : Sym) (b : ℕ) (rest : List ℕ) → is_white b ≡ true
    → IsPastGap (symbol_text s ++ b ∷ rest)
symbol_past s b rest white = record {
  no_white = symbol_no_white (symbol_text s) s b rest refl (symbol_marked s);
  no_line = λ begins. symbol_absent (codes "--") refl s
      (pair_begins 45 45 (symbol_text s) b rest white refl (symbol_marked s) begins);
  no_block = λ begins. symbol_absent (codes "/*") refl s
      (pair_begins 47 42 (symbol_text s) b rest white refl (symbol_marked s) begins);
}

word_past : (text : List ℕ) (rest : List ℕ) → IsWord text → IsPastGap (text ++ rest)
word_past [] rest word = absurd word
word_past (c ∷ text) rest word =
    past_unmarked c (text ++ rest) (λ white. white_no_word c white (grind (arith, word))) (λ mark.
    apart_mark_word c mark word.0)

number_past : (text : List ℕ) (rest : List ℕ) → IsNumeral text → IsPastGap (text ++ rest)
number_past [] rest digits = absurd digits
number_past (c ∷ text) rest digits =
    let digit = (and_parts (is_ascii_digit c) (list_all is_ascii_digit text) digits).0 in
    past_unmarked c (text ++ rest) (λ white. white_no_digit c white digit) (λ mark.
    apart_mark_digit c mark digit)

quote_past : (after : List ℕ) → IsPastGap (quote ∷ after)
quote_past after =
    past_unmarked quote after (λ white. white_no_quote quote white refl) (λ mark.
    apart_mark_quote quote mark refl)

pub word_past_gap : (ditto : Bool) (word : Word) (b : ℕ) (rest : List ℕ) → is_white b ≡ true
    → IsWritable ditto word → IsPastGap (word_text word ++ b ∷ rest)
word_past_gap ditto (Name text) b rest white is = word_past text (b ∷ rest) is.token.0
word_past_gap ditto (Number value) b rest white is =
    number_past (word_text (Number value)) (b ∷ rest) is.token.0
word_past_gap ditto (Str bytes) b rest white is = quote_past ((bytes ++ codes "\"") ++ b ∷ rest)
word_past_gap ditto Ditto b rest white is = quote_past (b ∷ rest)
word_past_gap ditto (Symbol s) b rest white is = symbol_past s b rest white
word_past_gap ditto (Keyword k) b rest white is =
    word_past (keyword_text k) (b ∷ rest) (keyword_word k)
word_past_gap ditto End b rest white is = absurd is.stands

-- White space makes no float of a number.
no_float : (b : ℕ) (rest : List ℕ) → is_white b ≡ true → IsFloatTail (b ∷ rest) → ⊥
no_float b rest white tail =
    ⊎_elim (λ dot. white_no_dot b white dot.0) (λ mark. white_no_exponent b white mark.0) tail

pub word_sound : (ditto : Bool) (word : Word) (b : ℕ) (rest : List ℕ) → is_white b ≡ true
    → IsWritable ditto word → IsSound (kind_of word) (b ∷ rest)
word_sound ditto (Number value) b rest white is = (no_float b rest white, is.limit)
word_sound ditto (Name text) b rest white is = tt
word_sound ditto _ b rest white is = tt
