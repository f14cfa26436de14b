-- Behind a gap a token is cut off, or something is wrong.
use Rattle.std.proofs.Common.{◌≡◌, ℕ, zero, suc, ◌-◌, ◌^◌, ◌<◌, ◌≤◌, Bool, true, false, pos}
use Rattle.std.proofs.Common.{List, [], ◌∷◌}
use Rattle.std.proofs.Common.{◌++◌, length, get_or, take, drop, codes, refl, sym, ap, subst}
use Rattle.std.proofs.Common.{arith}
use Rattle.std.proofs.Common.{◌⊎◌, inl, inr, ⊎_elim, nat_eq}
use Rattle.std.specs.Prelude.{◌<ℤ◌, ◌≤ℤ◌}
use Rattle.std.specs.Char.{is_ascii_digit}
use Rattle.std.specs.List.{prefix_len, starts_with}
use Rattle.std.specs.Str.Parse.{digits_value}
use Rattle.std.proofs.lemmas.Bool.{both_ways, cases_Bool, cases_eq, cases_lt, or_cases, false≢true}
use Rattle.std.proofs.lemmas.Bool.Decides.{Decides-eqb}
use Rattle.std.proofs.lemmas.Int.{ints}
use Rattle.std.proofs.lemmas.Slice.Eq.{starts_is}
use Rattle.zpl_tokens.specs.declared.Kind.{Kind}
use Rattle.zpl_tokens.specs.declared.Kind.TheVariants.{Name, Number, Str, Ditto, Symbol, Word}
use Rattle.zpl_tokens.specs.declared.symbols.Sym.{Sym}
use Rattle.zpl_text.specs.declared.faults.LexFault.{LexFault}
use Rattle.zpl_text.specs.Bytes.{newline, quote, backslash, is_word_start, is_word_byte, is_escape}
use Rattle.zpl_text.specs.Bytes.{BeginsWith, FirstPasses}
use Rattle.zpl_text.specs.Gaps.{IsPastGap}
use Rattle.zpl_text.specs.Kinds.{IsBody, nothing, plain, escape}
use Rattle.zpl_text.specs.Scanning.{AllAreSingle, IsDoubleAt}
use Rattle.zpl_text.specs.Cutting.{IsCut, IsSound, IsFloatTail, is_dot, is_exponent_mark}
use Rattle.zpl_text.specs.Cutting.{begins_exponent, greatest, IsWrong, no_token}
use Rattle.zpl_text.specs.Cutting.{open_string}
use Rattle.zpl_text.specs.Cutting.{too_large, float_text}
use Rattle.zpl_text.proofs.Cuts.{heads, word_cut, word_run, numeral_cut}
use Rattle.zpl_text.proofs.Decided.{Decided, either, both, neither, of_test, of_first, of_line_end}
use Rattle.zpl_text.proofs.Decided.{looked_up}
use Rattle.zpl_text.proofs.Marks.{marked, double_from_pair, single_from_pairs, single_from_short}
use Rattle.zpl_text.proofs.Marks.{single_from_bars, double_cut, single_cut, no_symbol}
use Rattle.zpl_text.proofs.Quoted.{StopsBody, IsQuoted, ditto_cut, string_cut, string_open}
use Rattle.zpl_text.proofs.Quoted.{string_bad}
use Rattle.zpl_text.proofs.Shapes.{is_mark}
use Rattle.zpl_text.proofs.Written.{keyword_of, keyword_found, keyword_absent, symbol_of}
use Rattle.zpl_text.proofs.Written.{symbol_found}
use Rattle.zpl_text.proofs.Written.{symbol_absent}

-- a token is cut off, or something is wrong
abbrev pub TokenOrFault : List ℕ → Bool → List ℕ → Type 0
TokenOrFault text ditto bytes =
    ((kind : Kind) × (after : List ℕ) × IsCut ditto bytes kind after × IsSound kind after)
    ⊎ ((fault : LexFault) × IsWrong text ditto bytes fault)

-- ---- strings
-- where a body stops
record BodyEnd (bytes : List ℕ) : Type 0 where
  body : List ℕ
  tail : List ℕ
  split : bytes ≡ body ++ tail
  within : IsBody body
  stops : StopsBody tail

stopped : (bytes : List ℕ) → StopsBody bytes → BodyEnd bytes
stopped bytes stops =
    record { body = []; tail = bytes; split = refl; within = nothing; stops = stops }

-- behind a backslash
escaped : (n b : ℕ) (bytes : List ℕ) → b ≡ backslash → length (b ∷ bytes) ≤ suc n
    → ((rest : List ℕ) → length rest ≤ n → BodyEnd rest) → BodyEnd (b ∷ bytes)
escaped n b [] is fits go =
    stopped (b ∷ []) (record { no_escape = λ e. e.1; no_plain = λ p. p.2 is })
escaped n b (c ∷ bytes) is fits go =
    ⊎_elim
    (λ known.
    let end = go bytes (omega arith) in
    record {
      body = b ∷ c ∷ end.body;
      tail = end.tail;
      split = ap (λ (xs : List ℕ). b ∷ c ∷ xs) end.split;
      within = subst (λ (x : ℕ). IsBody (x ∷ c ∷ end.body)) (sym is) (escape known end.within);
      stops = end.stops;
    })
    (λ unknown. stopped (b ∷ c ∷ bytes) (record {
      no_escape = λ e. both_ways (is_escape c) unknown e.1;
      no_plain = λ p. p.2 is;
    }))
    (cases_Bool (is_escape c))

body_end : (n : ℕ) (bytes : List ℕ) → length bytes ≤ n → BodyEnd bytes
body_end n [] fits = stopped [] (record { no_escape = λ e. e; no_plain = λ p. p })
body_end zero (b ∷ bytes) fits = absurd (omega arith)
body_end (suc n) (b ∷ bytes) fits =
    ⊎_elim
    (λ is. escaped n b bytes is fits (body_end n))
    (λ no_backslash.
    let none : (stop : (b ≡ quote) ⊎ (b ≡ newline)) → BodyEnd (b ∷ bytes) = λ stop.
    stopped (b ∷ bytes) (record {
      no_escape = λ e. no_backslash e.0;
      no_plain = λ p. ⊎_elim p.0 p.1 stop;
    }) in
    ⊎_elim
    (λ is. none (inl is))
    (λ no_quote.
    ⊎_elim
    (λ is. none (inr is))
    (λ no_newline.
    let end = body_end n bytes (omega arith) in
    record {
      body = b ∷ end.body;
      tail = end.tail;
      split = ap (λ (xs : List ℕ). b ∷ xs) end.split;
      within = plain no_quote no_newline no_backslash end.within;
      stops = end.stops;
    })
    (cases_eq b newline))
    (cases_eq b quote))
    (cases_eq b backslash)

string_or_fault : (text : List ℕ) (b : ℕ) (bytes : List ℕ) → b ≡ quote
    → TokenOrFault text false (b ∷ bytes)
string_or_fault text b bytes is =
    let end = body_end (length bytes) bytes (omega arith) in
    let quoted : IsQuoted (b ∷ bytes) end.tail = record {
      body = end.body;
      split = λ i. is i ∷ end.split i;
      within = end.within;
      stops = end.stops;
    } in
    ⊎_elim
    (λ closed. inl (Str, _, string_cut (b ∷ bytes) end.tail quoted (sym closed), tt))
    (λ no_quote.
    ⊎_elim
    (λ ends. inr (_, open_string refl (string_open (b ∷ bytes) end.tail quoted ends)))
    (λ on_line. inr (_, string_bad text (b ∷ bytes) end.tail quoted (sym no_quote) on_line))
    (of_line_end end.tail))
    (cases_Bool (starts_with nat_eq end.tail (quote ∷ [])))

quoted_or_fault : (text : List ℕ) (ditto : Bool) (b : ℕ) (bytes : List ℕ) → b ≡ quote
    → TokenOrFault text ditto (b ∷ bytes)
quoted_or_fault text true b bytes is = inl (Ditto, _, ditto_cut (b ∷ bytes) (omega arith) is, tt)
quoted_or_fault text false b bytes is = string_or_fault text b bytes is

-- ---- numbers
float_tail : (after : List ℕ) → Decided (IsFloatTail after)
float_tail [] = inr (λ is. is)
float_tail (b ∷ after) =
    either (both (of_test (is_dot b)) (neither (of_first is_dot after)))
    (both (of_test (is_exponent_mark b)) (of_first begins_exponent after))

number_or_fault : (text : List ℕ) (ditto : Bool) (bytes : List ℕ) → FirstPasses is_ascii_digit bytes
    → TokenOrFault text ditto bytes
number_or_fault text ditto bytes starts =
    let n = prefix_len is_ascii_digit bytes in
    let value = digits_value 10 (take n bytes) in
    let cut = numeral_cut ditto bytes starts in
    ⊎_elim
    (λ float. inr (_, float_text cut float))
    (λ no_float.
    ⊎_elim
    (λ over. let large : greatest <ℤ pos value = omega (arith, ints, over) in
    inr (_, too_large cut no_float large))
    (λ within. let small : pos value ≤ℤ greatest = omega (arith, ints, within) in
    inl (Number (pos value), drop n bytes, cut, (no_float, small)))
    (cases_lt (2 ^ 63 - 1) value))
    (float_tail (drop n bytes))

-- ---- words
word_token : (text : List ℕ) (ditto : Bool) (bytes : List ℕ) → FirstPasses is_word_start bytes
    → TokenOrFault text ditto bytes
word_token text ditto bytes starts =
    let n = prefix_len is_word_byte bytes in
    let word = take n bytes in
    ⊎_elim
    (λ key. inl (
      Word key.0,
      drop n bytes,
      word_cut ditto bytes (Word key.0) starts
          (keyword_found word key.0 key.1) tt,
      tt,
    ))
    (λ none. inl (
      Name,
      drop n bytes,
      word_cut ditto bytes Name starts
          (word_run bytes starts, keyword_absent word none) tt,
      tt,
    ))
    (looked_up (keyword_of word))

-- ---- symbols
-- a symbol of two bytes stands at the front, or none does
double_or_single : (bytes : List ℕ) → ((s : Sym) × IsDoubleAt bytes s) ⊎ AllAreSingle bytes
double_or_single bytes =
    let pair = get_or bytes 0 0 ∷ get_or bytes 1 0 ∷ [] in
    ⊎_elim
    (λ short. inr (single_from_short bytes short))
    (λ two.
    ⊎_elim
    (λ bars. inr (single_from_bars bytes (sym bars)))
    (λ no_bars.
    let none = λ (bars : BeginsWith (codes "|||") bytes).
    false≢true ((starts_is Decides-eqb bytes (codes "|||") false (sym no_bars)).1 bars.0 bars.1) in
    ⊎_elim
    (λ found. inl
    (found.0, double_from_pair bytes found.0 two none (symbol_found pair found.0 found.1)))
    (λ absent. inr (single_from_pairs bytes (symbol_absent pair absent)))
    (looked_up (symbol_of pair)))
    (cases_Bool (starts_with nat_eq bytes (codes "|||"))))
    (cases_lt (length bytes) 2)

symbol_or_fault : (text : List ℕ) (ditto : Bool) (bytes : List ℕ) → IsPastGap bytes
    → 0 < length bytes
    → FirstPasses is_mark bytes → TokenOrFault text ditto bytes
symbol_or_fault text ditto bytes past some mark =
    let first = get_or bytes 0 0 ∷ [] in
    ⊎_elim
    (λ double. inl (Symbol double.0, _, double_cut ditto bytes double.0 mark double.1, tt))
    (λ single.
    ⊎_elim
    (λ found. inl (
      Symbol found.0,
      _,
      single_cut ditto bytes found.0 mark some single
          (symbol_found first found.0 found.1),
      tt,
    ))
    (λ absent. inr
    (_, no_token past (no_symbol bytes mark some single (symbol_absent first absent))))
    (looked_up (symbol_of first)))
    (double_or_single bytes)

pub token_or_fault : (text : List ℕ) (ditto : Bool) (b : ℕ) (bytes : List ℕ) → IsPastGap (b ∷ bytes)
    → TokenOrFault text ditto (b ∷ bytes)
token_or_fault text ditto b bytes past =
    ⊎_elim
    (λ is. quoted_or_fault text ditto b bytes is)
    (λ no_quote.
    ⊎_elim
    (λ digit. number_or_fault text ditto (b ∷ bytes) digit)
    (λ no_digit.
    ⊎_elim
    (λ word. word_token text ditto (b ∷ bytes) word)
    (λ no_word.
    let mark = marked (b ∷ bytes) (omega arith)
    (λ is. ⊎_elim (both_ways (is_word_start b) no_word) (both_ways (is_ascii_digit b) no_digit)
    (or_cases (is_word_start b) (is_ascii_digit b) is))
    (λ quoted. no_quote (heads quoted.1)) in
    symbol_or_fault text ditto (b ∷ bytes) past (omega arith) mark)
    (cases_Bool (is_word_start b)))
    (cases_Bool (is_ascii_digit b)))
    (cases_eq b quote)
