-- Fronts of bytes that are cut off as tokens.
use Rattle.std.proofs.Common.{◌≡◌, ℕ, zero, suc, ◌<◌, ◌≤◌, pos, Bool, true, false, List, [], ◌∷◌}
use Rattle.std.proofs.Common.{◌++◌, length, take, drop, codes, refl, sym, subst, ◌∙◌, arith}
use Rattle.std.specs.List.{list_all, prefix_len}
use Rattle.std.specs.Str.Parse.{digits_value}
use Rattle.std.proofs.lemmas.List.{take-append-drop}
use Rattle.std.specs.Char.{is_ascii_digit}
use Rattle.std.proofs.lemmas.Bool.{both_ways, or_left, and_from, and_parts}
use Rattle.zpl_tokens.specs.declared.Kind.{Kind}
use Rattle.zpl_tokens.specs.declared.Kind.TheVariants.{Name, Number, Str, Ditto, Symbol, Word, End}
use Rattle.zpl_text.specs.Bytes.{is_word_start, is_word_byte, BeginsWith, FirstPasses}
use Rattle.zpl_text.specs.Kinds.{IsWord, IsNumeral, IsToken}
use Rattle.zpl_text.specs.Cutting.{MayStand, IsCut}
use Rattle.zpl_text.proofs.Runs.{run_longest, run_passes, run_stops, run_some, FirstPasses-weaker}
use Rattle.zpl_text.proofs.Shapes.{HasShape, is_mark, shape_of, apart_word_digit, apart_word_quote}
use Rattle.zpl_text.proofs.Shapes.{apart_digit_quote, apart_mark_word, apart_mark_digit}

-- two lists that begin alike have one first element
pub heads : {b c : ℕ} {xs ys : List ℕ} → b ∷ xs ≡ c ∷ ys → b ≡ c
heads same = cc

pub nil≢cons : {b : ℕ} {xs : List ℕ} → b ∷ xs ≡ [] → ⊥
nil≢cons same = cc

-- a word is no shorter than another front that is a token
word_longest : (front after longer rest : List ℕ) (kind : Kind) → IsWord front
    → (FirstPasses is_word_byte after → ⊥) → front ++ after ≡ longer ++ rest → HasShape kind longer
    → length longer ≤ length front
word_longest front after [] rest kind word stops same shape = omega arith
word_longest [] after (c ∷ longer) rest kind word stops same shape = elim word [ ]
word_longest (b ∷ front) after (c ∷ longer) rest Name word stops same shape =
    run_longest is_word_byte (b ∷ front) after (c ∷ longer) rest
    (and_from (is_word_byte c) (list_all is_word_byte longer)
    (or_left (is_word_start c) (is_ascii_digit c) shape.0) shape.1) stops same
word_longest (b ∷ front) after (c ∷ longer) rest (Word k) word stops same shape =
    run_longest is_word_byte (b ∷ front) after (c ∷ longer) rest
    (and_from (is_word_byte c) (list_all is_word_byte longer)
    (or_left (is_word_start c) (is_ascii_digit c) shape.0) shape.1) stops same
word_longest (b ∷ front) after (c ∷ longer) rest (Number n) word stops same shape =
    absurd (apart_word_digit b word.0
    (subst (λ (n : ℕ). is_ascii_digit n ≡ true) (sym (heads same))
    (and_parts (is_ascii_digit c) (list_all is_ascii_digit longer) shape).0))
word_longest (b ∷ front) after (c ∷ longer) rest Str word stops same shape =
    absurd (apart_word_quote b word.0 (heads same ∙ heads shape.2))
word_longest (b ∷ front) after (c ∷ longer) rest Ditto word stops same shape =
    absurd (apart_word_quote b word.0 (heads same ∙ heads shape))
word_longest (b ∷ front) after (c ∷ longer) rest (Symbol s) word stops same shape =
    absurd (apart_mark_word b (subst (λ (n : ℕ). is_mark n ≡ true) (sym (heads same)) shape.first)
    word.0)
word_longest (b ∷ front) after (c ∷ longer) rest End word stops same shape = absurd (nil≢cons shape)

-- digits are no shorter than another front that is a token
numeral_longest : (front after longer rest : List ℕ) (kind : Kind) → IsNumeral front
    → (FirstPasses is_ascii_digit after → ⊥) → front ++ after ≡ longer ++ rest
    → HasShape kind longer → length longer ≤ length front
numeral_longest front after [] rest kind digits stops same shape = omega arith
numeral_longest [] after (c ∷ longer) rest kind digits stops same shape = elim digits [ ]
numeral_longest (b ∷ front) after (c ∷ longer) rest (Number n) digits stops same shape =
    run_longest is_ascii_digit (b ∷ front) after (c ∷ longer) rest shape stops same
numeral_longest (b ∷ front) after (c ∷ longer) rest Name digits stops same shape =
    absurd (apart_word_digit c shape.0
    (subst (λ (n : ℕ). is_ascii_digit n ≡ true) (heads same)
    (and_parts (is_ascii_digit b) (list_all is_ascii_digit front) digits).0))
numeral_longest (b ∷ front) after (c ∷ longer) rest (Word k) digits stops same shape =
    absurd (apart_word_digit c shape.0
    (subst (λ (n : ℕ). is_ascii_digit n ≡ true) (heads same)
    (and_parts (is_ascii_digit b) (list_all is_ascii_digit front) digits).0))
numeral_longest (b ∷ front) after (c ∷ longer) rest Str digits stops same shape =
    absurd (apart_digit_quote b
    (and_parts (is_ascii_digit b) (list_all is_ascii_digit front) digits).0
    (heads same ∙ heads shape.2))
numeral_longest (b ∷ front) after (c ∷ longer) rest Ditto digits stops same shape =
    absurd (apart_digit_quote b
    (and_parts (is_ascii_digit b) (list_all is_ascii_digit front) digits).0
    (heads same ∙ heads shape))
numeral_longest (b ∷ front) after (c ∷ longer) rest (Symbol s) digits stops same shape =
    absurd (apart_mark_digit b (subst (λ (n : ℕ). is_mark n ≡ true) (sym (heads same)) shape.first)
    (and_parts (is_ascii_digit b) (list_all is_ascii_digit front) digits).0)
numeral_longest (b ∷ front) after (c ∷ longer) rest End digits stops same shape =
    absurd (nil≢cons shape)

-- bars don't begin what begins otherwise
no_bars : (test : ℕ → Bool) (bytes : List ℕ) → FirstPasses test bytes → test 124 ≡ false
    → BeginsWith (codes "|||") bytes → ⊥
no_bars test bytes passes bar (after, split) =
    both_ways (test 124) bar (subst (FirstPasses test) split passes)

-- the longest run that is a word
IsWord-from_run : (bytes : List ℕ) (n : ℕ) → FirstPasses is_word_start bytes
    → list_all is_word_byte (take n bytes) ≡ true → 0 < n → IsWord (take n bytes)
IsWord-from_run [] n starts passes some = elim starts [ ]
IsWord-from_run (b ∷ bytes) zero starts passes some = absurd (omega arith)
IsWord-from_run (b ∷ bytes) (suc n) starts passes some =
    (starts, (and_parts (is_word_byte b) (list_all is_word_byte (take n bytes)) passes).1)

word_run_some : (bytes : List ℕ) → FirstPasses is_word_start bytes
    → 0 < prefix_len is_word_byte bytes
word_run_some bytes starts =
    run_some is_word_byte bytes
    (FirstPasses-weaker is_word_start is_word_byte bytes
    (λ b. or_left (is_word_start b) (is_ascii_digit b)) starts)

pub word_run : (bytes : List ℕ) → FirstPasses is_word_start bytes
    → IsWord (take (prefix_len is_word_byte bytes) bytes)
word_run bytes starts = IsWord-from_run bytes (prefix_len is_word_byte bytes) starts
    (run_passes is_word_byte bytes) (word_run_some bytes starts)

pub word_cut : (ditto : Bool) (bytes : List ℕ) (kind : Kind) → FirstPasses is_word_start bytes
    → IsToken (take (prefix_len is_word_byte bytes) bytes) kind → MayStand ditto kind
    → IsCut ditto bytes kind (drop (prefix_len is_word_byte bytes) bytes)
word_cut ditto bytes kind starts token place =
    let n = prefix_len is_word_byte bytes in
    record {
      front = take n bytes;
      split = sym (take-append-drop n bytes);
      token = token;
      place = place;
      longest = λ _ other k at. word_longest (take n bytes) (drop n bytes) other at.at_front.0 k
          (word_run bytes starts) (run_stops is_word_byte bytes)
          (take-append-drop n bytes ∙ at.at_front.1) (shape_of k other at.token);
      first_bar = λ bars. absurd (no_bars is_word_start bytes starts refl bars);
    }

-- the longest run of digits
IsNumeral-from_run : (bytes : List ℕ) (n : ℕ) → FirstPasses is_ascii_digit bytes
    → list_all is_ascii_digit (take n bytes) ≡ true → 0 < n → IsNumeral (take n bytes)
IsNumeral-from_run [] n starts passes some = elim starts [ ]
IsNumeral-from_run (b ∷ bytes) zero starts passes some = absurd (omega arith)
IsNumeral-from_run (b ∷ bytes) (suc n) starts passes some = passes

pub numeral_cut : (ditto : Bool) (bytes : List ℕ) → FirstPasses is_ascii_digit bytes
    → IsCut ditto bytes
    (Number (pos (digits_value 10 (take (prefix_len is_ascii_digit bytes) bytes))))
    (drop (prefix_len is_ascii_digit bytes) bytes)
numeral_cut ditto bytes starts =
    let n = prefix_len is_ascii_digit bytes in
    let numeral = IsNumeral-from_run bytes n starts (run_passes is_ascii_digit bytes)
    (run_some is_ascii_digit bytes starts) in
    record {
      front = take n bytes;
      split = sym (take-append-drop n bytes);
      token = (numeral, refl);
      place = tt;
      longest = λ _ other k at. numeral_longest (take n bytes) (drop n bytes) other at.at_front.0 k
          numeral (run_stops is_ascii_digit bytes) (take-append-drop n bytes ∙ at.at_front.1)
          (shape_of k other at.token);
      first_bar = λ bars. absurd (no_bars is_ascii_digit bytes starts refl bars);
    }
