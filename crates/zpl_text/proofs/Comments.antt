-- Where a comment ends.
use Rattle.std.proofs.Common.{◌≡◌, ℕ, zero, suc, ◌+◌, ◌-◌, ◌<◌, ◌≤◌, List, [], ◌∷◌, ◌++◌, length}
use Rattle.std.proofs.Common.{get_or, take, drop, codes, refl, sym, ap, subst, ◌∙◌, arith}
use Rattle.std.specs.Prelude.{◌≢◌}
use Rattle.std.specs.List.{AllByRecursion}
use Rattle.std.proofs.lemmas.List.{take_rest, take_all, take-append-drop, drop_all, length-take}
use Rattle.std.proofs.lemmas.List.{get_or-take}
use Rattle.zpl_text.specs.Bytes.{newline, StandsIn, EndsLine}
use Rattle.zpl_text.specs.Gaps.{IsLineComment, IsBlockComment, IsOpenComment}

-- the first i bytes have no newline
no_newline_before : (bytes : List ℕ) (i : ℕ) → ((k : ℕ) → k < i → get_or bytes k 0 ≡ newline → ⊥)
    → i ≤ length bytes → AllByRecursion (λ b. b ≢ newline) (take i bytes)
no_newline_before bytes zero none fits = tt
no_newline_before [] (suc i) none fits = tt
no_newline_before (b ∷ bytes) (suc i) none fits = (
  none 0 (omega arith),
  no_newline_before bytes i (λ k below. none (suc k) (omega arith))
      (omega arith),
)

-- a newline ends the line, and so does the end of the text
pub ends_line_at : (bytes : List ℕ) (i : ℕ) → i < length bytes → get_or bytes i 0 ≡ newline
    → EndsLine (drop i bytes)
ends_line_at [] i fits is = absurd (omega arith)
ends_line_at (b ∷ bytes) zero fits is = is
ends_line_at (b ∷ bytes) (suc i) fits is = ends_line_at bytes i (omega arith) is

pub ends_line_past : (bytes : List ℕ) (i : ℕ) → length bytes ≤ i → EndsLine (drop i bytes)
ends_line_past bytes i past = rw (drop_all i bytes past) tt

-- behind `--`, the comment goes up to the first place where the line ends
pub line_comment_at : (bytes : List ℕ) (i : ℕ) → ((k : ℕ) → k < i → get_or bytes k 0 ≡ newline → ⊥)
    → i ≤ length bytes → EndsLine (drop i bytes)
    → IsLineComment (45 ∷ 45 ∷ bytes) (take (length bytes - i) (drop i bytes))
line_comment_at bytes i none fits ends =
    rw (take_rest bytes i)
    (record {
      body = take i bytes;
      split = ap (λ (xs : List ℕ). 45 ∷ 45 ∷ xs) (sym (take-append-drop i bytes));
      on_line = no_newline_before bytes i none fits;
      ends_line = ends;
    })

-- no `*/` ends before the byte at i
abbrev pub NoneBefore : List ℕ → ℕ → Type 0
NoneBefore bytes i = (k : ℕ) → suc k < i → get_or bytes k 0 ≡ 42 → get_or bytes (suc k) 0 ≡ 47 → ⊥

-- where a `*/` stands, its two bytes are read
pair_reads : (front after : List ℕ)
    → (get_or (front ++ 42 ∷ 47 ∷ after) (length front) 0 ≡ 42)
    × (get_or (front ++ 42 ∷ 47 ∷ after) (suc (length front)) 0 ≡ 47)
    × (suc (length front) < length (front ++ 42 ∷ 47 ∷ after))
pair_reads [] after = (refl, refl, omega arith)
pair_reads (b ∷ front) after = let read = pair_reads front after in (read.0, read.1, omega arith)

-- so none stands in a front
none_in_front : (bytes : List ℕ) (i n : ℕ) → NoneBefore bytes i → n ≤ i
    → StandsIn (codes "*/") (take n bytes) → ⊥
none_in_front bytes i n none fits (front, after, split) =
    let read = pair_reads front after in
    let short : suc (length front) < n = omega (arith, ap length split, length-take n bytes) in
    none (length front) (omega arith)
    (sym (get_or-take n bytes (length front) 0 (omega arith))
    ∙ ap (λ (xs : List ℕ). get_or xs (length front) 0) split ∙ read.0)
    (sym (get_or-take n bytes (suc (length front)) 0 short)
    ∙ ap (λ (xs : List ℕ). get_or xs (suc (length front)) 0) split ∙ read.1)

-- two bytes, with what is before and behind them
cut_at_pair : (bytes : List ℕ) (j : ℕ) → suc j < length bytes → get_or bytes j 0 ≡ 42
    → get_or bytes (suc j) 0 ≡ 47 → bytes ≡ take j bytes ++ (42 ∷ 47 ∷ drop (suc (suc j)) bytes)
cut_at_pair [] j fits star slash = absurd (omega arith)
cut_at_pair (b ∷ []) j fits star slash = absurd (omega arith)
cut_at_pair (b ∷ c ∷ bytes) zero fits star slash = λ i. star i ∷ (slash i ∷ bytes)
cut_at_pair (b ∷ c ∷ bytes) (suc j) fits star slash =
    ap (λ (xs : List ℕ). b ∷ xs) (cut_at_pair (c ∷ bytes) j (omega arith) star slash)

-- behind `/*`, the comment goes up to the first `*/`
pub block_comment_at : (bytes : List ℕ) (i : ℕ) → NoneBefore bytes i → 1 ≤ i → i < length bytes
    → get_or bytes (i - 1) 0 ≡ 42 → get_or bytes i 0 ≡ 47
    → IsBlockComment (47 ∷ 42 ∷ bytes) (take (length bytes - (i + 1)) (drop (i + 1) bytes))
block_comment_at bytes zero none some fits star slash = absurd (omega arith)
block_comment_at bytes (suc j) none some fits star slash =
    let same : suc j - 1 ≡ j = omega arith in
    let next : suc j + 1 ≡ suc (suc j) = omega arith in
    rw (take_rest bytes (suc j + 1), next)
    (record {
      body = take j bytes;
      split = ap (λ (xs : List ℕ). 47 ∷ 42 ∷ xs)
          (cut_at_pair bytes j fits (ap (λ (n : ℕ). get_or bytes n 0) (sym same) ∙ star) slash);
      is_next = none_in_front bytes (suc j) j none (omega arith);
    })

pub open_comment_from : (bytes : List ℕ) (i : ℕ) → NoneBefore bytes i → length bytes ≤ i
    → IsOpenComment (47 ∷ 42 ∷ bytes)
open_comment_from bytes i none past = record {
  body = bytes;
  split = refl;
  is_open = subst (λ (xs : List ℕ). StandsIn (codes "*/") xs → ⊥) (take_all i bytes past)
      (none_in_front bytes i i none (omega arith));
}
