-- Lines that are written one after another: how what was written goes on.
use Rattle.std.proofs.Common.{◌≡◌, ℕ, zero, suc, ◌+◌, ◌<◌, ◌≤◌, ℤ, pos, List, [], ◌∷◌, ◌++◌, length, map, take, drop, refl, ap, sym, ◌∙◌, subst, arith}
use Rattle.std.specs.Prelude.{All, Option, Some, None, slice_get, unwrap_or}
use Rattle.std.specs.List.{flat_map, range_with_len}
use Rattle.std.specs.Option.{IfSome, option_map}
use Rattle.std.proofs.lemmas.List.{append_assoc, append-nil, drop_all, take_all}
use Rattle.std.proofs.lemmas.List.Elements.{All-nil, All-append, All-cons, All-head, All-tail}
use Rattle.std.proofs.lemmas.Grind.{flat_map-append}
use Rattle.zpl_nums.specs.Integer.{IsInteger}
use Rattle.save_lines.specs.declared.lines.SavedLine.{SavedLine}
use Rattle.save_lines.specs.Line.{IsSavedLine, line_text, saved_text}
use Rattle.grid_save.specs.Writing.{Writes}
use Rattle.grid_save.specs.Written.{found_lines, kept_from, kept_line}

saved_text-append : (xs ys : List SavedLine) → saved_text (xs ++ ys) ≡ saved_text xs ++ saved_text ys
saved_text-append xs ys = flat_map-append (λ line. line_text line ++ 10 ∷ []) xs ys

-- ---- lines behind others
pub writes_none : (old : List ℕ) → Writes old [] old
writes_none old = record { text = sym (append-nil old); are = All-nil IsSavedLine }

pub writes_one : (old new : List ℕ) (line : SavedLine) → IsSavedLine line → new ≡ old ++ saved_text (line ∷ [])
    → Writes old (line ∷ []) new
writes_one old new line is text = record { text = text; are = All-cons IsSavedLine line [] is (All-nil IsSavedLine) }

pub writes_more : (old mid new : List ℕ) (xs ys : List SavedLine) → Writes old xs mid → Writes mid ys new
    → Writes old (xs ++ ys) new
writes_more old mid new xs ys one other = record {
  text =
      other.text ∙ (ap (λ front. front ++ saved_text ys) one.text
      ∙ (append_assoc old (saved_text xs) (saved_text ys) ∙ ap (λ rest. old ++ rest) (sym (saved_text-append xs ys))));
  are = All-append IsSavedLine xs ys one.are other.are;
}

pub writes_same : (old new : List ℕ) (xs ys : List SavedLine) → xs ≡ ys → Writes old xs new → Writes old ys new
writes_same old new xs ys same is = subst (λ lines. Writes old lines new) same is

-- ---- values that are collected
next_of : {X : Type 0} (xs : List X) (k : ℕ) (x : X) → slice_get xs k ≡ Some x → drop k xs ≡ x ∷ drop (k + 1) xs
next_of [] k x found = absurd cc
next_of (first ∷ xs) zero x found = let same : first ≡ x = cc in ap (λ y. y ∷ xs) same
next_of (first ∷ xs) (suc k) x found =
    let e : suc k + 1 ≡ suc (k + 1) = omega arith in
    rw e (next_of xs k x found)

pub value_more : (xs before after : List ℤ) (k : ℕ) (x : Option ℤ) → k < length xs → x ≡ slice_get xs k → before ++ drop k xs ≡ xs →
    after ≡ before ++ unwrap_or x (pos 0) ∷ [] → after ++ drop (k + 1) xs ≡ xs
value_more xs before after k (Some x) below found all is =
    rw is (append_assoc before (x ∷ []) (drop (k + 1) xs) ∙ (ap (λ rest. before ++ rest) (sym (next_of xs k x (sym found))) ∙ all))
value_more xs before after k None below found all is =
    absurd (none_below xs k below (sym found)) where
      none_below : (ys : List ℤ) (i : ℕ) → i < length ys → slice_get ys i ≡ None → ⊥
      none_below [] i h none = absurd (omega arith)
      none_below (y ∷ ys) zero h none = cc
      none_below (y ∷ ys) (suc i) h none = none_below ys i (omega arith) none

pub values_end : (xs values : List ℤ) (k : ℕ) → length xs ≤ k → values ++ drop k xs ≡ xs → values ≡ xs
values_end xs values k past all =
    sym (append-nil values) ∙ (ap (λ rest. values ++ rest) (sym (drop_all k xs past)) ∙ all)

-- ---- values that are seen
pub value_seen : (xs : List ℤ) (k : ℕ) (x : ℤ) → slice_get xs k ≡ Some x → IsInteger x → All IsInteger (take k xs)
    → All IsInteger (take (k + 1) xs)
value_seen [] k x there is all = cc
value_seen (y ∷ xs) zero x there is all =
    let same : x ≡ y = cc in All-cons IsInteger y [] (subst IsInteger same is) (All-nil IsInteger)
value_seen (y ∷ xs) (suc k) x there is all =
    let e : suc k + 1 ≡ suc (k + 1) = omega arith in
    rw e (All-cons IsInteger y (take (k + 1) xs) (All-head IsInteger y (take k xs) all)
    (value_seen xs k x there is (All-tail IsInteger y (take k xs) all)))

pub values_seen : (xs : List ℤ) (k : ℕ) → length xs ≤ k → All IsInteger (take k xs) → All IsInteger xs
values_seen xs k past all = subst (All IsInteger) (take_all k xs past) all

-- ---- lines of a list's elements
module _ {X : Type 0} (f : X → SavedLine) where
  one_further : (xs : List X) (k : ℕ) → map f (take (k + 1) xs) ≡ map f (take k xs) ++ found_lines f (slice_get xs k)
  one_further [] zero = refl
  one_further [] (suc k) = let e : suc k + 1 ≡ suc (k + 1) = omega arith in rw e refl
  one_further (x ∷ xs) zero = refl
  one_further (x ∷ xs) (suc k) =
      let e : suc k + 1 ≡ suc (k + 1) = omega arith in
      rw e (ap (λ lines. f x ∷ lines) (one_further xs k))

  -- of the one that is found, where all are such
  pub found_saved : (xs : List X) (k : ℕ) → All (λ x. IsSavedLine (f x)) xs
      → IfSome (slice_get xs k) (λ x. IsSavedLine (f x))
  found_saved [] k all = tt
  found_saved (x ∷ xs) zero all = All-head (λ y. IsSavedLine (f y)) x xs all
  found_saved (x ∷ xs) (suc k) all = found_saved xs k (All-tail (λ y. IsSavedLine (f y)) x xs all)

  -- the line of the next one, if there is one
  pub element_more : (xs : List X) (old mid new : List ℕ) (k : ℕ) → Writes old (map f (take k xs)) mid
      → Writes mid (found_lines f (slice_get xs k)) new → Writes old (map f (take (k + 1) xs)) new
  element_more xs old mid new k is one =
      writes_same old new _ _ (sym (one_further xs k))
      (writes_more old mid new (map f (take k xs)) (found_lines f (slice_get xs k)) is one)

  pub elements_end : (xs : List X) (old new : List ℕ) (k : ℕ) → length xs ≤ k → Writes old (map f (take k xs)) new
      → Writes old (map f xs) new
  elements_end xs old new k past is = writes_same old new _ _ (ap (map f) (take_all k xs past)) is

-- ---- lines for each number below some
range_push : (from k : ℕ) → range_with_len from (k + 1) ≡ range_with_len from k ++ (from + k) ∷ []
range_push from zero = let e : from ≡ from + 0 = omega arith in ap (λ n. n ∷ []) e
range_push from (suc k) =
    let e : suc k + 1 ≡ suc (k + 1) = omega arith in
    let last : from + 1 + k ≡ from + suc k = omega arith in
    rw e (ap (λ rest. from ∷ rest) (range_push (from + 1) k ∙ ap (λ n. range_with_len (from + 1) k ++ n ∷ []) last))

module _ (f : ℕ → List SavedLine) where
  pub number_more : (old mid new : List ℕ) (k : ℕ) → Writes old (flat_map f (range_with_len 0 k)) mid → Writes mid (f k) new
      → Writes old (flat_map f (range_with_len 0 (k + 1))) new
  number_more old mid new k is one =
      let zeroed : 0 + k ≡ k = omega arith in
      let all : flat_map f (range_with_len 0 (k + 1)) ≡ flat_map f (range_with_len 0 k) ++ f k =
      ap (flat_map f) (range_push 0 k ∙ ap (λ n. range_with_len 0 k ++ n ∷ []) zeroed)
      ∙ (flat_map-append f (range_with_len 0 k) (k ∷ [])
      ∙ ap (λ lines. flat_map f (range_with_len 0 k) ++ lines) (append-nil (f k))) in
      writes_same old new _ _ (sym all) (writes_more old mid new (flat_map f (range_with_len 0 k)) (f k) is one)

-- ---- parts one after another
-- the lines of a processor's state
pub local_written : (old a b c d e new : List ℕ) (proc scalars cells : SavedLine) (slots stores kept : List SavedLine)
    → Writes old (proc ∷ []) a → Writes a (scalars ∷ []) b → Writes b slots c → Writes c (cells ∷ []) d → Writes d stores e
    → Writes e kept new → Writes old (proc ∷ scalars ∷ (slots ++ (cells ∷ (stores ++ kept)))) new
local_written old a b c d e new proc scalars cells slots stores kept is_a is_b is_c is_d is_e is_new =
    let last = writes_more d e new stores kept is_e is_new in
    let from_cells = writes_more c d new (cells ∷ []) (stores ++ kept) is_d last in
    let from_slots = writes_more b c new slots (cells ∷ (stores ++ kept)) is_c from_cells in
    let from_scalars = writes_more a b new (scalars ∷ []) (slots ++ (cells ∷ (stores ++ kept))) is_b from_slots in
    writes_more old a new (proc ∷ []) (scalars ∷ (slots ++ (cells ∷ (stores ++ kept)))) is_a from_scalars

-- the whole text
pub whole_saved : (old a b c new version counts listing states : List ℕ) → a ≡ old ++ version → b ≡ a ++ counts → c ≡ b ++ listing →
    new ≡ c ++ states → new ≡ old ++ (version ++ (counts ++ (listing ++ states)))
whole_saved old a b c new version counts listing states is_a is_b is_c is_new =
    is_new ∙ (ap (λ t. t ++ states) is_c
    ∙ (append_assoc b listing states ∙ (ap (λ t. t ++ (listing ++ states)) is_b
    ∙ (append_assoc a counts (listing ++ states) ∙ (ap (λ t. t ++ (counts ++ (listing ++ states))) is_a
    ∙ append_assoc old version (counts ++ (listing ++ states)))))))

-- the words of what was found
pub kept_same : (q : ℕ) (found : Option (ℕ × List ℤ)) →
    found_lines (λ list. kept_line (q, list)) (option_map (λ entry. entry.1) found) ≡ kept_from q found
kept_same q None = refl
kept_same q (Some entry) = refl
