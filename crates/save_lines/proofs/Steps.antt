-- Lines one after another in a text.
use Rattle.std.proofs.Common.{◌≡◌, ℕ, zero, suc, ◌+◌, ◌<◌, ◌≤◌, false, List, [], ◌∷◌, ◌++◌, length, take, drop, get_or, sym, ◌∙◌, ap, subst, refl, arith}
use Rattle.std.specs.Prelude.{All, ◌==◌}
use Rattle.std.proofs.lemmas.List.{append_assoc, append-nil, length-append}
use Rattle.std.proofs.lemmas.Grind.{flat_map-append}
use Rattle.std.proofs.lemmas.List.Elements.{All-head, All-tail}
use Rattle.listing_lines.proofs.Steps.{IsFirst}
use Rattle.save_lines.specs.declared.lines.SavedLine.{SavedLine}
use Rattle.save_lines.specs.Line.{AreSavedLines, IsSavedLine, line_text, saved_text}
use Rattle.save_lines.specs.Lines.{AreLines, BeginsWithLine, IsBadLine}
use Rattle.save_lines.proofs.Gaps.{line_ends}
use Rattle.save_lines.proofs.OneText.{same_line}

-- ---- where a line ends
-- The first newline of a text ends the line that it begins with.
first_end : (line rest : List ℕ) (end : ℕ) → All (λ byte. (byte == 10) ≡ false) line →
    ((k : ℕ) → k < end → get_or (line ++ 10 ∷ rest) k 0 ≡ 10 → ⊥) → end ≤ length (line ++ 10 ∷ rest) →
    (end < length (line ++ 10 ∷ rest) → get_or (line ++ 10 ∷ rest) end 0 ≡ 10) → end ≡ length line
first_end [] rest zero others before within found = refl
first_end [] rest (suc end) others before within found = absurd (before 0 (omega arith) refl)
first_end (byte ∷ line) rest zero others before within found =
    let first = All-head (λ b. (b == 10) ≡ false) byte line others in
    let is : byte ≡ 10 = found (omega arith) in
    let no : (10 == 10) ≡ false = subst (λ b. (b == 10) ≡ false) is first in
    absurd cc
first_end (byte ∷ line) rest (suc end) others before within found =
    let same = first_end line rest end (All-tail (λ b. (b == 10) ≡ false) byte line others)
    (λ k below. before (suc k) (omega arith)) (omega arith) (λ below. found (omega arith)) in
    omega (arith, same)

take-front : (line rest : List ℕ) → take (length line) (line ++ rest) ≡ line
take-front [] rest = refl
take-front (byte ∷ line) rest = ap (λ bytes. byte ∷ bytes) (take-front line rest)

drop-front : (line rest : List ℕ) → drop (length line + 1) (line ++ 10 ∷ rest) ≡ rest
drop-front [] rest = refl
drop-front (byte ∷ line) rest =
    let e : suc (length line) + 1 ≡ suc (length line + 1) = omega arith in rw e (drop-front line rest)

pub line_found : (bytes : List ℕ) (end : ℕ) (begins : BeginsWithLine bytes) →
    ((k : ℕ) → k < end → get_or bytes k 0 ≡ 10 → ⊥) → end ≤ length bytes → (end < length bytes → get_or bytes end 0 ≡ 10) →
    IsFirst bytes (line_text begins.line) begins.rest end
line_found bytes end begins before within found =
    let line = line_text begins.line in
    let same = first_end line begins.rest end (line_ends begins.line begins.is_line)
    (λ k below e. before k below (rw begins.written e)) (rw begins.written at within) (λ below. rw begins.written at (found (rw begins.written below))) in
    rw (begins.written, same) (record {
      whole = take-front line (10 ∷ begins.rest);
      left = drop-front line begins.rest;
      inside = rw (length-append line (10 ∷ begins.rest)) (omega arith);
    })

-- ---- lines in front
pub text_more : (bytes rest after : List ℕ) (lines : List SavedLine) (line : SavedLine) → bytes ≡ saved_text lines ++ rest →
    rest ≡ line_text line ++ 10 ∷ after → bytes ≡ saved_text (lines ++ line ∷ []) ++ after
text_more bytes rest after lines line whole next =
    whole ∙ rw (next, flat_map-append (λ l. line_text l ++ 10 ∷ []) lines (line ∷ [])) (simp (append_assoc, append-nil) refl)

pub shorter : (rest after : List ℕ) (line : SavedLine) → rest ≡ line_text line ++ 10 ∷ after → length after + 1 ≤ length rest
shorter rest after line e = rw (e, length-append (line_text line) (10 ∷ after)) (omega arith)

-- ---- one way
-- two texts up to their first newline
cut : (xs ys rest others : List ℕ) → All (λ byte. (byte == 10) ≡ false) xs → All (λ byte. (byte == 10) ≡ false) ys →
    xs ++ 10 ∷ rest ≡ ys ++ 10 ∷ others → (xs ≡ ys) × (rest ≡ others)
cut [] [] rest others hx hy e = (refl, cc)
cut [] (y ∷ ys) rest others hx hy e =
    let head : 10 ≡ y = cc in
    let no : (10 == 10) ≡ false = subst (λ b. (b == 10) ≡ false) (sym head) (All-head (λ b. (b == 10) ≡ false) y ys hy) in
    absurd cc
cut (x ∷ xs) [] rest others hx hy e =
    let head : x ≡ 10 = cc in
    let no : (10 == 10) ≡ false = subst (λ b. (b == 10) ≡ false) head (All-head (λ b. (b == 10) ≡ false) x xs hx) in
    absurd cc
cut (x ∷ xs) (y ∷ ys) rest others hx hy e =
    let tails : xs ++ 10 ∷ rest ≡ ys ++ 10 ∷ others = cc in
    let below = cut xs ys rest others (All-tail (λ b. (b == 10) ≡ false) x xs hx) (All-tail (λ b. (b == 10) ≡ false) y ys hy) tails in
    let head : x ≡ y = cc in
    let same = below.0 in
    (cc, below.1)

-- the first line of lines in a row
first_line : (line : SavedLine) (lines : List SavedLine) (rest : List ℕ) →
    saved_text (line ∷ lines) ++ rest ≡ line_text line ++ 10 ∷ (saved_text lines ++ rest)
first_line line lines rest = regroup (line_text line) (saved_text lines) rest where
  regroup : (text texts others : List ℕ) → (text ++ 10 ∷ []) ++ texts ++ others ≡ text ++ 10 ∷ (texts ++ others)
  regroup text texts others = append_assoc (text ++ 10 ∷ []) texts others ∙ append_assoc text (10 ∷ []) (texts ++ others)

begins_with : (line : SavedLine) (lines : List SavedLine) (rest bytes : List ℕ) → AreSavedLines (line ∷ lines) →
    bytes ≡ saved_text (line ∷ lines) ++ rest → BeginsWithLine bytes
begins_with line lines rest bytes are e = record {
  line = line;
  rest = saved_text lines ++ rest;
  is_line = All-head IsSavedLine line lines are;
  written = e ∙ first_line line lines rest;
}

pub one_way : (xs ys : List SavedLine) (rest others : List ℕ) → AreSavedLines xs → AreSavedLines ys → (BeginsWithLine rest → ⊥) →
    (BeginsWithLine others → ⊥) → saved_text xs ++ rest ≡ saved_text ys ++ others → (xs ≡ ys) × (rest ≡ others)
one_way [] [] rest others hx hy stops ends e = (refl, e)
one_way [] (y ∷ ys) rest others hx hy stops ends e = absurd (stops (begins_with y ys others rest hy e))
one_way (x ∷ xs) [] rest others hx hy stops ends e = absurd (ends (begins_with x xs rest others hx (sym e)))
one_way (x ∷ xs) (y ∷ ys) rest others hx hy stops ends e =
    let own = All-head IsSavedLine x xs hx in
    let other = All-head IsSavedLine y ys hy in
    let whole = sym (first_line x xs rest) ∙ (e ∙ first_line y ys others) in
    let parts = cut (line_text x) (line_text y) (saved_text xs ++ rest) (saved_text ys ++ others) (line_ends x own) (line_ends y other) whole in
    let head = same_line x y own other parts.0 in
    let below = one_way xs ys rest others (All-tail IsSavedLine x xs hx) (All-tail IsSavedLine y ys hy) stops ends parts.1 in
    let tails = below.0 in
    (cc, below.1)

pub nothing_begins : BeginsWithLine [] → ⊥
nothing_begins begins = go (line_text begins.line) begins.rest begins.written where
  go : (line rest : List ℕ) → [] ≡ line ++ 10 ∷ rest → ⊥
  go [] rest e = cc
  go (byte ∷ line) rest e = cc

pub one_reading : (bytes : List ℕ) (one other : List SavedLine) → AreLines bytes one → AreLines bytes other → one ≡ other
one_reading bytes one other is also =
    let e : saved_text one ++ [] ≡ saved_text other ++ [] = simp append-nil (sym is.written ∙ also.written) in
    (one_way one other [] [] is.lines_are also.lines_are nothing_begins nothing_begins e).0

pub lines_or_fault : (bytes : List ℕ) (lines : List SavedLine) (number : ℕ) → AreLines bytes lines → IsBadLine bytes number → ⊥
lines_or_fault bytes lines number are bad =
    let e : saved_text lines ++ [] ≡ saved_text bad.front ++ bad.rest = simp append-nil (sym are.written ∙ bad.begun) in
    let same = one_way lines bad.front [] bad.rest are.lines_are bad.front_are nothing_begins bad.stops e in
    bad.some (sym same.1)

pub one_fault : (bytes : List ℕ) (one other : ℕ) → IsBadLine bytes one → IsBadLine bytes other → one ≡ other
one_fault bytes one other is also =
    let e = sym is.begun ∙ also.begun in
    let same = one_way is.front also.front is.rest also.rest is.front_are also.front_are is.stops also.stops e in
    is.counted ∙ (ap (λ front. length front + 1) same.0 ∙ sym also.counted)
