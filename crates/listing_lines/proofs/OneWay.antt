-- Bytes are read in one way.
use Rattle.std.proofs.Common.{◌≡◌, ℕ, ◌+◌, false, List, [], ◌∷◌, ◌++◌, length, sym, ◌∙◌, ap, subst, refl}
use Rattle.std.specs.Prelude.{All, Option, Some, None, option_and_then, ◌==◌}
use Rattle.std.proofs.lemmas.List.{append_assoc, append-nil}
use Rattle.std.proofs.lemmas.List.Elements.{All-head, All-tail}
use Rattle.listing_lines.specs.declared.lines.Line.{Line}
use Rattle.listing_lines.specs.Line.{IsLine, line_text, lines_text}
use Rattle.listing_lines.specs.Listing.{AreLines, BeginsWithLine, IsBadLine, Lead}
use Rattle.listing_lines.specs.Place.{Place, start, place_behind, place_after}
use Rattle.listing_lines.proofs.LineTexts.{line_ends}
use Rattle.listing_lines.proofs.OneText.{same_line}

-- two texts up to their first newline
cut : (xs ys rest others : List ℕ) → All (λ byte. (byte == 10) ≡ false) xs → All (λ byte. (byte == 10) ≡ false) ys →
    xs ++ 10 ∷ rest ≡ ys ++ 10 ∷ others → (xs ≡ ys) × (rest ≡ others)
cut [] [] rest others hx hy e = (refl, cc)
cut [] (y ∷ ys) rest others hx hy e =
    let head : 10 ≡ y = cc in
    let no : (10 == 10) ≡ false = subst (λ b. (b == 10) ≡ false) (sym head) (All-head (λ b. (b == 10) ≡ false) y ys hy) in
    absurd cc
cut (x ∷ xs) [] rest others hx hy e =
    let head : x ≡ 10 = cc in
    let no : (10 == 10) ≡ false = subst (λ b. (b == 10) ≡ false) head (All-head (λ b. (b == 10) ≡ false) x xs hx) in
    absurd cc
cut (x ∷ xs) (y ∷ ys) rest others hx hy e =
    let tails : xs ++ 10 ∷ rest ≡ ys ++ 10 ∷ others = cc in
    let below = cut xs ys rest others (All-tail (λ b. (b == 10) ≡ false) x xs hx) (All-tail (λ b. (b == 10) ≡ false) y ys hy) tails in
    let head : x ≡ y = cc in
    let same = below.0 in
    (cc, below.1)

-- the first line of lines in a row
first_line : (line : Line) (lines : List Line) (rest : List ℕ) →
    lines_text (line ∷ lines) ++ rest ≡ line_text line ++ 10 ∷ (lines_text lines ++ rest)
first_line line lines rest = regroup (line_text line) (lines_text lines) rest where
  regroup : (text texts others : List ℕ) → (text ++ 10 ∷ []) ++ texts ++ others ≡ text ++ 10 ∷ (texts ++ others)
  regroup text texts others = append_assoc (text ++ 10 ∷ []) texts others ∙ append_assoc text (10 ∷ []) (texts ++ others)

-- lines in their places, behind which no line stands in its place
record Stops (from : Place) (lines : List Line) (rest : List ℕ) : Type 0 where
  to : Place
  lead : Lead from lines to
  ends : BeginsWithLine to rest → ⊥

behind_first : (from : Place) (line : Line) (lines : List Line) (to : Place) → place_after from (line ∷ lines) ≡ Some to →
    (next : Place) × (place_behind from line ≡ Some next) × (place_after next lines ≡ Some to)
behind_first from line lines to = go (place_behind from line) where
  go : (place : Option Place) → option_and_then (λ p. place_after p lines) place ≡ Some to →
      (next : Place) × (place ≡ Some next) × (place_after next lines ≡ Some to)
  go (Some place) h = (place, refl, h)
  go None h = absurd cc

no_more : (from : Place) (line : Line) (lines : List Line) (rest bytes : List ℕ) (to : Place) → Lead from (line ∷ lines) to →
    bytes ≡ lines_text (line ∷ lines) ++ rest → BeginsWithLine from bytes
no_more from line lines rest bytes to lead e =
    let step = behind_first from line lines to lead.reached in
    record {
      line = line;
      rest = lines_text lines ++ rest;
      next = step.0;
      is_line = All-head IsLine line lines lead.lines_are;
      stands = step.1;
      written = e ∙ first_line line lines rest;
    }

one_way : (from : Place) (xs ys : List Line) (rest others : List ℕ) → Stops from xs rest → Stops from ys others →
    lines_text xs ++ rest ≡ lines_text ys ++ others → (xs ≡ ys) × (rest ≡ others)
one_way from [] [] rest others hx hy e = (refl, e)
one_way from [] (y ∷ ys) rest others hx hy e =
    let same : from ≡ hx.to = let s : Some from ≡ Some hx.to = hx.lead.reached in cc in
    absurd (hx.ends (subst (λ p. BeginsWithLine p rest) same (no_more from y ys others rest hy.to hy.lead e)))
one_way from (x ∷ xs) [] rest others hx hy e =
    let same : from ≡ hy.to = let s : Some from ≡ Some hy.to = hy.lead.reached in cc in
    absurd (hy.ends (subst (λ p. BeginsWithLine p others) same (no_more from x xs rest others hx.to hx.lead (sym e))))
one_way from (x ∷ xs) (y ∷ ys) rest others hx hy e =
    let whole = sym (first_line x xs rest) ∙ (e ∙ first_line y ys others) in
    let own = All-head IsLine x xs hx.lead.lines_are in
    let other = All-head IsLine y ys hy.lead.lines_are in
    let parts = cut (line_text x) (line_text y) (lines_text xs ++ rest) (lines_text ys ++ others) (line_ends x own) (line_ends y other) whole in
    let head = same_line x y own other parts.0 in
    let sx = behind_first from x xs hx.to hx.lead.reached in
    let sy = behind_first from y ys hy.to hy.lead.reached in
    let places : sx.0 ≡ sy.0 = let s : Some sx.0 ≡ Some sy.0 = sym sx.1 ∙ rw head sy.1 in cc in
    let lx : Lead sx.0 xs hx.to = record { lines_are = All-tail IsLine x xs hx.lead.lines_are; reached = sx.2 } in
    let ly : Lead sx.0 ys hy.to = record { lines_are = All-tail IsLine y ys hy.lead.lines_are; reached = rw places sy.2 } in
    let below = one_way sx.0 xs ys rest others record { to = hx.to; lead = lx; ends = hx.ends } record { to = hy.to; lead = ly; ends = hy.ends } parts.1 in
    let tails = below.0 in
    (cc, below.1)

nothing_begins : (place : Place) → BeginsWithLine place [] → ⊥
nothing_begins place begins = go (line_text begins.line) begins.rest begins.written where
  go : (line rest : List ℕ) → [] ≡ line ++ 10 ∷ rest → ⊥
  go [] rest e = cc
  go (byte ∷ line) rest e = cc

lines_stop : (bytes : List ℕ) (lines : List Line) → AreLines bytes lines → Stops start lines []
lines_stop bytes lines are = record { to = are.last; lead = are.lead; ends = nothing_begins are.last }

fault_stops : (bytes : List ℕ) (number : ℕ) (bad : IsBadLine bytes number) → Stops start bad.front bad.rest
fault_stops bytes number bad = record { to = bad.place; lead = bad.lead; ends = bad.stops }

pub one_listing : (bytes : List ℕ) (one other : List Line) → AreLines bytes one → AreLines bytes other → one ≡ other
one_listing bytes one other h k =
    let e : lines_text one ++ [] ≡ lines_text other ++ [] = simp append-nil (sym h.written ∙ k.written) in
    (one_way start one other [] [] (lines_stop bytes one h) (lines_stop bytes other k) e).0

pub lines_or_fault : (bytes : List ℕ) (lines : List Line) (number : ℕ) → AreLines bytes lines → IsBadLine bytes number → ⊥
lines_or_fault bytes lines number are bad =
    let e : lines_text lines ++ [] ≡ lines_text bad.front ++ bad.rest = simp append-nil (sym are.written ∙ bad.begun) in
    let same = one_way start lines bad.front [] bad.rest (lines_stop bytes lines are) (fault_stops bytes number bad) e in
    let places : are.last ≡ bad.place =
    let s : Some are.last ≡ Some bad.place = sym are.lead.reached ∙ (ap (place_after start) same.0 ∙ bad.lead.reached) in cc in
    bad.incomplete (sym same.1) (rw places at are.complete)

pub one_fault : (bytes : List ℕ) (one other : ℕ) → IsBadLine bytes one → IsBadLine bytes other → one ≡ other
one_fault bytes one other h k =
    let e = sym h.begun ∙ k.begun in
    let same = one_way start h.front k.front h.rest k.rest (fault_stops bytes one h) (fault_stops bytes other k) e in
    h.counted ∙ (ap (λ front. length front + 1) same.0 ∙ sym k.counted)
