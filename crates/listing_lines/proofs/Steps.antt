-- Steps from line to line.
use Rattle.std.proofs.Common.{◌≡◌, ℕ, zero, suc, ◌+◌, ◌<◌, ◌≤◌, Bool, true, false, List, [], ◌∷◌, ◌++◌, length, take, drop, get_or, ◌∙◌, ap, subst, refl, arith}
use Rattle.std.specs.Prelude.{All, Option, Some, None, option_and_then, if◌then◌else◌, ◌==◌}
use Rattle.std.proofs.lemmas.List.{append_assoc, append-nil, length-append}
use Rattle.std.proofs.lemmas.Grind.{flat_map-append}
use Rattle.std.proofs.lemmas.List.Elements.{All-head, All-tail, All-push}
use Rattle.listing_lines.specs.declared.lines.Line.{Line}
use Rattle.listing_lines.specs.declared.places.Opening.{Opening}
use Rattle.listing_lines.specs.declared.places.Part.{Part}
use Rattle.listing_lines.specs.Form.{has_form}
use Rattle.listing_lines.specs.Line.{IsLine, line_text, lines_text, spaced}
use Rattle.listing_lines.specs.Listing.{Lead, BeginsWithLine}
use Rattle.listing_lines.specs.Place.{Place, formed_behind, with_part, open_behind, part_behind, place_behind, place_after, role_of}
use Rattle.listing_lines.specs.Field.{field_text}
use Rattle.listing_lines.specs.Keyword.{keyword_text}
use Rattle.listing_lines.proofs.KeywordTexts.{keyword_length}
use Rattle.listing_lines.proofs.LineTexts.{line_ends}
use Rattle.std.specs.List.{flat_map}

-- ---- where a line ends
-- The first newline of a text ends the line that it begins with.
first_end : (line rest : List ℕ) (end : ℕ) → All (λ byte. (byte == 10) ≡ false) line →
    ((k : ℕ) → k < end → get_or (line ++ 10 ∷ rest) k 0 ≡ 10 → ⊥) → end ≤ length (line ++ 10 ∷ rest) →
    (end < length (line ++ 10 ∷ rest) → get_or (line ++ 10 ∷ rest) end 0 ≡ 10) → end ≡ length line
first_end [] rest zero others before within found = refl
first_end [] rest (suc end) others before within found = absurd (before 0 (omega arith) refl)
first_end (byte ∷ line) rest zero others before within found =
    let first = All-head (λ b. (b == 10) ≡ false) byte line others in
    let is : byte ≡ 10 = found (omega arith) in
    let no : (10 == 10) ≡ false = subst (λ b. (b == 10) ≡ false) is first in
    absurd cc
first_end (byte ∷ line) rest (suc end) others before within found =
    let same = first_end line rest end (All-tail (λ b. (b == 10) ≡ false) byte line others)
    (λ k below. before (suc k) (omega arith)) (omega arith) (λ below. found (omega arith)) in
    omega (arith, same)

pub record IsFirst (bytes line rest : List ℕ) (end : ℕ) : Type 0 where
  pub whole : take end bytes ≡ line
  pub left : drop (end + 1) bytes ≡ rest
  pub inside : end < length bytes

take-front : (line rest : List ℕ) → take (length line) (line ++ rest) ≡ line
take-front [] rest = refl
take-front (byte ∷ line) rest = ap (λ bytes. byte ∷ bytes) (take-front line rest)

drop-front : (line rest : List ℕ) → drop (length line + 1) (line ++ 10 ∷ rest) ≡ rest
drop-front [] rest = refl
drop-front (byte ∷ line) rest =
    let e : suc (length line) + 1 ≡ suc (length line + 1) = omega arith in rw e (drop-front line rest)

pub line_found : (bytes : List ℕ) (place : Place) (end : ℕ) (begins : BeginsWithLine place bytes) →
    ((k : ℕ) → k < end → get_or bytes k 0 ≡ 10 → ⊥) → end ≤ length bytes → (end < length bytes → get_or bytes end 0 ≡ 10) →
    IsFirst bytes (line_text begins.line) begins.rest end
line_found bytes place end begins before within found =
    let line = line_text begins.line in
    let same = first_end line begins.rest end (line_ends begins.line begins.is_line)
    (λ k below e. before k below (rw begins.written e)) (rw begins.written at within) (λ below. rw begins.written at (found (rw begins.written below))) in
    rw (begins.written, same) (record {
      whole = take-front line (10 ∷ begins.rest);
      left = drop-front line begins.rest;
      inside = rw (length-append line (10 ∷ begins.rest)) (omega arith);
    })

-- ---- places
pub stands : (place : Place) (line : Line) (part : Part) (openings : List Opening) →
    (if has_form line then part_behind place.part (role_of line.keyword) else None) ≡ Some part →
    open_behind place.openings line.keyword ≡ Some openings →
    place_behind place line ≡ Some (record { part = part; openings = openings })
stands place line part openings = go (has_form line) where
  go : (formed : Bool) → (if formed then part_behind place.part (role_of line.keyword) else None) ≡ Some part →
      open_behind place.openings line.keyword ≡ Some openings →
      formed_behind place line formed ≡ Some (record { part = part; openings = openings })
  go true e f = rw (e, f) refl
  go false e f = absurd cc

pub no_part : (place : Place) (line : Line) (next : Place) →
    (if has_form line then part_behind place.part (role_of line.keyword) else None) ≡ None → place_behind place line ≡ Some next → ⊥
no_part place line next = go (has_form line) where
  go : (formed : Bool) → (if formed then part_behind place.part (role_of line.keyword) else None) ≡ None →
      formed_behind place line formed ≡ Some next → ⊥
  go true e f = let none = rw e at f in cc
  go false e f = cc

pub no_opening : (place : Place) (line : Line) (next : Place) →
    open_behind place.openings line.keyword ≡ None → place_behind place line ≡ Some next → ⊥
no_opening place line next = go (has_form line) where
  parts : (part : Option Part) → open_behind place.openings line.keyword ≡ None →
      option_and_then (with_part (open_behind place.openings line.keyword)) part ≡ Some next → ⊥
  parts (Some part) e f = let none = rw e at f in cc
  parts None e f = cc

  go : (formed : Bool) → open_behind place.openings line.keyword ≡ None → formed_behind place line formed ≡ Some next → ⊥
  go true e f = parts (part_behind place.part (role_of line.keyword)) e f
  go false e f = cc

-- ---- lines
pub place_after-more : (from to next : Place) (lines : List Line) (line : Line) →
    place_after from lines ≡ Some to → place_behind to line ≡ Some next → place_after from (lines ++ line ∷ []) ≡ Some next
place_after-more from to next [] line e f = let same : from ≡ to = cc in rw same (rw f refl)
place_after-more from to next (first ∷ lines) line e f =
    step to next lines line (λ place h. place_after-more place to next lines line h f) (place_behind from first) e where
      step : (to' next' : Place) (lines' : List Line) (line' : Line) →
          ((place : Place) → place_after place lines' ≡ Some to' → place_after place (lines' ++ line' ∷ []) ≡ Some next') →
          (place : Option Place) → option_and_then (λ p. place_after p lines') place ≡ Some to' →
          option_and_then (λ p. place_after p (lines' ++ line' ∷ [])) place ≡ Some next'
      step to' next' lines' line' more (Some place) h = more place h
      step to' next' lines' line' more None h = absurd cc

pub lead_more : (from to next : Place) (lines : List Line) (line : Line) → Lead from lines to → IsLine line →
    place_behind to line ≡ Some next → Lead from (lines ++ line ∷ []) next
lead_more from to next lines line lead is e = record {
  lines_are = All-push IsLine lines line lead.lines_are is;
  reached = place_after-more from to next lines line lead.reached e;
}

pub text_more : (bytes rest after : List ℕ) (lines : List Line) (line : Line) → bytes ≡ lines_text lines ++ rest →
    rest ≡ line_text line ++ 10 ∷ after → bytes ≡ lines_text (lines ++ line ∷ []) ++ after
text_more bytes rest after lines line whole next =
    whole ∙ rw (next, flat_map-append (λ l. line_text l ++ 10 ∷ []) lines (line ∷ [])) (simp (append_assoc, append-nil) refl)

pub length_more : (rest after : List ℕ) (line : Line) → rest ≡ line_text line ++ 10 ∷ after → length after + 2 ≤ length rest
length_more rest after line e =
    let long = keyword_length line.keyword in
    rw (e, length-append (line_text line) (10 ∷ after)) (omega (arith, longer line, long)) where
      longer : (line : Line) → length (keyword_text line.keyword) ≤ length (line_text line)
      longer line = rw (length-append (keyword_text line.keyword) (flat_map (λ field. spaced (field_text field)) line.fields)) (omega arith)
