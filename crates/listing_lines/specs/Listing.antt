-- Lines that stand in their places, and the first line that doesn't.
use Rattle.std.specs.Prelude.{◌≡◌, ℕ, ◌+◌, List, [], ◌∷◌, ◌++◌, length, Some, All}
use Rattle.listing_lines.specs.declared.lines.Line.{Line}
use Rattle.listing_lines.specs.declared.listings.LinesFault.{LinesFault}
use Rattle.listing_lines.specs.declared.listings.LinesFault.TheVariants.{BadLine, NoMemory}
use Rattle.listing_lines.specs.declared.places.Part.TheVariants as part
use Rattle.listing_lines.specs.Line.{IsLine, line_text, lines_text}
use Rattle.listing_lines.specs.Place.{Place, start, place_behind, place_after}

-- lines that lead from one place to another
pub record Lead (from : Place) (lines : List Line) (to : Place) : Type 0 where
  pub lines_are : All IsLine lines
  pub reached : place_after from lines ≡ Some to

-- The bytes are these lines, each of which has a form in its place, and no part is missing.
pub record AreLines (bytes : List ℕ) (lines : List Line) : Type 0 where
  pub written : bytes ≡ lines_text lines
  pub last : Place
  pub lead : Lead start lines last
  pub complete : last.part ≡ part.Code

-- the bytes begin with a line that has a form in this place
pub record BeginsWithLine (place : Place) (bytes : List ℕ) : Type 0 where
  pub line : Line
  pub rest : List ℕ
  pub next : Place
  pub is_line : IsLine line
  pub stands : place_behind place line ≡ Some next
  pub written : bytes ≡ line_text line ++ 10 ∷ rest

-- Lines in their places stand before the one with this number, and what comes there isn't one; or
-- it is the end, though a part is missing. Lines are counted from 1.
pub record IsBadLine (bytes : List ℕ) (number : ℕ) : Type 0 where
  pub front : List Line
  pub place : Place
  pub rest : List ℕ
  pub lead : Lead start front place
  pub begun : bytes ≡ lines_text front ++ rest
  pub counted : number ≡ length front + 1
  pub stops : BeginsWithLine place rest → ⊥
  pub incomplete : rest ≡ [] → place.part ≡ part.Code → ⊥

abbrev pub Explains : List ℕ → LinesFault → Type 0
Explains bytes (BadLine line) = IsBadLine bytes line
Explains bytes NoMemory = Unit {0}
