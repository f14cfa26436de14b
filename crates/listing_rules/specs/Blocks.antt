-- Blocks of lines: a heading, and the lines below it.
use Rattle.std.specs.Prelude.{◌≡◌, Bool, true, false, List, [], ◌∷◌}
use Rattle.listing_rows.specs.of_listing_lines.declared.keywords.Keyword.{Keyword}
use Rattle.listing_rows.specs.of_listing_lines.declared.lines.Line.{Line}
use Rattle.listing_rules.specs.Reads.{begins, Reads, Stops}

-- a line without fields, and behind it the lines of rows
pub record Block {X : Type 0} (heading : Line) (p : Keyword → Bool) (Is : List X → Line → X → Type 0) (Whole : List X → Type 0) (lines : List Line) (rows : List X) (rest : List Line) : Type 0 where
  pub below : List Line
  pub headed : lines ≡ heading ∷ below
  pub reads : Reads p Is [] below rows rest
  pub whole : Whole rows

-- why there is no block here: what is left begins with the line where it shows
pub data NoBlock {X : Type 0} (heading : Line) (p : Keyword → Bool) (Is : List X → Line → X → Type 0) (Whole : List X → Type 0) : List Line → List Line → Type 0 where
  Unheaded : (lines : List Line) → ((below : List Line) → lines ≡ heading ∷ below → ⊥) → NoBlock heading p Is Whole lines lines
  Stopped : (below left : List Line) → Stops p Is [] below left → NoBlock heading p Is Whole (heading ∷ below) left
  Unfinished : (below : List Line) (rows : List X) (left : List Line) →
      Reads p Is [] below rows left → (Whole rows → ⊥) → NoBlock heading p Is Whole (heading ∷ below) left

-- blocks, one after another, as long as lines begin with the heading's keyword
pub data Blocks {X : Type 0} (head : Keyword → Bool) (heading : Line) (p : Keyword → Bool) (Is : List X → Line → X → Type 0) (Whole : List X → Type 0) : List Line → List (List X) → List Line → Type 0 where
  Ended : (lines : List Line) → begins head lines ≡ false → Blocks head heading p Is Whole lines [] lines
  Another : (lines : List Line) (rows : List X) (behind : List Line) (blocks : List (List X)) (rest : List Line) →
      begins head lines ≡ true → Block heading p Is Whole lines rows behind →
      Blocks head heading p Is Whole behind blocks rest → Blocks head heading p Is Whole lines (rows ∷ blocks) rest

-- one of them isn't one
pub data BlocksStop {X : Type 0} (head : Keyword → Bool) (heading : Line) (p : Keyword → Bool) (Is : List X → Line → X → Type 0) (Whole : List X → Type 0) : List Line → List Line → Type 0 where
  AtOnce : (lines left : List Line) →
      begins head lines ≡ true → NoBlock heading p Is Whole lines left → BlocksStop head heading p Is Whole lines left
  Further : (lines : List Line) (rows : List X) (behind left : List Line) →
      begins head lines ≡ true → Block heading p Is Whole lines rows behind →
      BlocksStop head heading p Is Whole behind left → BlocksStop head heading p Is Whole lines left
