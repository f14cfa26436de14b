-- Lines that are those of rows, one after another, and where that ends.
use Rattle.std.specs.Prelude.{◌≡◌, ℕ, ◌+◌, Bool, true, false, List, [], ◌∷◌, ◌++◌, length}
use Rattle.listing_rows.specs.of_listing_lines.declared.keywords.Keyword.{Keyword}
use Rattle.listing_rows.specs.of_listing_lines.declared.lines.Line.{Line}
use Rattle.listing_rules.specs.declared.faults.ListFault.{ListFault}
use Rattle.listing_rules.specs.declared.faults.ListFault.TheVariants.{BadLine, BadTable, NoMemory}

-- the first of the lines has such a keyword
abbrev pub begins : (Keyword → Bool) → List Line → Bool
begins p [] = false
begins p (line ∷ lines) = p line.keyword

-- The lines with such keywords, up to the first with another one, are those of these rows; behind
-- them is the rest. Which row a line may be may depend on the rows in front of it.
pub data Reads {X : Type 0} (p : Keyword → Bool) (Is : List X → Line → X → Type 0) : List X → List Line → List X → List Line → Type 0 where
  Over : (done : List X) (lines : List Line) → begins p lines ≡ false → Reads p Is done lines [] lines
  More : (done : List X) (line : Line) (lines : List Line) (row : X) (rows : List X) (rest : List Line) →
      p line.keyword ≡ true → Is done line row → Reads p Is (done ++ row ∷ []) lines rows rest →
      Reads p Is done (line ∷ lines) (row ∷ rows) rest

-- One of these lines is that of no row, and those in front of it are of some. What is left begins
-- with it.
pub data Stops {X : Type 0} (p : Keyword → Bool) (Is : List X → Line → X → Type 0) : List X → List Line → List Line → Type 0 where
  Here : (done : List X) (line : Line) (lines : List Line) →
      p line.keyword ≡ true → ((row : X) → Is done line row → ⊥) → Stops p Is done (line ∷ lines) (line ∷ lines)
  Later : (done : List X) (line : Line) (lines : List Line) (row : X) (left : List Line) →
      p line.keyword ≡ true → Is done line row → Stops p Is (done ++ row ∷ []) lines left →
      Stops p Is done (line ∷ lines) left

-- the first of the lines is that of this row
pub record First {X : Type 0} (Is : Line → X → Type 0) (lines : List Line) (row : X) (rest : List Line) : Type 0 where
  pub line : Line
  pub first : lines ≡ line ∷ rest
  pub is : Is line row

-- it is that of none
pub record NoFirst {X : Type 0} (Is : Line → X → Type 0) (lines left : List Line) : Type 0 where
  pub none : (row : X) (rest : List Line) → First Is lines row rest → ⊥
  pub here : left ≡ lines

-- the line with which what is left of the lines begins, counted from 1
pub record IsNumber (lines left : List Line) (number : ℕ) : Type 0 where
  pub counted : number + length left ≡ length lines + 1

-- a fault names the line behind which no row was found
abbrev pub FaultAt : (List Line → Type 0) → List Line → ListFault → Type 0
FaultAt Bad lines (BadLine number) = ⊥
FaultAt Bad lines (BadTable number) = (left : List Line) × Bad left × IsNumber lines left number
FaultAt Bad lines NoMemory = Unit {0}
