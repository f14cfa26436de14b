-- Why bytes are no saved text of a grid, with the line that is named, counted from the first as 1.
--
--   IsBadLine    the first line that has no form in its place
--   IsBadTable   all have their forms, and the listing's tables break a rule
--   IsBadState   the tables are right, and the states of the processors break a rule
use Rattle.std.specs.Prelude.{◌≡◌, ◌⊎◌, ℕ, ◌+◌, List, [], ◌∷◌, ◌++◌, codes, length}
use Rattle.node_form.specs.declared.tables.Tables.{Tables}
use Rattle.listing_lines.specs.declared.lines.Line.{Line}
use Rattle.listing_lines.specs.Listing.{AreLines, IsBadLine as IsBadListingLine}
use Rattle.node_text.specs.Listing.{IsListing, IsBadTable as IsBadListingTable}
use Rattle.save_lines.specs.declared.lines.SavedLine.{SavedLine}
use Rattle.save_lines.specs.Line.{AreSavedLines, saved_text}
use Rattle.save_lines.specs.Lines.{IsBadLine as IsBadSavedLine}
use Rattle.grid_save.specs.declared.faults.SaveFault.{SaveFault}
use Rattle.grid_save.specs.declared.faults.SaveFault.TheVariants.{BadLine, BadTable, BadState, NoMemory}
use Rattle.grid_save.specs.Reads.{BreaksGrid}
use Rattle.grid_save.specs.Saved.{AreCounted}
use Rattle.grid_save.specs.Written.{counts_text, version_text}

-- ---- the parts: two lines, those of the listing, and those of the states
pub record HasCounts (bytes rest : List ℕ) : Type 0 where
  pub turns : ℕ
  pub sends : ℕ
  pub words : ℕ
  pub counted : AreCounted turns sends words
  pub written : bytes ≡ counts_text turns sends words ++ rest

pub record HasHead (bytes rest : List ℕ) : Type 0 where
  pub behind : List ℕ
  pub version : bytes ≡ version_text ++ behind
  pub counts : HasCounts behind rest

-- a line with the keyword of the first line of a state; no line of a listing has it
abbrev pub proc_text : List ℕ
proc_text = codes "proc "

abbrev pub BeginsState : List ℕ → Type 0
BeginsState bytes = (rest : List ℕ) × (bytes ≡ proc_text ++ rest)

-- bytes end behind a line, or are none
abbrev pub EndsLine : List ℕ → Type 0
EndsLine bytes = (bytes ≡ []) ⊎ ((front : List ℕ) × (bytes ≡ front ++ 10 ∷ []))

-- the listing goes up to the first such line, or to the end
pub record IsCut (bytes listing state : List ℕ) : Type 0 where
  pub whole : bytes ≡ listing ++ state
  pub state_begins : (state ≡ []) ⊎ (EndsLine listing × BeginsState state)
  pub listing_lacks : (front back : List ℕ) → listing ≡ front ++ back → EndsLine front → BeginsState back → ⊥

pub record HasParts (bytes listing state : List ℕ) : Type 0 where
  pub rest : List ℕ
  pub head : HasHead bytes rest
  pub cut : IsCut rest listing state

-- ---- lines without a form
-- Counts past their limits have no form. A part of the listing that is missing is missed at the
-- line behind it.
pub data IsBadLine (bytes : List ℕ) : ℕ → Type 0 where
  AtVersion : ((rest : List ℕ) → bytes ≡ version_text ++ rest → ⊥) → IsBadLine bytes 1
  AtCounts : (behind : List ℕ) → bytes ≡ version_text ++ behind → ((rest : List ℕ) → HasCounts behind rest → ⊥) → IsBadLine bytes 2
  AtListing : (listing state : List ℕ) (number : ℕ) → HasParts bytes listing state → IsBadListingLine listing number →
      IsBadLine bytes (number + 2)
  AtState : (listing state : List ℕ) (code_lines : List Line) (number : ℕ) → HasParts bytes listing state →
      AreLines listing code_lines → IsBadSavedLine state number → IsBadLine bytes (number + (length code_lines + 2))

-- ---- tables and states that break a rule
-- all lines have their forms
pub record HasForms (bytes listing : List ℕ) (code_lines : List Line) (state_lines : List SavedLine) : Type 0 where
  pub parts : HasParts bytes listing (saved_text state_lines)
  pub code_are : AreLines listing code_lines
  pub state_are : AreSavedLines state_lines

pub record IsBadTable (bytes : List ℕ) (number : ℕ) : Type 0 where
  pub listing : List ℕ
  pub code_lines : List Line
  pub state_lines : List SavedLine
  pub forms : HasForms bytes listing code_lines state_lines
  pub in_listing : ℕ
  pub breaks : IsBadListingTable listing in_listing
  pub counted : number ≡ in_listing + 2

-- the line with which what is left begins; where a line is missing, the last one
pub data IsNamed (before : ℕ) (lines : List SavedLine) : List SavedLine → ℕ → Type 0 where
  Missing : IsNamed before lines [] (before + length lines)
  There : (front : List SavedLine) (line : SavedLine) (rest : List SavedLine) → lines ≡ front ++ line ∷ rest →
      IsNamed before lines (line ∷ rest) (before + length front + 1)

pub record IsBadState (bytes : List ℕ) (number : ℕ) : Type 0 where
  pub listing : List ℕ
  pub code_lines : List Line
  pub state_lines : List SavedLine
  pub forms : HasForms bytes listing code_lines state_lines
  pub code : Tables
  pub listed : IsListing listing code
  pub left : List SavedLine
  pub breaks : BreaksGrid code state_lines left
  pub named : IsNamed (2 + length code_lines) state_lines left number

abbrev pub Explains : List ℕ → SaveFault → Type 0
Explains bytes (BadLine number) = IsBadLine bytes number
Explains bytes (BadTable number) = IsBadTable bytes number
Explains bytes (BadState number) = IsBadState bytes number
Explains bytes NoMemory = Unit {0}
