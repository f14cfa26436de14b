-- Bytes that are lines of states, and the first line that is none.
--
--   AreLines    the bytes are these lines
--   IsBadLine   lines stand before the one with this number, counted from 1, and that is none
use Rattle.std.specs.Prelude.{◌≡◌, ◌≢◌, ℕ, ◌+◌, List, [], ◌∷◌, ◌++◌, length}
use Rattle.save_lines.specs.declared.lines.SavedLine.{SavedLine}
use Rattle.save_lines.specs.declared.texts.LinesFault.{LinesFault}
use Rattle.save_lines.specs.declared.texts.LinesFault.TheVariants.{BadLine, NoMemory}
use Rattle.save_lines.specs.Line.{AreSavedLines, IsSavedLine, line_text, saved_text}

pub record AreLines (bytes : List ℕ) (lines : List SavedLine) : Type 0 where
  pub lines_are : AreSavedLines lines
  pub written : bytes ≡ saved_text lines

-- the bytes begin with a line
pub record BeginsWithLine (bytes : List ℕ) : Type 0 where
  pub line : SavedLine
  pub rest : List ℕ
  pub is_line : IsSavedLine line
  pub written : bytes ≡ line_text line ++ 10 ∷ rest

pub record IsBadLine (bytes : List ℕ) (number : ℕ) : Type 0 where
  pub front : List SavedLine
  pub rest : List ℕ
  pub front_are : AreSavedLines front
  pub begun : bytes ≡ saved_text front ++ rest
  pub some : rest ≢ []
  pub stops : BeginsWithLine rest → ⊥
  pub counted : number ≡ length front + 1

abbrev pub Explains : List ℕ → LinesFault → Type 0
Explains bytes (BadLine line) = IsBadLine bytes line
Explains bytes NoMemory = Unit {0}
