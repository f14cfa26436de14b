-- Lines that are written behind others.
--
--   Writes   their bytes are appended, and their numbers are of 64 bits
use Rattle.std.specs.Prelude.{◌≡◌, ℕ, List, ◌++◌}
use Rattle.save_lines.specs.declared.lines.SavedLine.{SavedLine}
use Rattle.save_lines.specs.Line.{AreSavedLines, saved_text}

pub record Writes (old : List ℕ) (lines : List SavedLine) (new : List ℕ) : Type 0 where
  pub text : new ≡ old ++ saved_text lines
  pub are : AreSavedLines lines
