-- The line that a fault names.
use Rattle.std.specs.Prelude.{◌≡◌, ℕ, ◌+◌, List, length}
use Rattle.save_lines.specs.declared.lines.SavedLine.{SavedLine}
use Rattle.save_reading.specs.declared.faults.StateFault.{StateFault}
use Rattle.save_reading.specs.declared.faults.StateFault.TheVariants.{BadState, NoMemory}

-- the line with which what is left of the lines begins, counted from 1; the one behind the last
-- where nothing is left
pub record IsNumber (lines left : List SavedLine) (number : ℕ) : Type 0 where
  pub counted : number + length left ≡ length lines + 1

-- a fault names the line with which what is left begins
abbrev pub FaultAt : (List SavedLine → Type 0) → List SavedLine → StateFault → Type 0
FaultAt Bad lines (BadState number) = (left : List SavedLine) × Bad left × IsNumber lines left number
FaultAt Bad lines NoMemory = Unit {0}
