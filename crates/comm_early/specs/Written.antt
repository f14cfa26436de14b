-- Rows that are written as soon as no start can come to stand in front of them.
--
--   other_rows    rows of code that are no starts: from a number on, so many
--   others        from a number on, up to another
--   IsSentRow     what is written with a row, and noted of its stretch
use Rattle.std.specs.Prelude.{◌≡◌, ℕ, ◌+◌, ◌-◌, zero, suc, Bool, true, false, Option, Some, None}
use Rattle.std.specs.Prelude.{List, [], ◌∷◌, ◌++◌, max, slice_get}
use Rattle.last_writes.specs.of_node_form.declared.instructions.Instr.{Instr}
use Rattle.last_writes.specs.of_node_form.declared.instructions.Instr.TheVariants as instr
use Rattle.last_writes.specs.of_node_form.declared.tables.Tables.{Tables}
use Rattle.last_writes.specs.of_code_parts.Uses.{items_of}
use Rattle.comm_early.specs.Place.{IsNewStretch, IsNotedRow, place_by}
use Rattle.comm_early.specs.declared.sent.Sent.{Sent}
use Rattle.comm_early.specs.declared.stretch.Stretch.{Stretch}

abbrev pub other_at : Option Instr → List Instr
other_at None = []
other_at (Some (instr.Start exchange)) = []
other_at (Some row) = row ∷ []

abbrev pub other_rows : List Instr → ℕ → ℕ → List Instr
other_rows code from zero = []
other_rows code from (suc count) =
    other_rows code from count ++ other_at (slice_get code (from + count))

abbrev pub others : List Instr → ℕ → ℕ → List Instr
others code from to = other_rows code from (to - from)

-- written up to a row
pub record IsWrittenTo (code : List Instr) (old : Sent) (to : ℕ) (new : Sent) : Type 0 where
  pub rows : new.code ≡ old.code ++ others code old.done to
  pub number : new.done ≡ max old.done to

-- ---- in front of a row: whether it is a goal
pub record IsFlushed (code : List Instr) (old : Sent) (before : Stretch) (to : ℕ) (new : Sent)
    (after : Stretch) : Type 0 where
  pub written : IsWrittenTo code old to new
  pub begun : IsNewStretch before.load.links after

pub record AreKept (old : Sent) (before : Stretch) (new : Sent) (after : Stretch) : Type 0 where
  pub sent : new ≡ old
  pub stretch : after ≡ before

abbrev pub IsAt : Bool → List Instr → Sent → Stretch → ℕ → Sent → Stretch → Type 0
IsAt true code old before number new after = IsFlushed code old before number new after
IsAt false code old before number new after = AreKept old before new after

-- ---- a row
-- a start is written behind all that it doesn't cross
pub record IsStartSent (tables : Tables) (exchange : ℕ) (old : Sent) (before : Stretch)
    (number : ℕ) (new : Sent) (after : Stretch) : Type 0 where
  pub rows : new.code ≡
      (old.code ++ others tables.code old.done (place_by before exchange (items_of tables exchange)))
      ++ instr.Start exchange ∷ []
  pub done : new.done ≡ max old.done (place_by before exchange (items_of tables exchange))
  pub noted : IsNotedRow tables (instr.Start exchange) before (number + 1) after

pub record IsRowNoted (tables : Tables) (row : Instr) (old : Sent) (before : Stretch)
    (number : ℕ) (new : Sent) (after : Stretch) : Type 0 where
  pub sent : new ≡ old
  pub noted : IsNotedRow tables row before (number + 1) after

abbrev pub IsSentRow : Tables → Instr → Sent → Stretch → ℕ → Sent → Stretch → Type 0
IsSentRow tables (instr.Start exchange) old before number new after =
    IsStartSent tables exchange old before number new after
IsSentRow tables (instr.Jump goal) old before number new after =
    IsFlushed tables.code old before (number + 1) new after
IsSentRow tables (instr.Unless expr goal line) old before number new after =
    IsFlushed tables.code old before (number + 1) new after
IsSentRow tables (instr.Trap kind line) old before number new after =
    IsFlushed tables.code old before (number + 1) new after
IsSentRow tables instr.End old before number new after =
    IsFlushed tables.code old before (number + 1) new after
IsSentRow tables row old before number new after =
    IsRowNoted tables row old before number new after
