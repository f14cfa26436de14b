-- The place of a start, by what the rows of its stretch stop.
--
--   stops_all     no start crosses the row
--   place_by      the place of a start: in front of it stand so many rows of the code
--   IsNotedRow    what is noted of a stretch, with a row more
use Rattle.std.specs.Prelude.{◌≡◌, ℕ, ◌+◌, ◌-◌, nat_le, Bool, true, false, Option, Some, None}
use Rattle.std.specs.Prelude.{if◌then◌else◌, List, [], ◌∷◌, fold, max}
use Rattle.last_writes.specs.of_node_form.declared.arrays.Item.{Item}
use Rattle.last_writes.specs.of_node_form.declared.instructions.Instr.{Instr}
use Rattle.last_writes.specs.of_node_form.declared.instructions.Instr.TheVariants as instr
use Rattle.last_writes.specs.of_node_form.declared.tables.Tables.{Tables}
use Rattle.last_writes.specs.of_code_parts.Uses.{may_divide, written_arrays, written_slots}
use Rattle.last_writes.specs.Last.{AreNoted, last_change, noted}
use Rattle.comm_early.specs.declared.load.Load.{Load}
use Rattle.comm_early.specs.declared.stretch.Stretch.{Stretch}

-- no start crosses the row, whatever its items are; of another start that is said elsewhere
abbrev pub stops_all : Tables → Instr → Bool
stops_all tables (instr.Fix slot region) = false
stops_all tables (instr.Room array slot) = false
stops_all tables (instr.Clear array) = false
stops_all tables (instr.Loop slot group) = false
stops_all tables (instr.Print text) = false
stops_all tables (instr.Set scalar expr line) = may_divide tables expr
stops_all tables (instr.Number expr) = may_divide tables expr
stops_all tables (instr.Truth expr) = may_divide tables expr
stops_all tables (instr.Start exchange) = false
stops_all tables (instr.Finish exchange) = false
stops_all tables row = true

-- the exchange that a row finishes
abbrev pub finished_by : Instr → List ℕ
finished_by (instr.Finish exchange) = exchange ∷ []
finished_by row = []

-- behind the last of the rows that stop the start of an exchange of these items
abbrev pub place_by : Stretch → ℕ → List Item → ℕ
place_by stretch exchange items =
    fold (λ place item. max place (last_change stretch.written item))
    (max (max stretch.least stretch.load.full) (noted stretch.finished exchange)) items

-- ---- exchanges that are open
-- Where links hold no more than are open in front of a finish, no later start crosses it; else as
-- many more starts do as links hold more, and none behind these.
abbrev pub full_with : Option ℕ → ℕ → ℕ → ℕ → ℕ
full_with None opened number full = full
full_with (Some links) opened number full = if nat_le links opened then number else full

abbrev pub later_starts : Option ℕ → ℕ → ℕ → List ℕ
later_starts None opened starts = []
later_starts (Some links) opened starts =
    if nat_le links opened then [] else (starts + (links - opened)) ∷ []

pub record IsStarted (old : Load) (exchange : ℕ) (new : Load) : Type 0 where
  pub links : new.links ≡ old.links
  pub times : AreNoted old.times (exchange ∷ []) (noted old.times exchange + 1) new.times
  pub opened : new.opened ≡ old.opened + 1
  pub starts : new.starts ≡ old.starts + 1
  pub full : new.full ≡ max old.full (noted old.later (old.starts + 1))
  pub later : new.later ≡ old.later

pub record IsFilled (old : Load) (number : ℕ) (new : Load) : Type 0 where
  pub links : new.links ≡ old.links
  pub times : new.times ≡ old.times
  pub opened : new.opened ≡ old.opened
  pub starts : new.starts ≡ old.starts
  pub full : new.full ≡ full_with old.links old.opened number old.full
  pub later : AreNoted old.later (later_starts old.links old.opened old.starts) number new.later

pub record IsFinished (old : Load) (exchange number : ℕ) (new : Load) : Type 0 where
  pub links : new.links ≡ old.links
  pub times : AreNoted old.times (exchange ∷ []) 0 new.times
  pub opened : new.opened ≡ old.opened - noted old.times exchange
  pub starts : new.starts ≡ old.starts
  pub full : new.full ≡ full_with old.links old.opened number old.full
  pub later : AreNoted old.later (later_starts old.links old.opened old.starts) number new.later

abbrev pub IsLoaded : Load → Instr → ℕ → Load → Type 0
IsLoaded old (instr.Start exchange) number new = IsStarted old exchange new
IsLoaded old (instr.Finish exchange) number new = IsFinished old exchange number new
IsLoaded old row number new = new ≡ old

-- ---- a row more, with its number, from 1
pub record IsNotedRow (tables : Tables) (row : Instr) (old : Stretch) (number : ℕ) (new : Stretch)
    : Type 0 where
  pub least : new.least ≡ (if stops_all tables row then number else old.least)
  pub arrays : AreNoted old.written.arrays (written_arrays tables row) number new.written.arrays
  pub slots : AreNoted old.written.slots (written_slots row) number new.written.slots
  pub finished : AreNoted old.finished (finished_by row) number new.finished
  pub load : IsLoaded old.load row number new.load

-- ---- no row yet
pub record IsNewLoad (capacity : Option ℕ) (load : Load) : Type 0 where
  pub links : load.links ≡ capacity
  pub times : (exchange : ℕ) → noted load.times exchange ≡ 0
  pub opened : load.opened ≡ 0
  pub starts : load.starts ≡ 0
  pub full : load.full ≡ 0
  pub later : (start : ℕ) → noted load.later start ≡ 0

pub record IsNewStretch (links : Option ℕ) (stretch : Stretch) : Type 0 where
  pub least : stretch.least ≡ 0
  pub arrays : (array : ℕ) → noted stretch.written.arrays array ≡ 0
  pub slots : (slot : ℕ) → noted stretch.written.slots slot ≡ 0
  pub finished : (exchange : ℕ) → noted stretch.finished exchange ≡ 0
  pub load : IsNewLoad links stretch.load
