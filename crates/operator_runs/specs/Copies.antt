-- The copies of reads that wrap round. They are numbered one after another, before the statement's
-- temporaries; each is a stored array that is none of the program's, and is filled with slots that are
-- the statement's own.
use Rattle.std.specs.Prelude.{◌≡◌, ℕ, zero, suc, ◌+◌, ◌<◌, ◌≤◌, length, ℤ, List, [], ◌∷◌, ◌++◌, Option, Some, None}
use Rattle.zpl_region.specs.declared.regions.Region.{Region}
use Rattle.zpl_region.specs.Hull.{hull_with}
use Rattle.zpl_region.specs.Region.{moved}
use Rattle.node_form.specs.declared.tables.Tables.{Tables}
use Rattle.print_runs.specs.of_zpl_lowering.Where.{SlotCurrents, Slotted, Where}
use Rattle.print_runs.specs.of_zpl_lowering.Slate as slate
use Rattle.print_runs.specs.of_zpl_lowering.Slate.{Slate, Slates, NoSlate, ThenSlate, border_slots}
use Rattle.print_runs.specs.of_lowering_runs.Stands.{CopiesAt, IsStored, Misses, array_numbers}
use Rattle.operator_runs.specs.Meant.{Site, Alone, Under}
use Rattle.operator_runs.specs.Hoists.{Own, copies_of}

pub record IsCopy (tables : Tables) (w : Where) (own : Own) (number : ℕ) (home : Region)
    (shift : List ℤ) (copy first : ℕ) : Type 0 where
  pub numbered : copy ≡ number
  pub below : copy < own.temps
  pub apart : Misses (array_numbers w.numbers.arrays) copy
  pub stored : IsStored tables
      (record { array = copy; storage = hull_with home (moved shift home) })
  pub fills : (k : ℕ) → k < border_slots shift → Misses own.slots (first + k) → ⊥
  pub many : first + border_slots shift ≤ length tables.slots

-- those of a slate, from a number on
abbrev mutual
  pub AreCopied : Tables → Where → Own → ℕ → Slate → Type 0
  AreCopied tables w own number (slate.Constant value) = Unit {0}
  AreCopied tables w own number (slate.Variable place) = Unit {0}
  AreCopied tables w own number (slate.Coordinate k) = Unit {0}
  AreCopied tables w own number (slate.Element slot place shift) = Unit {0}
  AreCopied tables w own number (slate.Wrapped slot place home shift copy first) =
      IsCopy tables w own number home shift copy first
  AreCopied tables w own number (slate.Unary operator operand) =
      AreCopied tables w own number operand
  AreCopied tables w own number (slate.Binary operator left right) =
      AreCopied tables w own number left
      × AreCopied tables w own (number + copies_of left) right
  AreCopied tables w own number (slate.Folded operator over operand) =
      AreCopied tables w own number operand
  AreCopied tables w own number (slate.PartFolded operator over source operand) =
      AreCopied tables w own number operand
  AreCopied tables w own number (slate.Scanned operator along over operand) =
      AreCopied tables w own number operand
  AreCopied tables w own number (slate.Flooded over source operand) =
      AreCopied tables w own number operand
  AreCopied tables w own number (slate.Remapped over place indices) =
      AllCopied tables w own number indices

  pub AllCopied : Tables → Where → Own → ℕ → Slates → Type 0
  AllCopied tables w own number NoSlate = Unit {0}
  AllCopied tables w own number (ThenSlate first rest) =
      AreCopied tables w own number first
      × AllCopied tables w own (number + copies_of first) rest

-- ---- the slots of slates

-- so many numbers, from one on
abbrev pub numbers_from : ℕ → ℕ → List ℕ
numbers_from first zero = []
numbers_from first (suc count) = first ∷ numbers_from (suc first) count

-- the slots that copies are filled with
abbrev mutual
  pub copy_slots : Slate → List ℕ
  copy_slots (slate.Constant value) = []
  copy_slots (slate.Variable place) = []
  copy_slots (slate.Coordinate k) = []
  copy_slots (slate.Element slot place shift) = []
  copy_slots (slate.Wrapped slot place home shift copy first) =
      numbers_from first (border_slots shift)
  copy_slots (slate.Unary operator operand) = copy_slots operand
  copy_slots (slate.Binary operator left right) = copy_slots left ++ copy_slots right
  copy_slots (slate.Folded operator over operand) = copy_slots operand
  copy_slots (slate.PartFolded operator over source operand) = copy_slots operand
  copy_slots (slate.Scanned operator along over operand) = copy_slots operand
  copy_slots (slate.Flooded over source operand) = copy_slots operand
  copy_slots (slate.Remapped over place indices) = all_copy_slots indices

  pub all_copy_slots : Slates → List ℕ
  all_copy_slots NoSlate = []
  all_copy_slots (ThenSlate first rest) = copy_slots first ++ all_copy_slots rest

-- Operators take the tuples of their operands from other slots than these.
abbrev mutual
  pub TakesOthers : List ℕ → Slate → Type 0
  TakesOthers own (slate.Constant value) = Unit {0}
  TakesOthers own (slate.Variable place) = Unit {0}
  TakesOthers own (slate.Coordinate k) = Unit {0}
  TakesOthers own (slate.Element slot place shift) = Unit {0}
  TakesOthers own (slate.Wrapped slot place home shift copy first) = Unit {0}
  TakesOthers own (slate.Unary operator operand) = TakesOthers own operand
  TakesOthers own (slate.Binary operator left right) =
      TakesOthers own left × TakesOthers own right
  TakesOthers own (slate.Folded operator over operand) =
      Misses own over.slot × TakesOthers own operand
  TakesOthers own (slate.PartFolded operator over source operand) =
      Misses own source.slot × TakesOthers own operand
  TakesOthers own (slate.Scanned operator along over operand) = TakesOthers own operand
  TakesOthers own (slate.Flooded over source operand) =
      Misses own source.slot × TakesOthers own operand
  TakesOthers own (slate.Remapped over place indices) = AllTakeOthers own indices

  pub AllTakeOthers : List ℕ → Slates → Type 0
  AllTakeOthers own NoSlate = Unit {0}
  AllTakeOthers own (ThenSlate first rest) = TakesOthers own first × AllTakeOthers own rest

-- ---- what expressions that are settled have of the statement's own

-- current regions are in other slots
abbrev pub IsMissed : List ℕ → Option Slotted → Type 0
IsMissed own None = Unit {0}
IsMissed own (Some slotted) = Misses own slotted.slot

pub record AreMissed (own : List ℕ) (currents : SlotCurrents) : Type 0 where
  pub one : IsMissed own currents.one
  pub two : IsMissed own currents.two
  pub three : IsMissed own currents.three

-- the region under which an expression stands is in another slot
abbrev pub IsMissedSite : List ℕ → Site → Type 0
IsMissedSite own Alone = Unit {0}
IsMissedSite own (Under over region) = Misses own over.slot

-- The copies are stored behind so many arrays, of which the program's are, and before the
-- statement's temporaries. Of the slots that were free those that they are filled with are the
-- statement's own, and no others; nor are those of declared and current regions.
pub record HasCopies (tables : Tables) (w : Where) (own : Own) (slot number : ℕ) (slots : List ℕ)
    (copies : List Region) (filled : List ℕ) : Type 0 where
  pub arrays : ℕ
  pub apart : (k : ℕ) → arrays ≤ k → Misses (array_numbers w.numbers.arrays) k
  pub stored : CopiesAt tables.arrays arrays own.temps number copies
  pub owned : (k : ℕ) → Misses own.slots k → Misses filled k
  pub others : (k : ℕ) → slot ≤ k → k < slot + length slots → Misses filled k → Misses own.slots k
  pub declared : (k : ℕ) → k < length w.setup.known.regions → Misses own.slots k
  pub currents : AreMissed own.slots w.currents
