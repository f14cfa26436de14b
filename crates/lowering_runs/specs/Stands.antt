-- What holds where a statement is lowered, what holds of a state there, and what the statement's
-- code keeps of it.
use Rattle.std.specs.Prelude.{◌≡◌, ◌≢◌, ℕ, suc, ◌+◌, ◌<◌, ◌≤◌, Bool, true, List, [], ◌∷◌, length, map, Option, Some, None, slice_get}
use Rattle.zpl_nums.specs.Integer.{IsInteger}
use Rattle.lowering_fits.specs.of_zpl_binding.Outcome.{Computed, value_or}
use Rattle.lowering_fits.specs.of_zpl_binding.Regions.{Known, no_region}
use Rattle.zpl_region.specs.declared.regions.Region.{Region}
use Rattle.zpl_region.specs.Region.{IsRegion}
use Rattle.lowering_fits.specs.of_zpl_meaning.Store.{Thing, Scalar, ArrayAt, Fixed, Names, Store}
use Rattle.node_form.specs.declared.arrays.ArrayRow.{ArrayRow}
use Rattle.node_form.specs.declared.tables.Tables.{Tables}
use Rattle.node_form.specs.Fits.{storage_of}
use Rattle.row_runs.specs.Straight.{Every}
use Rattle.lowering_fits.specs.of_flat_form.Whole.{Whole}
use Rattle.lowering_fits.specs.of_flat_form.States.{IsWhole}
use Rattle.lowering_fits.specs.of_flat_form.Right.{is_settled}
use Rattle.lowering_fits.specs.of_zpl_lowering.Where.{Stored, Slotted, SlotCurrents, SlotEdge, Where, Next, flood_of}
use Rattle.lowering_fits.specs.of_zpl_lowering.Hoist.{Shifted}
use Rattle.lowering_fits.specs.of_zpl_lowering.Lowered.{Lowered}
use Rattle.lowering_fits.specs.of_zpl_lowering.Tables.{stored_row, temp_row}
use Rattle.lowering_runs.specs.Seen.{array_in, scalar_in, slot_in, Spot, seen_store, seen_names, numbered}

-- ---- numbers

-- they rise, from one on, and are below another
abbrev pub Rises : ℕ → List ℕ → ℕ → Type 0
Rises from [] to = from ≤ to
Rises from (k ∷ numbers) to = (from ≤ k) × Rises (suc k) numbers to

abbrev pub Misses : List ℕ → ℕ → Type 0
Misses [] k = Unit {0}
Misses (number ∷ numbers) k = (number ≢ k) × Misses numbers k

-- what is free there is free here
pub record IsBefore (next after : Next) : Type 0 where
  pub scalars : next.scalars ≤ after.scalars
  pub slots : next.slots ≤ after.slots
  pub arrays : next.arrays ≤ after.arrays

-- ---- names

-- what a name stands for is there, among so many scalars and arrays
abbrev pub IsKnown : ℕ → ℕ → Thing → Type 0
IsKnown scalars arrays (Scalar place) = place < scalars
IsKnown scalars arrays (ArrayAt place home) = place < arrays
IsKnown scalars arrays (Fixed value) = IsInteger value

abbrev pub AreKnown : ℕ → ℕ → Names → Type 0
AreKnown scalars arrays [] = Unit {0}
AreKnown scalars arrays (entry ∷ names) =
    IsKnown scalars arrays entry.1 × AreKnown scalars arrays names

-- ---- current regions: their slots have been filled

abbrev pub IsTaken : Option Slotted → ℕ → Type 0
IsTaken None slots = Unit {0}
IsTaken (Some slotted) slots = slotted.slot < slots

abbrev pub IsTakenEdge : Option SlotEdge → ℕ → Type 0
IsTakenEdge None slots = Unit {0}
IsTakenEdge (Some edge) slots = edge.slot < slots

pub record AreTaken (currents : SlotCurrents) (slots : ℕ) : Type 0 where
  pub one : IsTaken currents.one slots
  pub two : IsTaken currents.two slots
  pub three : IsTaken currents.three slots

-- ---- where a statement is lowered

-- the numbers of arrays
abbrev pub array_numbers : List Stored → List ℕ
array_numbers arrays = map (λ stored. stored.array) arrays

-- The scalars that the place knows are those of the store that code has; they rise, below those that
-- are free, and so do arrays and slots.
pub record Stands (spots : List Spot) (w : Where) (next : Next) : Type 0 where
  pub numbers : numbered spots ≡ w.numbers.scalars
  pub rises : Rises 0 (numbered spots) next.scalars
  pub known : AreKnown (length (numbered spots)) (length w.numbers.arrays) w.environment.names
  -- the global names stand for what the meaning has, wherever they are seen
  pub globals : AreKnown (length (numbered spots)) (length w.numbers.arrays) w.setup.globals
  pub unmoved : seen_names spots w.setup.globals ≡ w.setup.globals
  pub taken : AreTaken w.currents next.slots
  pub edge : IsTakenEdge w.edge next.slots
  -- declared regions have the first slots
  pub declared : length w.setup.known.regions ≤ next.slots
  pub stored : Rises 0 (array_numbers w.numbers.arrays) next.arrays

-- slots have these ranks, from a number on
abbrev pub SlotsAt : List ℕ → ℕ → List ℕ → Type 0
SlotsAt slots k [] = Unit {0}
SlotsAt slots k (rank ∷ ranks) = (slice_get slots k ≡ Some rank) × SlotsAt slots (suc k) ranks

-- stored arrays have these storages, from a number on, with some fringes
abbrev pub RowsAt : List ArrayRow → ℕ → List Region → Type 0
RowsAt rows k [] = Unit {0}
RowsAt rows k (storage ∷ storages) =
    ((shifts : List Shifted) × (slice_get rows k ≡ Some (stored_row k shifts storage)))
    × RowsAt rows (suc k) storages

-- temporaries have these flood dimensions, from a number on
abbrev pub TempsAt : List ArrayRow → ℕ → List (List Bool) → Type 0
TempsAt rows k [] = Unit {0}
TempsAt rows k (flood ∷ temps) =
    (slice_get rows k ≡ Some (temp_row flood)) × TempsAt rows (suc k) temps

-- copies have these storages, from a number on, behind so many arrays and before temporaries
abbrev pub CopiesAt : List ArrayRow → ℕ → ℕ → ℕ → List Region → Type 0
CopiesAt rows arrays temps k [] = Unit {0}
CopiesAt rows arrays temps k (storage ∷ copies) =
    (arrays ≤ k) × (k < temps)
    × ((shifts : List Shifted) × (slice_get rows k ≡ Some (stored_row k shifts storage)))
    × CopiesAt rows arrays temps (suc k) copies

-- There is room in the tables for what code has of its own. Copies come behind its arrays: those of
-- the procedure that it stands in, and those of calls.
pub record HasRoom (tables : Tables) (next : Next) (own : Lowered) : Type 0 where
  pub scalars : next.scalars + own.scalars ≤ tables.scalars
  pub slots : SlotsAt tables.slots next.slots own.slots
  pub arrays : RowsAt tables.arrays next.arrays own.arrays
  pub copies : CopiesAt tables.arrays (next.arrays + length own.arrays) next.temps next.copies
      own.copies
  pub later : CopiesAt tables.arrays (next.arrays + length own.arrays) next.temps next.later
      own.later
  pub temps : TempsAt tables.arrays next.temps own.temps

-- ---- arrays and current regions

-- the tables have it, stored, with this storage
pub record IsStored (tables : Tables) (stored : Stored) : Type 0 where
  pub row : ArrayRow
  pub found : slice_get tables.arrays stored.array ≡ Some row
  pub kept : row.stored ≡ true
  pub three : length row.dims ≡ 3
  pub storage : storage_of row ≡ stored.storage

abbrev pub AreStored : Tables → List Stored → Type 0
AreStored tables [] = Unit {0}
AreStored tables (stored ∷ arrays) = IsStored tables stored × AreStored tables arrays

-- The slot has a region of this rank, with flood dimensions where that is known before the run.
pub record IsCurrent (slots : List Region) (rank : ℕ) (slotted : Slotted) : Type 0 where
  pub region : Region
  pub found : slice_get slots slotted.slot ≡ Some region
  pub is : IsRegion region
  pub three : length region.dims ≡ 3
  pub ranked : region.rank ≡ rank
  pub flood : flood_of region ≡ slotted.flood

abbrev pub IsCurrentIf : List Region → ℕ → Option Slotted → Type 0
IsCurrentIf slots rank None = Unit {0}
IsCurrentIf slots rank (Some slotted) = IsCurrent slots rank slotted

-- each declared region is in its slot, from a number on
abbrev pub AreDeclared : ℕ → List (Computed Region) → List Region → Type 0
AreDeclared k [] slots = Unit {0}
AreDeclared k (one ∷ rest) slots =
    (slice_get slots k ≡ Some (value_or no_region one.outcome)) × AreDeclared (suc k) rest slots

-- All arrays of the store are stored ones, each by a number of its own; and declared and current
-- regions are in their slots.
pub record IsHeld (tables : Tables) (known : Known) (arrays : List Stored) (currents : SlotCurrents)
    (slots : List Region) : Type 0 where
  pub stored : AreStored tables arrays
  pub apart : Rises 0 (array_numbers arrays) (length tables.arrays)
  pub one : IsCurrentIf slots 1 currents.one
  pub two : IsCurrentIf slots 2 currents.two
  pub three : IsCurrentIf slots 3 currents.three
  pub declared : AreDeclared 0 known.regions slots

-- ---- states

-- between statements no fold is awaited, and all values are integers of 64 bits
pub record IsSound (tables : Tables) (whole : Whole) : Type 0 where
  pub filled : IsWhole tables whole
  pub settled : (k : ℕ) → is_settled whole k ≡ true
  pub integers : (k : ℕ) → IsInteger (scalar_in whole k)
  -- also those of stored arrays
  pub elements : (k : ℕ) (row : ArrayRow) → slice_get tables.arrays k ≡ Some row
      → row.stored ≡ true → Every IsInteger (array_in whole k).values

-- what was taken before and is no variable's stays as it was
pub record Keeps (numbers : List ℕ) (next : Next) (before after : Whole) : Type 0 where
  pub hidden : (k : ℕ) → k < next.scalars → Misses numbers k
      → scalar_in after k ≡ scalar_in before k
  pub slots : (k : ℕ) → k < next.slots → slot_in after k ≡ slot_in before k

-- The store is what is seen of a state, which is sound, and keeps what there was at the start of a
-- statement; arrays and current regions are where code has them.
pub record IsLike (tables : Tables) (spots : List Spot) (w : Where) (next : Next) (start : Whole)
    (store : Store) (whole : Whole) : Type 0 where
  pub seen : store ≡ seen_store spots w.numbers.arrays whole
  pub sound : IsSound tables whole
  pub kept : Keeps (numbered spots) next start whole
  pub held : IsHeld tables w.setup.known w.numbers.arrays w.currents whole.slots
