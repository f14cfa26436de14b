-- The state of a flat run, in which each array is whole.
use Rattle.std.specs.Prelude.{ℕ, ℤ, pos, Bool, true, false, List, map, replicate, Option, None}
use Rattle.std.specs.Prelude.{slice_set}
use Rattle.code_parts.specs.of_zpl_nums.declared.folds.Fold.{Fold}
use Rattle.code_parts.specs.of_zpl_region.declared.regions.Region.{Region}
use Rattle.code_parts.specs.of_zpl_arrays.Array.{Array}
use Rattle.grid_meaning.specs.of_node_form.declared.arrays.ArrayRow.{ArrayRow}
use Rattle.grid_meaning.specs.of_node_form.declared.tables.Tables.{Tables}
use Rattle.grid_meaning.specs.of_node_form.Control.{Registers}
use Rattle.grid_meaning.specs.of_node_form.Fits.{storage_of}
use Rattle.grid_meaning.specs.Room.{zeros_at}
use Rattle.grid_meaning.specs.Stored.{no_places}

-- The scalars; of each scalar the operator of the fold that is still to come, where a loop has
-- accumulated it; the regions of the slots; and the arrays. A stored array has its storage, and a
-- temporary its room: the region of its last `room`.
pub record Whole : Type 0 where
  pub scalars : List ℤ
  pub awaited : List (Option Fold)
  pub slots : List Region
  pub stores : List Array

abbrev pub registers_of : Whole → Registers
registers_of whole = record { scalars = whole.scalars; slots = whole.slots }

abbrev pub with_registers : Whole → Registers → Whole
with_registers whole registers =
    record whole { scalars = registers.scalars; slots = registers.slots }

abbrev pub with_store : Whole → ℕ → Array → Whole
with_store whole array store = record whole { stores = slice_set whole.stores array store }

-- ---- the start: all values are 0, slots are without tuples, and temporaries without a room
abbrev pub start_places : ArrayRow → Bool → Region
start_places row true = storage_of row
start_places row false = no_places row.rank

abbrev pub start_whole : Tables → Whole
start_whole tables = record {
  scalars = replicate tables.scalars (pos 0);
  awaited = replicate tables.scalars None;
  slots = map no_places tables.slots;
  stores = map (λ row. zeros_at (start_places row row.stored)) tables.arrays;
}
