-- References as gates: whether each lies in the storage of its array.
use Rattle.std.specs.Prelude.{◌≡◌, Bool, true, false, ℕ, ℤ, List, Option, Some, None, slice_get}
use Rattle.zpl_nums.specs.declared.ends.End.TheVariants.{Trap}
use Rattle.zpl_nums.specs.declared.ends.TrapKind.TheVariants.{OutsideStorage}
use Rattle.zpl_region.specs.declared.regions.Region.{Region}
use Rattle.zpl_arrays.specs.Reference.{is_reference}
use Rattle.node_form.specs.declared.arrays.ArrayRow.{ArrayRow}
use Rattle.node_form.specs.declared.tables.Tables.{Tables}
use Rattle.node_form.specs.Fits.{storage_of}
use Rattle.row_runs.specs.Run.{Ends}
use Rattle.row_runs.specs.Structured.{Course, Over, closes}
use Rattle.lowering_runs.specs.of_flat_form.Whole.{Whole}
use Rattle.lowering_runs.specs.of_zpl_lowering.Reference.{Reference}

-- its slot and its array are there
pub record IsThere (tables : Tables) (whole : Whole) (one : Reference) : Type 0 where
  pub region : Region
  pub row : ArrayRow
  pub in_slot : slice_get whole.slots one.slot ≡ Some region
  pub in_tables : slice_get tables.arrays one.array ≡ Some row

abbrev pub lies : List ℤ → Option Region → Option ArrayRow → Bool
lies shift (Some region) (Some row) = is_reference shift region (storage_of row)
lies shift (Some region) None = false
lies shift None row = false

abbrev pub holds : Tables → Whole → Reference → Bool
holds tables whole one =
    lies one.shift (slice_get whole.slots one.slot) (slice_get tables.arrays one.array)

-- a run behind a condition on references
abbrev pub gate : Bool → ℕ → Whole → Course Whole → Course Whole
gate true line whole course = course
gate false line whole course = closes (Over (Ends (Trap OutsideStorage line))) whole
