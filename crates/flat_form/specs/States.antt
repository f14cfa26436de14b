-- The states that a run comes to.
use Rattle.std.specs.Prelude.{◌≡◌, ℕ, true, length, List}
use Rattle.std.specs.List.{AllZip}
use Rattle.code_parts.specs.of_zpl_region.Region.{members}
use Rattle.code_parts.specs.of_zpl_arrays.Array.{Array}
use Rattle.grid_meaning.specs.of_node_form.declared.arrays.ArrayRow.{ArrayRow}
use Rattle.grid_meaning.specs.of_node_form.declared.instructions.Instr.{Instr}
use Rattle.grid_meaning.specs.of_node_form.declared.tables.Tables.{Tables}
use Rattle.grid_meaning.specs.of_node_form.Fits.{storage_of}
use Rattle.nest_meaning.specs.of_row_runs.Run.{Goes, Does}
use Rattle.flat_form.specs.Act.{act}
use Rattle.flat_form.specs.Row.{inlined}
use Rattle.flat_form.specs.Whole.{Whole, start_whole}

-- an array has a value at each of its places, and a stored one has those of its storage
pub record IsStoreOf (row : ArrayRow) (store : Array) : Type 0 where
  pub filled : length store.values ≡ length (members store.storage)
  pub placed : row.stored ≡ true → store.storage ≡ storage_of row

-- the state has what the tables say that there is
pub record IsWhole (tables : Tables) (whole : Whole) : Type 0 where
  pub scalars : length whole.scalars ≡ tables.scalars
  pub awaited : length whole.awaited ≡ tables.scalars
  pub slots : length whole.slots ≡ length tables.slots
  pub stores : AllZip IsStoreOf tables.arrays whole.stores

abbrev pub BeginWhole : Type 0
BeginWhole = (tables : Tables) → IsWhole tables (start_whole tables)

abbrev pub StayWhole : Type 0
StayWhole =
    (tables : Tables) (n : ℕ) (row : Instr) (whole next : Whole) (bytes : List ℕ)
    → IsWhole tables whole → act tables n (inlined tables row) whole ≡ Does (Goes bytes next)
    → IsWhole tables next
