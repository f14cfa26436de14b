-- Changes that are taken back: scalars, cells and places of arrays get their old values again.
use Rattle.std.specs.Prelude.{ℕ, ℤ, List, [], ◌∷◌, Option, Some, None, slice_get, slice_set}
use Rattle.grid_meaning.specs.of_zpl_arrays.Array.{Array}
use Rattle.grid_meaning.specs.of_node_form.Group.{Point}
use Rattle.node_local.specs.declared.changes.Change.{Change}
use Rattle.node_local.specs.declared.changes.Change.TheVariants.{Scalar, Cell, Place}

-- an array with another value in a row
abbrev pub with_place : List Array → ℕ → ℕ → ℤ → Option Array → List Array
with_place stores array place value (Some store) =
    slice_set stores array (record store { values = slice_set store.values place value })
with_place stores array place value None = stores

abbrev pub taken_back : Change → Point (List Array) → Point (List Array)
taken_back (Scalar scalar old) point =
    record point { scalars = slice_set point.scalars scalar old }
taken_back (Cell cell old) point = record point { cells = slice_set point.cells cell old }
taken_back (Place array place old) point =
    record point { store = with_place point.store array place old (slice_get point.store array) }

-- all changes, the newest first
abbrev pub undone : List Change → Point (List Array) → Point (List Array)
undone [] point = point
undone (change ∷ changes) point = undone changes (taken_back change point)
