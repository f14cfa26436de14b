-- What the type of tables gives: an array has three dimensions.
use Rattle.std.specs.Prelude.{◌≡◌, All, length}
use Rattle.node_form.specs.declared.arrays.ArrayRow.{ArrayRow}
use Rattle.node_form.specs.declared.tables.Tables.{Tables}

abbrev pub HaveThreeDims : Tables → Type 0
HaveThreeDims tables = All (λ (row : ArrayRow). length row.dims ≡ 3) tables.arrays
