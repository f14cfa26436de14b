-- Checks of places that always pass.
use Rattle.std.specs.Prelude.{◌≡◌, ℕ, ◌==◌, Bool, true, false, not, ◌||◌, ℤ, Option, Some, None}
use Rattle.std.specs.Prelude.{List, All, slice_get}
use Rattle.std.specs.List.{list_all}
use Rattle.node_form.specs.of_zpl_region.declared.regions.Region.{Region}
use Rattle.node_form.specs.of_zpl_arrays.Reference.{is_reference}
use Rattle.node_form.specs.declared.arrays.ArrayRow.{ArrayRow}
use Rattle.node_form.specs.declared.instructions.Instr.{Instr}
use Rattle.node_form.specs.declared.instructions.Instr.TheVariants as instr
use Rattle.node_form.specs.declared.tables.Tables.{Tables}
use Rattle.node_form.specs.Fits.{storage_of}

abbrev pub is_within : List ℤ → Region → Option ArrayRow → Bool
is_within shift region None = false
is_within shift region (Some row) = is_reference shift region (storage_of row)

-- the `need` of an array passes for this region
abbrev pub passes : Tables → ℕ → List ℤ → Region → Bool
passes tables array shift region = is_within shift region (slice_get tables.arrays array)

-- the row, where it writes the slot, is a `fix` of a region for which the `need` passes
abbrev pub leaves_passing : Tables → ℕ → ℕ → List ℤ → Instr → Bool
leaves_passing tables slot array shift (instr.Fix other region) =
    not (other == slot) || passes tables array shift region
leaves_passing tables slot array shift (instr.Dims other parts line) = not (other == slot)
leaves_passing tables slot array shift (instr.Formed form other from by line) =
    not (other == slot)
leaves_passing tables slot array shift row = true

-- a `need` whose slot is written by `fix` rows alone, and which passes for each of their regions
abbrev pub is_decided : Tables → Instr → Bool
is_decided tables (instr.Need slot array shift line) =
    list_all (leaves_passing tables slot array shift) tables.code
is_decided tables row = false

-- none is left
abbrev pub IsUndecided : Tables → Type 0
IsUndecided tables = All (λ row. is_decided tables row ≡ false) tables.code
