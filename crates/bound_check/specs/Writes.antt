-- What the rows of a program write into slots.
use Rattle.std.specs.Prelude.{ℕ, ◌==◌, Bool, true, false, Option, Some, None, if◌then◌else◌}
use Rattle.std.specs.Prelude.{List, [], ◌∷◌, ◌++◌, flat_map, fold, replicate, slice_index_or, slice_set}
use Rattle.std.specs.Prelude.{ℤ}
use Rattle.zpl_region.specs.declared.regions.Region.{Region}
use Rattle.flat_passes.specs.of_node_form.declared.instructions.Instr.{Instr}
use Rattle.flat_passes.specs.of_node_form.declared.instructions.Instr.TheVariants as instr
use Rattle.flat_passes.specs.of_node_form.declared.tables.Tables.{Tables}
use Rattle.flat_passes.specs.of_node_form.declared.arrays.ArrayRow.{ArrayRow}
use Rattle.flat_passes.specs.of_code_parts.Needs.{is_within}
use Rattle.bound_check.specs.declared.writes.Write.{Write}

-- the region of a `fix`, or none that is known before the run
abbrev pub write_of : Instr → Option Write
write_of (instr.Fix slot region) = Some (record { slot = slot; region = Some region })
write_of (instr.Dims slot parts line) = Some (record { slot = slot; region = None })
write_of (instr.Formed form slot from shift line) = Some (record { slot = slot; region = None })
write_of row = None

-- ---- of all slots
abbrev pub with_write : List (List (Option Region)) → ℕ → Option Region
    → List (List (Option Region))
with_write lists slot region =
    slice_set lists slot (slice_index_or lists slot [] ++ region ∷ [])

abbrev pub noted : List (List (Option Region)) → Option Write → List (List (Option Region))
noted lists None = lists
noted lists (Some write) = with_write lists write.slot write.region

abbrev pub noted_from : List (List (Option Region)) → List Instr → List (List (Option Region))
noted_from lists [] = lists
noted_from lists (row ∷ rows) = noted_from (noted lists (write_of row)) rows

abbrev pub all_noted : ℕ → List Instr → List (List (Option Region))
all_noted slots code = noted_from (replicate slots []) code

-- ---- of one
abbrev pub if_into : ℕ → Option Write → List (Option Region)
if_into slot None = []
if_into slot (Some write) = if write.slot == slot then write.region ∷ [] else []

abbrev pub writes_into : ℕ → List Instr → List (Option Region)
writes_into slot rows = flat_map (λ row. if_into slot (write_of row)) rows

-- a `need` of an array passes for what is written
abbrev pub passes_within : List ℤ → ArrayRow → Option Region → Bool
passes_within shift row None = false
passes_within shift row (Some region) = is_within shift region (Some row)
