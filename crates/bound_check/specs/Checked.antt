-- Checks of places that always pass are left out.
use Rattle.std.specs.Prelude.{Bool, not, filter, if◌then◌else◌, List, [], ◌∷◌}
use Rattle.flat_passes.specs.of_node_form.declared.instructions.Instr.{Instr}
use Rattle.flat_passes.specs.of_node_form.declared.tables.Tables.{Tables}
use Rattle.flat_passes.specs.of_code_parts.Needs.{is_decided}
use Rattle.flat_passes.specs.Rewritten.{rewritten_code}

-- A row stays unless it is a `need` whose slot is written by `fix` rows alone, and which passes for
-- each of their regions. Of each slot one walk over the code notes these regions, or that another
-- row writes it; a `need` is then held against the regions of its slot.
abbrev pub stays : Tables → Instr → Bool
stays tables row = not (is_decided tables row)

abbrev pub checked : Tables → Tables
checked tables = record tables { code = rewritten_code (filter (stays tables)) tables.code }

-- the rows that take the place of one
abbrev pub rows_stayed : Tables → Instr → List Instr
rows_stayed tables row = if stays tables row then row ∷ [] else []
