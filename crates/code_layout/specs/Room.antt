-- How much memory the stored arrays of a program may take.
use Rattle.std.specs.Prelude.{◌≤◌}
use Rattle.grid_layout.specs.Words.{words_of}
use Rattle.grid_meaning.specs.Stored.{arrangement_of}
use Rattle.grid_meaning.specs.of_node_form.declared.tables.Tables.{Tables}

-- the boxes that processors hold of the stored arrays have at most 16,777,216 words, on all
-- processors together
abbrev pub HasRoom : Tables → Type 0
HasRoom code = words_of (arrangement_of code) ≤ 16777216
