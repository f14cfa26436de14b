-- The listing of a program.
use Rattle.std.specs.Prelude.{ℕ, List, [], ◌∷◌, ◌++◌, map}
use Rattle.std.specs.List.{flat_map}
use Rattle.listing_lines.specs.of_node_form.declared.tables.Tables.{Tables}
use Rattle.listing_lines.specs.of_node_form.Grid.{factors_of}
use Rattle.listing_lines.specs.declared.keywords.Keyword.TheVariants as key
use Rattle.listing_lines.specs.declared.lines.Line.{Line}
use Rattle.listing_lines.specs.Line.{lines_text}
use Rattle.listing_rows.specs.declared.fields.Said.TheVariants.{Number}
use Rattle.listing_rows.specs.Rows.{line_of, array_line, text_line, expr_line, group_lines, exchange_lines, instr_line}

-- the lines that each listing begins with
abbrev pub head_lines : Tables → List Line
head_lines tables =
    line_of key.Version (Number 1 ∷ []) ∷ line_of key.Grid (map Number (factors_of tables.grid))
    ∷ line_of key.Scalars (Number tables.scalars ∷ []) ∷ line_of key.Slots (map Number tables.slots)
    ∷ line_of key.Cells (Number tables.cells ∷ []) ∷ []

-- the rows that aren't instructions
abbrev pub body_lines : Tables → List Line
body_lines tables =
    map array_line tables.arrays ++ (map text_line tables.texts ++ (map (expr_line tables) tables.exprs
    ++ (flat_map group_lines tables.groups ++ flat_map (exchange_lines tables) tables.exchanges)))

abbrev pub code_lines : Tables → List Line
code_lines tables = line_of key.Code [] ∷ map (instr_line tables) tables.code

unfoldable pub lines_of : Tables → List Line
lines_of tables = head_lines tables ++ (body_lines tables ++ code_lines tables)

-- the bytes of the listing
unfoldable pub listing_of : Tables → List ℕ
listing_of tables = lines_text (lines_of tables)
