-- The words of held boxes, up to and with an array.
use Rattle.std.specs.Prelude.{◌≡◌, ℕ, ◌+◌, ◌≤◌, ◌<◌, Bool, true, false, List, [], ◌∷◌, ◌++◌, length, drop, flat_map, sum_by}
use Rattle.node_form.specs.declared.arrays.ArrayRow.{ArrayRow}
use Rattle.node_form.specs.declared.tables.Tables.{Tables}
use Rattle.grid_layout.specs.declared.blocks.Blocks.{Blocks}
use Rattle.grid_layout.specs.declared.boxes.ArrayBox.{ArrayBox}
use Rattle.grid_layout.specs.Layout.{blocks_of}
use Rattle.grid_layout.specs.Words.{box_words}
use Rattle.grid_meaning.specs.Stored.{box_of}
use Rattle.listing_rows.specs.of_listing_lines.declared.lines.Line.{Line}

-- the box of an array, if it is a stored one
abbrev pub stored_box : Bool → ArrayRow → List ArrayBox
stored_box true row = box_of row ∷ []
stored_box false row = []

abbrev pub boxes_of : List ArrayRow → List ArrayBox
boxes_of rows = flat_map (λ row. stored_box row.stored row) rows

-- three dimensions, as the code's lists have them
abbrev pub HasThree : ArrayRow → Type 0
HasThree row = length row.dims ≡ 3

-- the blocks in which all stored arrays lie
abbrev pub blocks_for : Tables → Blocks
blocks_for tables = blocks_of tables.grid (boxes_of tables.arrays)

-- the words of the held boxes of these arrays among them
abbrev pub words_in : Tables → List ArrayRow → ℕ
words_in tables rows = sum_by (box_words (blocks_for tables)) (boxes_of rows)

pub record HasRoom (tables : Tables) : Type 0 where
  pub within : words_in tables tables.arrays ≤ 16777216

-- up to and with this array there are too many words, and up to the one before it there aren't
pub record LacksRoom (lines : List Line) (tables : Tables) (left : List Line) : Type 0 where
  pub front : List ArrayRow
  pub row : ArrayRow
  pub behind : List ArrayRow
  pub split : tables.arrays ≡ front ++ row ∷ behind
  pub before : words_in tables front ≤ 16777216
  pub past : 16777216 < words_in tables (front ++ row ∷ [])
  pub here : left ≡ drop (5 + length front) lines
