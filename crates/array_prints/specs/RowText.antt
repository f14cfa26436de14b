-- The text of an array by its values in row-major order.
--
--   value_text   the text of one value
--   row_text     of all values over dimensions
use Rattle.std.specs.Prelude.{ℕ, zero, suc, Bool, ℤ, List, [], ◌∷◌, ◌++◌, map, take, drop, if◌then◌else◌}
use Rattle.std.specs.List.{join_with_byte}
use Rattle.zpl_arrays.specs.ArrayText.{number_text, truth_text}
use Rattle.zpl_region.specs.declared.dims.Dim.{Dim}
use Rattle.zpl_region.specs.Ends.{coordinate_count, tuple_count}

-- a truth value, or a number
abbrev pub value_text : Bool → ℤ → List ℕ
value_text truth value = if truth then truth_text value else number_text value

-- the values of a line, with a space (32) between each two
abbrev pub line_text : Bool → List ℤ → List ℕ
line_text truth values = join_with_byte 32 (map (value_text truth) values)

-- so many parts of a row, each of so many values: the text of each, and a newline (10)
abbrev pub parts_text : (List ℤ → List ℕ) → ℕ → ℕ → List ℤ → List ℕ
parts_text text zero size values = []
parts_text text (suc count) size values =
    (text (take size values) ++ (10 ∷ [])) ++ parts_text text count size (drop size values)

abbrev pub row_text : Bool → ℕ → List Dim → List ℤ → List ℕ
row_text truth zero dims values = []
row_text truth (suc zero) dims values = line_text truth values
row_text truth (suc (suc rank)) [] values = []
row_text truth (suc (suc rank)) (dim ∷ dims) values =
    parts_text (row_text truth (suc rank) dims) (coordinate_count dim) (tuple_count dims) values
