-- The tuples of a part, line by line.
use Rattle.std.specs.Prelude.{ℕ, ℤ, pos, List, flat_map, filter, slice_index_or}
use Rattle.zpl_region.specs.declared.regions.Region.{Region}
use Rattle.zpl_region.specs.Region.{members}
use Rattle.zpl_arrays.specs.Array.{place_among}
use Rattle.scan_plan.specs.Line.{heads, is_along}

-- the part's tuples on a line, which is told by its first tuple
abbrev pub on_line : ℕ → Region → List ℤ → List (List ℤ)
on_line k part head = filter (is_along k head) (members part)

abbrev pub line_by_line : ℕ → Region → List (List ℤ)
line_by_line k part = flat_map (on_line k part) (members (heads k part))

-- the value at a tuple, of values that stand in row-major order
abbrev pub value_in : Region → List ℤ → List ℤ → ℤ
value_in part values t = slice_index_or values (place_among part.dims t) (pos 0)
