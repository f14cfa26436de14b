-- The layout of a program's stored arrays.
--
--   no_places        the region of a rank that has no tuples
--   box_of           a stored array as layouts have it
--   arrangement_of   the grid of a program, and its stored arrays
--   box_number       the number of a stored array among these
use Rattle.std.specs.Prelude.{ℕ, ◌-◌, ℤ, pos, List, ◌++◌, filter, length, map, replicate, take}
use Rattle.grid_layout.specs.of_zpl_region.declared.regions.Region.{Region}
use Rattle.grid_layout.specs.of_zpl_region.Hull.{all_from}
use Rattle.grid_layout.specs.of_zpl_region.Region.{padding}
use Rattle.grid_layout.specs.declared.boxes.ArrayBox.{ArrayBox}
use Rattle.grid_layout.specs.Layout.{Arrangement}
use Rattle.node_form.specs.declared.arrays.ArrayDim.{ArrayDim}
use Rattle.node_form.specs.declared.arrays.ArrayDim.TheVariants.{Range, Star}
use Rattle.node_form.specs.declared.arrays.ArrayRow.{ArrayRow}
use Rattle.node_form.specs.declared.tables.Tables.{Tables}
use Rattle.node_form.specs.Fits.{storage_of}

-- each dimension up to the rank is `1..0`: a slot starts with this region, and so a temporary does
abbrev pub no_places : ℕ → Region
no_places rank = record {
  rank = rank;
  dims = replicate rank (all_from (pos 1) (pos 0)) ++ replicate (3 - rank) padding;
}

-- how far beyond its own block a processor holds a dimension
abbrev pub width_below : ArrayDim → ℤ
width_below (Range lo hi low high) = low
width_below Star = pos 0

abbrev pub width_above : ArrayDim → ℤ
width_above (Range lo hi low high) = high
width_above Star = pos 0

abbrev pub box_of : ArrayRow → ArrayBox
box_of row = record {
  shape = storage_of row;
  low = map width_below row.dims;
  high = map width_above row.dims;
}

-- the stored ones among arrays
abbrev pub stored : List ArrayRow → List ArrayRow
stored rows = filter (λ row. row.stored) rows

-- a layout has the stored arrays alone: the one with this number among all arrays has that one
-- there
abbrev pub box_number : Tables → ℕ → ℕ
box_number code array = length (stored (take array code.arrays))

abbrev pub arrangement_of : Tables → Arrangement
arrangement_of code = record { grid = code.grid; boxes = map box_of (stored code.arrays) }
