-- The places of an array, by the dimensions that its line has.
use Rattle.std.specs.Prelude.{ℕ, ◌-◌, List, ◌++◌, map, replicate}
use Rattle.zpl_region.specs.declared.dims.Dim.{Dim}
use Rattle.zpl_region.specs.declared.dims.Dim.TheVariants as dim
use Rattle.zpl_region.specs.declared.regions.Region.{Region}
use Rattle.zpl_region.specs.Hull.{all_from}
use Rattle.zpl_region.specs.Region.{padding}
use Rattle.save_lines.specs.declared.lines.BoxDim.{BoxDim}
use Rattle.save_lines.specs.declared.lines.BoxDim.TheVariants.{Range, Star}

abbrev pub side_of : BoxDim → Dim
side_of (Range lo hi) = all_from lo hi
side_of Star = dim.Flood

-- the box with these sides, padded
abbrev pub box_with : ℕ → List BoxDim → Region
box_with rank sides = record { rank = rank; dims = map side_of sides ++ replicate (3 - rank) padding }
