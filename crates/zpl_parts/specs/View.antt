-- The parts in memory, seen as plain parts.
use Rattle.std.specs.Prelude.{List, map}
use Rattle.zpl_binding.specs.of_zpl_tree.View.{name_of, dir_of, exprs_of}
use Rattle.zpl_parts.specs.declared.parts.Part.{Part}
use Rattle.zpl_parts.specs.declared.parts.Part.TheVariants.{Vector, Border, Around, Call}
use Rattle.zpl_parts.specs.declared.parts.Parts.{Parts}
use Rattle.zpl_parts.specs.Part as plain

abbrev pub part_of : Part → plain.Part
part_of (Vector parts) = plain.VectorPart (exprs_of parts.now)
part_of (Border direction region) =
    plain.BorderPart (record { direction = name_of direction; region = name_of region })
part_of (Around array shift) = plain.AroundPart (name_of array) (dir_of shift)
part_of (Call name actuals) = plain.CallPart (name_of name) (exprs_of actuals.now)

abbrev pub seen : Parts → List plain.Part
seen parts = map part_of parts.items.items
