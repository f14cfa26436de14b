-- The four forms of a region.
use Rattle.std.specs.Prelude.{ℤ, List}
use Rattle.zpl_region.specs.declared.regions.Region.{Region}
use Rattle.zpl_region.specs.Region.{outside_of, inside_of, moved, strided}
use Rattle.zpl_bind.specs.declared.regions.Form.{Form}
use Rattle.zpl_bind.specs.declared.regions.Form.TheVariants.{Of, In, At, By}

abbrev pub formed_as : Form → List ℤ → Region → Region
formed_as Of d region = outside_of d region
formed_as In d region = inside_of d region
formed_as At d region = moved d region
formed_as By d region = strided d region
