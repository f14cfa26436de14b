-- Programs that are lowered to flat programs.
use Rattle.zpl_tree.specs.Syntax.{Program}
use Rattle.zpl_names.specs.Accepted.{IsFaultless}
use Rattle.flat_form.specs.Flat.{IsFlat}
use Rattle.zpl_lowering.specs.Tables.{flat_tables}
use Rattle.lowering_sizes.specs.Sizes.{HoldsItsWords}
use Rattle.zpl_claims.specs.Build.{Build}

-- The program has no faults, and a source that holds its words, and its lowered tables are a flat
-- program's.
pub record IsLowered (build : Build) (program : Program) : Type 0 where
  pub faultless : IsFaultless program
  pub holds : HoldsItsWords program
  pub flat : IsFlat (flat_tables program build.settings)
