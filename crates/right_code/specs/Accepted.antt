-- Programs that are accepted with what they are built for.
use Rattle.zpl_tree.specs.Syntax.{Program}
use Rattle.zpl_tree.specs.Grammar.{IsProgram}
use Rattle.zpl_names.specs.Accepted.{IsFaultless}
use Rattle.zpl_binding.specs.Bound.{IsAcceptedWith}
use Rattle.node_form.specs.Grid.{IsGrid}
use Rattle.owed_tables.specs.of_lowered_flat.Apart.{NamesStandApart}
use Rattle.zpl_claims.specs.Build.{Build}

-- A program of the grammar without faults, the names of whose arrays stand at different offsets,
-- as they do in a text, with settings that it accepts, for a grid.
pub record IsAccepted (program : Program) (build : Build) : Type 0 where
  pub grammar : IsProgram program
  pub faultless : IsFaultless program
  pub apart : NamesStandApart program
  pub settings : IsAcceptedWith program build.settings
  pub grid : IsGrid build.grid
