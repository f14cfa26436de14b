-- What the type of tables gives: vectors have three components, and arrays and regions three
-- dimensions.
use Rattle.std.specs.Prelude.{All}
use Rattle.node_form.specs.declared.tables.Tables.{Tables}
use Rattle.contracted_runs.specs.Three.{HaveThreeDims}
use Rattle.needs_runs.specs.Agree.{HasThreeOf}
use Rattle.needs_runs.specs.Sharable.{HasThreeIn}

pub record HasThrees (tables : Tables) : Type 0 where
  pub rows : All HasThreeOf tables.code
  pub arrays : HaveThreeDims tables
  pub words : All (λ words. All HasThreeIn words) tables.exprs
