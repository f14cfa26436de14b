-- What the type of tables gives: arrays, regions that stand in rows, and the parts of regions that
-- are made of values, have three dimensions.
use Rattle.std.specs.Prelude.{◌≡◌, All, length}
use Rattle.node_form.specs.declared.instructions.Instr.{Instr}
use Rattle.node_form.specs.declared.instructions.Instr.TheVariants as instr
use Rattle.node_form.specs.declared.tables.Tables.{Tables}
use Rattle.contracted_runs.specs.Three.{HaveThreeDims}

abbrev pub HasThreeDims : Instr → Type 0
HasThreeDims (instr.Fix slot region) = length region.dims ≡ 3
HasThreeDims (instr.Dims slot parts line) = length parts ≡ 3
HasThreeDims row = Unit {0}

pub record IsTyped (tables : Tables) : Type 0 where
  pub arrays : HaveThreeDims tables
  pub rows : All HasThreeDims tables.code
