-- What a program's types give its tables: what is of three has three.
use Rattle.std.specs.Prelude.{◌≡◌, All, length}
use Rattle.node_form.specs.declared.arrays.ArrayRow.{ArrayRow}
use Rattle.node_form.specs.declared.arrays.Item.{Item}
use Rattle.node_form.specs.declared.tables.Tables.{Tables}
use Rattle.needs_runs.specs.Agree.{HasThreeOf}

pub record HasThrees (tables : Tables) : Type 0 where
  pub arrays : All (λ (row : ArrayRow). length row.dims ≡ 3) tables.arrays
  pub rows : All HasThreeOf tables.code
  pub items : All (λ items. All (λ (item : Item). length item.shift ≡ 3) items) tables.exchanges
