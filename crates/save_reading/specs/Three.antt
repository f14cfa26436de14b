-- Arrays as memory holds them: their rows have three dimensions, and at most so many count.
use Rattle.std.specs.Prelude.{◌≡◌, ◌≤◌, length}
use Rattle.node_form.specs.declared.arrays.ArrayRow.{ArrayRow}

pub record HasThree (row : ArrayRow) : Type 0 where
  pub dims : length row.dims ≡ 3
  pub rank : row.rank ≤ 3
