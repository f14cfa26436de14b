-- Flat programs whose plans may be arranged.
use Rattle.std.specs.Prelude.{◌≡◌, All, length}
use Rattle.node_form.specs.declared.arrays.ArrayRow.{ArrayRow}
use Rattle.node_form.specs.declared.tables.Tables.{Tables}
use Rattle.flat_form.specs.Flat.{IsFlat}
use Rattle.plan_passes.specs.of_needs_runs.Agree.{HasThreeOf}
use Rattle.plan_passes.specs.of_needs_runs.Sharable.{HasThreeIn}
use Rattle.stored_shifts.specs.Stored.{ShiftsAreStored}

-- What a program's types give the tables of its flat program: what is of three has three. Shifts
-- stand in words there, and are not exchanged yet.
pub record HasFlatThrees (tables : Tables) : Type 0 where
  pub arrays : All (λ (row : ArrayRow). length row.dims ≡ 3) tables.arrays
  pub rows : All HasThreeOf tables.code
  pub words : All (λ words. All HasThreeIn words) tables.exprs

-- It is a flat program, reads stored arrays alone with a shift, and what is of three has three.
pub record IsPlannable (tables : Tables) : Type 0 where
  pub flat : IsFlat tables
  pub stored : ShiftsAreStored tables
  pub threes : HasFlatThrees tables
