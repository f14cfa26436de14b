-- Flat programs whose plans show what they show.
--
--   PutsNoneShifted, HasThreeIn   what a program owes beside what its flat run tests
--   IsSharable                    all that it owes
--   PlansKeepRuns                 then the plan for each grid shows what the flat program shows
use Rattle.std.specs.Prelude.{◌≡◌, ℕ, true, false, List, All, length, Option}
use Rattle.node_form.specs.declared.arrays.ArrayRow.{ArrayRow}
use Rattle.node_form.specs.declared.words.ExprOp.{ExprOp}
use Rattle.node_form.specs.declared.words.ExprOp.TheVariants as word
use Rattle.node_form.specs.declared.tables.Tables.{Tables}
use Rattle.node_form.specs.Fits.{Fits}
use Rattle.node_form.specs.Grid.{IsGrid}
use Rattle.code_parts.specs.Early.{is_roomy}
use Rattle.code_parts.specs.Uses.{put_arrays, share, shifted_arrays}
use Rattle.row_runs.specs.Segments.{Keeps}
use Rattle.plan_meaning.specs.of_flat_form.Act.{flat_run}
use Rattle.plan_meaning.specs.of_flat_form.Flat.{IsFlatRow}
use Rattle.plan_meaning.specs.of_flat_form.Static.{HasFringes, HasOneUnitALoop, KeepsCells}
use Rattle.plan_meaning.specs.Act.{plan_run}
use Rattle.comm_needs.specs.Needs.{planned}
use Rattle.stored_shifts.specs.Stored.{ShiftsAreStored}
use Rattle.needs_runs.specs.Agree.{HasThreeOf}

-- A group puts no array that it reads with a shift: a processor would read at a tuple what it has
-- put at another one.
abbrev pub PutsNoneShifted : Tables → Type 0
PutsNoneShifted tables =
    (group : ℕ) → share (put_arrays tables group) (shifted_arrays tables group) ≡ false

-- a vector has three components, as a program's types give it
abbrev pub HasThreeIn : ExprOp → Type 0
HasThreeIn (word.Shifted array shift) = length shift ≡ 3
HasThreeIn other = Unit {0}

pub record IsSharable (tables : Tables) : Type 0 where
  pub fits : Fits tables
  pub flat : All IsFlatRow tables.code
  pub three_rows : All HasThreeOf tables.code
  pub three_arrays : All (λ (row : ArrayRow). length row.dims ≡ 3) tables.arrays
  pub three_words : All (λ words. All HasThreeIn words) tables.exprs
  pub fringes : HasFringes tables
  pub units : HasOneUnitALoop tables
  pub cells : KeepsCells tables
  pub apart : PutsNoneShifted tables
  pub stored : ShiftsAreStored tables

-- Over links that hold a message, and for every bound on jumps and on the turns of loops in groups.
-- So the plan's run isn't wrong where the flat program's isn't.
abbrev pub PlansKeepRuns : Type 0
PlansKeepRuns =
    (tables : Tables) (grid : List ℕ) (links : Option ℕ) → IsSharable tables → IsGrid grid
    → is_roomy links 0 ≡ true → (a n : ℕ)
    → Keeps (flat_run tables a n) (plan_run (planned grid tables) links a n)
