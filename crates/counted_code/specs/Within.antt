-- The counting cell in lock step.
use Rattle.std.specs.Prelude.{◌≡◌, ℕ, ◌<◌, ◌≤◌, pos, slice_get, Some}
use Rattle.node_form.specs.declared.tables.Tables.{Tables}
use Rattle.grid_meaning.specs.Local.{processors}
use Rattle.plan_meaning.specs.Abreast.{Abreast, Share}

-- it is a number up to n
pub record IsWithin (n cell : ℕ) (share : Share) : Type 0 where
  pub count : ℕ
  pub few : count ≤ n
  pub here : slice_get share.cells cell ≡ Some (pos count)

-- on each processor
abbrev pub AreWithin : ℕ → Tables → Abreast → Type 0
AreWithin n code all = (p : ℕ) → p < processors code → IsWithin n code.cells (all.shares p)
