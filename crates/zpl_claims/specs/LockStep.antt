-- Orders of turns that bring code, in step, to what its meaning prints within a bound.
use Rattle.std.specs.Prelude.{◌≡◌, ◌≢◌, ℕ, ◌<◌, ◌≤◌, List, length, Option}
use Rattle.zpl_nums.specs.declared.ends.End.TheVariants.{More}
use Rattle.grid_meaning.specs.of_grid_links.Laws.{Reaches}
use Rattle.grid_meaning.specs.of_grid_links.Run.{moves_of}
use Rattle.grid_meaning.specs.of_node_form.declared.tables.Tables.{Tables}
use Rattle.zpl_meaning.specs.Program.{Meaning}
use Rattle.grid_meaning.specs.Grid.{processors, system_over, after, IsOver}
use Rattle.grid_meaning.specs.Order.{IsOrder}
use Rattle.zpl_claims.specs.Good.{Finishes}

-- The order brings the code to what is printed within the bound: over as the meaning ends, or not
-- over where it wants more; each processor rests or has made as many moves as the bound, and none
-- is stuck; and one has made as many where the meaning wants more.
pub record IsLockStep (code : Tables) (links : Option ℕ) (meaning : Meaning) (bound : ℕ)
    (order : List ℕ) : Type 0 where
  pub turns : IsOrder (processors code) order
  pub printed : (after code links order).printed ≡ meaning.bytes
  pub ends : meaning.ending ≢ More → Finishes meaning (after code links order)
  pub goes_on : meaning.ending ≡ More → ¬ IsOver (after code links order)
  pub reaches : Reaches (system_over code links) order bound
  pub one_moved : meaning.ending ≡ More →
      (p : ℕ) × (p < processors code)
      × (bound ≤ length (moves_of (system_over code links) order p))

-- There is such an order for every bound.
abbrev pub HasLockSteps : Tables → Option ℕ → (ℕ → Meaning) → Type 0
HasLockSteps code links mean =
    (bound : ℕ) → (order : List ℕ) × IsLockStep code links (mean bound) bound order
