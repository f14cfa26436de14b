-- Code that is good for a meaning: right after every order of turns.
use Rattle.std.specs.Prelude.{◌≡◌, ◌≢◌, ℕ, List, length, Option}
use Rattle.zpl_lists.specs.Front.{IsFrontOf}
use Rattle.zpl_nums.specs.declared.ends.End.TheVariants.{More}
use Rattle.grid_meaning.specs.of_node_form.declared.tables.Tables.{Tables}
use Rattle.zpl_meaning.specs.Program.{Meaning}
use Rattle.grid_meaning.specs.Grid.{Grid, processors, after, IsOver, EndsAs, IsStuck, IsIdle}
use Rattle.grid_meaning.specs.Grid.{HasEmptyLinks}
use Rattle.grid_meaning.specs.Order.{IsOrder}

-- A grid that is over has printed all that the meaning prints, and has ended as the meaning does,
-- with no message left.
pub record Finishes (meaning : Meaning) (grid : Grid) : Type 0 where
  pub within : meaning.ending ≢ More
  pub all : grid.printed ≡ meaning.bytes
  pub ending : EndsAs grid meaning.ending
  pub links : HasEmptyLinks grid

-- The grid after so many turns, where the meaning has as many turns of each loop.
pub record IsRight (code : Tables) (links : Option ℕ) (meaning : Meaning) (grid : Grid)
    : Type 0 where
  pub not_stuck : ¬ IsStuck code links grid
  pub not_idle : ¬ IsIdle code links grid
  pub printed : IsFrontOf grid.printed meaning.bytes
  pub finishes : IsOver grid → Finishes meaning grid

-- After every order of turns over these links the grid is right.
abbrev pub IsGood : Tables → Option ℕ → (ℕ → Meaning) → Type 0
IsGood code links mean =
    (order : List ℕ) → IsOrder (processors code) order →
    IsRight code links (mean (length order)) (after code links order)
