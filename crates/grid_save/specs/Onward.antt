-- Grids as runs leave them, and which of these can be saved.
--
--   IsOnward    what each turn keeps of a grid, beside what holds of the states of its processors
--   CanBeSaved  such a grid whose counts are within their limits
--   MayBe       what holds of the state of a processor in memory
use Rattle.std.specs.Prelude.{◌≡◌, ◌≢◌, ℕ, [], length, Some, slice_get, All}
use Rattle.zpl_nums.specs.declared.ends.End.TheVariants.{More}
use Rattle.node_form.specs.declared.tables.Tables.{Tables}
use Rattle.grid_meaning.specs.Grid.{Grid}
use Rattle.grid_meaning.specs.Local.{Local, processors}
use Rattle.grid_meaning.specs.State.{IsLocal}
use Rattle.grid_save.specs.Kept.{IsEnding}
use Rattle.grid_save.specs.Saved.{AreCounted, AreLinks}

-- the words that p keeps are of other processors
abbrev pub KeepsOthers : ℕ → Local → Type 0
KeepsOthers p local = All (λ entry. entry.0 ≢ p) local.kept

-- No link from a processor to itself has a message; no processor has ended in wanting more, and none
-- keeps words of its own.
pub record IsOnward (code : Tables) (grid : Grid) : Type 0 where
  pub many : length grid.world.locals ≡ processors code
  pub links : AreLinks code grid.world.links
  pub ended : All (λ local. local.ended ≢ Some More) grid.world.locals
  pub kept : (p : ℕ) (local : Local) → slice_get grid.world.locals p ≡ Some local → KeepsOthers p local

-- what was printed is taken away
pub record CanBeSaved (code : Tables) (grid : Grid) : Type 0 where
  pub onward : IsOnward code grid
  pub counts : AreCounted grid.turns grid.sends grid.words
  pub printed : grid.printed ≡ []

-- it is one that it may have, and the line of a trap is of 32 bits
pub record MayBe (code : Tables) (p : ℕ) (local : Local) : Type 0 where
  pub state : IsLocal code p local
  pub ending : local.ended ≢ Some More → IsEnding local.ended
