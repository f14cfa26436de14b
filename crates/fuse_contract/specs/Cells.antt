-- The cells of arrays, in memory.
use Rattle.std.specs.Prelude.{◌≡◌, ℕ, List}
use Rattle.fuse_contract.specs.Naming.{cells_behind, cells_from}
use Rattle.fuse_contract.specs.declared.cells.Cells.{Cells}
use Rattle.fuse_contract.specs.declared.states.CellState.{CellState}

-- a cell for each array that becomes one, behind so many others, and how many there are then
pub record AreCells (made : Cells) (cells : ℕ) (states : List CellState) : Type 0 where
  pub of_arrays : made.of_arrays.items ≡ cells_from cells states
  pub count : made.count ≡ cells_behind cells states
