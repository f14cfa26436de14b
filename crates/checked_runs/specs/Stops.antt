-- Code that no order of turns makes stuck, or lets all processors wait with one not over.
use Rattle.std.specs.Prelude.{ℕ, List, length, Option}
use Rattle.node_form.specs.declared.tables.Tables.{Tables}
use Rattle.grid_meaning.specs.Grid.{IsCapacity, IsIdle, IsStuck, after}
use Rattle.counted_code.specs.of_row_orders.Rows.{HasRoom}
use Rattle.counted_code.specs.of_node_check.Path.{Comes}
use Rattle.counted_code.specs.of_node_check.Sound.{IsSound}
use Rattle.checked_messages.specs.of_checked_rows.Faced.{AreTables}

-- after every order of turns
pub record NeverStops (code : Tables) (links : Option ℕ) : Type 0 where
  pub not_stuck : (order : List ℕ) → ¬ IsStuck code links (after code links order)
  pub not_idle : (order : List ℕ) → ¬ IsIdle code links (after code links order)

-- sound code, over links that have room for a message of each exchange that is open at once
pub record IsSoundOver (code : Tables) (links : Option ℕ) : Type 0 where
  pub tables : AreTables code
  pub sound : IsSound code
  pub capacity : IsCapacity links
  pub room : (at : ℕ) (opened : List ℕ) → Comes code at opened → HasRoom links (length opened)
