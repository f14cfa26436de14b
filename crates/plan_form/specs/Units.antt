-- Plans seen in units: an exchange, its start and its finish, is one.
--
--   PlanUnit    an exchange with its items, or another row
--   PlanRow     its rows: a start or a finish with its items in the place of a number
--   units_of    rows of tables, seen so
--   laid_out    back: the rows by numbers, and the exchanges in the order of their starts
--   with_item   items with one more, if it isn't there
use Rattle.std.specs.Prelude.{ℕ, ◌+◌, ◌-◌, if◌then◌else◌, List, [], ◌∷◌, ◌++◌, flat_map}
use Rattle.flat_passes.specs.of_node_form.declared.arrays.Item.{Item}
use Rattle.flat_passes.specs.of_node_form.declared.instructions.Instr.{Instr}
use Rattle.flat_passes.specs.of_node_form.declared.instructions.Instr.TheVariants as instr
use Rattle.flat_passes.specs.of_node_form.declared.tables.Tables.{Tables}
use Rattle.flat_passes.specs.of_code_parts.Exchanged.{is_among}
use Rattle.flat_passes.specs.of_code_parts.Uses.{items_of}

pub data PlanUnit : Type 0 where
  Exchange : (items : List Item) → PlanUnit
  Single : (row : Instr) → PlanUnit

pub data PlanRow : Type 0 where
  StartOf : (items : List Item) → PlanRow
  FinishOf : (items : List Item) → PlanRow
  Other : (row : Instr) → PlanRow

-- ---- rows seen in units
-- Each start has its finish directly behind it: the exchange is seen where it starts.
abbrev pub unit_of : Tables → Instr → List PlanUnit
unit_of tables (instr.Start exchange) = Exchange (items_of tables exchange) ∷ []
unit_of tables (instr.Finish exchange) = []
unit_of tables row = Single row ∷ []

abbrev pub units_of : Tables → List Instr → List PlanUnit
units_of tables rows = flat_map (unit_of tables) rows

-- ---- and back
abbrev pub unit_rows : PlanUnit → List PlanRow
unit_rows (Exchange items) = StartOf items ∷ FinishOf items ∷ []
unit_rows (Single row) = Other row ∷ []

abbrev pub started_by : PlanRow → List (List Item)
started_by (StartOf items) = items ∷ []
started_by (FinishOf items) = []
started_by (Other row) = []

-- the exchanges, in the order of their starts
abbrev pub exchanges_in : List PlanRow → List (List Item)
exchanges_in rows = flat_map started_by rows

-- the rows, where so many exchanges start before them: a finish is that of the last start
abbrev pub numbered_from : ℕ → List PlanRow → List Instr
numbered_from count [] = []
numbered_from count (StartOf items ∷ rows) = instr.Start count ∷ numbered_from (count + 1) rows
numbered_from count (FinishOf items ∷ rows) = instr.Finish (count - 1) ∷ numbered_from count rows
numbered_from count (Other row ∷ rows) = row ∷ numbered_from count rows

-- the tables with these rows for their code and exchanges
abbrev pub laid_out : Tables → List PlanRow → Tables
laid_out tables rows = record tables {
  exchanges = exchanges_in rows;
  code = numbered_from 0 rows;
}

-- ---- items of an exchange: each once
abbrev pub with_item : List Item → Item → List Item
with_item items item = if is_among items item then items else items ++ item ∷ []
