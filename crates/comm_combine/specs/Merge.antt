-- Exchanges that stand directly one behind the other are one.
--
-- Code keeps a map of the items of the exchange at hand: each item is looked at once.
use Rattle.std.specs.Prelude.{Bool, true, false, List, [], ◌∷◌, ◌++◌, fold, Option, Some, None}
use Rattle.last_writes.specs.of_node_form.declared.arrays.Item.{Item}
use Rattle.last_writes.specs.of_node_form.declared.instructions.Instr.{Instr}
use Rattle.last_writes.specs.of_node_form.declared.instructions.Instr.TheVariants as instr
use Rattle.last_writes.specs.of_node_form.declared.tables.Tables.{Tables}
use Rattle.last_writes.specs.of_code_parts.Uses.{items_of}
use Rattle.last_writes.specs.of_plan_form.Units.{PlanUnit, Exchange, Single, with_item}
use Rattle.last_writes.specs.of_plan_form.Rewrite.{with_units}

-- an exchange in front of others: all items of a neighbour, equal ones once
abbrev pub joined_to : List Item → List PlanUnit → List PlanUnit
joined_to items (Exchange others ∷ units) = Exchange (fold with_item items others) ∷ units
joined_to items units = Exchange items ∷ units

abbrev pub units_merged : List PlanUnit → List PlanUnit
units_merged [] = []
units_merged (Exchange items ∷ units) = joined_to (fold with_item [] items) (units_merged units)
units_merged (Single row ∷ units) = Single row ∷ units_merged units

abbrev pub neighbours_merged : Tables → Tables
neighbours_merged tables = with_units units_merged tables

-- ---- one row after another
-- The items of an exchange that isn't written yet, since a neighbour may come; none where there is
-- no such exchange.
abbrev pub pending_items : Option (List Item) → List Item
pending_items None = []
pending_items (Some items) = items

abbrev pub pending_with : Option (List Item) → List Item → List Item
pending_with pending items = fold with_item (pending_items pending) items

abbrev pub pending_units : Option (List Item) → List PlanUnit
pending_units None = []
pending_units (Some items) = Exchange items ∷ []

-- what a row lets be written, and what is pending behind it
abbrev pub row_units : Option (List Item) → Instr → List PlanUnit
row_units pending (instr.Start exchange) = []
row_units pending (instr.Finish exchange) = []
row_units pending row = pending_units pending ++ Single row ∷ []

abbrev pub pending_behind : Tables → Option (List Item) → Instr → Option (List Item)
pending_behind tables pending (instr.Start exchange) =
    Some (pending_with pending (items_of tables exchange))
pending_behind tables pending (instr.Finish exchange) = pending
pending_behind tables pending row = None

-- the same in front of a row: whether it is a goal
abbrev pub front_units : Bool → Option (List Item) → List PlanUnit
front_units true pending = pending_units pending
front_units false pending = []

abbrev pub front_pending : Bool → Option (List Item) → Option (List Item)
front_pending true pending = None
front_pending false pending = pending
