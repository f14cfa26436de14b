-- Exchanges without the items that are fresh.
--
-- Code keeps the number of the row that exchanged each item last, and of the rows that wrote each
-- array and each slot last: an item is fresh where the first is the greatest. So a row is noted
-- without a look at the items that are fresh.
use Rattle.std.specs.Prelude.{not, List, [], ◌∷◌, ◌++◌, filter}
use Rattle.last_writes.specs.of_node_form.declared.arrays.Item.{Item}
use Rattle.last_writes.specs.of_node_form.declared.tables.Tables.{Tables}
use Rattle.last_writes.specs.of_row_runs.Straight.{rewritten}
use Rattle.last_writes.specs.of_code_parts.Exchanged.{is_among, stales}
use Rattle.last_writes.specs.of_plan_form.Units.{PlanUnit, Exchange, Single}
use Rattle.last_writes.specs.of_plan_form.Rewrite.{with_units}

-- those that aren't fresh
abbrev pub stale_items : List Item → List Item → List Item
stale_items fresh items = filter (λ item. not (is_among fresh item)) items

-- the items that are fresh behind a unit: those that were exchanged in the stretch and whose array
-- and slot no row has written since
abbrev pub fresh_after : Tables → List Item → PlanUnit → List Item
fresh_after tables fresh (Exchange items) = stale_items fresh items ++ fresh
fresh_after tables fresh (Single row) = filter (λ item. not (stales tables item row)) fresh

-- an exchange without items is left out
abbrev pub exchange_if_any : List Item → List PlanUnit
exchange_if_any [] = []
exchange_if_any (item ∷ items) = Exchange (item ∷ items) ∷ []

abbrev pub without_fresh : List Item → PlanUnit → List PlanUnit
without_fresh fresh (Exchange items) = exchange_if_any (stale_items fresh items)
without_fresh fresh (Single row) = Single row ∷ []

-- in each stretch, in front of which nothing is fresh
abbrev pub repeats_dropped : Tables → Tables
repeats_dropped tables = with_units (rewritten without_fresh (fresh_after tables) []) tables
