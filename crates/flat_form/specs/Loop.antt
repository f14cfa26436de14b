-- A loop over whole arrays: unit by unit, each over all tuples of the region.
--
--   Write, Log        what members write at a tuple; it is written when all tuples are done
--   log_ways          what members ask, at a tuple, of the state before the unit and of a log
--   all_told          what a unit comes to at all tuples together
--   units_do, looped  units one after another, and the row `loop`
use Rattle.std.specs.Prelude.{ℕ, ◌==◌, Bool, ◌&&◌, if◌then◌else◌, ℤ, pos, Option, Some}
use Rattle.std.specs.Prelude.{None, List, [], ◌∷◌, fold, map, replicate, option_and_then, slice_get}
use Rattle.std.specs.Prelude.{slice_set}
use Rattle.std.specs.List.{list_all}
use Rattle.std.specs.Option.{option_map}
use Rattle.code_parts.specs.of_zpl_nums.declared.ends.End.TheVariants.{Trap, More}
use Rattle.code_parts.specs.of_zpl_nums.declared.ends.TrapKind.TheVariants.{DivideByZero}
use Rattle.code_parts.specs.of_zpl_nums.declared.folds.Fold.{Fold}
use Rattle.code_parts.specs.of_zpl_nums.Fold.{joined}
use Rattle.code_parts.specs.of_zpl_region.declared.regions.Region.{Region}
use Rattle.code_parts.specs.of_zpl_region.Region.{members}
use Rattle.grid_meaning.specs.of_node_form.declared.tables.Tables.{Tables}
use Rattle.grid_meaning.specs.of_node_form.Nest.{Nest, Nothing, Putting, Keeping, Joining, Choosing, ChoosingElse}
use Rattle.grid_meaning.specs.of_node_form.Nest.{Looping, Repeating}
use Rattle.grid_meaning.specs.of_node_form.Value.{Operands, and_then, read, value_of}
use Rattle.grid_meaning.specs.Place.{moved_by, value_at, with_value}
use Rattle.nest_meaning.specs.Nested.{Ways, Told, Fine, Zero, Wants, Lost, nested}
use Rattle.nest_meaning.specs.Tree.{nest_of}
use Rattle.nest_meaning.specs.Units.{units_of}
use Rattle.nest_meaning.specs.of_row_runs.Run.{Step, Goes, Stops, Ends, Wrong}
use Rattle.flat_form.specs.Names.{Total, group_cells, group_puts, group_reads, group_totals}
use Rattle.flat_form.specs.Names.{group_words}
use Rattle.flat_form.specs.Right.{can_read, can_write, is_unmoved, totals_begin}
use Rattle.flat_form.specs.Row.{Member, Words, group_coded}
use Rattle.flat_form.specs.Whole.{Whole}

-- ---- one tuple
-- an array becomes a value there, or a value is joined to a scalar
pub data Write : Type 0 where
  Puts : (array : ℕ) (value : ℤ) → Write
  Joins : (scalar : ℕ) (operator : Fold) (value : ℤ) → Write

-- the latest one first
abbrev pub Log : Type 0
Log = List Write

-- what a tuple has of its own in a unit: its cells, and its log
pub record Point : Type 0 where
  pub cells : List ℤ
  pub log : Log

-- the value of an array at the tuple, behind what is put there
abbrev pub logged : Log → ℕ → Option ℤ → Option ℤ
logged [] array before = before
logged (Puts other value ∷ log) array before =
    if other == array then Some value else logged log array before
logged (Joins scalar operator value ∷ log) array before = logged log array before

-- A read without shift sees what the tuple itself has put; else what was there before the unit.
abbrev pub element_at : Whole → List ℤ → Log → ℕ → List ℤ → Option ℤ
element_at before t log array shift =
    let value = value_at before.stores array (moved_by shift t) in
    if is_unmoved shift then logged log array value else value

abbrev pub operands_at : Whole → List ℤ → Point → Operands
operands_at before t point = record {
  scalars = before.scalars;
  cells = point.cells;
  index = t;
  element = element_at before t point.log;
}

abbrev pub logging : Write → Point → Point
logging write point = record point { log = write ∷ point.log }

-- what members ask there, of the expressions of a group
abbrev pub log_ways : List Words → Whole → List ℤ → Ways Point
log_ways exprs before t = record {
  value =
      λ point expr. and_then (value_of (operands_at before t point)) (read (slice_get exprs expr));
  put = λ array value point. Some (logging (Puts array value) point);
  keep = λ cell value point. Some (record point { cells = slice_set point.cells cell value });
  join = λ scalar operator value point. Some (logging (Joins scalar operator value) point);
}

-- ---- all tuples: something isn't there at some tuple; else some tuple wants a further turn; else
-- some tuple met a zero divisor; else each has come to a point
pub data AllTold : Type 0 where
  AllFine : (points : List Point) → AllTold
  SomeZero : AllTold
  SomeWant : AllTold
  SomeLost : AllTold

abbrev pub and_fine : Point → AllTold → AllTold
and_fine point (AllFine points) = AllFine (point ∷ points)
and_fine point SomeZero = SomeZero
and_fine point SomeWant = SomeWant
and_fine point SomeLost = SomeLost

abbrev pub and_zero : AllTold → AllTold
and_zero (AllFine points) = SomeZero
and_zero SomeZero = SomeZero
and_zero SomeWant = SomeWant
and_zero SomeLost = SomeLost

abbrev pub and_want : AllTold → AllTold
and_want (AllFine points) = SomeWant
and_want SomeZero = SomeWant
and_want SomeWant = SomeWant
and_want SomeLost = SomeLost

abbrev pub both_told : Told Point → AllTold → AllTold
both_told (Fine point) rest = and_fine point rest
both_told (Zero point) rest = and_zero rest
both_told Wants rest = and_want rest
both_told Lost rest = SomeLost

-- a tuple of the loop's region with its cells
pub record Column : Type 0 where
  pub at : List ℤ
  pub cells : List ℤ

abbrev pub all_told : (Column → Told Point) → List Column → AllTold
all_told told [] = AllFine []
all_told told (column ∷ columns) = both_told (told column) (all_told told columns)

-- ---- what they have written, tuple by tuple
abbrev pub written : List ℤ → Write → Whole → Option Whole
written t (Puts array value) whole =
    option_map (λ stores. record whole { stores = stores }) (with_value whole.stores array t value)
written t (Joins scalar operator value) whole =
    option_map (λ own.
    record whole { scalars = slice_set whole.scalars scalar (joined operator own value) })
    (slice_get whole.scalars scalar)

abbrev pub log_written : List ℤ → Log → Whole → Option Whole
log_written t [] whole = Some whole
log_written t (write ∷ log) whole = option_and_then (written t write) (log_written t log whole)

abbrev pub all_written : List Column → List Point → Whole → Option Whole
all_written (column ∷ columns) (point ∷ points) whole =
    option_and_then (all_written columns points) (log_written column.at point.log whole)
all_written columns points whole = Some whole

abbrev pub columns_behind : List Column → List Point → List Column
columns_behind (column ∷ columns) (point ∷ points) =
    record { at = column.at; cells = point.cells } ∷ columns_behind columns points
columns_behind columns points = []

-- ---- units
-- the line of a unit is that of its first member
abbrev pub unit_line : Nest → ℕ
unit_line Nothing = 0
unit_line (Putting array expr mask line after) = line
unit_line (Keeping cell expr mask line after) = line
unit_line (Joining scalar operator expr mask line after) = line
unit_line (Choosing expr mask line body after) = line
unit_line (ChoosingElse expr mask line body otherwise after) = line
unit_line (Looping expr mask line body after) = line
unit_line (Repeating mask line body until after) = line

abbrev pub from_written : Option Whole → (Whole → Step Whole) → Step Whole
from_written (Some whole) next = next whole
from_written None next = Stops Wrong

abbrev pub unit_does : ℕ → List Column → Whole → AllTold → (List Column → Whole → Step Whole)
    → Step Whole
unit_does line columns whole (AllFine points) next =
    from_written (all_written columns points whole) (next (columns_behind columns points))
unit_does line columns whole SomeZero next = Stops (Ends (Trap DivideByZero line))
unit_does line columns whole SomeWant next = Stops (Ends More)
unit_does line columns whole SomeLost next = Stops Wrong

module _ (n : ℕ) (exprs : List Words) where
  -- a unit at a tuple, with at most n turns of each loop that is entered
  abbrev pub unit_at : Nest → Whole → Column → Told Point
  unit_at unit before column =
      nested (log_ways exprs before column.at) n unit (record { cells = column.cells; log = [] })

  abbrev pub units_do : List Nest → List Column → Whole → Step Whole
  units_do [] columns whole = Goes [] whole
  units_do (unit ∷ units) columns whole =
      unit_does (unit_line unit) columns whole (all_told (unit_at unit whole) columns)
      (λ columns whole. units_do units columns whole)

-- ---- the row
-- all that the group reads, puts and accumulates is as it must be
abbrev pub loop_stands : Tables → Whole → Region → List Member → Bool
loop_stands tables whole region group =
    list_all (can_read tables whole region) (group_reads group)
    && (list_all (can_write tables whole region) (group_puts group)
    && totals_begin whole region group)

-- a `fold` of each scalar that was accumulated is to come
abbrev pub awaiting : Whole → Total → Whole
awaiting whole total =
    record whole { awaited = slice_set whole.awaited total.scalar (Some total.operator) }

abbrev pub all_awaiting : List Total → Step Whole → Step Whole
all_awaiting totals (Goes bytes whole) = Goes bytes (fold awaiting whole totals)
all_awaiting totals (Stops stop) = Stops stop

abbrev pub start_columns : Region → List Member → List Column
start_columns region group =
    map (λ t. record { at = t; cells = replicate (group_cells group) (pos 0) }) (members region)

abbrev pub tree_does : ℕ → Region → List Member → Whole → Option Nest → Step Whole
tree_does n region group whole (Some nest) =
    all_awaiting (group_totals group)
    (units_do n (group_words group) (units_of nest) (start_columns region group) whole)
tree_does n region group whole None = Stops Wrong

abbrev pub looped : Tables → ℕ → List Member → Whole → Option Region → Step Whole
looped tables n group whole (Some region) =
    if loop_stands tables whole region group
    then tree_does n region group whole (nest_of (group_coded 0 group))
    else Stops Wrong
looped tables n group whole None = Stops Wrong
