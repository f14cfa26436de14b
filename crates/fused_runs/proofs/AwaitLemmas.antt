-- A loop does the same, whatever folds are still to come.
use Rattle.std.proofs.Common.{◌≡◌, refl, sym, ◌∙◌, ap, ℕ, List, [], ◌∷◌, ◌++◌, ℤ, Option, Some}
use Rattle.std.proofs.Common.{None}
use Rattle.std.specs.Prelude.{fold, option_and_then, slice_get, slice_set}
use Rattle.std.specs.Option.{option_map}
use Rattle.zpl_nums.specs.declared.folds.Fold.{Fold}
use Rattle.zpl_nums.specs.Fold.{joined}
use Rattle.zpl_region.specs.declared.regions.Region.{Region}
use Rattle.zpl_arrays.specs.Array.{Array}
use Rattle.row_runs.specs.Run.{Goes, Step, Stops}
use Rattle.node_form.specs.declared.tables.Tables.{Tables}
use Rattle.node_form.specs.Nest.{Nest}
use Rattle.grid_meaning.specs.Place.{with_value}
use Rattle.nest_meaning.specs.Units.{units_of}
use Rattle.flat_form.specs.Loop.{AllFine, AllTold, Column, Joins, Log, Point, Puts, SomeLost}
use Rattle.flat_form.specs.Loop.{SomeWant, SomeZero, Write, all_awaiting, all_told, all_written}
use Rattle.flat_form.specs.Loop.{awaiting, columns_behind, from_written, log_written, unit_at}
use Rattle.flat_form.specs.Loop.{unit_does, unit_line, units_do, written}
use Rattle.flat_form.specs.Names.{Total}
use Rattle.flat_form.specs.Row.{Words}
use Rattle.flat_form.specs.Whole.{Whole}
use Rattle.fused_runs.proofs.UnitLemmas.{bare_columns, nest_does}

-- with other folds to come
abbrev awaits : List (Option Fold) → Whole → Whole
awaits awaited s = record s { awaited = awaited }

abbrev step_awaits : List (Option Fold) → Step Whole → Step Whole
step_awaits awaited (Goes bytes next) = Goes bytes (awaits awaited next)
step_awaits awaited (Stops stop) = Stops stop

module _ (awaited : List (Option Fold)) where
  abbrev with_awaited : Option Whole → Option Whole
  with_awaited found = option_map (awaits awaited) found

  put_same : (s : Whole) (found : Option (List Array))
      → option_map (λ (stores : List Array). record (awaits awaited s) { stores = stores }) found
      ≡ with_awaited (option_map (λ (stores : List Array). record s { stores = stores }) found)
  put_same s (Some stores) = refl
  put_same s None = refl

  join_same : (s : Whole) (scalar : ℕ) (operator : Fold) (value : ℤ) (found : Option ℤ)
      → option_map (λ own. record (awaits awaited s) {
        scalars = slice_set s.scalars scalar (joined operator own value);
      }) found
      ≡ with_awaited (option_map (λ own. record s {
        scalars = slice_set s.scalars scalar (joined operator own value);
      }) found)
  join_same s scalar operator value (Some own) = refl
  join_same s scalar operator value None = refl

  write_same : (t : List ℤ) (write : Write) (s : Whole)
      → written t write (awaits awaited s) ≡ with_awaited (written t write s)
  write_same t (Puts array value) s = put_same s (with_value s.stores array t value)
  write_same t (Joins scalar operator value) s =
      join_same s scalar operator value (slice_get s.scalars scalar)

  then_same : (found : Option Whole) (f : Whole → Option Whole)
      → ((next : Whole) → f (awaits awaited next) ≡ with_awaited (f next))
      → option_and_then f (with_awaited found) ≡ with_awaited (option_and_then f found)
  then_same (Some next) f same = same next
  then_same None f same = refl

  log_same : (t : List ℤ) (log : Log) (s : Whole)
      → log_written t log (awaits awaited s) ≡ with_awaited (log_written t log s)
  log_same t [] s = refl
  log_same t (write ∷ log) s =
      ap (option_and_then (written t write)) (log_same t log s)
      ∙ then_same (log_written t log s) (written t write) (write_same t write)

  all_same : (columns : List Column) (points : List Point) (s : Whole)
      → all_written columns points (awaits awaited s) ≡ with_awaited (all_written columns points s)
  all_same [] points s = refl
  all_same (column ∷ columns) [] s = refl
  all_same (column ∷ columns) (point ∷ points) s =
      ap (option_and_then (all_written columns points)) (log_same column.at point.log s)
      ∙ then_same (log_written column.at point.log s) (all_written columns points)
      (λ next. all_same columns points next)

  from_same : (found : Option Whole) (f : Whole → Step Whole)
      → ((next : Whole) → f (awaits awaited next) ≡ step_awaits awaited (f next))
      → from_written (with_awaited found) f ≡ step_awaits awaited (from_written found f)
  from_same (Some next) f same = same next
  from_same None f same = refl

  does_same : (line : ℕ) (columns : List Column) (s : Whole) (told : AllTold)
      (f : List Column → Whole → Step Whole)
      → ((columns : List Column) (next : Whole)
      → f columns (awaits awaited next) ≡ step_awaits awaited (f columns next))
      → unit_does line columns (awaits awaited s) told f
      ≡ step_awaits awaited (unit_does line columns s told f)
  does_same line columns s (AllFine points) f same =
      ap (λ found. from_written found (f (columns_behind columns points)))
      (all_same columns points s)
      ∙ from_same (all_written columns points s) (f (columns_behind columns points))
      (same (columns_behind columns points))
  does_same line columns s SomeZero f same = refl
  does_same line columns s SomeWant f same = refl
  does_same line columns s SomeLost f same = refl

  units_same : (n : ℕ) (exprs : List Words) (units : List Nest) (columns : List Column) (s : Whole)
      → units_do n exprs units columns (awaits awaited s)
      ≡ step_awaits awaited (units_do n exprs units columns s)
  units_same n exprs [] columns s = refl
  units_same n exprs (unit ∷ units) columns s =
      does_same (unit_line unit) columns s (all_told (unit_at n exprs unit s) columns)
      (λ columns whole. units_do n exprs units columns whole)
      (λ columns next. units_same n exprs units columns next)

  pub nest_same : (tables : Tables) (n : ℕ) (region : Region) (o : Option Nest) (s : Whole)
      → nest_does tables n region o (awaits awaited s)
      ≡ step_awaits awaited (nest_does tables n region o s)
  nest_same tables n region (Some nest) s =
      units_same n tables.exprs (units_of nest) (bare_columns region) s
  nest_same tables n region None s = refl

-- ---- folds of some scalars to come, in front of a loop and behind it
abbrev awaited_by : List (Option Fold) → List Total → List (Option Fold)
awaited_by awaited [] = awaited
awaited_by awaited (total ∷ totals) =
    awaited_by (slice_set awaited total.scalar (Some total.operator)) totals

awaiting_is : (totals : List Total) (s : Whole)
    → fold awaiting s totals ≡ awaits (awaited_by s.awaited totals) s
awaiting_is [] s = refl
awaiting_is (total ∷ totals) s = awaiting_is totals (awaiting s total)

awaited_append : (totals others : List Total) (awaited : List (Option Fold))
    → awaited_by awaited (totals ++ others) ≡ awaited_by (awaited_by awaited totals) others
awaited_append [] others awaited = refl
awaited_append (total ∷ totals) others awaited =
    awaited_append totals others (slice_set awaited total.scalar (Some total.operator))

-- the loop leaves what is awaited
data Leaves (awaited : List (Option Fold)) : Step Whole → Type 0 where
  LeavesOn : {bytes : List ℕ} {next : Whole} → next.awaited ≡ awaited
      → Leaves awaited (Goes bytes next)
  LeavesStop : {stop : _} → Leaves awaited (Stops stop)

left_by : (s : Whole) (step : Step Whole) → step ≡ step_awaits s.awaited step
    → Leaves s.awaited step
left_by s (Goes bytes next) e = LeavesOn (by e)
  where
    by : (let g : Step Whole = Goes bytes next in g) ≡ Goes bytes (awaits s.awaited next)
        → next.awaited ≡ s.awaited
    by e = let same : next ≡ awaits s.awaited next = cc in ap (λ (w : Whole). w.awaited) same
left_by s (Stops stop) e = LeavesStop

module _ (tables : Tables) (n : ℕ) (region : Region) (o : Option Nest) where
  leaves : (s : Whole) → Leaves s.awaited (nest_does tables n region o s)
  leaves s = left_by s (nest_does tables n region o s) (nest_same s.awaited tables n region o s)

  by_step : (totals others : List Total) (s : Whole) (step : Step Whole) → Leaves s.awaited step
      → all_awaiting (totals ++ others) step
      ≡ all_awaiting others (step_awaits (awaited_by s.awaited totals) step)
  by_step totals others s (Goes bytes next) (LeavesOn same) =
      ap (Goes bytes) (awaiting_is (totals ++ others) next
      ∙ (ap (λ a. awaits a next) (awaited_append totals others next.awaited
      ∙ ap (λ a. awaited_by (awaited_by a totals) others) same)
      ∙ sym (awaiting_is others (awaits (awaited_by s.awaited totals) next))))
  by_step totals others s (Stops stop) LeavesStop = refl

  pub await_either : (totals others : List Total) (s : Whole)
      → all_awaiting (totals ++ others) (nest_does tables n region o s)
      ≡ all_awaiting others (nest_does tables n region o (fold awaiting s totals))
  await_either totals others s =
      by_step totals others s (nest_does tables n region o s) (leaves s)
      ∙ ap (all_awaiting others) (sym (ap (nest_does tables n region o) (awaiting_is totals s)
      ∙ nest_same (awaited_by s.awaited totals) tables n region o s))
