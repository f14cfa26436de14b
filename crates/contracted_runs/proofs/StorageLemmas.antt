-- A loop leaves each array its storage.
use Rattle.std.proofs.Common.{◌≡◌, refl, sym, ◌∙◌, ap, subst, ℕ, zero, suc, Bool, true, false}
use Rattle.std.proofs.Common.{List, [], ◌∷◌, ℤ, Option, Some, None}
use Rattle.std.specs.Prelude.{fold, if◌then◌else◌, option_and_then, slice_get, slice_set}
use Rattle.std.specs.Option.{option_map}
use Rattle.zpl_nums.specs.declared.folds.Fold.{Fold}
use Rattle.zpl_nums.specs.Fold.{joined}
use Rattle.zpl_region.specs.declared.regions.Region.{Region}
use Rattle.zpl_arrays.specs.Array.{Array, has_place, updated}
use Rattle.row_runs.specs.Run.{Does, Goes, Step, Stops, Wrong}
use Rattle.node_form.specs.declared.tables.Tables.{Tables}
use Rattle.node_form.specs.Nest.{Nest}
use Rattle.grid_meaning.specs.Place.{held_with, where_held}
use Rattle.nest_meaning.specs.Tree.{nest_of}
use Rattle.nest_meaning.specs.Units.{units_of}
use Rattle.normal_runs.specs.of_flat_form.Act.{act}
use Rattle.normal_runs.specs.of_flat_form.Loop.{AllFine, AllTold, Column, Joins, Log, Point, Puts, SomeLost}
use Rattle.normal_runs.specs.of_flat_form.Loop.{SomeWant, SomeZero, Write, all_awaiting, all_told, all_written}
use Rattle.normal_runs.specs.of_flat_form.Loop.{awaiting, columns_behind, from_written, log_written, loop_stands}
use Rattle.normal_runs.specs.of_flat_form.Loop.{looped, start_columns, tree_does, unit_at, unit_does, unit_line}
use Rattle.normal_runs.specs.of_flat_form.Loop.{units_do, written}
use Rattle.normal_runs.specs.of_flat_form.Names.{Total, group_totals, group_words}
use Rattle.normal_runs.specs.of_flat_form.Right.{are_settled}
use Rattle.normal_runs.specs.of_flat_form.Row.{Loop, Member, Words, group_coded}
use Rattle.normal_runs.specs.of_flat_form.Whole.{Whole}

abbrev pub storage_of_array : List Array → ℕ → Option Region
storage_of_array stores array = option_map (λ (store : Array). store.storage)
    (slice_get stores array)

pub set_storage : (stores : List Array) (array k : ℕ) (old store : Array)
    → slice_get stores array ≡ Some old → store.storage ≡ old.storage
    → storage_of_array (slice_set stores array store) k ≡ storage_of_array stores k
set_storage [] array k old store e same = refl
set_storage (one ∷ stores) zero zero old store e same =
    let is : one ≡ old = cc in ap Some (same ∙ ap (λ (a : Array). a.storage) (sym is))
set_storage (one ∷ stores) zero (suc k) old store e same = refl
set_storage (one ∷ stores) (suc array) zero old store e same = refl
set_storage (one ∷ stores) (suc array) (suc k) old store e same =
    set_storage stores array k old store e same

-- both states have each array's storage
pub record SameStorages (s next : Whole) : Type 0 where
  pub same : (array : ℕ) → storage_of_array next.stores array ≡ storage_of_array s.stores array

abbrev StateSame : Whole → Option Whole → Type 0
StateSame s None = Unit {0}
StateSame s (Some next) = SameStorages s next

no_change : (s : Whole) → SameStorages s s
no_change s = record { same = λ array. refl }

both : (a b c : Whole) → SameStorages a b → SameStorages b c → SameStorages a c
both a b c first second = record { same = λ array. second.same array ∙ first.same array }

put_same : (u : List ℤ) (array : ℕ) (v : ℤ) (s : Whole) (found : Option Array)
    → slice_get s.stores array ≡ found
    → StateSame s (option_map (λ (stores : List Array). record s { stores = stores })
    (option_map (slice_set s.stores array) (option_and_then (held_with u v) found)))
put_same u array v s None e = tt
put_same u array v s (Some store) e = by (has_place store.storage u)
  where
    by : (b : Bool) → StateSame s (option_map (λ (stores : List Array). record s {
      stores = stores;
    })
        (option_map (slice_set s.stores array) (where_held b (updated store u v))))
    by true = record { same = λ k. set_storage s.stores array k store (updated store u v) e refl }
    by false = tt

join_same : (scalar : ℕ) (operator : Fold) (v : ℤ) (s : Whole) (own : Option ℤ)
    → StateSame s (option_map
    (λ own. record s { scalars = slice_set s.scalars scalar (joined operator own v) }) own)
join_same scalar operator v s None = tt
join_same scalar operator v s (Some own) = record { same = λ array. refl }

write_same : (u : List ℤ) (write : Write) (s : Whole) → StateSame s (written u write s)
write_same u (Puts array v) s = put_same u array v s (slice_get s.stores array) refl
write_same u (Joins scalar operator v) s =
    join_same scalar operator v s (slice_get s.scalars scalar)

then_same : (s : Whole) (found : Option Whole) (more : Whole → Option Whole) → StateSame s found
    → ((next : Whole) → StateSame next (more next)) → StateSame s (option_and_then more found)
then_same s None more first rest = tt
then_same s (Some next) more first rest = by (more next) (rest next)
  where
    by : (o : Option Whole) → StateSame next o → StateSame s o
    by None second = tt
    by (Some last) second = both s next last first second

log_same : (u : List ℤ) (log : Log) (s : Whole) → StateSame s (log_written u log s)
log_same u [] s = no_change s
log_same u (write ∷ log) s =
    then_same s (log_written u log s) (written u write) (log_same u log s)
    (λ next. write_same u write next)

all_same : (columns : List Column) (points : List Point) (s : Whole)
    → StateSame s (all_written columns points s)
all_same [] points s = no_change s
all_same (column ∷ columns) [] s = no_change s
all_same (column ∷ columns) (point ∷ points) s =
    then_same s (log_written column.at point.log s) (all_written columns points)
    (log_same column.at point.log s) (λ next. all_same columns points next)

-- ---- steps
data StepSame (s : Whole) : Step Whole → Type 0 where
  GoesSame : {bytes : List ℕ} {next : Whole} → SameStorages s next → StepSame s (Goes bytes next)
  StopsSame : {stop : _} → StepSame s (Stops stop)

behind_same : (s next : Whole) (step : Step Whole) → SameStorages s next → StepSame next step
    → StepSame s step
behind_same s next step first (GoesSame {next = last} second) = GoesSame
    (both s next last first second)
behind_same s next step first StopsSame = StopsSame

from_same : (s : Whole) (found : Option Whole) (more : Whole → Step Whole) → StateSame s found
    → ((next : Whole) → StepSame next (more next)) → StepSame s (from_written found more)
from_same s None more first rest = StopsSame
from_same s (Some next) more first rest = behind_same s next (more next) first (rest next)

unit_same : (line : ℕ) (columns : List Column) (s : Whole) (told : AllTold)
    (more : List Column → Whole → Step Whole)
    → ((columns : List Column) (next : Whole) → StepSame next (more columns next))
    → StepSame s (unit_does line columns s told more)
unit_same line columns s (AllFine points) more rest =
    from_same s (all_written columns points s) (more (columns_behind columns points))
    (all_same columns points s) (rest (columns_behind columns points))
unit_same line columns s SomeZero more rest = StopsSame
unit_same line columns s SomeWant more rest = StopsSame
unit_same line columns s SomeLost more rest = StopsSame

units_same : (n : ℕ) (exprs : List Words) (units : List Nest) (columns : List Column) (s : Whole)
    → StepSame s (units_do n exprs units columns s)
units_same n exprs [] columns s = GoesSame (no_change s)
units_same n exprs (unit ∷ units) columns s =
    unit_same (unit_line unit) columns s (all_told (unit_at n exprs unit s) columns)
    (λ columns whole. units_do n exprs units columns whole)
    (λ columns next. units_same n exprs units columns next)

await_same : (totals : List Total) (s : Whole) → SameStorages s (fold awaiting s totals)
await_same [] s = no_change s
await_same (total ∷ totals) s =
    both s (awaiting s total) (fold awaiting (awaiting s total) totals)
    (record { same = λ array. refl }) (await_same totals (awaiting s total))

awaiting_same : (totals : List Total) (s : Whole) (step : Step Whole) → StepSame s step
    → StepSame s (all_awaiting totals step)
awaiting_same totals s (Goes bytes next) (GoesSame first) =
    GoesSame (both s next (fold awaiting next totals) first (await_same totals next))
awaiting_same totals s (Stops stop) StopsSame = StopsSame

tree_same : (n : ℕ) (region : Region) (group : List Member) (s : Whole) (nest : Option Nest)
    → StepSame s (tree_does n region group s nest)
tree_same n region group s None = StopsSame
tree_same n region group s (Some nest) =
    awaiting_same (group_totals group) s
    (units_do n (group_words group) (units_of nest) (start_columns region group) s)
    (units_same n (group_words group) (units_of nest) (start_columns region group) s)

looped_same : (tables : Tables) (n : ℕ) (group : List Member) (s : Whole) (found : Option Region)
    → StepSame s (looped tables n group s found)
looped_same tables n group s None = StopsSame
looped_same tables n group s (Some region) = by (loop_stands tables s region group)
  where
    by : (b : Bool) → StepSame s
        (if b then tree_does n region group s (nest_of (group_coded 0 group)) else Stops Wrong)
    by true = tree_same n region group s (nest_of (group_coded 0 group))
    by false = StopsSame

pub loop_same : (tables : Tables) (n slot : ℕ) (group : List Member) (s next : Whole)
    (bytes : List ℕ)
    → act tables n (Loop slot group) s ≡ Does (Goes bytes next) → SameStorages s next
loop_same tables n slot group s next bytes e = by (are_settled s (Loop slot group)) e
  where
    goes : (step : Step Whole) → StepSame s step → Does step ≡ Does (Goes bytes next)
        → SameStorages s next
    goes (Goes more last) (GoesSame first) e =
        let same : last ≡ next = cc in subst (SameStorages s) same first
    goes (Stops stop) StopsSame e = cc

    by : (b : Bool) → (if b then Does (looped tables n group s (slice_get s.slots slot))
        else Does (Stops Wrong)) ≡ Does (Goes bytes next) → SameStorages s next
    by true e =
        goes (looped tables n group s (slice_get s.slots slot))
        (looped_same tables n group s (slice_get s.slots slot)) e
    by false e = cc
