-- A plan that fits does so without repeats, and with neighbours as one exchange.
use Rattle.std.proofs.Common.{Bool, true, false, List, [], ◌∷◌}
use Rattle.std.specs.Prelude.{ℕ, cond, filter, fold, not}
use Rattle.std.specs.List.{AllByRecursion}
use Rattle.row_runs.specs.Straight.{rewritten}
use Rattle.node_form.specs.declared.arrays.Item.{Item}
use Rattle.node_form.specs.declared.tables.Tables.{Tables}
use Rattle.node_form.specs.Fits.{Fits, FitsItem}
use Rattle.code_parts.specs.Exchanged.{is_among}
use Rattle.pass_parts.proofs.of_flat_passes.StretchLemmas.{every_append}
use Rattle.pass_parts.specs.of_plan_form.Units.{PlanUnit, Exchange, Single, with_item}
use Rattle.pass_parts.specs.of_comm_combine.Merge.{joined_to, neighbours_merged, units_merged}
use Rattle.pass_parts.specs.of_comm_combine.Repeats.{exchange_if_any, fresh_after, repeats_dropped, stale_items}
use Rattle.pass_parts.specs.of_comm_combine.Repeats.{without_fresh}
use Rattle.pass_fits.proofs.NeedLemmas.{items_added}
use Rattle.pass_fits.proofs.UnitLemmas.{FitsUnit, units_fit}

filtered : {X : Type 0} (P : X → Type 0) (test : X → Bool) (xs : List X) → AllByRecursion P xs
    → AllByRecursion P (filter test xs)
filtered P test [] all = tt
filtered P test (x ∷ xs) all = by (test x) (filtered P test xs all.1)
  where
    by : (b : Bool) → AllByRecursion P (filter test xs)
        → AllByRecursion P (cond b (x ∷ filter test xs) (filter test xs))
    by true more = (all.0, more)
    by false more = more

module _ (tables : Tables) (end : ℕ) where
  -- ---- without repeats
  any_fit : (items : List Item) → AllByRecursion (FitsItem tables) items
      → AllByRecursion (FitsUnit tables end) (exchange_if_any items)
  any_fit [] all = tt
  any_fit (item ∷ items) all = (all, tt)

  stale_fit : (fresh : List Item) (unit : PlanUnit) → FitsUnit tables end unit
      → AllByRecursion (FitsUnit tables end) (without_fresh fresh unit)
  stale_fit fresh (Exchange items) fit =
      any_fit (stale_items fresh items)
      (filtered (FitsItem tables) (λ item. not (is_among fresh item)) items fit)
  stale_fit fresh (Single row) fit = (fit, tt)

  dropped_fit : (fresh : List Item) (units : List PlanUnit)
      → AllByRecursion (FitsUnit tables end) units
      → AllByRecursion (FitsUnit tables end)
      (rewritten without_fresh (fresh_after tables) fresh units)
  dropped_fit fresh [] all = tt
  dropped_fit fresh (unit ∷ units) all =
      every_append (FitsUnit tables end) (without_fresh fresh unit)
      (rewritten without_fresh (fresh_after tables) (fresh_after tables fresh unit) units)
      (stale_fit fresh unit all.0) (dropped_fit (fresh_after tables fresh unit) units all.1)

  -- ---- with neighbours merged
  joined_fit : (items : List Item) (units : List PlanUnit)
      → AllByRecursion (FitsItem tables) items → AllByRecursion (FitsUnit tables end) units
      → AllByRecursion (FitsUnit tables end) (joined_to items units)
  joined_fit items [] fit all = (fit, tt)
  joined_fit items (Exchange others ∷ units) fit all =
      (items_added (FitsItem tables) items others fit all.0, all.1)
  joined_fit items (Single row ∷ units) fit all = (fit, all)

  merged_fit : (units : List PlanUnit) → AllByRecursion (FitsUnit tables end) units
      → AllByRecursion (FitsUnit tables end) (units_merged units)
  merged_fit [] all = tt
  merged_fit (Exchange items ∷ units) all =
      joined_fit (fold with_item [] items) (units_merged units)
      (items_added (FitsItem tables) [] items tt all.0) (merged_fit units all.1)
  merged_fit (Single row ∷ units) all = (all.0, merged_fit units all.1)

pub dropped_fits : (plan : Tables) → Fits plan → Fits (repeats_dropped plan)
dropped_fits plan fits =
    units_fit plan (rewritten without_fresh (fresh_after plan) []) fits
    (λ end. dropped_fit plan end [])

pub merged_fits : (plan : Tables) → Fits plan → Fits (neighbours_merged plan)
merged_fits plan fits = units_fit plan units_merged fits (merged_fit plan)
