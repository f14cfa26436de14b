-- Exchanges that are left out, and neighbours that are merged.
use Rattle.std.proofs.Common.{◌≡◌, refl, arith, ℕ, ◌+◌, ◌≤◌, Bool}
use Rattle.std.proofs.Common.{List, [], ◌∷◌}
use Rattle.std.specs.Prelude.{fold, sum_by}
use Rattle.std.proofs.lemmas.List.Sums.{sum_by-append, sum_by-cons}
use Rattle.row_runs.specs.Straight.{rewritten}
use Rattle.node_form.specs.declared.arrays.Item.{Item}
use Rattle.node_form.specs.declared.instructions.Instr.{Instr}
use Rattle.node_form.specs.declared.tables.Tables.{Tables}
use Rattle.code_parts.specs.Counts.{count_of}
use Rattle.comm_needs.specs.of_plan_form.Units.{PlanUnit, Exchange, Single, with_item}
use Rattle.comm_combine.specs.Merge.{joined_to, neighbours_merged, units_merged}
use Rattle.comm_combine.specs.Repeats.{exchange_if_any, fresh_after, repeats_dropped, stale_items}
use Rattle.comm_combine.specs.Repeats.{without_fresh}
use Rattle.pass_sizes.specs.Sizes.{IsBlind, PassesNoExchange, pair_size, plan_size}
use Rattle.pass_sizes.proofs.UnitLemmas.{count_same, pair_most, row_count, row_pair, row_size}
use Rattle.pass_sizes.proofs.UnitLemmas.{size_most, unit_weight}

-- ---- all exchanges weigh the same
module _ (w : PlanUnit → ℕ) (each : ℕ) (same : (items : List Item) → w (Exchange items) ≡ each) where
  if_any : (items : List Item) → sum_by w (exchange_if_any items) ≤ each
  if_any [] = omega arith
  if_any (item ∷ items) = omega (arith, same (item ∷ items))

  fewer : (fresh : List Item) (unit : PlanUnit) → sum_by w (without_fresh fresh unit) ≤ w unit
  fewer fresh (Exchange items) = omega (arith, if_any (stale_items fresh items), same items)
  fewer fresh (Single row) = omega arith

  pub dropped_most : (tables : Tables) (fresh : List Item) (units : List PlanUnit) →
      sum_by w (rewritten without_fresh (fresh_after tables) fresh units) ≤ sum_by w units
  dropped_most tables fresh [] = omega arith
  dropped_most tables fresh (unit ∷ units) =
      omega (
        arith,
        sum_by-append w (without_fresh fresh unit)
            (rewritten without_fresh (fresh_after tables) (fresh_after tables fresh unit) units),
        fewer fresh unit,
        dropped_most tables (fresh_after tables fresh unit) units,
        sum_by-cons w unit units,
      )

  joined_most : (items : List Item) (units : List PlanUnit) →
      sum_by w (joined_to items units) ≤ each + sum_by w units
  joined_most items [] = omega (arith, same items)
  joined_most items (Exchange others ∷ units) =
      omega (
        arith,
        same (fold with_item items others),
        sum_by-cons w (Exchange (fold with_item items others)) units,
        sum_by-cons w (Exchange others) units,
      )
  joined_most items (Single row ∷ units) =
      omega (
        arith,
        same items,
        sum_by-cons w (Exchange items) (Single row ∷ units),
      )

  pub merged_most : (units : List PlanUnit) → sum_by w (units_merged units) ≤ sum_by w units
  merged_most [] = omega arith
  merged_most (Exchange items ∷ units) =
      omega (
        arith,
        joined_most (fold with_item [] items) (units_merged units),
        merged_most units,
        same items,
        sum_by-cons w (Exchange items) units,
      )
  merged_most (Single row ∷ units) =
      omega (
        arith,
        merged_most units,
        sum_by-cons w (Single row) units,
        sum_by-cons w (Single row) (units_merged units),
      )

-- ---- exchanges weigh nothing
module _ (w : PlanUnit → ℕ) (none : (items : List Item) → w (Exchange items) ≡ 0) where
  none_any : (items : List Item) → sum_by w (exchange_if_any items) ≡ 0
  none_any [] = refl
  none_any (item ∷ items) = omega (arith, none (item ∷ items))

  as_much : (fresh : List Item) (unit : PlanUnit) → sum_by w (without_fresh fresh unit) ≡ w unit
  as_much fresh (Exchange items) = omega (arith, none_any (stale_items fresh items), none items)
  as_much fresh (Single row) = omega arith

  pub dropped_same : (tables : Tables) (fresh : List Item) (units : List PlanUnit) →
      sum_by w (rewritten without_fresh (fresh_after tables) fresh units) ≡ sum_by w units
  dropped_same tables fresh [] = refl
  dropped_same tables fresh (unit ∷ units) =
      omega (
        arith,
        sum_by-append w (without_fresh fresh unit)
            (rewritten without_fresh (fresh_after tables) (fresh_after tables fresh unit) units),
        as_much fresh unit,
        dropped_same tables (fresh_after tables fresh unit) units,
        sum_by-cons w unit units,
      )

  joined_same : (items : List Item) (units : List PlanUnit) →
      sum_by w (joined_to items units) ≡ sum_by w units
  joined_same items [] = omega (arith, none items)
  joined_same items (Exchange others ∷ units) =
      omega (
        arith,
        none (fold with_item items others),
        none others,
        sum_by-cons w (Exchange (fold with_item items others)) units,
        sum_by-cons w (Exchange others) units,
      )
  joined_same items (Single row ∷ units) =
      omega (
        arith,
        none items,
        sum_by-cons w (Exchange items) (Single row ∷ units),
      )

  pub merged_same : (units : List PlanUnit) → sum_by w (units_merged units) ≡ sum_by w units
  merged_same [] = refl
  merged_same (Exchange items ∷ units) =
      omega (
        arith,
        joined_same (fold with_item [] items) (units_merged units),
        merged_same units,
        none items,
        sum_by-cons w (Exchange items) units,
      )
  merged_same (Single row ∷ units) =
      omega (
        arith,
        merged_same units,
        sum_by-cons w (Single row) units,
        sum_by-cons w (Single row) (units_merged units),
      )

-- ---- the passes
module _ (plan : Tables) where
  abbrev drop_repeats : List PlanUnit → List PlanUnit
  drop_repeats units = rewritten without_fresh (fresh_after plan) [] units

  pub dropped_size : plan_size (repeats_dropped plan) ≤ pair_size plan
  dropped_size =
      size_most plan drop_repeats (dropped_most (unit_weight row_size) 3 (λ items. refl) plan [])

  pub dropped_pairs : pair_size (repeats_dropped plan) ≤ pair_size plan
  dropped_pairs =
      pair_most plan drop_repeats (dropped_most (unit_weight row_pair) 3 (λ items. refl) plan [])

  pub merged_size : plan_size (neighbours_merged plan) ≤ pair_size plan
  merged_size = size_most plan units_merged (merged_most (unit_weight row_size) 3 (λ items. refl))

  pub merged_pairs : pair_size (neighbours_merged plan) ≤ pair_size plan
  merged_pairs = pair_most plan units_merged (merged_most (unit_weight row_pair) 3 (λ items. refl))

  module _ (test : Instr → Bool) (none : PassesNoExchange test) (blind : IsBlind test) where
    pub dropped_count : count_of test (repeats_dropped plan) ≡ count_of test plan
    dropped_count =
        count_same plan drop_repeats test none blind
        (dropped_same (unit_weight (row_count test)) (λ items. refl) plan [])

    pub merged_count : count_of test (neighbours_merged plan) ≡ count_of test plan
    merged_count =
        count_same plan units_merged test none blind
        (merged_same (unit_weight (row_count test)) (λ items. refl))
