-- The passes over plans one behind the other.
use Rattle.std.proofs.Common.{◌≡◌, refl, ◌∙◌, arith, ℕ, Bool, true, false, List, All}
use Rattle.std.proofs.lemmas.Bool.Decides.{nat_tests}
use Rattle.std.specs.Prelude.{nat_lt, Option, Some, None}
use Rattle.node_form.specs.declared.tables.Tables.{Tables}
use Rattle.node_form.specs.Fits.{Fits}
use Rattle.node_form.specs.Grid.{IsGrid}
use Rattle.code_parts.specs.Early.{is_roomy}
use Rattle.row_runs.specs.Run.{Result}
use Rattle.row_runs.specs.Segments.{Keeps, Same}
use Rattle.row_runs.proofs.RowLemmas.{keeps_through}
use Rattle.grid_meaning.specs.State.{HasThree}
use Rattle.zpl_compile.specs.of_plan_meaning.Act.{plan_run}
use Rattle.comm_needs.specs.Needs.{planned}
use Rattle.comm_combine.specs.Merge.{neighbours_merged}
use Rattle.comm_combine.specs.Repeats.{repeats_dropped}
use Rattle.comm_early.specs.Send.{sent_early}
use Rattle.pass_fits.proofs.CombineLemmas.{dropped_fits, merged_fits}
use Rattle.pass_fits.proofs.EarlyLemmas.{early_fits}
use Rattle.pass_fits.proofs.NeedLemmas.{planned_fits}
use Rattle.plan_passes.specs.Threes.{HasThrees}
use Rattle.plan_passes.specs.Units.{IsInUnits}
use Rattle.plan_passes.proofs.EarlyRunLemmas.{early_keeps_runs}
use Rattle.plan_passes.proofs.MergeLemmas.{merged_keep_runs}
use Rattle.plan_passes.proofs.RepeatLemmas.{dropped_keep_runs}
use Rattle.zpl_claims.specs.Build.{Build, HoldAsMany, IsBuiltFor}
use Rattle.zpl_compile.specs.Compile.{if_asked, plan_of}
use Rattle.arranged_runs.specs.Plannable.{IsPlannable}
use Rattle.arranged_runs.specs.Sent.{IsSentInOrder}
use Rattle.arranged_runs.proofs.SentLemmas.{sent_in_order, units_in_order}
use Rattle.arranged_runs.proofs.ThreeLemmas.{dropped_three, early_three, merged_three}
use Rattle.arranged_runs.proofs.ThreeLemmas.{planned_three, rows_have_three}
use Rattle.arranged_runs.proofs.UnitLemmas.{dropped_in_units, merged_in_units, planned_in_units}

-- what the passes ask of a plan
record IsFine (plan : Tables) : Type 0 where
  fits : Fits plan
  units : IsInUnits plan
  threes : HasThrees plan

planned_fine : (grid : List ℕ) (flat : Tables) → IsGrid grid → IsPlannable flat
    → IsFine (planned grid flat)
planned_fine grid flat is can = record {
  fits = planned_fits grid flat is can.flat.fits can.stored;
  units = planned_in_units grid flat can.flat;
  threes = planned_three flat can.threes grid can.flat.rows;
}

drop_fine : (asked : Bool) (plan : Tables) → IsFine plan → IsFine (if_asked asked repeats_dropped plan)
drop_fine false plan fine = fine
drop_fine true plan fine = record {
  fits = dropped_fits plan fine.fits;
  units = dropped_in_units plan fine.fits fine.units;
  threes = dropped_three plan fine.threes;
}

merge_fine : (asked : Bool) (plan : Tables) → IsFine plan
    → IsFine (if_asked asked neighbours_merged plan)
merge_fine false plan fine = fine
merge_fine true plan fine = record {
  fits = merged_fits plan fine.fits;
  units = merged_in_units plan fine.fits fine.units;
  threes = merged_three plan fine.threes;
}

-- ---- links that hold as many have room as well
holds_room : (least links : Option ℕ) → HoldAsMany least links → (count : ℕ)
    → is_roomy least count ≡ true → is_roomy links count ≡ true
holds_room least None holds count e = refl
holds_room None (Some capacity) holds count e = absurd holds
holds_room (Some least) (Some capacity) holds count e =
    let one : nat_lt count capacity ≡ true = grind (arith, nat_tests, e, holds) in one

-- ---- runs
module _ (links : Option ℕ) (a n : ℕ) where
  abbrev shown : Tables → Result
  shown plan = plan_run plan links a n

  drop_keeps : (asked : Bool) (plan : Tables) → IsFine plan
      → Keeps (shown plan) (shown (if_asked asked repeats_dropped plan))
  drop_keeps false plan fine = Same refl
  drop_keeps true plan fine = dropped_keep_runs plan links fine.fits fine.threes fine.units a n

  merge_keeps : (asked : Bool) (plan : Tables) → IsFine plan
      → Keeps (shown plan) (shown (if_asked asked neighbours_merged plan))
  merge_keeps false plan fine = Same refl
  merge_keeps true plan fine = merged_keep_runs plan links fine.fits fine.threes fine.units a n

  early_keeps : (least : Option ℕ) (asked : Bool) → (asked ≡ true → HoldAsMany least links)
      → (plan : Tables) → IsFine plan
      → Keeps (shown plan) (shown (if_asked asked (sent_early least) plan))
  early_keeps least false holds plan fine = Same refl
  early_keeps least true holds plan fine =
      early_keeps_runs plan least links (holds_room least links (holds refl)) n fine.fits fine.units
      a

module _ (build : Build) (flat : Tables) (is : IsGrid build.grid) (can : IsPlannable flat) where
  abbrev one : Tables
  one = planned build.grid flat

  abbrev two : Tables
  two = if_asked build.options.redundant repeats_dropped one

  abbrev three : Tables
  three = if_asked build.options.merge neighbours_merged two

  one_fine : IsFine one
  one_fine = planned_fine build.grid flat is can

  two_fine : IsFine two
  two_fine = drop_fine build.options.redundant one one_fine

  three_fine : IsFine three
  three_fine = merge_fine build.options.merge two two_fine

  pub arranged_keeps : (links : Option ℕ) → IsBuiltFor build links → (a n : ℕ)
      → Keeps (plan_run (planned build.grid flat) links a n) (plan_run (plan_of build flat) links a n)
  arranged_keeps links built a n =
      keeps_through (shown links a n one) (shown links a n two) (shown links a n (plan_of build flat))
      (drop_keeps links a n build.options.redundant one one_fine)
      (keeps_through (shown links a n two) (shown links a n three)
      (shown links a n (plan_of build flat))
      (merge_keeps links a n build.options.merge two two_fine)
      (early_keeps links a n build.links build.options.early built.1 three three_fine))

  pub arranged_fits : Fits (plan_of build flat)
  arranged_fits = by build.options.early
    where
      by : (asked : Bool) → Fits (if_asked asked (sent_early build.links) three)
      by false = three_fine.fits
      by true = early_fits build.links three three_fine.fits

  pub arranged_three : All (HasThree (plan_of build flat)) (plan_of build flat).code
  arranged_three = rows_have_three (plan_of build flat) (by build.options.early)
    where
      by : (asked : Bool) → HasThrees (if_asked asked (sent_early build.links) three)
      by false = three_fine.threes
      by true = early_three build.links three three_fine.threes

  pub arranged_in_order : is_roomy build.links 0 ≡ true
      → IsSentInOrder build.links (plan_of build flat)
  arranged_in_order some = by build.options.early
    where
      by : (asked : Bool)
          → IsSentInOrder build.links (if_asked asked (sent_early build.links) three)
      by false = units_in_order build.links three some three_fine.units
      by true = sent_in_order build.links three some three_fine.units

-- ---- the grid of a plan is that which it is made for
same_grid : (asked : Bool) (pass : Tables → Tables) → ((tables : Tables) → (pass tables).grid ≡ tables.grid)
    → (tables : Tables) → (if_asked asked pass tables).grid ≡ tables.grid
same_grid true pass same tables = same tables
same_grid false pass same tables = refl

pub arranged_grid : (build : Build) (flat : Tables) → (plan_of build flat).grid ≡ build.grid
arranged_grid build flat =
    let one : Tables = planned build.grid flat in
    let two : Tables = if_asked build.options.redundant repeats_dropped one in
    let three : Tables = if_asked build.options.merge neighbours_merged two in
    same_grid build.options.early (sent_early build.links) (λ tables. refl) three
    ∙ (same_grid build.options.merge neighbours_merged (λ tables. refl) two
    ∙ same_grid build.options.redundant repeats_dropped (λ tables. refl) one)
