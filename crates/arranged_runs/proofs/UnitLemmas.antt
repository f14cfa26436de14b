-- The plan of a flat program is in units, and stays so without repeats and with neighbours merged.
use Rattle.std.proofs.Common.{◌≡◌, refl, subst, sym, ℕ, Bool, true, false, List, [], ◌∷◌, map, All}
use Rattle.std.specs.Prelude.{flat_map, None}
use Rattle.std.specs.List.{AllByRecursion}
use Rattle.std.proofs.lemmas.List.Elements.{recursion_from_All}
use Rattle.node_form.specs.declared.arrays.Item.{Item}
use Rattle.node_form.specs.declared.instructions.Instr.{Instr}
use Rattle.node_form.specs.declared.instructions.Instr.TheVariants as instr
use Rattle.node_form.specs.declared.tables.Tables.{Tables}
use Rattle.node_form.specs.Fits.{Fits, FitsInstr}
use Rattle.code_parts.specs.Exchanged.{is_exchange_row}
use Rattle.code_parts.specs.Stretch.{ends_stretch, is_goal}
use Rattle.flat_form.specs.Flat.{IsFlat, IsFlatRow}
use Rattle.flat_passes.specs.Kept.{GoalsWithin}
use Rattle.flat_passes.specs.Rewritten.{stretches_of}
use Rattle.flat_passes.proofs.StretchLemmas.{every_append}
use Rattle.row_runs.specs.Cut.{Stretch, all_rows, as_list, rows_of}
use Rattle.row_runs.specs.Straight.{rewritten}
use Rattle.row_runs.proofs.CutLemmas.{cut_rows}
use Rattle.normal_runs.proofs.PassLemmas.{each_holds, front_holds}
use Rattle.plan_form.specs.Units.{Exchange, PlanUnit, Single}
use Rattle.comm_needs.specs.Needs.{is_voted_on, needed_alone, needs_of, planned, vote_if}
use Rattle.comm_needs.specs.Needs.{with_needs}
use Rattle.comm_combine.specs.Merge.{neighbours_merged, units_merged}
use Rattle.comm_combine.specs.Repeats.{fresh_after, repeats_dropped, without_fresh}
use Rattle.plan_passes.specs.Units.{AreUnits, IsInUnits, MoreRow, NoUnits}
use Rattle.plan_passes.proofs.InUnitsLemmas.{units_kept}
use Rattle.plan_passes.proofs.MergeLemmas.{merged_plain}
use Rattle.plan_passes.proofs.RepeatLemmas.{dropped_plain}
use Rattle.plan_passes.proofs.UnitLemmas.{IsPlain}
use Rattle.plan_passes.proofs.WithUnitsLemmas.{goals_within}

-- ---- the code of a flat program has no exchanges
flat_row : (row : Instr) → IsFlatRow row → is_exchange_row row ≡ false
flat_row (instr.Start exchange) flat = absurd flat
flat_row (instr.Finish exchange) flat = absurd flat
flat_row row flat = refl

flat_units : (rows : List Instr) → AllByRecursion IsFlatRow rows → AreUnits rows
flat_units [] all = NoUnits
flat_units (row ∷ rows) all = MoreRow (flat_row row all.0) (flat_units rows all.1)

flat_stretches : (stretches : List (Stretch Instr))
    → AllByRecursion (λ stretch. AllByRecursion IsFlatRow (rows_of stretch)) stretches
    → AllByRecursion (λ stretch. AreUnits stretch.front) stretches
flat_stretches [] all = tt
flat_stretches (stretch ∷ stretches) all = (
  flat_units stretch.front (front_holds IsFlatRow stretch.front (as_list stretch.last) all.0),
  flat_stretches stretches all.1,
)

flat_in_units : (code : Tables) → All IsFlatRow code.code → IsInUnits code
flat_in_units code flat =
    let stretches : List (Stretch Instr) = stretches_of code.code in
    let same : all_rows stretches ≡ code.code = cut_rows ends_stretch (is_goal code.code) 0 code.code in
    flat_stretches stretches
    (each_holds IsFlatRow stretches
    (subst (AllByRecursion IsFlatRow) (sym same) (recursion_from_All IsFlatRow code.code flat)))

-- ---- a loop with what it needs before it, and its vote behind it
module _ (code : Tables) where
  needed_plain : (items : List Item) → AllByRecursion IsPlain (map needed_alone items)
  needed_plain [] = tt
  needed_plain (item ∷ items) = (tt, needed_plain items)

  vote_plain : (b : Bool) (group : ℕ) → AllByRecursion IsPlain (vote_if b group)
  vote_plain true group = ((refl, refl), tt)
  vote_plain false group = tt

  unit_plain : (unit : PlanUnit) → IsPlain unit → AllByRecursion IsPlain (with_needs code unit)
  unit_plain (Exchange items) is = (tt, tt)
  unit_plain (Single (instr.Loop slot group)) is =
      every_append IsPlain (map needed_alone (needs_of code slot group))
      (Single (instr.Loop slot group) ∷ vote_if (is_voted_on code group) group)
      (needed_plain (needs_of code slot group)) (is, vote_plain (is_voted_on code group) group)
  unit_plain (Single row) is = (is, tt)

  units_plain : (units : List PlanUnit) → AllByRecursion IsPlain units
      → AllByRecursion IsPlain (flat_map (with_needs code) units)
  units_plain [] all = tt
  units_plain (unit ∷ units) all =
      every_append IsPlain (with_needs code unit) (flat_map (with_needs code) units)
      (unit_plain unit all.0) (units_plain units all.1)

-- ---- the plan, and the passes
all_within : (code : Tables) → Fits code → GoalsWithin code.code
all_within code fits =
    goals_within code (λ units. units) None 0 code.code
    (recursion_from_All (FitsInstr code) code.code fits.code)

pub planned_in_units : (grid : List ℕ) (code : Tables) → IsFlat code
    → IsInUnits (planned grid code)
planned_in_units grid code flat =
    units_kept code (flat_map (with_needs code)) (units_plain code) (all_within code flat.fits)
    (flat_in_units code flat.rows)

pub dropped_in_units : (code : Tables) → Fits code → IsInUnits code
    → IsInUnits (repeats_dropped code)
dropped_in_units code fits units =
    units_kept code (rewritten without_fresh (fresh_after code) []) (dropped_plain code [])
    (all_within code fits) units

pub merged_in_units : (code : Tables) → Fits code → IsInUnits code
    → IsInUnits (neighbours_merged code)
merged_in_units code fits units =
    units_kept code units_merged merged_plain (all_within code fits) units
