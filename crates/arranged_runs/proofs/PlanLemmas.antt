-- The plan of a flat program is one, and the passes over plans leave it so.
use Rattle.std.proofs.Common.{◌≡◌, refl, sym, ◌∙◌, ap, arith, subst, ℕ, ◌+◌, Bool, true, false}
use Rattle.std.proofs.Common.{List, [], ◌∷◌, map, All}
use Rattle.std.specs.Prelude.{cond, count_by, flat_map, fold, Option}
use Rattle.std.specs.List.{AllByRecursion}
use Rattle.std.proofs.lemmas.List.Elements.{All-from_recursion, recursion_from_All}
use Rattle.std.proofs.lemmas.List.Sums.{sum_by-cons}
use Rattle.node_form.specs.declared.arrays.Item.{Item}
use Rattle.node_form.specs.declared.instructions.Instr.{Instr}
use Rattle.node_form.specs.declared.instructions.Instr.TheVariants as instr
use Rattle.node_form.specs.declared.tables.Tables.{Tables}
use Rattle.node_form.specs.Grid.{IsGrid}
use Rattle.code_parts.specs.Stretch.{ends_stretch, is_goal}
use Rattle.flat_form.specs.Flat.{IsFlat, IsFlatRow}
use Rattle.flat_passes.specs.Rewritten.{stretches_of, with_moved_goal}
use Rattle.flat_passes.proofs.StretchLemmas.{HoldsOf, every_append, news_hold}
use Rattle.row_runs.specs.Cut.{Stretch, all_rows, as_list, moved_by, passed, rows_of}
use Rattle.row_runs.specs.Straight.{rewritten}
use Rattle.row_runs.proofs.CutLemmas.{cut_rows}
use Rattle.normal_runs.proofs.PassLemmas.{each_holds, front_holds, last_holds}
use Rattle.plan_form.specs.Plan.{IsPlan, IsPlanRow}
use Rattle.plan_form.specs.Rewrite.{ended_by, rows_by, with_units}
use Rattle.plan_form.specs.Units.{Exchange, FinishOf, Other, PlanRow, PlanUnit, Single, StartOf}
use Rattle.plan_form.specs.Units.{numbered_from, unit_of, unit_rows, units_of, with_item}
use Rattle.comm_needs.specs.Needs.{is_voted_on, needed_alone, needs_of, planned, vote_if}
use Rattle.comm_needs.specs.Needs.{with_needs}
use Rattle.comm_combine.specs.Merge.{joined_to, neighbours_merged, units_merged}
use Rattle.comm_combine.specs.Repeats.{exchange_if_any, fresh_after, repeats_dropped, stale_items}
use Rattle.comm_combine.specs.Repeats.{without_fresh}
use Rattle.comm_early.specs.Send.{sent_early}
use Rattle.comm_early.proofs.SumLemmas.{rows_stay}
use Rattle.pass_fits.proofs.CombineLemmas.{dropped_fits, merged_fits}
use Rattle.pass_fits.proofs.EarlyLemmas.{early_fits}
use Rattle.pass_fits.proofs.NeedLemmas.{planned_fits}
use Rattle.stored_shifts.specs.Stored.{ShiftsAreStored}
use Rattle.zpl_claims.specs.Build.{Build}
use Rattle.zpl_compile.specs.Compile.{emitted_for, if_asked, plan_of}
use Rattle.node_emit.specs.Emit.{rows_emitted}
use Rattle.arranged_runs.specs.Plannable.{IsPlannable}

-- ---- units and rows of plans
abbrev IsPlanUnit : PlanUnit → Type 0
IsPlanUnit (Exchange items) = Unit {0}
IsPlanUnit (Single row) = IsPlanRow row

abbrev IsRow : PlanRow → Type 0
IsRow (StartOf items) = Unit {0}
IsRow (FinishOf items) = Unit {0}
IsRow (Other row) = IsPlanRow row

rows_of_units : (units : List PlanUnit) → AllByRecursion IsPlanUnit units
    → AllByRecursion IsRow (flat_map unit_rows units)
rows_of_units [] all = tt
rows_of_units (Exchange items ∷ units) all = (tt, (tt, rows_of_units units all.1))
rows_of_units (Single row ∷ units) all = (all.0, rows_of_units units all.1)

numbered_rows : (n : ℕ) (rows : List PlanRow) → AllByRecursion IsRow rows
    → AllByRecursion IsPlanRow (numbered_from n rows)
numbered_rows n [] all = tt
numbered_rows n (StartOf items ∷ rows) all = (tt, numbered_rows (n + 1) rows all.1)
numbered_rows n (FinishOf items ∷ rows) all = (tt, numbered_rows n rows all.1)
numbered_rows n (Other row ∷ rows) all = (all.0, numbered_rows n rows all.1)

moved_row : (moved : ℕ → ℕ) (row : Instr) → IsPlanRow row → IsPlanRow (with_moved_goal moved row)
moved_row moved (instr.Jump goal) is = tt
moved_row moved (instr.Unless expr goal line) is = tt
moved_row moved row is = is

unit_plan : (code : Tables) (row : Instr) → IsPlanRow row
    → AllByRecursion IsPlanUnit (unit_of code row)
unit_plan code (instr.Start exchange) is = (tt, tt)
unit_plan code (instr.Finish exchange) is = tt
unit_plan code row is = (is, tt)

units_plan : (code : Tables) (rows : List Instr) → AllByRecursion IsPlanRow rows
    → AllByRecursion IsPlanUnit (units_of code rows)
units_plan code [] all = tt
units_plan code (row ∷ rows) all =
    every_append IsPlanUnit (unit_of code row) (units_of code rows) (unit_plan code row all.0)
    (units_plan code rows all.1)

-- ---- a pass over units
module _ (code : Tables) (rewrite : List PlanUnit → List PlanUnit)
    (keeps : (units : List PlanUnit) → AllByRecursion IsPlanUnit units
    → AllByRecursion IsPlanUnit (rewrite units)) where
  stretches_plan : (moved : ℕ → ℕ) (stretches : List (Stretch Instr))
      → AllByRecursion (λ stretch. AllByRecursion IsPlanRow (rows_of stretch)) stretches
      → AllByRecursion (HoldsOf IsRow (rows_by code rewrite) ended_by moved) stretches
  stretches_plan moved [] all = tt
  stretches_plan moved (stretch ∷ stretches) all = (
    record {
      front =
          rows_of_units (rewrite (units_of code stretch.front))
          (keeps (units_of code stretch.front)
          (units_plan code stretch.front
          (front_holds IsPlanRow stretch.front (as_list stretch.last) all.0)));
      last = λ row is.
          moved_row moved row (last_holds IsPlanRow stretch.front stretch.last row is all.0);
    },
    stretches_plan moved stretches all.1,
  )

  rows_plan : All IsPlanRow code.code → All IsPlanRow (with_units rewrite code).code
  rows_plan all =
      let stretches : List (Stretch Instr) = stretches_of code.code in
      let same : all_rows stretches ≡ code.code =
      cut_rows ends_stretch (is_goal code.code) 0 code.code in
      let rows : List PlanRow = passed (rows_by code rewrite) ended_by stretches in
      All-from_recursion IsPlanRow (numbered_from 0 rows)
      (numbered_rows 0 rows
      (news_hold IsRow (rows_by code rewrite) ended_by
      (moved_by (rows_by code rewrite) ended_by stretches) stretches
      (stretches_plan (moved_by (rows_by code rewrite) ended_by stretches) stretches
      (each_holds IsPlanRow stretches
      (subst (AllByRecursion IsPlanRow) (sym same)
      (recursion_from_All IsPlanRow code.code all))))))

-- ---- without repeats
any_plan : (items : List Item) → AllByRecursion IsPlanUnit (exchange_if_any items)
any_plan [] = tt
any_plan (item ∷ items) = (tt, tt)

stale_plan : (fresh : List Item) (unit : PlanUnit) → IsPlanUnit unit
    → AllByRecursion IsPlanUnit (without_fresh fresh unit)
stale_plan fresh (Exchange items) is = any_plan (stale_items fresh items)
stale_plan fresh (Single row) is = (is, tt)

all_stale_plan : (code : Tables) (fresh : List Item) (units : List PlanUnit)
    → AllByRecursion IsPlanUnit units
    → AllByRecursion IsPlanUnit (rewritten without_fresh (fresh_after code) fresh units)
all_stale_plan code fresh [] all = tt
all_stale_plan code fresh (unit ∷ units) all =
    every_append IsPlanUnit (without_fresh fresh unit)
    (rewritten without_fresh (fresh_after code) (fresh_after code fresh unit) units)
    (stale_plan fresh unit all.0)
    (all_stale_plan code (fresh_after code fresh unit) units all.1)

pub dropped_plan : (code : Tables) → IsPlan code → IsPlan (repeats_dropped code)
dropped_plan code plan = record {
  fits = dropped_fits code plan.fits;
  rows =
      rows_plan code (rewritten without_fresh (fresh_after code) []) (all_stale_plan code [])
      plan.rows;
}

-- ---- with neighbours merged
joined_plan : (items : List Item) (units : List PlanUnit) → AllByRecursion IsPlanUnit units
    → AllByRecursion IsPlanUnit (joined_to items units)
joined_plan items [] all = (tt, tt)
joined_plan items (Exchange others ∷ units) all = (tt, all.1)
joined_plan items (Single row ∷ units) all = (tt, all)

all_merged_plan : (units : List PlanUnit) → AllByRecursion IsPlanUnit units
    → AllByRecursion IsPlanUnit (units_merged units)
all_merged_plan [] all = tt
all_merged_plan (Exchange items ∷ units) all =
    joined_plan (fold with_item [] items) (units_merged units) (all_merged_plan units all.1)
all_merged_plan (Single row ∷ units) all = (all.0, all_merged_plan units all.1)

pub merged_plan : (code : Tables) → IsPlan code → IsPlan (neighbours_merged code)
merged_plan code plan = record {
  fits = merged_fits code plan.fits;
  rows = rows_plan code units_merged all_merged_plan plan.rows;
}

-- ---- the plan of a flat program
flat_plan_row : (row : Instr) → IsFlatRow row → IsPlanRow row
flat_plan_row (instr.TreeVote group) flat = absurd flat
flat_plan_row (instr.TreeFold scalar fold) flat = absurd flat
flat_plan_row row flat = tt

flat_plan_rows : (rows : List Instr) → AllByRecursion IsFlatRow rows
    → AllByRecursion IsPlanRow rows
flat_plan_rows [] flat = tt
flat_plan_rows (row ∷ rows) flat = (flat_plan_row row flat.0, flat_plan_rows rows flat.1)

alone_plan : (items : List Item) → AllByRecursion IsPlanUnit (map needed_alone items)
alone_plan [] = tt
alone_plan (item ∷ items) = (tt, alone_plan items)

vote_plan : (b : Bool) (group : ℕ) → AllByRecursion IsPlanUnit (vote_if b group)
vote_plan true group = (tt, tt)
vote_plan false group = tt

needs_plan : (code : Tables) (unit : PlanUnit) → IsPlanUnit unit
    → AllByRecursion IsPlanUnit (with_needs code unit)
needs_plan code (Exchange items) is = (tt, tt)
needs_plan code (Single (instr.Loop slot group)) is =
    every_append IsPlanUnit (map needed_alone (needs_of code slot group))
    (Single (instr.Loop slot group) ∷ vote_if (is_voted_on code group) group)
    (alone_plan (needs_of code slot group))
    (tt, vote_plan (is_voted_on code group) group)
needs_plan code (Single row) is = (is, tt)

all_needs_plan : (code : Tables) (units : List PlanUnit) → AllByRecursion IsPlanUnit units
    → AllByRecursion IsPlanUnit (flat_map (with_needs code) units)
all_needs_plan code [] all = tt
all_needs_plan code (unit ∷ units) all =
    every_append IsPlanUnit (with_needs code unit) (flat_map (with_needs code) units)
    (needs_plan code unit all.0) (all_needs_plan code units all.1)

pub planned_plan : (grid : List ℕ) (code : Tables) → IsGrid grid → IsFlat code
    → ShiftsAreStored code → IsPlan (planned grid code)
planned_plan grid code is flat stored = record {
  fits = planned_fits grid code is flat.fits stored;
  rows =
      rows_plan code (flat_map (with_needs code)) (all_needs_plan code)
      (All-from_recursion IsPlanRow code.code
      (flat_plan_rows code.code (recursion_from_All IsFlatRow code.code flat.rows)));
}

-- ---- with starts moved up: rows change places alone
is_along_tree : Instr → Bool
is_along_tree (instr.TreeVote group) = true
is_along_tree (instr.TreeFold scalar fold) = true
is_along_tree row = false

told : (row : Instr) → IsPlanRow row → is_along_tree row ≡ false
unfolding is_along_tree
told (instr.TreeVote group) is = absurd is
told (instr.TreeFold scalar fold) is = absurd is
told row is = refl

told_back : (row : Instr) → is_along_tree row ≡ false → IsPlanRow row
unfolding is_along_tree
told_back (instr.TreeVote group) e = cc
told_back (instr.TreeFold scalar fold) e = cc
told_back row e = tt

one_more : (row : Instr) (rows : List Instr)
    → count_by is_along_tree (row ∷ rows)
    ≡ cond (is_along_tree row) 1 0 + count_by is_along_tree rows
one_more row rows = sum_by-cons (λ row. cond (is_along_tree row) 1 0) row rows

none_are : (rows : List Instr) → AllByRecursion IsPlanRow rows → count_by is_along_tree rows ≡ 0
none_are [] all = refl
none_are (row ∷ rows) all =
    let here : ◌≡◌ {A = ℕ} (cond (is_along_tree row) 1 0) 0 =
    ap (λ b. cond {A = ℕ} b 1 0) (told row all.0) in
    omega (arith, one_more row rows, here, none_are rows all.1)

one_is_none : (n : ℕ) → 1 + n ≡ 0 → ⊥
one_is_none n e = omega (arith, e)

all_are : (rows : List Instr) → count_by is_along_tree rows ≡ 0 → AllByRecursion IsPlanRow rows
all_are [] e = tt
all_are (row ∷ rows) e =
    by (is_along_tree row) refl (sym (one_more row rows) ∙ e) (λ none. all_are rows none)
  where
    by : (b : Bool) → is_along_tree row ≡ b → cond b 1 0 + count_by is_along_tree rows ≡ 0
        → (count_by is_along_tree rows ≡ 0 → AllByRecursion IsPlanRow rows)
        → AllByRecursion IsPlanRow (row ∷ rows)
    by false is e more = (told_back row is, more (omega (arith, e)))
    by true is e more = absurd (one_is_none (count_by is_along_tree rows) e)

pub early_plan : (links : Option ℕ) (code : Tables) → IsPlan code → IsPlan (sent_early links code)
early_plan links code plan = record {
  fits = early_fits links code plan.fits;
  rows =
      All-from_recursion IsPlanRow (sent_early links code).code
      (all_are (sent_early links code).code
      (rows_stay links code is_along_tree
      ∙ none_are code.code (recursion_from_All IsPlanRow code.code plan.rows)));
}

-- ---- all passes, where they are asked for
asked_plan : (asked : Bool) (pass : Tables → Tables)
    → ((code : Tables) → IsPlan code → IsPlan (pass code)) → (code : Tables) → IsPlan code
    → IsPlan (if_asked asked pass code)
asked_plan true pass keeps code plan = keeps code plan
asked_plan false pass keeps code plan = plan

pub arranged_plan : (build : Build) (flat : Tables) → IsGrid build.grid → IsPlannable flat
    → IsPlan (plan_of build flat)
arranged_plan build flat is can =
    asked_plan build.options.early (sent_early build.links) (early_plan build.links) _
    (asked_plan build.options.merge neighbours_merged merged_plan _
    (asked_plan build.options.redundant repeats_dropped dropped_plan _
    (planned_plan build.grid flat is can.flat can.stored)))

pub code_plan : (build : Build) (plan : Tables) → IsPlan plan → build.options.tree ≡ false
    → All IsPlanRow (emitted_for build plan).code
code_plan build plan is e =
    subst (λ tree. All IsPlanRow (rows_emitted tree plan.code)) (sym e) is.rows
