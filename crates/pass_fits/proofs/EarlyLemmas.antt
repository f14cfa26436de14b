-- A plan that fits does so with its starts moved up, and as node code.
use Rattle.std.proofs.Common.{◌≡◌, refl, sym, subst, arith, ℕ, ◌≤◌, Bool, true, false}
use Rattle.std.proofs.Common.{List, [], ◌∷◌, length, map}
use Rattle.std.specs.Prelude.{Option, count_by, fold, if◌then◌else◌, reverse}
use Rattle.std.specs.List.{AllByRecursion}
use Rattle.std.proofs.lemmas.List.{length-map, reverse-append}
use Rattle.std.proofs.lemmas.List.Elements.{All-from_recursion, recursion_from_All}
use Rattle.std.proofs.lemmas.List.Sums.{sum_by-cons}
use Rattle.row_runs.specs.Cut.{Stretch, all_rows, as_list, moved_by, rows_of}
use Rattle.row_runs.proofs.CutLemmas.{cut_rows}
use Rattle.node_form.specs.declared.instructions.Instr.{Instr}
use Rattle.node_form.specs.declared.instructions.Instr.TheVariants as instr
use Rattle.node_form.specs.declared.tables.Tables.{Tables}
use Rattle.node_form.specs.Fits.{Fits, FitsInstr}
use Rattle.node_form.specs.Grid.{IsGrid}
use Rattle.code_parts.specs.Early.{may_cross}
use Rattle.code_parts.specs.Stretch.{ends_stretch, is_goal}
use Rattle.pass_parts.specs.of_flat_passes.Rewritten.{stretches_of}
use Rattle.pass_parts.proofs.of_flat_passes.StretchLemmas.{HoldsOf, every_append, news_hold}
use Rattle.pass_parts.specs.of_comm_early.Send.{open_behind_all, put_early, put_row, rows_early, sent_early}
use Rattle.pass_parts.proofs.of_comm_early.SumLemmas.{rows_stay}
use Rattle.pass_parts.specs.of_node_emit.Emit.{along_tree, emitted}
use Rattle.pass_fits.proofs.RecodedLemmas.{recoded_fits}
use Rattle.pass_fits.proofs.UnitLemmas.{every_back, every_front, last_of}

-- ---- rows that change places
module _ (P : Instr → Type 0) where
  every_back_to_front : (rows : List Instr) → AllByRecursion P rows
      → AllByRecursion P (reverse rows)
  every_back_to_front [] all = tt
  every_back_to_front (row ∷ rows) all =
      subst (AllByRecursion P) (sym (reverse-append (row ∷ []) rows))
      (every_append P (reverse rows) (row ∷ []) (every_back_to_front rows all.1) (all.0, tt))

  module _ (tables : Tables) (links : Option ℕ) where
    early_holds : (exchange : ℕ) (before : List Instr) → P (instr.Start exchange)
        → AllByRecursion P before → AllByRecursion P (put_early tables links exchange before)
    early_holds exchange [] start all = (start, tt)
    early_holds exchange (last ∷ before) start all =
        by (may_cross tables links (length (open_behind_all before)) last exchange)
        (early_holds exchange before start all.1)
      where
        by : (b : Bool) → AllByRecursion P (put_early tables links exchange before)
            → AllByRecursion P (if b then last ∷ put_early tables links exchange before
            else instr.Start exchange ∷ last ∷ before)
        by true more = (all.0, more)
        by false more = (start, all)

    put_holds : (before : List Instr) (row : Instr) → P row → AllByRecursion P before
        → AllByRecursion P (put_row tables links before row)
    put_holds before (instr.Start exchange) holds all = early_holds exchange before holds all
    put_holds before row holds all = (holds, all)

    all_put : (before rows : List Instr) → AllByRecursion P before → AllByRecursion P rows
        → AllByRecursion P (fold (put_row tables links) before rows)
    all_put before [] all more = all
    all_put before (row ∷ rows) all more =
        all_put (put_row tables links before row) rows (put_holds before row more.0 all) more.1

    rows_hold : (rows : List Instr) → AllByRecursion P rows
        → AllByRecursion P (rows_early tables links rows)
    rows_hold rows all =
        every_back_to_front (fold (put_row tables links) [] rows) (all_put [] rows tt all)

    stretches_hold : (moved : ℕ → ℕ) (stretches : List (Stretch Instr))
        → AllByRecursion P (all_rows stretches)
        → AllByRecursion (HoldsOf P (rows_early tables links) (λ moved row. row) moved) stretches
    stretches_hold moved [] all = tt
    stretches_hold moved (stretch ∷ stretches) all =
        let here = every_front P (rows_of stretch) (all_rows stretches) all in (
          record {
            front =
                rows_hold stretch.front (every_front P stretch.front (as_list stretch.last) here);
            last = λ row is. last_of P stretch.last
                (every_back P stretch.front (as_list stretch.last) here) row is;
          },
          stretches_hold moved stretches (every_back P (rows_of stretch) (all_rows stretches) all),
        )

    code_holds : AllByRecursion P tables.code → AllByRecursion P (sent_early links tables).code
    code_holds all =
        news_hold P (rows_early tables links) (λ moved row. row)
        (moved_by (rows_early tables links) (λ moved row. row) (stretches_of tables.code))
        (stretches_of tables.code)
        (stretches_hold
        (moved_by (rows_early tables links) (λ moved row. row) (stretches_of tables.code))
        (stretches_of tables.code)
        (subst (AllByRecursion P) (sym (cut_rows ends_stretch (is_goal tables.code) 0 tables.code))
        all))

all_counted : (rows : List Instr) → count_by (λ row. true) rows ≡ length rows
all_counted [] = refl
all_counted (row ∷ rows) = omega (arith, sum_by-cons (λ row. 1) row rows, all_counted rows)

pub early_fits : (links : Option ℕ) (plan : Tables) → Fits plan → Fits (sent_early links plan)
early_fits links plan fits =
    let new : List Instr = (sent_early links plan).code in
    let long : length plan.code ≤ length new =
    omega (
      arith,
      all_counted plan.code,
      all_counted new,
      rows_stay links plan (λ row. true),
    ) in
    recoded_fits plan plan.grid new long fits.grid fits
    (All-from_recursion (FitsInstr plan) new
    (code_holds (FitsInstr plan) plan links (recursion_from_All (FitsInstr plan) plan.code fits.code)))

-- ---- node code
along_fits : (plan : Tables) (row : Instr) → FitsInstr plan row → FitsInstr plan (along_tree row)
along_fits plan (instr.Vote group) fit = record { rank = fit.rank; fit = fit.fit }
along_fits plan (instr.Fold scalar fold) fit = record { rank = fit.rank; fit = fit.fit }
along_fits plan row fit = fit

all_along : (plan : Tables) (rows : List Instr) → AllByRecursion (FitsInstr plan) rows
    → AllByRecursion (FitsInstr plan) (map along_tree rows)
all_along plan [] all = tt
all_along plan (row ∷ rows) all = (along_fits plan row all.0, all_along plan rows all.1)

pub emitted_fits : (tree : Bool) (grid : List ℕ) (plan : Tables) → IsGrid grid → Fits plan
    → Fits (emitted tree grid plan)
emitted_fits true grid plan is fits =
    let rows : List Instr = map along_tree plan.code in
    recoded_fits plan grid rows (omega (arith, length-map plan.code along_tree)) is fits
    (All-from_recursion (FitsInstr plan) rows
    (all_along plan plan.code (recursion_from_All (FitsInstr plan) plan.code fits.code)))
emitted_fits false grid plan is fits =
    recoded_fits plan grid plan.code (omega arith) is fits fits.code
