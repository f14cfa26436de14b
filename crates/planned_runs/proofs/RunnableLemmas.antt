-- The rows of a flat program with what they need: each start has its finish behind it, and each
-- loop that is voted on its vote.
use Rattle.std.proofs.Common.{◌≡◌, refl, sym, ◌∙◌, ap, subst, ℕ, Bool, true, false, true≢false}
use Rattle.std.proofs.Common.{List, [], ◌∷◌, ◌++◌, map, append-nil, append_assoc, Option, Some}
use Rattle.std.proofs.Common.{None}
use Rattle.std.specs.List.{AllByRecursion, flat_map}
use Rattle.std.specs.Option.{option_map}
use Rattle.std.proofs.lemmas.Grind.{flat_map-append}
use Rattle.node_form.specs.declared.arrays.Item.{Item}
use Rattle.node_form.specs.declared.instructions.Instr.{Instr}
use Rattle.node_form.specs.declared.instructions.Instr.TheVariants as instr
use Rattle.node_form.specs.declared.tables.Tables.{Tables}
use Rattle.code_parts.specs.Stretch.{ends_stretch, is_goal}
use Rattle.row_runs.specs.Cut.{Stretch, as_list, passed, rows_of, segments_by}
use Rattle.row_runs.specs.Segments.{news}
use Rattle.row_runs.proofs.CutLemmas.{cut_rows}
use Rattle.flat_form.specs.Flat.{IsFlatRow}
use Rattle.flat_passes.specs.Rewritten.{stretches_of}
use Rattle.flat_passes.proofs.StretchLemmas.{IsCut, all_cut}
use Rattle.normal_runs.proofs.PassLemmas.{each_holds, front_holds}
use Rattle.plan_form.specs.Rewrite.{ended_by, rows_by}
use Rattle.plan_form.specs.Units.{PlanRow, PlanUnit, Single, unit_of, unit_rows, units_of}
use Rattle.comm_needs.specs.Needs.{is_voted_on, loop_with_needs, needed_alone, needs_of}
use Rattle.comm_needs.specs.Needs.{row_with_needs, vote_if, with_needs}
use Rattle.planned_runs.proofs.NumberLemmas.{ARow, AnExchange, AreRunnable, NoRows, OtherLoop}
use Rattle.planned_runs.proofs.NumberLemmas.{VotedLoop}

module _ (code : Tables) where
  abbrev needing : List PlanUnit → List PlanUnit
  needing = flat_map (with_needs code)

  abbrev pub rows_needing : List Instr → List PlanRow
  rows_needing rows = rows_by code needing rows

  -- ---- a row
  exchanges_run : (items : List Item) (rows : List PlanRow) → AreRunnable code rows
      → AreRunnable code (flat_map unit_rows (map needed_alone items) ++ rows)
  exchanges_run [] rows are = are
  exchanges_run (item ∷ items) rows are = AnExchange (exchanges_run items rows are)

  loop_run : (slot group : ℕ) (rows : List PlanRow) → AreRunnable code rows
      → AreRunnable code (flat_map unit_rows (loop_with_needs code slot group) ++ rows)
  loop_run slot group rows are =
      let first = map needed_alone (needs_of code slot group) in
      let rest = Single (instr.Loop slot group) ∷ vote_if (is_voted_on code group) group in
      subst (AreRunnable code)
      (sym (ap (λ l. l ++ rows) (flat_map-append unit_rows first rest)
      ∙ append_assoc (flat_map unit_rows first) (flat_map unit_rows rest) rows))
      (exchanges_run (needs_of code slot group) (flat_map unit_rows rest ++ rows)
      (by (is_voted_on code group) refl))
    where
      by : (b : Bool) → is_voted_on code group ≡ b
          → AreRunnable code
          (flat_map unit_rows (Single (instr.Loop slot group) ∷ vote_if b group) ++ rows)
      by true is = VotedLoop is (ARow refl refl are)
      by false is = OtherLoop is are

  row_run : (row : Instr) → IsFlatRow row → (rows : List PlanRow) → AreRunnable code rows
      → AreRunnable code (flat_map unit_rows (row_with_needs code row) ++ rows)
  row_run (instr.Loop slot group) flat rows are =
      subst (λ units. AreRunnable code (flat_map unit_rows units ++ rows))
      (sym (append-nil (loop_with_needs code slot group))) (loop_run slot group rows are)
  row_run (instr.Start exchange) flat rows are = absurd flat
  row_run (instr.Finish exchange) flat rows are = absurd flat
  row_run row flat rows are = ARow refl refl are

  -- ---- the rows of a stretch
  front_is : (row : Instr) (rows : List Instr)
      → rows_needing (row ∷ rows)
      ≡ flat_map unit_rows (row_with_needs code row) ++ rows_needing rows
  front_is row rows =
      ap (λ units. flat_map unit_rows units)
      (flat_map-append (with_needs code) (unit_of code row) (units_of code rows))
      ∙ flat_map-append unit_rows (needing (unit_of code row)) (needing (units_of code rows))

  front_run : (front : List Instr) → AllByRecursion IsFlatRow front → (rows : List PlanRow)
      → AreRunnable code rows → AreRunnable code (rows_needing front ++ rows)
  front_run [] flat rows are = are
  front_run (row ∷ front) flat rows are =
      subst (AreRunnable code)
      (sym (ap (λ l. l ++ rows) (front_is row front)
      ∙ append_assoc (flat_map unit_rows (row_with_needs code row)) (rows_needing front) rows))
      (row_run row flat.0 (rows_needing front ++ rows) (front_run front flat.1 rows are))

  end_run : (moved : ℕ → ℕ) (row : Instr) → ends_stretch row ≡ true → (rows : List PlanRow)
      → AreRunnable code rows → AreRunnable code (ended_by moved row ∷ rows)
  end_run moved (instr.Jump goal) e rows are = ARow refl refl are
  end_run moved (instr.Unless expr goal line) e rows are = ARow refl refl are
  end_run moved (instr.Trap kind line) e rows are = ARow refl refl are
  end_run moved instr.End e rows are = ARow refl refl are
  end_run moved row e rows are = absurd (true≢false (sym e))

  last_run : (moved : ℕ → ℕ) (last : Option Instr)
      → ((row : Instr) → last ≡ Some row → ends_stretch row ≡ true) → (rows : List PlanRow)
      → AreRunnable code rows
      → AreRunnable code (as_list (option_map (ended_by moved) last) ++ rows)
  last_run moved None is rows are = are
  last_run moved (Some row) is rows are = end_run moved row (is row refl) rows are

  all_run : (moved : ℕ → ℕ) (stretches : List (Stretch Instr))
      → AllByRecursion (IsCut ends_stretch (is_goal code.code)) stretches
      → AllByRecursion (λ stretch. AllByRecursion IsFlatRow (rows_of stretch)) stretches
      → AreRunnable code (news (segments_by (rows_by code needing) ended_by moved stretches))
  all_run moved [] cuts flat = NoRows
  all_run moved (stretch ∷ stretches) cuts flat =
      let rest = news (segments_by (rows_by code needing) ended_by moved stretches) in
      let last = as_list (option_map (ended_by moved) stretch.last) in
      subst (AreRunnable code) (sym (append_assoc (rows_needing stretch.front) last rest))
      (front_run stretch.front
      (front_holds IsFlatRow stretch.front (as_list stretch.last) flat.0) (last ++ rest)
      (last_run moved stretch.last cuts.0.last rest (all_run moved stretches cuts.1 flat.1)))

  pub planned_run : AllByRecursion IsFlatRow code.code
      → AreRunnable code (passed (rows_by code needing) ended_by (stretches_of code.code))
  planned_run flat =
      let stretches = stretches_of code.code in
      all_run _ stretches (all_cut ends_stretch (is_goal code.code) 0 code.code)
      (each_holds IsFlatRow stretches
      (subst (AllByRecursion IsFlatRow)
      (sym (cut_rows ends_stretch (is_goal code.code) 0 code.code)) flat))
