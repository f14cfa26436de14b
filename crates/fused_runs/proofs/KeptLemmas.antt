-- A program with joined loops shows what it showed with each loop alone.
use Rattle.std.proofs.Common.{◌≡◌, refl, sym, ◌∙◌, ap, subst, ℕ, ◌+◌, ◌≤◌, Bool, true, false}
use Rattle.std.proofs.Common.{true≢false, List, [], ◌∷◌, ◌++◌, length, map, Option, Some, None, ℤ}
use Rattle.std.specs.Prelude.{if◌then◌else◌, ⊤}
use Rattle.std.specs.List.{AllByRecursion}
use Rattle.std.proofs.lemmas.List.Elements.{recursion_from_All}
use Rattle.zpl_nums.specs.Integer.{is_true}
use Rattle.row_runs.specs.Run.{Does, Effect, Goes, Leaps, Passes, Stops, Wrong, runs}
use Rattle.row_runs.specs.Segments.{IsStart, Keeps}
use Rattle.row_runs.specs.Cut as cut
use Rattle.row_runs.specs.Cut.{LastAlike, Stretch, all_rows, as_list, moved_by, rows_of}
use Rattle.row_runs.specs.Cut.{segments_by}
use Rattle.row_runs.specs.Straight.{Every, Flow, IsStraight, flow_behind, flow_step, through}
use Rattle.row_runs.proofs.CutLemmas.{cut_rows, goals_are_starts, olds_are}
use Rattle.node_form.specs.declared.arrays.Item.{Item}
use Rattle.node_form.specs.declared.instructions.Instr.{Instr}
use Rattle.node_form.specs.declared.instructions.Instr.TheVariants as instr
use Rattle.node_form.specs.declared.members.Member as number
use Rattle.node_form.specs.declared.tables.Tables.{Tables}
use Rattle.node_form.specs.Control.{Registers, branched, register_value, with_computed}
use Rattle.node_form.specs.Fits.{Fits, FitsInstr}
use Rattle.node_form.specs.Value.{Computed, Divides, Gives, Lacks}
use Rattle.code_parts.specs.Stretch.{ends_stretch, is_goal}
use Rattle.flat_form.specs.Act.{act, control_of, flat_run, tested, without_rows}
use Rattle.flat_form.specs.Right.{are_settled}
use Rattle.flat_form.specs.Row.{Unless, inlined, with_row, words_at}
use Rattle.flat_form.specs.Whole.{Whole, registers_of, start_whole}
use Rattle.flat_passes.specs.Grouped as grouped
use Rattle.flat_passes.specs.Grouped.{Grouped, Runs, all_numbered, ended_by, groups_of}
use Rattle.flat_passes.specs.Grouped.{rewritten_rows}
use Rattle.flat_passes.specs.Kept.{goal_of}
use Rattle.flat_passes.specs.Rewritten.{has_goal, stretches_of}
use Rattle.flat_passes.proofs.FlatRowLemmas.{does, straight}
use Rattle.flat_passes.proofs.SeenLemmas.{runs_seen}
use Rattle.flat_passes.proofs.StretchLemmas.{HoldsOf, IsCut, all_cut, news_hold}
use Rattle.contracted_runs.specs.of_fuse_contract.Fusing.{Loop, both, fused, joined, joins, known_behind, last_rows}
use Rattle.contracted_runs.specs.of_fuse_contract.Fusing.{references_of}
use Rattle.normal_runs.proofs.InlineLemmas.{IsLaid, laid_read, seen, seen_grouped}
use Rattle.normal_runs.proofs.PassLemmas.{IsOf, each_holds, goals_found, last_holds}
use Rattle.fused_runs.proofs.BareLemmas.{IsFine, rows_fine}
use Rattle.fused_runs.proofs.JoinedLemmas.{IsSame}
use Rattle.fused_runs.proofs.SwapLemmas.{IsKept, all_swapped, new_keeps, swapped_start}
use Rattle.fused_runs.proofs.WalkLemmas.{joined_same, row_does}

-- ---- what holds of all rows with loops joined
module _ (tables : Tables) (P : Grouped → Type 0)
    (runs_hold : (slot : ℕ) (group : List number.Member) → P (Runs slot group)) where
  last_hold : (last : Option Loop) (rows : List Grouped) → AllByRecursion P rows
      → AllByRecursion P (last_rows last ++ rows)
  last_hold None rows all = all
  last_hold (Some last) rows all = (runs_hold last.slot last.group, all)

  pub joined_hold : (known : List Item) (last : Option Loop) (rows : List Grouped)
      → AllByRecursion P rows → AllByRecursion P (joined tables known last rows)
  joined_hold known None [] all = tt
  joined_hold known (Some last) [] all = (runs_hold last.slot last.group, tt)
  joined_hold known last (grouped.Plain row ∷ rows) all =
      last_hold last (grouped.Plain row ∷ joined tables (known_behind known row) None rows)
      (all.0, joined_hold (known_behind known row) None rows all.1)
  joined_hold known None (Runs slot group ∷ rows) all =
      joined_hold (references_of tables slot group ++ known)
      (Some (record { slot = slot; group = group })) rows all.1
  joined_hold known (Some last) (Runs slot group ∷ rows) all =
      by (joins tables known last (record { slot = slot; group = group }))
      (λ loop. joined_hold (references_of tables slot group ++ known) (Some loop) rows all.1)
    where
      by : (b : Bool) → ((loop : Loop)
          → AllByRecursion P (joined tables (references_of tables slot group ++ known) (Some loop)
          rows))
          → AllByRecursion P (if b
          then joined tables (references_of tables slot group ++ known)
          (Some (both tables last (record { slot = slot; group = group }))) rows
          else Runs last.slot last.group
          ∷ joined tables (references_of tables slot group ++ known)
          (Some (record { slot = slot; group = group })) rows)
      by true more = more (both tables last (record { slot = slot; group = group }))
      by false more =
          (runs_hold last.slot last.group, more (record { slot = slot; group = group }))

pub all_mapped : (tables : Tables) (P : Grouped → Type 0) (rows : List Instr)
    → AllByRecursion (λ row. P (grouped.grouped tables row)) rows
    → AllByRecursion P (map (grouped.grouped tables) rows)
all_mapped tables P [] all = tt
all_mapped tables P (row ∷ rows) all = (all.0, all_mapped tables P rows all.1)

pub each_of : (P Q : Instr → Type 0) → ((row : Instr) → P row → Q row) → (rows : List Instr)
    → AllByRecursion P rows → AllByRecursion Q rows
each_of P Q one [] all = tt
each_of P Q one (row ∷ rows) all = (one row all.0, each_of P Q one rows all.1)

pub any_of : (Q : Instr → Type 0) → ((row : Instr) → Q row) → (rows : List Instr)
    → AllByRecursion Q rows
any_of Q one [] = tt
any_of Q one (row ∷ rows) = (one row, any_of Q one rows)

-- ---- rows that end a stretch
module _ (IsGoal : ℕ → ℕ → Type 0) (at at' : ℕ) (next : IsGoal (at + 1) (at' + 1))
    (whole : Whole) (goal moved : ℕ) (leads : IsGoal moved goal) where
  branched_alike : (registers : Registers) (b : Bool)
      → LastAlike IsGoal at at' (tested whole (branched registers b moved))
      (tested whole (branched registers b goal))
  branched_alike registers true = cut.BothPass next
  branched_alike registers false = cut.BothLeap leads

  tested_alike : (line : ℕ) (registers : Registers) (computed : Computed ℤ)
      → LastAlike IsGoal at at'
      (tested whole (with_computed computed line (λ value.
      branched registers (is_true value) moved)))
      (tested whole (with_computed computed line (λ value.
      branched registers (is_true value) goal)))
  tested_alike line registers (Gives value) = branched_alike registers (is_true value)
  tested_alike line registers Divides = cut.BothStop
  tested_alike line registers Lacks = cut.BothStop

settled_alike : (IsGoal : ℕ → ℕ → Type 0) (at at' : ℕ) (b : Bool) (effect other : Effect Whole)
    → LastAlike IsGoal at at' effect other
    → LastAlike IsGoal at at' (if b then effect else Does (Stops Wrong))
    (if b then other else Does (Stops Wrong))
settled_alike IsGoal at at' true effect other alike = alike
settled_alike IsGoal at at' false effect other alike = cut.BothStop

module _ (tables : Tables) (n : ℕ) (moved : ℕ → ℕ) (IsGoal : ℕ → ℕ → Type 0) (at at' : ℕ)
    (next : IsGoal (at + 1) (at' + 1)) (whole : Whole) where
  last_alike : (row : Instr) → ends_stretch row ≡ true
      → (has_goal row ≡ true → IsGoal (moved (goal_of row)) (goal_of row))
      → LastAlike IsGoal at at' (row_does tables n (ended_by moved row) whole)
      (does tables n row whole)
  last_alike (instr.Jump goal) e leads = cut.BothLeap (leads refl)
  last_alike (instr.Unless expr goal line) e leads =
      let words = words_at tables expr in
      let alone = with_row (without_rows tables) (Unless words goal line) in
      settled_alike IsGoal at at' (are_settled whole (inlined tables (instr.Unless expr goal line)))
      (tested whole (control_of tables (Unless words (moved goal) line) whole))
      (tested whole (control_of tables (Unless words goal line) whole))
      (tested_alike IsGoal at at' next whole goal (moved goal) (leads refl) line
      (registers_of whole) (register_value alone (registers_of whole) 0))
  last_alike (instr.Trap kind line) e leads = cut.BothStop
  last_alike instr.End e leads = cut.BothStop
  last_alike row e leads = absurd (true≢false (sym e))

-- ---- new rows
abbrev pub IsFront : Grouped → Type 0
IsFront (Runs slot group) = ⊤
IsFront (grouped.Plain row) = ends_stretch row ≡ false

module _ (tables : Tables) (n : ℕ) where
  pub front_row : (row : Grouped) → IsFront row → IsStraight (row_does tables n) row
  front_row (Runs slot group) is = record {
    straight = λ s. (straight (record tables { groups = group ∷ [] }) n
        (instr.Loop slot 0) refl).straight s;
  }
  front_row (grouped.Plain row) is = record {
    straight = λ s. (straight tables n row is).straight s;
  }

  pub grouped_front : (row : Instr) → ends_stretch row ≡ false
      → IsFront (grouped.grouped tables row)
  grouped_front (instr.Loop slot group) e = tt
  grouped_front row e = e

  grouped_laid : (row : Instr) → IsLaid (grouped.grouped tables row)
  grouped_laid (instr.Loop slot group) = tt
  grouped_laid row = tt

  abbrev pub rewrite : List Instr → List Grouped
  rewrite front = joined tables [] None (map (grouped.grouped tables) front)

  pub old_rows : (rows : List Instr) (s : Whole)
      → through (row_does tables n) (map (grouped.grouped tables) rows) s
      ≡ through (does tables n) rows s
  old_rows [] s = refl
  old_rows (row ∷ rows) s =
      step_is (row_does tables n (grouped.grouped tables row) s) (does tables n row s)
      (ap (λ r. act tables n r s) (seen_grouped tables row))
      (λ next. through (row_does tables n) (map (grouped.grouped tables) rows) next)
      (λ next. through (does tables n) rows next) (λ next. old_rows rows next)
    where
      step_is : (e f : Effect Whole) → e ≡ f
          → (g h : Whole → Flow Whole)
          → ((next : Whole) → g next ≡ h next)
          → flow_step e g
          ≡ flow_step f h
      step_is e f same g h more =
          ap (λ effect. flow_step effect g) same ∙ by f
        where
          by : (f : Effect Whole) → flow_step f g
              ≡ flow_step f h
          by (Does (Goes bytes next)) =
              ap (flow_behind bytes) (more next)
          by (Does (Stops stop)) = refl
          by (Leaps goal) = refl
          by Passes = refl

  all_new : (rows : List Grouped) → AllByRecursion IsFront rows
      → Every (IsStraight (row_does tables n)) rows
  all_new [] all = tt
  all_new (row ∷ rows) all = (front_row row all.0, all_new rows all.1)

  all_old : (rows : List Instr) → AllByRecursion (λ row. ends_stretch row ≡ false) rows
      → Every (IsStraight (does tables n)) rows
  all_old [] all = tt
  all_old (row ∷ rows) all = (straight tables n row all.0, all_old rows all.1)

  module _ (fits : Fits tables) (none : tables.cells ≡ 0) where
    abbrev stretches : List (Stretch Instr)
    stretches = stretches_of tables.code

    abbrev moved : ℕ → ℕ
    moved = moved_by rewrite ended_by stretches

    abbrev Start : ℕ → ℕ → Type 0
    Start = IsStart (all_swapped (row_does tables n) (does tables n) rewrite ended_by
        (segments_by rewrite ended_by moved stretches))

    start_of : (row : Instr) → IsOf tables.code row → has_goal row ≡ true
        → Start (moved (goal_of row)) (goal_of row)
    start_of row is has =
        swapped_start (row_does tables n) (does tables n) rewrite ended_by
        (segments_by rewrite ended_by moved stretches) (goal_of row) (moved (goal_of row))
        (goals_are_starts Instr Grouped rewrite ended_by ends_stretch (is_goal tables.code)
        tables.code (goal_of row) (is has).0 (is has).1)

    stretch_kept : (stretch : Stretch Instr)
        → IsCut ends_stretch (is_goal tables.code) stretch
        → AllByRecursion (IsOf tables.code) (rows_of stretch)
        → IsKept (row_does tables n) (does tables n) rewrite ended_by moved Start stretch
    stretch_kept stretch is goals = record {
      old = all_old stretch.front is.straight;
      new = all_new (rewrite stretch.front)
          (joined_hold tables IsFront (λ slot group. tt) [] None
          (map (grouped.grouped tables) stretch.front)
          (all_mapped tables IsFront stretch.front
          (each_of (λ row. ends_stretch row ≡ false)
          (λ row. IsFront (grouped.grouped tables row)) grouped_front stretch.front
          is.straight)));
      ties = λ s. subst (λ flow. IsSame (through (row_does tables n)
          (rewrite stretch.front) s) flow)
          (old_rows stretch.front s)
          (joined_same tables n [] None (map (grouped.grouped tables) stretch.front) tt
          (all_mapped tables (IsFine tables) stretch.front
          (any_of (λ row. IsFine tables (grouped.grouped tables row)) (rows_fine tables fits none)
          stretch.front)) s);
      last = λ row last at at' next s.
          last_alike tables n moved Start at at' next s row (is.last row last)
          (start_of row (last_holds (IsOf tables.code) stretch.front stretch.last row last goals));
    }

    all_kept : (some : List (Stretch Instr))
        → AllByRecursion (IsCut ends_stretch (is_goal tables.code)) some
        → AllByRecursion (λ stretch. AllByRecursion (IsOf tables.code) (rows_of stretch)) some
        → Every (IsKept (row_does tables n) (does tables n) rewrite ended_by moved Start) some
    all_kept [] are goals = tt
    all_kept (stretch ∷ some) are goals =
        (stretch_kept stretch are.0 goals.0, all_kept some are.1 goals.1)

    pub goals_within : (rows : List Instr) → AllByRecursion (FitsInstr tables) rows
        → AllByRecursion (λ row. has_goal row ≡ true → goal_of row ≤ length tables.code) rows
    goals_within [] all = tt
    goals_within (row ∷ rows) all = (one row all.0, goals_within rows all.1)
      where
        one : (row : Instr) → FitsInstr tables row → has_goal row ≡ true
            → goal_of row ≤ length tables.code
        one (instr.Jump goal) fits e = fits.fit
        one (instr.Unless expr goal line) fits e = fits.fit.1
        one row fits e = absurd (true≢false (sym e))

    ended_laid : (row : Instr) → ends_stretch row ≡ true → IsLaid (ended_by moved row)
    ended_laid (instr.Jump goal) e = tt
    ended_laid (instr.Unless expr goal line) e = tt
    ended_laid (instr.Trap kind line) e = tt
    ended_laid instr.End e = tt
    ended_laid row e = absurd (true≢false (sym e))

    all_hold : (some : List (Stretch Instr))
        → AllByRecursion (IsCut ends_stretch (is_goal tables.code)) some
        → AllByRecursion (HoldsOf IsLaid rewrite ended_by moved) some
    all_hold [] are = tt
    all_hold (stretch ∷ some) are = (
      record {
        front = joined_hold tables IsLaid (λ slot group. tt) [] None
            (map (grouped.grouped tables) stretch.front)
            (all_mapped tables IsLaid stretch.front
            (any_of (λ row. IsLaid (grouped.grouped tables row)) grouped_laid stretch.front));
        last = λ row last. ended_laid row (are.0.last row last);
      },
      all_hold some are.1,
    )

    abbrev pub rows : List Grouped
    rows = rewritten_rows tables (joined tables [] None)

    pub all_laid : AllByRecursion IsLaid rows
    all_laid =
        news_hold IsLaid rewrite ended_by moved stretches
        (all_hold stretches (all_cut ends_stretch (is_goal tables.code) 0 tables.code))

    -- unless the new program is wrong
    pub fused_keeps : (a : ℕ) → Keeps (flat_run (fused tables) a n) (flat_run tables a n)
    fused_keeps a =
        let begin = start_whole tables in
        let old : flat_run tables a n ≡ runs (does tables n) tables.code a 0 begin =
        runs_seen (act tables n) (inlined tables) tables.code a 0 begin in
        let new : flat_run (fused tables) a n ≡ runs (row_does tables n) rows a 0 begin =
        ap (λ code. runs (act (fused tables) n) code a 0 begin)
        (laid_read tables (all_numbered 0 rows) rows all_laid)
        ∙ runs_seen (act (fused tables) n) (seen tables) rows a 0 begin in
        let same : all_rows stretches ≡ tables.code =
        cut_rows ends_stretch (is_goal tables.code) 0 tables.code in
        let found : AllByRecursion (IsOf tables.code) tables.code =
        goals_found tables.code tables.code (λ at e. e)
        (goals_within tables.code (recursion_from_All (FitsInstr tables) tables.code fits.code)) in
        let kept = new_keeps (row_does tables n) (does tables n) rewrite ended_by moved stretches
        (all_kept stretches (all_cut ends_stretch (is_goal tables.code) 0 tables.code)
        (each_holds (IsOf tables.code) stretches
        (subst (AllByRecursion (IsOf tables.code)) (sym same) found))) a begin in
        subst (λ r. Keeps r (flat_run tables a n)) (sym new)
        (subst (λ r. Keeps (runs (row_does tables n) rows a 0 begin) r) (sym old)
        (subst (λ code. Keeps (runs (row_does tables n) rows a 0 begin)
        (runs (does tables n) code a 0 begin))
        (olds_are (does tables n) (row_does tables n) (λ (s t : Whole). s ≡ t) rewrite ended_by
        moved stretches ∙ same) kept))
