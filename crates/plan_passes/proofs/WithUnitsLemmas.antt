-- A pass over the units of a plan keeps its runs: the end behind all rows moves no goal.
use Rattle.std.proofs.Common.{◌≡◌, refl, sym, ◌∙◌, ap, ap₂, subst, ℕ, ◌+◌, ◌≤◌, true}
use Rattle.std.proofs.Common.{List, [], ◌∷◌, ◌++◌, length, true≢false, append-nil, length-append, arith}
use Rattle.std.proofs.Math.Path.{fun_ext}
use Rattle.std.proofs.lemmas.List.Elements.{recursion_from_All}
use Rattle.std.specs.Prelude.{flat_map, Option, Some, None}
use Rattle.std.specs.List.{AllByRecursion}
use Rattle.std.specs.Option.{option_map}
use Rattle.node_form.specs.Fits.{Fits, FitsInstr}
use Rattle.node_form.specs.declared.arrays.Item.{Item}
use Rattle.node_form.specs.declared.instructions.Instr.{Instr}
use Rattle.node_form.specs.declared.instructions.Instr.TheVariants as instr
use Rattle.node_form.specs.declared.tables.Tables.{Tables}
use Rattle.code_parts.specs.Stretch.{ends_stretch, is_goal}
use Rattle.comm_combine.specs.of_flat_passes.Kept.{GoalsWithin, goal_of}
use Rattle.comm_combine.specs.of_flat_passes.Rewritten.{has_goal, stretches_of, with_moved_goal}
use Rattle.comm_combine.specs.of_plan_form.Rewrite.{ended_by, rows_by, with_units}
use Rattle.comm_combine.specs.of_plan_form.Units.{Other, PlanRow, PlanUnit, Single, exchanges_in, numbered_from}
use Rattle.comm_combine.specs.of_plan_form.Units.{unit_of, unit_rows, units_of}
use Rattle.comm_combine.proofs.of_plan_form.PassLemmas.{exchanges_both, numbered_both}
use Rattle.row_runs.specs.Cut as cut
use Rattle.row_runs.specs.Cut.{Stretch, all_rows, as_list, moved_by, passed, rewritten_by, rows_of}
use Rattle.row_runs.specs.Cut.{segments_by}
use Rattle.row_runs.specs.Run.{runs}
use Rattle.row_runs.specs.Segments.{Behind, Here, IsStart, Keeps, Segment, news}
use Rattle.row_runs.specs.Straight.{Every}
use Rattle.row_runs.proofs.CutLemmas.{cut_full, cut_rows, goals_are_starts}
use Rattle.needs_runs.specs.of_plan_meaning.Abreast.{start_abreast}
use Rattle.needs_runs.specs.of_plan_meaning.Act.{plan_run}
use Rattle.plan_passes.specs.Units.{IsInUnits}
use Rattle.plan_passes.proofs.AwaitLemmas.{Await, Ready, Wanted, await_act, plan_awaits}
use Rattle.plan_passes.proofs.EndLemmas.{EndAlone, EndClosing, EndLater, Ended, cut_ended, news_ended}
use Rattle.plan_passes.proofs.LiftLemmas.{IsOf, LastHas, goals_found, lasts_have}
use Rattle.plan_passes.proofs.UnitRunLemmas.{KeepsUnits, ended_runs}

module _ (code : Tables) (rewrite : List PlanUnit → List PlanUnit) where
  abbrev by_moved : (ℕ → ℕ) → List (Stretch Instr) → List (Segment Instr PlanRow)
  by_moved after stretches = segments_by (rows_by code rewrite) ended_by after stretches

  abbrev AreFull : List (Stretch Instr) → Type 0
  AreFull stretches = Every (λ stretch. 1 ≤ length (rows_of stretch)) stretches

  same_length : (after other : ℕ → ℕ) (stretch : Stretch Instr)
      → length (rewritten_by (rows_by code rewrite) ended_by after stretch).new
      ≡ length (rewritten_by (rows_by code rewrite) ended_by other stretch).new
  same_length after other stretch =
      length-append (rows_by code rewrite stretch.front)
      (as_list (option_map (ended_by after) stretch.last))
      ∙ (ap (λ k. length (rows_by code rewrite stretch.front) + k) (by stretch.last)
      ∙ sym (length-append (rows_by code rewrite stretch.front)
      (as_list (option_map (ended_by other) stretch.last))))
    where
      by : (last : Option Instr) → length (as_list (option_map (ended_by after) last))
          ≡ length (as_list (option_map (ended_by other) last))
      by None = refl
      by (Some row) = refl

  none_behind : (g h : ℕ) (segments : List (Segment Instr PlanRow)) → segments ≡ []
      → IsStart segments g h → g ≡ 0
  none_behind g h segments e Here = refl
  none_behind g h segments e (Behind {segment = one} {segments = rest} start) = absurd (by e)
    where
      by : one ∷ rest ≡ [] → ⊥
      by e = cc

  -- a goal comes to stand in one place
  one_place : (after other : ℕ → ℕ) (some others : List (Stretch Instr)) → Ended some others
      → AreFull some → AreFull others → (g h : ℕ) → IsStart (by_moved after some) g h
      → (g' k : ℕ) → IsStart (by_moved other others) g' k → g ≡ g' → h ≡ k
  one_place after other some others EndAlone full more g h Here g' k Here same = refl
  one_place after other some others EndAlone full more g h Here g' k (Behind {g = i} start) same =
      absurd (let one : length (instr.End ∷ []) ≡ 1 = refl in
      let far : 0 ≡ length (instr.End ∷ []) + i = same in omega (arith, one, far))
  one_place after other some others (EndClosing {front = front}) full more g h Here g' k Here same =
      refl
  one_place after other some others (EndClosing {front = front}) full more g h Here g' k
      (Behind {g = i} start) same =
      absurd (let long = length-append front (instr.End ∷ []) in
      let one : length (instr.End ∷ []) ≡ 1 = refl in
      let far : 0 ≡ length (front ++ instr.End ∷ []) + i = same in omega (arith, long, one, far))
  one_place after other some others (EndClosing {front = front}) full more g h
      (Behind {g = i} start) g' k Here same =
      absurd (let far : length (front ++ []) + i ≡ 0 = same in
      let some_row : 1 ≤ length (front ++ []) = full.0 in omega (arith, some_row, far))
  one_place after other some others (EndClosing {front = front}) full more g h
      (Behind {g = i} {h = j} start) g' k (Behind {g = i'} start') same =
      absurd (let first = none_behind i j [] refl start in
      let long = length-append front (instr.End ∷ []) in
      let short : length (front ++ []) ≡ length front = ap length (append-nil front) in
      let one : length (instr.End ∷ []) ≡ 1 = refl in
      let far : length (front ++ []) + i ≡ length (front ++ instr.End ∷ []) + i' = same in
      omega (arith, first, long, short, one, far))
  one_place after other some others (EndLater {stretch = stretch} ended) full more g h Here g' k Here
      same = refl
  one_place after other some others (EndLater {stretch = stretch} ended) full more g h Here g' k
      (Behind {g = i} start) same =
      absurd (let far : 0 ≡ length (rows_of stretch) + i = same in
      let some_row : 1 ≤ length (rows_of stretch) = full.0 in omega (arith, some_row, far))
  one_place after other some others (EndLater {stretch = stretch} ended) full more g h
      (Behind {g = i} start) g' k Here same =
      absurd (let far : length (rows_of stretch) + i ≡ 0 = same in
      let some_row : 1 ≤ length (rows_of stretch) = full.0 in omega (arith, some_row, far))
  one_place after other some others
      (EndLater {stretch = stretch} {some = s} {others = o} ended) full more g h
      (Behind {g = i} {h = j} start) g' k (Behind {g = i'} {h = j'} start') same =
      let far : length (rows_of stretch) + i ≡ length (rows_of stretch) + i' = same in
      let near : i ≡ i' = omega (arith, far) in
      ap₂ (λ a b. a + b) (same_length after other stretch)
      (one_place after other s o ended full.1 more.1 i j start i' j' start' near)

  -- ---- the code of the pass, with the end behind it
  abbrev rows : List Instr
  rows = code.code ++ instr.End ∷ []

  abbrev whole : List (Stretch Instr)
  whole = stretches_of code.code

  abbrev ended_whole : List (Stretch Instr)
  ended_whole = cut.cut ends_stretch (is_goal code.code) 0 rows

  abbrev moved : ℕ → ℕ
  moved = moved_by (rows_by code rewrite) ended_by ended_whole

  abbrev moved_there : ℕ → ℕ
  moved_there = moved_by (rows_by code rewrite) ended_by whole

  -- goals within the code, and its end
  abbrev pub IsGoalOf : Instr → Type 0
  IsGoalOf row =
      has_goal row ≡ true
      → (is_goal code.code (goal_of row) ≡ true) × (goal_of row ≤ length code.code)

  same_place : (row : Instr) → IsGoalOf row → has_goal row ≡ true
      → moved (goal_of row) ≡ moved_there (goal_of row)
  same_place row is has =
      let goal = goal_of row in
      let long = length-append code.code (instr.End ∷ []) in
      let within : goal ≤ length rows = omega (arith, long, (is has).1) in
      sym (one_place moved_there moved whole ended_whole (cut_ended (is_goal code.code) 0 code.code)
      (cut_full ends_stretch (is_goal code.code) 0 code.code)
      (cut_full ends_stretch (is_goal code.code) 0 rows) goal (moved_there goal)
      (goals_are_starts Instr PlanRow (rows_by code rewrite) ended_by ends_stretch
      (is_goal code.code) code.code goal (is has).0 (is has).1) goal (moved goal)
      (goals_are_starts Instr PlanRow (rows_by code rewrite) ended_by ends_stretch
      (is_goal code.code) rows goal (is has).0 within) refl)

  same_row : (row : Instr) → IsGoalOf row
      → with_moved_goal moved row ≡ with_moved_goal moved_there row
  same_row (instr.Jump goal) is = ap instr.Jump (same_place (instr.Jump goal) is refl)
  same_row (instr.Unless expr goal line) is =
      ap (λ g. instr.Unless expr g line) (same_place (instr.Unless expr goal line) is refl)
  same_row row is = refl

  same_segments : (stretches : List (Stretch Instr)) → AllByRecursion (LastHas IsGoalOf) stretches
      → by_moved moved stretches ≡ by_moved moved_there stretches
  same_segments [] goals = refl
  same_segments (stretch ∷ stretches) goals =
      ap₂ (λ l more. record {
        old = rows_of stretch;
        new = rows_by code rewrite stretch.front ++ l;
      } ∷ more) (by stretch.last goals.0) (same_segments stretches goals.1)
    where
      by : (last : Option Instr) → ((row : Instr) → last ≡ Some row → IsGoalOf row)
          → as_list (option_map (ended_by moved) last)
          ≡ as_list (option_map (ended_by moved_there) last)
      by None goal = refl
      by (Some row) goal = ap (λ r. Other r ∷ []) (same_row row (goal row refl))

  pub goals_of_code : (some : List Instr) → AllByRecursion (IsOf code.code) (some ++ instr.End ∷ [])
      → AllByRecursion (λ row. has_goal row ≡ true → goal_of row ≤ length code.code) some
      → AllByRecursion IsGoalOf some
  goals_of_code [] found within = tt
  goals_of_code (row ∷ some) found within =
      (λ has. ((found.0 has).0, within.0 has), goals_of_code some found.1 within.1)

  new_rows : rewrite [] ≡ [] → GoalsWithin code.code
      → news (by_moved moved ended_whole)
      ≡ passed (rows_by code rewrite) ended_by whole ++ Other instr.End ∷ []
  new_rows none within =
      let goals : AllByRecursion IsGoalOf code.code =
      goals_of_code code.code (goals_found code.code code.code (λ at e. e) within) within in
      let same : all_rows whole ≡ code.code =
      cut_rows ends_stretch (is_goal code.code) 0 code.code in
      news_ended (rows_by code rewrite) ended_by moved (Other instr.End)
      (ap (λ units. flat_map unit_rows units) none) refl whole ended_whole
      (cut_ended (is_goal code.code) 0 code.code)
      ∙ ap (λ segments. news segments ++ Other instr.End ∷ [])
      (same_segments whole
      (lasts_have IsGoalOf whole (subst (AllByRecursion IsGoalOf) (sym same) goals)))

  -- ---- what each unit of the code is
  all_parts : {X : Type 0} (P : X → Type 0) (xs ys : List X) → AllByRecursion P (xs ++ ys)
      → AllByRecursion P xs × AllByRecursion P ys
  all_parts P [] ys all = (tt, all)
  all_parts P (x ∷ xs) ys all =
      let parts = all_parts P xs ys all.1 in ((all.0, parts.0), parts.1)

  all_both : {X : Type 0} (P : X → Type 0) (xs ys : List X) → AllByRecursion P xs
      → AllByRecursion P ys → AllByRecursion P (xs ++ ys)
  all_both P [] ys one two = two
  all_both P (x ∷ xs) ys one two = (one.0, all_both P xs ys one.1 two)

  front_fit : (IsFit : PlanUnit → Type 0) (some : List Instr)
      → AllByRecursion (λ row. AllByRecursion IsFit (unit_of code row)) some
      → AllByRecursion IsFit (units_of code some)
  front_fit IsFit [] all = tt
  front_fit IsFit (row ∷ some) all =
      all_both IsFit (unit_of code row) (units_of code some) all.0 (front_fit IsFit some all.1)

  fronts_fit : (IsFit : PlanUnit → Type 0) (stretches : List (Stretch Instr))
      → AllByRecursion (λ row. AllByRecursion IsFit (unit_of code row)) (all_rows stretches)
      → AllByRecursion (λ stretch. AllByRecursion IsFit (units_of code stretch.front)) stretches
  fronts_fit IsFit [] all = tt
  fronts_fit IsFit (stretch ∷ stretches) all =
      let P : Instr → Type 0 = λ row. AllByRecursion IsFit (unit_of code row) in
      let parts = all_parts P (rows_of stretch) (all_rows stretches) all in
      let own = all_parts P stretch.front (as_list stretch.last) parts.0 in
      (front_fit IsFit stretch.front own.0, fronts_fit IsFit stretches parts.1)

  one_fit_more : (IsFit : PlanUnit → Type 0) (some : List Instr)
      → AllByRecursion (λ row. AllByRecursion IsFit (unit_of code row)) some
      → IsFit (Single instr.End)
      → AllByRecursion (λ row. AllByRecursion IsFit (unit_of code row)) (some ++ instr.End ∷ [])
  one_fit_more IsFit [] all last = ((last, tt), tt)
  one_fit_more IsFit (row ∷ some) all last = (all.0, one_fit_more IsFit some all.1 last)

  module _ (links : Option ℕ) (n : ℕ) where
    code_blind : (exchanges : List (List Item)) (one other : List Instr) (row : Instr) (s : Await)
        → await_act (record code { exchanges = exchanges; code = one }) links n row s
        ≡ await_act (record code { exchanges = exchanges; code = other }) links n row s
    code_blind exchanges one other (instr.Loop slot group) (Ready all) = refl
    code_blind exchanges one other row (Ready all) = refl
    code_blind exchanges one other row (Wanted group) = refl

    pub goals_within : (some : List Instr) → AllByRecursion (FitsInstr code) some
        → AllByRecursion (λ row. has_goal row ≡ true → goal_of row ≤ length code.code) some
    goals_within [] all = tt
    goals_within (row ∷ some) all = (one row all.0, goals_within some all.1)
      where
        one : (row : Instr) → FitsInstr code row → has_goal row ≡ true
            → goal_of row ≤ length code.code
        one (instr.Jump goal) fits e = fits.fit
        one (instr.Unless expr goal line) fits e = fits.fit.1
        one row fits e = absurd (true≢false (sym e))

    -- A pass over units that keeps what they do from good states, of which the start is one, keeps
    -- the runs of plans in units that fit.
    pub units_keep_runs : (IsGood : Await → Type 0) (IsFit : PlanUnit → Type 0)
        → KeepsUnits code links n IsGood IsFit rewrite → Fits code → IsInUnits code
        → AllByRecursion (λ row. AllByRecursion IsFit (unit_of code row)) code.code
        → IsFit (Single instr.End) → IsGood (Ready (start_abreast code)) → (a : ℕ)
        → Keeps (plan_run code links a n) (plan_run (with_units rewrite code) links a n)
    units_keep_runs IsGood IsFit keeps fits units fit last good a =
        let within : GoalsWithin code.code =
        goals_within code.code (recursion_from_All (FitsInstr code) code.code fits.code) in
        let begin : Await = Ready (start_abreast code) in
        let plain = passed (rows_by code rewrite) ended_by whole in
        let new : Tables = with_units rewrite code in
        let made = news (by_moved moved ended_whole) in
        let are : made ≡ plain ++ Other instr.End ∷ [] = new_rows keeps.none within in
        let starts : exchanges_in made ≡ new.exchanges =
        ap exchanges_in are
        ∙ (exchanges_both plain (Other instr.End ∷ []) ∙ append-nil (exchanges_in plain)) in
        let there : numbered_from 0 made ≡ new.code ++ instr.End ∷ [] =
        ap (numbered_from 0) are ∙ numbered_both 0 plain (Other instr.End ∷ []) in
        let acts : await_act (record code { exchanges = exchanges_in made; code = numbered_from 0 made })
        links n ≡ await_act new links n =
        ap (λ e. await_act (record code { exchanges = e; code = numbered_from 0 made }) links n) starts
        ∙ fun_ext (λ row. fun_ext (λ s. code_blind new.exchanges (numbered_from 0 made) new.code row s)) in
        subst (λ r. Keeps r (plan_run new links a n)) (sym (plan_awaits code links n a))
        (subst (Keeps (runs (await_act code links n) rows a 0 begin))
        (ap (λ f. runs f (numbered_from 0 made) a 0 begin) acts
        ∙ (ap (λ r. runs (await_act new links n) r a 0 begin) there
        ∙ sym (plan_awaits new links n a)))
        (ended_runs code links n IsGood IsFit rewrite keeps within units
        (fronts_fit IsFit ended_whole
        (subst (AllByRecursion (λ row. AllByRecursion IsFit (unit_of code row)))
        (sym (cut_rows ends_stretch (is_goal code.code) 0 rows)) (one_fit_more IsFit code.code fit last)))
        a begin good))
