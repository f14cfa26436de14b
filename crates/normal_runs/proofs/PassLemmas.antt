-- A pass over the stretches of code keeps its runs, whatever its new rows are.
use Rattle.std.proofs.Common.{◌≡◌, refl, sym, subst, ℕ, ◌+◌, ◌≤◌, Bool, true, false}
use Rattle.std.proofs.Common.{List, [], ◌∷◌, ◌++◌, length, true≢false, arith}
use Rattle.std.proofs.lemmas.Bool.Decides.{nat_tests}
use Rattle.std.specs.Prelude.{◌||◌, ◌==◌, Option, Some}
use Rattle.std.specs.List.{AllByRecursion, list_any}
use Rattle.temp_norm.specs.of_row_runs.Run.{Effect, runs}
use Rattle.temp_norm.specs.of_row_runs.Straight.{Every, IsStraight, Tied, through}
use Rattle.temp_norm.specs.of_row_runs.Segments.{IsStart, Keeps}
use Rattle.temp_norm.specs.of_row_runs.Cut as cut
use Rattle.temp_norm.specs.of_row_runs.Cut.{IsRewritten, LastAlike, Stretch, all_rows, as_list, moved_by, passed}
use Rattle.temp_norm.specs.of_row_runs.Cut.{rows_of}
use Rattle.temp_norm.specs.of_row_runs.Cut.{segments_of}
use Rattle.temp_norm.proofs.of_row_runs.CutLemmas.{cut_rows, goals_are_starts, passes_keep_runs}
use Rattle.temp_norm.specs.of_node_form.declared.instructions.Instr.{Instr}
use Rattle.temp_norm.specs.of_node_form.declared.instructions.Instr.TheVariants as instr
use Rattle.temp_norm.specs.of_code_parts.Stretch.{ends_stretch, is_goal, leads_to}
use Rattle.temp_norm.specs.of_flat_passes.Kept.{BothLeap, BothPass, BothStop, EndsAlike}
use Rattle.temp_norm.specs.of_flat_passes.Kept.{GoalsWithin, OldWrong, goal_of}
use Rattle.temp_norm.specs.of_flat_passes.Rewritten.{has_goal, stretches_of}
use Rattle.temp_norm.proofs.of_flat_passes.StretchLemmas.{IsCut, all_cut}

-- ---- rows of stretches are rows of the code
pub front_holds : {X : Type 0} (P : X → Type 0) (xs ys : List X) → AllByRecursion P (xs ++ ys)
    → AllByRecursion P xs
front_holds P [] ys all = tt
front_holds P (x ∷ xs) ys all = (all.0, front_holds P xs ys all.1)

back_holds : {X : Type 0} (P : X → Type 0) (xs ys : List X) → AllByRecursion P (xs ++ ys)
    → AllByRecursion P ys
back_holds P [] ys all = all
back_holds P (x ∷ xs) ys all = back_holds P xs ys all.1

pub each_holds : {X : Type 0} (P : X → Type 0) (stretches : List (Stretch X))
    → AllByRecursion P (all_rows stretches)
    → AllByRecursion (λ stretch. AllByRecursion P (rows_of stretch)) stretches
each_holds P [] all = tt
each_holds P (stretch ∷ stretches) all = (
  front_holds P (rows_of stretch) (all_rows stretches) all,
  each_holds P stretches (back_holds P (rows_of stretch) (all_rows stretches) all),
)

pub last_holds : {X : Type 0} (P : X → Type 0) (front : List X) (last : Option X) (row : X)
    → last ≡ Some row → AllByRecursion P (front ++ as_list last) → P row
last_holds P front last row is all =
    (back_holds P front (row ∷ [])
    (subst (λ l. AllByRecursion P (front ++ as_list l)) is all)).0

-- ---- the goal of a row of the code is one
leads_itself : (row : Instr) → has_goal row ≡ true → leads_to (goal_of row) row ≡ true
leads_itself (instr.Jump goal) e = let one : (goal == goal) ≡ true = grind (arith, nat_tests) in one
leads_itself (instr.Unless expr goal line) e =
    let one : (goal == goal) ≡ true = grind (arith, nat_tests) in one
leads_itself row e = absurd (true≢false (sym e))

abbrev pub IsOf : List Instr → Instr → Type 0
IsOf code row = has_goal row ≡ true → (is_goal code (goal_of row) ≡ true) ×
    (goal_of row ≤ length code)

any_here : (test : Instr → Bool) (row : Instr) (rows : List Instr) → test row ≡ true
    → list_any test (row ∷ rows) ≡ true
any_here test row rows e = rw e

any_later : (test : Instr → Bool) (row : Instr) (rows : List Instr) → list_any test rows ≡ true
    → list_any test (row ∷ rows) ≡ true
any_later test row rows e = by (test row)
  where
    by : (b : Bool) → (b || list_any test rows) ≡ true
    by true = refl
    by false = e

-- each row of the code has such a goal, if it has one
module _ (code : List Instr) where
  pub goals_found : (rows : List Instr)
      → ((at : ℕ) → list_any (leads_to at) rows ≡ true → is_goal code at ≡ true)
      → AllByRecursion (λ row. has_goal row ≡ true → goal_of row ≤ length code) rows
      → AllByRecursion (IsOf code) rows
  goals_found [] up all = tt
  goals_found (row ∷ rows) up all = (
    λ e. (
      up (goal_of row) (any_here (leads_to (goal_of row)) row rows (leads_itself row e)),
      all.0 e,
    ),
    goals_found rows (λ at e. up at (any_later (leads_to at) row rows e)) all.1,
  )

-- ---- the pass
module _ {S T New : Type 0} (act : Instr → S → Effect S) (act' : New → T → Effect T)
    (IsLike : S → T → Type 0) (Has : Instr → Type 0) (IsStraightRow : New → Type 0)
    (rewrite : List Instr → List New) (retarget : (ℕ → ℕ) → Instr → New) where
  -- of old and new rows of any code
  pub record AreControlled : Type 0 where
    pub old : (row : Instr) → ends_stretch row ≡ false → IsStraight act row
    pub new : (row : New) → IsStraightRow row → IsStraight act' row
    pub ends : (row : Instr) → Has row → ends_stretch row ≡ true → (moved : ℕ → ℕ) (s : S)
        (t : T) → IsLike s t → EndsAlike row moved (act row s) (act' (retarget moved row) t)

  -- Of straight rows, each of which has a property: the new ones are straight, and from like
  -- states they do as the old ones, unless these are wrong.
  pub record KeepsFronts : Type 0 where
    pub straight : (front : List Instr) → AllByRecursion Has front
        → AllByRecursion (λ row. ends_stretch row ≡ false) front
        → AllByRecursion IsStraightRow (rewrite front)
    pub ties : (front : List Instr) → AllByRecursion Has front
        → AllByRecursion (λ row. ends_stretch row ≡ false) front → (s : S) (t : T) → IsLike s t
        → Tied IsLike (through act front s) (through act' (rewrite front) t)

  all_new : (rows : List New) → ((row : New) → IsStraightRow row → IsStraight act' row)
      → AllByRecursion IsStraightRow rows → Every (IsStraight act') rows
  all_new [] one all = tt
  all_new (row ∷ rows) one all = (one row all.0, all_new rows one all.1)

  all_straight : (P : Instr → Type 0) → ((row : Instr) → ends_stretch row ≡ false → P row)
      → (rows : List Instr) → AllByRecursion (λ row. ends_stretch row ≡ false) rows
      → AllByRecursion P rows
  all_straight P one [] all = tt
  all_straight P one (row ∷ rows) all = (one row all.0, all_straight P one rows all.1)

  -- the last row of a stretch
  last_alike : (IsGoal : ℕ → ℕ → Type 0) (moved : ℕ → ℕ) (row : Instr) (at at' : ℕ)
      → (has_goal row ≡ true → IsGoal (goal_of row) (moved (goal_of row)))
      → IsGoal (at + 1) (at' + 1) → (e : Effect S) (f : Effect T) → EndsAlike row moved e f
      → LastAlike IsGoal at at' e f
  last_alike IsGoal moved row at at' goal next e f (BothLeap has) = cut.BothLeap (goal has)
  last_alike IsGoal moved row at at' goal next e f BothPass = cut.BothPass next
  last_alike IsGoal moved row at at' goal next e f BothStop = cut.BothStop
  last_alike IsGoal moved row at at' goal next e f OldWrong = cut.LastWrong

  module _ (code : List Instr) (controlled : AreControlled) (keeps : KeepsFronts) where
    abbrev stretches : List (Stretch Instr)
    stretches = stretches_of code

    abbrev moved : ℕ → ℕ
    moved = moved_by rewrite retarget stretches

    abbrev Start : ℕ → ℕ → Type 0
    Start = IsStart (segments_of rewrite retarget stretches)

    start_of : (row : Instr) → IsOf code row → has_goal row ≡ true
        → Start (goal_of row) (moved (goal_of row))
    start_of row is has =
        goals_are_starts Instr New rewrite retarget ends_stretch (is_goal code) code
        (goal_of row) (is has).0 (is has).1

    stretch_kept : (stretch : Stretch Instr) → IsCut ends_stretch (is_goal code) stretch
        → AllByRecursion Has (rows_of stretch) → AllByRecursion (IsOf code) (rows_of stretch)
        → IsRewritten act act' IsLike rewrite retarget moved Start stretch
    stretch_kept stretch is has goals =
        let own = front_holds Has stretch.front (as_list stretch.last) has in
        record {
          old = all_straight (IsStraight act) controlled.old stretch.front is.straight;
          new = all_new (rewrite stretch.front) controlled.new
              (keeps.straight stretch.front own is.straight);
          ties = keeps.ties stretch.front own is.straight;
          last = λ row last at at' next s t like.
              last_alike Start moved row at at'
              (start_of row (last_holds (IsOf code) stretch.front stretch.last row last goals))
              next (act row s) (act' (retarget moved row) t)
              (controlled.ends row (last_holds Has stretch.front stretch.last row last has)
              (is.last row last) moved s t like);
        }

    all_kept : (some : List (Stretch Instr))
        → AllByRecursion (IsCut ends_stretch (is_goal code)) some
        → AllByRecursion (λ stretch. AllByRecursion Has (rows_of stretch)) some
        → AllByRecursion (λ stretch. AllByRecursion (IsOf code) (rows_of stretch)) some
        → Every (IsRewritten act act' IsLike rewrite retarget moved Start) some
    all_kept [] are has goals = tt
    all_kept (stretch ∷ some) are has goals = (
      stretch_kept stretch are.0 has.0 goals.0,
      all_kept some are.1 has.1 goals.1,
    )

    -- the runs of the code are kept, where all its rows have the property, and its goals are rows
    pub pass_keeps_runs : AllByRecursion Has code → GoalsWithin code → (left : ℕ) (s : S) (t : T)
        → IsLike s t
        → Keeps (runs act code left 0 s) (runs act' (passed rewrite retarget stretches) left 0 t)
    pass_keeps_runs has within left s t like =
        let same : all_rows stretches ≡ code = cut_rows ends_stretch (is_goal code) 0 code in
        let found : AllByRecursion (IsOf code) code = goals_found code code (λ at e. e) within in
        passes_keep_runs act act' IsLike rewrite retarget ends_stretch (is_goal code) code
        (all_kept stretches (all_cut ends_stretch (is_goal code) 0 code)
        (each_holds Has stretches (subst (AllByRecursion Has) (sym same) has))
        (each_holds (IsOf code) stretches (subst (AllByRecursion (IsOf code)) (sym same) found)))
        left s t like
