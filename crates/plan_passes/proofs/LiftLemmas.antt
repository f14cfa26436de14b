-- A pass over the stretches of code that ends keeps its runs.
use Rattle.std.proofs.Common.{◌≡◌, refl, sym, subst, ap, ℕ, ◌+◌, ◌≤◌, Bool, true, false}
use Rattle.std.proofs.Common.{List, [], ◌∷◌, ◌++◌, length, length-append, true≢false, arith}
use Rattle.std.proofs.lemmas.Bool.Decides.{nat_tests}
use Rattle.std.specs.Prelude.{◌||◌, ◌==◌, Some}
use Rattle.std.specs.List.{AllByRecursion, list_any}
use Rattle.row_runs.specs.Run.{Effect, runs}
use Rattle.row_runs.specs.Straight.{Every, IsStraight, Tied, through}
use Rattle.row_runs.specs.Segments.{IsStart, Keeps}
use Rattle.row_runs.specs.Cut as cut
use Rattle.row_runs.specs.Cut.{IsRewritten, LastAlike, Stretch, all_rows, as_list, moved_by, passed}
use Rattle.row_runs.specs.Cut.{rows_of, segments_of}
use Rattle.row_runs.proofs.CutLemmas.{cut_rows, goals_are_starts, passes_keep_runs}
use Rattle.node_form.specs.declared.instructions.Instr.{Instr}
use Rattle.node_form.specs.declared.instructions.Instr.TheVariants as instr
use Rattle.code_parts.specs.Stretch.{ends_stretch, is_goal, leads_to}
use Rattle.comm_combine.specs.of_flat_passes.Kept.{BothLeap, BothPass, BothStop, EndsAlike, GoalsWithin, OldWrong}
use Rattle.comm_combine.specs.of_flat_passes.Kept.{goal_of}
use Rattle.comm_combine.specs.of_flat_passes.Rewritten.{has_goal, stretches_of}
use Rattle.comm_combine.proofs.of_flat_passes.StretchLemmas.{IsCut, all_cut}
use Rattle.plan_passes.proofs.EndLemmas.{cut_ended, fronts_ended}

-- ---- the goal of a row of the code is one
leads_itself : (row : Instr) → has_goal row ≡ true → leads_to (goal_of row) row ≡ true
leads_itself (instr.Jump goal) e = let one : (goal == goal) ≡ true = grind (arith, nat_tests) in one
leads_itself (instr.Unless expr goal line) e =
    let one : (goal == goal) ≡ true = grind (arith, nat_tests) in one
leads_itself row e = absurd (true≢false (sym e))

abbrev pub IsOf : List Instr → Instr → Type 0
IsOf code row =
    has_goal row ≡ true
    → (is_goal code (goal_of row) ≡ true) × (goal_of row ≤ length (code ++ instr.End ∷ []))

any_here : (test : Instr → Bool) (row : Instr) (rows : List Instr) → test row ≡ true
    → list_any test (row ∷ rows) ≡ true
any_here test row rows e = rw e

any_later : (test : Instr → Bool) (row : Instr) (rows : List Instr) → list_any test rows ≡ true
    → list_any test (row ∷ rows) ≡ true
any_later test row rows e = by (test row)
  where
    by : (b : Bool) → (b || list_any test rows) ≡ true
    by true = refl
    by false = e

module _ (code : List Instr) where
  pub goals_found : (rows : List Instr)
      → ((at : ℕ) → list_any (leads_to at) rows ≡ true → is_goal code at ≡ true)
      → AllByRecursion (λ row. has_goal row ≡ true → goal_of row ≤ length code) rows
      → AllByRecursion (IsOf code) (rows ++ instr.End ∷ [])
  goals_found [] up all = (λ e. absurd (true≢false (sym e)), tt)
  goals_found (row ∷ rows) up all = (
    λ e. (
      up (goal_of row) (any_here (leads_to (goal_of row)) row rows (leads_itself row e)),
      (let long = length-append code (instr.End ∷ []) in omega (arith, long, all.0 e)),
    ),
    goals_found rows (λ at e. up at (any_later (leads_to at) row rows e)) all.1,
  )

-- ---- rows of stretches are rows of the code
back_holds : {X : Type 0} (P : X → Type 0) (xs ys : List X) → AllByRecursion P (xs ++ ys)
    → AllByRecursion P ys
back_holds P [] ys all = all
back_holds P (x ∷ xs) ys all = back_holds P xs ys all.1

-- the last row of each stretch
abbrev pub LastHas : (Instr → Type 0) → Stretch Instr → Type 0
LastHas P stretch = (row : Instr) → stretch.last ≡ Some row → P row

last_has : (P : Instr → Type 0) (stretch : Stretch Instr) (rest : List Instr)
    → AllByRecursion P (rows_of stretch ++ rest) → LastHas P stretch
last_has P stretch rest all row is =
    (back_holds P stretch.front (row ∷ rest)
    (subst (AllByRecursion P) (split stretch.front (row ∷ []))
    (subst (λ l. AllByRecursion P ((stretch.front ++ as_list l) ++ rest)) is all))).0
  where
    split : (xs ys : List Instr) → (xs ++ ys) ++ rest ≡ xs ++ (ys ++ rest)
    split [] ys = refl
    split (x ∷ xs) ys = ap (λ l. x ∷ l) (split xs ys)

pub lasts_have : (P : Instr → Type 0) (stretches : List (Stretch Instr))
    → AllByRecursion P (all_rows stretches) → AllByRecursion (LastHas P) stretches
lasts_have P [] all = tt
lasts_have P (stretch ∷ stretches) all = (
  last_has P stretch (all_rows stretches) all,
  lasts_have P stretches (back_holds P (rows_of stretch) (all_rows stretches) all),
)

-- ---- the pass
-- `IsMoved` says of an old and a new goal what the rows that end stretches want to know.
module _ {S T New : Type 0} (act : Instr → S → Effect S) (act' : New → T → Effect T)
    (IsLike : S → T → Type 0) (IsFront : List Instr → Type 0) (IsMoved : ℕ → ℕ → Type 0)
    (rewrite : List Instr → List New) (retarget : (ℕ → ℕ) → Instr → New) where
  -- what a pass owes of the straight rows of a stretch, and of the row that ends one
  pub record KeepsStretches : Type 0 where
    pub old : (row : Instr) → ends_stretch row ≡ false → IsStraight act row
    pub new : (front : List Instr) → AllByRecursion (λ row. ends_stretch row ≡ false) front
        → IsFront front → Every (IsStraight act') (rewrite front)
    pub ties : (front : List Instr) → AllByRecursion (λ row. ends_stretch row ≡ false) front
        → IsFront front → (s : S) (t : T) → IsLike s t
        → Tied IsLike (through act front s) (through act' (rewrite front) t)
    pub ends : (row : Instr) → ends_stretch row ≡ true → (moved : ℕ → ℕ)
        → (has_goal row ≡ true → IsMoved (goal_of row) (moved (goal_of row))) → (s : S) (t : T)
        → IsLike s t → EndsAlike row moved (act row s) (act' (retarget moved row) t)

  last_alike : (IsGoal : ℕ → ℕ → Type 0) (moved : ℕ → ℕ) (row : Instr) (at at' : ℕ)
      → (has_goal row ≡ true → IsGoal (goal_of row) (moved (goal_of row)))
      → IsGoal (at + 1) (at' + 1) → (e : Effect S) (f : Effect T) → EndsAlike row moved e f
      → LastAlike IsGoal at at' e f
  last_alike IsGoal moved row at at' goal next e f (BothLeap has) = cut.BothLeap (goal has)
  last_alike IsGoal moved row at at' goal next e f BothPass = cut.BothPass next
  last_alike IsGoal moved row at at' goal next e f BothStop = cut.BothStop
  last_alike IsGoal moved row at at' goal next e f OldWrong = cut.LastWrong

  module _ (code : List Instr) (keeps : KeepsStretches) where
    abbrev rows : List Instr
    rows = code ++ instr.End ∷ []

    abbrev pub ended_stretches : List (Stretch Instr)
    ended_stretches = cut.cut ends_stretch (is_goal code) 0 rows

    abbrev moved : ℕ → ℕ
    moved = moved_by rewrite retarget ended_stretches

    abbrev Start : ℕ → ℕ → Type 0
    Start = IsStart (segments_of rewrite retarget ended_stretches)

    start_of : (row : Instr) → IsOf code row → has_goal row ≡ true
        → Start (goal_of row) (moved (goal_of row))
    start_of row is has =
        goals_are_starts Instr New rewrite retarget ends_stretch (is_goal code) rows
        (goal_of row) (is has).0 (is has).1

    module _ (moves : (g h : ℕ) → Start g h → IsMoved g h) where
      all_straight : (front : List Instr) → AllByRecursion (λ row. ends_stretch row ≡ false) front
          → Every (IsStraight act) front
      all_straight [] all = tt
      all_straight (row ∷ front) all = (keeps.old row all.0, all_straight front all.1)

      stretch_kept : (stretch : Stretch Instr) → IsCut ends_stretch (is_goal code) stretch
          → IsFront stretch.front → LastHas (IsOf code) stretch
          → IsRewritten act act' IsLike rewrite retarget moved Start stretch
      stretch_kept stretch is front goal = record {
        old = all_straight stretch.front is.straight;
        new = keeps.new stretch.front is.straight front;
        ties = keeps.ties stretch.front is.straight front;
        last = λ row last at at' next s t like.
            last_alike Start moved row at at' (start_of row (goal row last)) next (act row s)
            (act' (retarget moved row) t)
            (keeps.ends row (is.last row last) moved
            (λ has. moves (goal_of row) (moved (goal_of row)) (start_of row (goal row last) has))
            s t like);
      }

      all_kept : (some : List (Stretch Instr))
          → AllByRecursion (IsCut ends_stretch (is_goal code)) some
          → AllByRecursion (λ stretch. IsFront stretch.front) some
          → AllByRecursion (LastHas (IsOf code)) some
          → Every (IsRewritten act act' IsLike rewrite retarget moved Start) some
      all_kept [] are fronts goals = tt
      all_kept (stretch ∷ some) are fronts goals = (
        stretch_kept stretch are.0 fronts.0 goals.0,
        all_kept some are.1 fronts.1 goals.1,
      )

      pub stretches_keep_runs : IsFront []
          → AllByRecursion (λ stretch. IsFront stretch.front) (stretches_of code)
          → GoalsWithin code → (left : ℕ) (s : S) (t : T) → IsLike s t
          → Keeps (runs act rows left 0 s)
          (runs act' (passed rewrite retarget ended_stretches) left 0 t)
      stretches_keep_runs none fronts within left s t like =
          let same : all_rows ended_stretches ≡ rows =
          cut_rows ends_stretch (is_goal code) 0 rows in
          let found : AllByRecursion (IsOf code) rows =
          goals_found code code (λ at e. e) within in
          passes_keep_runs act act' IsLike rewrite retarget ends_stretch (is_goal code) rows
          (all_kept ended_stretches (all_cut ends_stretch (is_goal code) 0 rows)
          (fronts_ended IsFront none (stretches_of code) ended_stretches
          (cut_ended (is_goal code) 0 code) fronts)
          (lasts_have (IsOf code) ended_stretches (subst (AllByRecursion (IsOf code)) (sym same) found)))
          left s t like
