-- A pass that rewrites stretches keeps what a program does.
use Rattle.std.proofs.Common.{◌≡◌, refl, sym, ◌∙◌, ap, subst, arith, ℕ, zero, suc, ◌+◌, ◌-◌, ◌≤◌}
use Rattle.std.proofs.Common.{Bool}
use Rattle.std.proofs.Common.{true, false, List, [], ◌∷◌, ◌++◌, length, length-append}
use Rattle.std.specs.Prelude.{Option, Some, None}
use Rattle.std.specs.Option.{option_map}
use Rattle.row_runs.specs.Run.{Effect, runs}
use Rattle.row_runs.specs.Segments.{Keeps, Segment, olds, news, IsStart, Here, Behind, AreAlike}
use Rattle.row_runs.specs.Segments.{AllAlike}
use Rattle.row_runs.specs.Straight.{Every, IsStraight, Tied, through}
use Rattle.row_runs.specs.Cut.{Stretch, as_list, rows_of, all_rows, joined_to, cut_row, cut}
use Rattle.row_runs.specs.Cut.{relocated}
use Rattle.row_runs.specs.Cut.{rewritten_by, segments_by, moved_by, passed}
use Rattle.row_runs.specs.Cut.{IsRewritten}
use Rattle.row_runs.specs.Laws.{PassesKeepRuns, GoalsAreStarts}
use Rattle.row_runs.proofs.SegmentLemmas.{keeps_runs}
use Rattle.row_runs.proofs.StraightLemmas.{straight_alike, ended_alike}

module _ {Row : Type 0} (ends : Row → Bool) (is_goal : ℕ → Bool) where
  joined_rows : (row : Row) (stretches : List (Stretch Row))
      → all_rows (joined_to row stretches) ≡ row ∷ all_rows stretches
  joined_rows row [] = refl
  joined_rows row (stretch ∷ stretches) = refl

  pub cut_rows : (at : ℕ) (rows : List Row) → all_rows (cut ends is_goal at rows) ≡ rows
  cut_rows at [] = refl
  cut_rows at (row ∷ rows) = by (ends row) (is_goal (at + 1)) (cut_rows (at + 1) rows)
    where
      by : (e g : Bool) → all_rows (cut ends is_goal (at + 1) rows) ≡ rows
          → all_rows (cut_row e g row (cut ends is_goal (at + 1) rows)) ≡ row ∷ rows
      by true g more = ap (λ r. row ∷ r) more
      by false true more = ap (λ r. row ∷ r) more
      by false false more =
          joined_rows row (cut ends is_goal (at + 1) rows) ∙ ap (λ r. row ∷ r) more

  -- ---- where stretches start
  pub data StartsAt : List (Stretch Row) → ℕ → Type 0 where
    AtFirst : {stretches : List (Stretch Row)} → StartsAt stretches 0
    AtLater : {stretch : Stretch Row} {stretches : List (Stretch Row)} {g : ℕ}
        → StartsAt stretches g
        → StartsAt (stretch ∷ stretches) (length (rows_of stretch) + g)

  later_start : (row : Row) (stretches : List (Stretch Row)) (g : ℕ) → StartsAt stretches (suc g)
      → StartsAt (joined_to row stretches) (suc (suc g))
  later_start row stretches g start = by stretches (suc g) start refl
    where
      by : (stretches : List (Stretch Row)) (n : ℕ) → StartsAt stretches n → n ≡ suc g
          → StartsAt (joined_to row stretches) (suc n)
      by stretches n AtFirst e = absurd (omega (arith, e))
      by stretches n (AtLater {stretch = first} {stretches = others} {g = h} more) e =
          let same : length (row ∷ rows_of first) + h ≡ suc (length (rows_of first) + h) =
          omega arith in
          subst (λ m. StartsAt (record { front = row ∷ first.front; last = first.last } ∷ others) m)
          same (AtLater more)

  -- each goal is one
  pub goal_starts : (at : ℕ) (rows : List Row) (g : ℕ) → is_goal (at + g) ≡ true → g ≤ length rows
      → StartsAt (cut ends is_goal at rows) g
  goal_starts at rows zero goal below = AtFirst
  goal_starts at [] (suc g) goal below = absurd (omega (arith, below))
  goal_starts at (row ∷ rows) (suc g) goal below =
      by (ends row) (is_goal (at + 1)) refl g
      (goal_starts (at + 1) rows g moved (omega (arith, below))) refl
    where
      moved : is_goal (at + 1 + g) ≡ true
      moved = let e : at + 1 + g ≡ at + suc g = omega arith in ap is_goal e ∙ goal

      next : (stretch : Stretch Row) → length (rows_of stretch) ≡ 1 → (g : ℕ)
          → StartsAt (cut ends is_goal (at + 1) rows) g
          → StartsAt (stretch ∷ cut ends is_goal (at + 1) rows) (suc g)
      next stretch one g start =
          let same : length (rows_of stretch) + g ≡ suc g = omega (arith, one) in
          subst (λ m. StartsAt (stretch ∷ cut ends is_goal (at + 1) rows) m) same (AtLater start)

      by : (e l : Bool) → is_goal (at + 1) ≡ l → (h : ℕ)
          → StartsAt (cut ends is_goal (at + 1) rows) h → g ≡ h
          → StartsAt (cut_row e l row (cut ends is_goal (at + 1) rows)) (suc h)
      by true l f h start same = next (record { front = []; last = Some row }) refl h start
      by false true f h start same = next (record { front = row ∷ []; last = None }) refl h start
      by false false f zero start same =
          let e : at + suc g ≡ at + 1 =
          omega (arith, same) in absurd (differ (sym goal ∙ (ap is_goal e ∙ f)))
        where
          differ : true ≡ false → ⊥
          differ e = cc
      by false false f (suc h) start same = later_start row (cut ends is_goal (at + 1) rows) h start

-- ---- passes
module _ {S T Old New : Type 0} (act : Old → S → Effect S) (act' : New → T → Effect T)
    (IsLike : S → T → Type 0)
    (rewrite : List Old → List New) (retarget : (ℕ → ℕ) → Old → New) where
  stretch_alike : (moved : ℕ → ℕ) (IsGoal : ℕ → ℕ → Type 0) (stretch : Stretch Old) (at at' : ℕ)
      → IsRewritten act act' IsLike rewrite retarget moved IsGoal stretch
      → IsGoal (at + length (rows_of stretch))
      (at' + length (rewritten_by rewrite retarget moved stretch).new)
      → AreAlike act act' IsLike IsGoal (rewritten_by rewrite retarget moved stretch) at at'
  stretch_alike moved IsGoal stretch at at' is next = by stretch.last refl
    where
      by : (last : Option Old) → stretch.last ≡ last
          → AreAlike act act' IsLike IsGoal (rewritten_by rewrite retarget moved stretch) at at'
      by None e =
          subst (λ l. AreAlike act act' IsLike IsGoal
          (record {
            old = stretch.front ++ as_list l;
            new = rewrite stretch.front ++ as_list
                (option_map (retarget moved) l);
          }) at at') (sym e)
          (straight_alike act act' IsLike IsGoal _ at at'
          (subst (Every (IsStraight act)) (sym (no_more stretch.front)) is.old)
          (subst (Every (IsStraight act')) (sym (no_more (rewrite stretch.front))) is.new)
          (λ s t like. subst
          (λ r. Tied IsLike (through act r s) (through act' (rewrite stretch.front ++ []) t))
          (sym (no_more stretch.front))
          (subst (λ r. Tied IsLike (through act stretch.front s) (through act' r t))
          (sym (no_more (rewrite stretch.front))) (is.ties s t like))))
        where
          no_more : {X : Type 0} (xs : List X) → xs ++ [] ≡ xs
          no_more [] = refl
          no_more (x ∷ xs) = ap (λ r. x ∷ r) (no_more xs)
      by (Some row) e =
          subst (λ l. AreAlike act act' IsLike IsGoal
          (record {
            old = stretch.front ++ as_list l;
            new = rewrite stretch.front ++ as_list
                (option_map (retarget moved) l);
          }) at at') (sym e)
          (ended_alike act act' IsLike IsGoal stretch.front (rewrite stretch.front) row
          (retarget moved row) at at' is.old is.new is.ties
          (λ s t like. is.last row e (at + length stretch.front)
          (at' + length (rewrite stretch.front)) goal s t like))
        where
          one_more : {X : Type 0} (n : ℕ) (xs : List X) (l : Option X) (x : X) → l ≡ Some x
              → n + length (xs ++ as_list l) ≡ n + length xs + 1
          one_more n xs l x f =
              let long : length (xs ++ as_list l) ≡ length xs + 1 =
              ap (λ o. length (xs ++ as_list o)) f ∙ length-append xs (x ∷ []) in
              omega (arith, long)

          goal : IsGoal (at + length stretch.front + 1) (at' + length (rewrite stretch.front) + 1)
          goal =
              subst (λ n. IsGoal n (at' + length (rewrite stretch.front) + 1))
              (one_more at stretch.front stretch.last row e)
              (subst (λ n. IsGoal (at + length (rows_of stretch)) n)
              (one_more at' (rewrite stretch.front) (option_map (retarget moved) stretch.last)
              (retarget moved row) (ap (option_map (retarget moved)) e)) next)

  all_alike : (moved : ℕ → ℕ) (IsGoal : ℕ → ℕ → Type 0) (stretches : List (Stretch Old))
      (at at' : ℕ)
      → Every (IsRewritten act act' IsLike rewrite retarget moved IsGoal) stretches
      → ((g h : ℕ) → IsStart (segments_by rewrite retarget moved stretches) g h
      → IsGoal (at + g) (at' + h))
      → AllAlike act act' IsLike IsGoal (segments_by rewrite retarget moved stretches) at at'
  all_alike moved IsGoal [] at at' are within = tt
  all_alike moved IsGoal (stretch ∷ stretches) at at' are within =
      let a = length (rows_of stretch) in
      let b = length (rewritten_by rewrite retarget moved stretch).new in (
        stretch_alike moved IsGoal stretch at at' are.0
            (let e : at + (a + 0) ≡ at + a = omega arith in
            let f : at' + (b + 0) ≡ at' + b = omega arith in
            subst (λ n. IsGoal n (at' + b)) e
            (subst (λ n. IsGoal (at + (a + 0)) n) f (within (a + 0) (b + 0) (Behind Here)))),
        all_alike moved IsGoal stretches (at + a) (at' + b) are.1
            (λ g h start. let e : at + (a + g) ≡ at + a + g = omega arith in
            let f : at' + (b + h) ≡ at' + b + h = omega arith in
            subst (λ n. IsGoal n (at' + b + h)) e
            (subst (λ n. IsGoal (at + (a + g)) n) f (within (a + g) (b + h) (Behind start)))),
      )

  -- the pass keeps the runs from each start
  pub pass_keeps : (moved : ℕ → ℕ) (stretches : List (Stretch Old))
      → Every (IsRewritten act act' IsLike rewrite retarget moved
      (IsStart (segments_by rewrite retarget moved stretches))) stretches
      → (more g h : ℕ) (s : S) (t : T) → IsStart (segments_by rewrite retarget moved stretches) g h
      → IsLike s t
      → Keeps (runs act (olds (segments_by rewrite retarget moved stretches)) more g s)
      (runs act' (news (segments_by rewrite retarget moved stretches)) more h t)
  pass_keeps moved stretches are more g h s t start like =
      keeps_runs act act' IsLike (segments_by rewrite retarget moved stretches)
      (all_alike moved (IsStart (segments_by rewrite retarget moved stretches)) stretches 0 0 are
      (λ g h start. let e : g ≡ 0 + g = omega arith in let f : h ≡ 0 + h = omega arith in
      subst (λ n. IsStart (segments_by rewrite retarget moved stretches) n (0 + h)) e
      (subst (λ n. IsStart (segments_by rewrite retarget moved stretches) g n) f start)))
      more g h s t start like

  pub olds_are : (moved : ℕ → ℕ) (stretches : List (Stretch Old))
      → olds (segments_by rewrite retarget moved stretches) ≡ all_rows stretches
  olds_are moved [] = refl
  olds_are moved (stretch ∷ stretches) = ap (λ r. rows_of stretch ++ r) (olds_are moved stretches)

-- ---- where goals come to stand: a start of the old rows goes to one of the new rows, where no
-- stretch is without a row
module _ {Old New : Type 0} (rewrite : List Old → List New) (retarget : (ℕ → ℕ) → Old → New)
    (ends : Old → Bool) (is_goal : ℕ → Bool) where
  pub moved_start : (after : ℕ → ℕ) (stretches : List (Stretch Old))
      → Every (λ stretch. 1 ≤ length (rows_of stretch)) stretches → (g : ℕ)
      → StartsAt ends is_goal stretches g
      → IsStart (segments_by rewrite retarget after stretches) g
      (relocated (segments_by rewrite retarget after stretches) g)
  moved_start after [] some g AtFirst = Here
  moved_start after (stretch ∷ stretches) some g AtFirst = Here
  moved_start after (stretch ∷ stretches) some g (AtLater {g = h} start) =
      by (length (rows_of stretch)) refl some.0 (moved_start after stretches some.1 h start)
    where
      segments : List (Segment Old New)
      segments = segments_by rewrite retarget after (stretch ∷ stretches)

      by : (n : ℕ) → length (rows_of stretch) ≡ n → 1 ≤ n
          → IsStart (segments_by rewrite retarget after stretches) h
          (relocated (segments_by rewrite retarget after stretches) h)
          → IsStart segments (length (rows_of stretch) + h)
          (relocated segments (length (rows_of stretch) + h))
      by zero e one more = absurd (omega (arith, one))
      by (suc n) e one more =
          let f : length (rows_of stretch) + h ≡ suc (n + h) = omega (arith, e) in
          let back : suc (n + h) - length (rows_of stretch) ≡ h = omega (arith, e) in
          subst (λ m. IsStart segments (length (rows_of stretch) + h) m)
          (sym (ap (relocated segments) f
          ∙ ap (λ k. length (rewritten_by rewrite retarget after stretch).new + relocated
          (segments_by rewrite retarget after stretches) k) back))
          (Behind more)

  -- how long the new rows are doesn't go by where goals come to stand
  same_lengths : (moved after : ℕ → ℕ) (stretch : Stretch Old)
      → length (rewritten_by rewrite retarget moved stretch).new
      ≡ length (rewritten_by rewrite retarget after stretch).new
  same_lengths moved after stretch =
      length-append (rewrite stretch.front) (as_list (option_map (retarget moved) stretch.last))
      ∙ (ap (λ n. length (rewrite stretch.front) + n) (by stretch.last)
      ∙ sym (length-append (rewrite stretch.front)
      (as_list (option_map (retarget after) stretch.last))))
    where
      by : (last : Option Old) → length (as_list (option_map (retarget moved) last))
          ≡ length (as_list (option_map (retarget after) last))
      by None = refl
      by (Some row) = refl

  same_places : (moved after : ℕ → ℕ) (stretches : List (Stretch Old)) (g : ℕ)
      → relocated (segments_by rewrite retarget moved stretches) g
      ≡ relocated (segments_by rewrite retarget after stretches) g
  same_places moved after [] g = refl
  same_places moved after (stretch ∷ stretches) zero = refl
  same_places moved after (stretch ∷ stretches) (suc g) =
      ap (λ n. n + relocated (segments_by rewrite retarget moved stretches)
      (suc g - length (rows_of stretch))) (same_lengths moved after stretch)
      ∙ ap (λ n. length (rewritten_by rewrite retarget after stretch).new + n)
      (same_places moved after stretches (suc g - length (rows_of stretch)))

-- ---- cuts have a row in each stretch
module _ {Row : Type 0} (ends : Row → Bool) (is_goal : ℕ → Bool) where
  pub cut_full : (at : ℕ) (rows : List Row)
      → Every (λ stretch. 1 ≤ length (rows_of stretch)) (cut ends is_goal at rows)
  cut_full at [] = tt
  cut_full at (row ∷ rows) =
      by (ends row) (is_goal (at + 1)) (cut ends is_goal (at + 1) rows) (cut_full (at + 1) rows)
    where
      by : (e g : Bool) (stretches : List (Stretch Row))
          → Every (λ stretch. 1 ≤ length (rows_of stretch)) stretches
          → Every (λ stretch. 1 ≤ length (rows_of stretch)) (cut_row e g row stretches)
      by true g stretches all = (omega arith, all)
      by false true stretches all = (omega arith, all)
      by false false [] all = (omega arith, tt)
      by false false (stretch ∷ stretches) all = (omega arith, all.1)

pub passes_keep_runs : {S T Old New : Type 0} (act : Old → S → Effect S) (act' : New → T → Effect T)
    (IsLike : S → T → Type 0) → PassesKeepRuns act act' IsLike
passes_keep_runs {S} {T} {Old} {New} act act' IsLike rewrite retarget ends is_goal code are left s t
    like =
    let stretches = cut ends is_goal 0 code in
    let moved = moved_by rewrite retarget stretches in
    let new = passed rewrite retarget stretches in
    subst (λ rows. Keeps (runs act rows left 0 s) (runs act' new left 0 t))
    (olds_are act act' IsLike rewrite retarget moved stretches ∙ cut_rows ends is_goal 0 code)
    (pass_keeps act act' IsLike rewrite retarget moved stretches are left 0 0 s t Here like)

pub goals_are_starts : (Old New : Type 0) → GoalsAreStarts Old New
goals_are_starts Old New rewrite retarget ends is_goal code g goal within =
    let stretches = cut ends is_goal 0 code in
    let moved = moved_by rewrite retarget stretches in
    let e : g ≡ 0 + g = omega arith in
    subst (λ n. IsStart (segments_by rewrite retarget moved stretches) g n)
    (same_places rewrite retarget ends is_goal moved (λ n. n) stretches g)
    (moved_start rewrite retarget ends is_goal moved stretches (cut_full ends is_goal 0 code) g
    (goal_starts ends is_goal 0 code g (ap is_goal (sym e) ∙ goal) within))
