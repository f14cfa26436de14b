-- Code whose stretches were rewritten, seen from the new code: unless the new rows are wrong, they
-- do as the old ones.
use Rattle.std.proofs.Common.{◌≡◌, refl, sym, ◌∙◌, ap, subst, arith, ℕ, ◌+◌, List, [], ◌∷◌, ◌++◌}
use Rattle.std.proofs.Common.{length, length-append, Option, Some, None}
use Rattle.std.specs.Option.{option_map}
use Rattle.row_runs.specs.Run.{Effect, runs}
use Rattle.row_runs.specs.Segments.{AllAlike, AreAlike, Behind, Here, IsStart, Keeps, Segment, news}
use Rattle.row_runs.specs.Segments.{olds}
use Rattle.row_runs.specs.Straight.{Every, IsStraight, Tied, through}
use Rattle.row_runs.specs.Cut.{LastAlike, Stretch, as_list, rewritten_by, rows_of, segments_by}
use Rattle.row_runs.proofs.SegmentLemmas.{keeps_runs}
use Rattle.row_runs.proofs.StraightLemmas.{ended_alike, straight_alike}

module _ {S Old New : Type 0} (act : New → S → Effect S) (act' : Old → S → Effect S)
    (rewrite : List Old → List New) (retarget : (ℕ → ℕ) → Old → New) where
  abbrev pub IsSame : S → S → Type 0
  IsSame s t = s ≡ t

  abbrev pub swapped : Segment Old New → Segment New Old
  swapped segment = record { old = segment.new; new = segment.old }

  abbrev pub all_swapped : List (Segment Old New) → List (Segment New Old)
  all_swapped [] = []
  all_swapped (segment ∷ segments) = swapped segment ∷ all_swapped segments

  pub swapped_start : (segments : List (Segment Old New)) (g h : ℕ) → IsStart segments g h
      → IsStart (all_swapped segments) h g
  swapped_start segments g h Here = Here
  swapped_start segments g h
      (Behind {segment = segment} {segments = others} {g = i} {h = j} start) =
      Behind (swapped_start others i j start)

  olds_swapped : (segments : List (Segment Old New)) → olds (all_swapped segments) ≡ news segments
  olds_swapped [] = refl
  olds_swapped (segment ∷ segments) = ap (λ rows. segment.new ++ rows) (olds_swapped segments)

  news_swapped : (segments : List (Segment Old New)) → news (all_swapped segments) ≡ olds segments
  news_swapped [] = refl
  news_swapped (segment ∷ segments) = ap (λ rows. segment.old ++ rows) (news_swapped segments)

  -- of a stretch: its new rows are straight, and do as the old ones
  pub record IsKept (moved : ℕ → ℕ) (IsGoal : ℕ → ℕ → Type 0) (stretch : Stretch Old)
      : Type 0 where
    pub old : Every (IsStraight act') stretch.front
    pub new : Every (IsStraight act) (rewrite stretch.front)
    pub ties : (s : S) → Tied IsSame (through act (rewrite stretch.front) s)
        (through act' stretch.front s)
    pub last : (row : Old) → stretch.last ≡ Some row → (at at' : ℕ) → IsGoal (at + 1) (at' + 1)
        → (s : S) → LastAlike IsGoal at at' (act (retarget moved row) s) (act' row s)

  module _ (moved : ℕ → ℕ) (IsGoal : ℕ → ℕ → Type 0) where
    no_more : {X : Type 0} (xs : List X) → xs ++ [] ≡ xs
    no_more [] = refl
    no_more (x ∷ xs) = ap (λ r. x ∷ r) (no_more xs)

    one_more : {X : Type 0} (n : ℕ) (xs : List X) (l : Option X) (x : X) → l ≡ Some x
        → n + length (xs ++ as_list l) ≡ n + length xs + 1
    one_more n xs l x f =
        let long : length (xs ++ as_list l) ≡ length xs + 1 =
        ap (λ o. length (xs ++ as_list o)) f ∙ length-append xs (x ∷ []) in
        omega (arith, long)

    stretch_alike : (stretch : Stretch Old) (at at' : ℕ) → IsKept moved IsGoal stretch
        → IsGoal (at + length (rewritten_by rewrite retarget moved stretch).new)
        (at' + length (rows_of stretch))
        → AreAlike act act' IsSame IsGoal (swapped (rewritten_by rewrite retarget moved stretch))
        at at'
    stretch_alike stretch at at' is next = by stretch.last refl
      where
        by : (last : Option Old) → stretch.last ≡ last
            → AreAlike act act' IsSame IsGoal
            (swapped (rewritten_by rewrite retarget moved stretch)) at at'
        by None e =
            subst (λ l. AreAlike act act' IsSame IsGoal
            (record {
              old = rewrite stretch.front ++ as_list (option_map (retarget moved) l);
              new = stretch.front ++ as_list l;
            }) at at') (sym e)
            (straight_alike act act' IsSame IsGoal _ at at'
            (subst (Every (IsStraight act)) (sym (no_more (rewrite stretch.front))) is.new)
            (subst (Every (IsStraight act')) (sym (no_more stretch.front)) is.old)
            (λ s t like. subst (λ u. Tied IsSame (through act (rewrite stretch.front ++ []) s)
            (through act' (stretch.front ++ []) u)) like
            (subst (λ r. Tied IsSame (through act r s) (through act' (stretch.front ++ []) s))
            (sym (no_more (rewrite stretch.front)))
            (subst (λ r. Tied IsSame (through act (rewrite stretch.front) s) (through act' r s))
            (sym (no_more stretch.front)) (is.ties s)))))
        by (Some row) e =
            subst (λ l. AreAlike act act' IsSame IsGoal
            (record {
              old = rewrite stretch.front ++ as_list (option_map (retarget moved) l);
              new = stretch.front ++ as_list l;
            }) at at') (sym e)
            (ended_alike act act' IsSame IsGoal (rewrite stretch.front) stretch.front
            (retarget moved row) row at at' is.new is.old
            (λ s t like. subst (λ u. Tied IsSame (through act (rewrite stretch.front) s)
            (through act' stretch.front u)) like (is.ties s))
            (λ s t like. subst (λ u. LastAlike IsGoal (at + length (rewrite stretch.front))
            (at' + length stretch.front) (act (retarget moved row) s) (act' row u)) like
            (is.last row e (at + length (rewrite stretch.front)) (at' + length stretch.front) goal
            s)))
          where
            goal : IsGoal (at + length (rewrite stretch.front) + 1)
                (at' + length stretch.front + 1)
            goal =
                subst (λ n. IsGoal n (at' + length stretch.front + 1))
                (one_more at (rewrite stretch.front) (option_map (retarget moved) stretch.last)
                (retarget moved row) (ap (option_map (retarget moved)) e))
                (subst (λ n. IsGoal
                (at + length (rewritten_by rewrite retarget moved stretch).new) n)
                (one_more at' stretch.front stretch.last row e) next)

    all_alike : (stretches : List (Stretch Old)) (at at' : ℕ)
        → Every (IsKept moved IsGoal) stretches
        → ((g h : ℕ) → IsStart (all_swapped (segments_by rewrite retarget moved stretches)) g h
        → IsGoal (at + g) (at' + h))
        → AllAlike act act' IsSame IsGoal
        (all_swapped (segments_by rewrite retarget moved stretches)) at at'
    all_alike [] at at' are within = tt
    all_alike (stretch ∷ stretches) at at' are within =
        let a = length (rewritten_by rewrite retarget moved stretch).new in
        let b = length (rows_of stretch) in (
          stretch_alike stretch at at' are.0
              (let e : at + (a + 0) ≡ at + a = omega arith in
              let f : at' + (b + 0) ≡ at' + b = omega arith in
              subst (λ n. IsGoal n (at' + b)) e
              (subst (λ n. IsGoal (at + (a + 0)) n) f (within (a + 0) (b + 0) (Behind Here)))),
          all_alike stretches (at + a) (at' + b) are.1
              (λ g h start. let e : at + (a + g) ≡ at + a + g = omega arith in
              let f : at' + (b + h) ≡ at' + b + h = omega arith in
              subst (λ n. IsGoal n (at' + b + h)) e
              (subst (λ n. IsGoal (at + (a + g)) n) f (within (a + g) (b + h) (Behind start)))),
        )

  -- the runs of the new rows are kept by the old ones
  pub new_keeps : (moved : ℕ → ℕ) (stretches : List (Stretch Old))
      → Every (IsKept moved
      (IsStart (all_swapped (segments_by rewrite retarget moved stretches)))) stretches
      → (left : ℕ) (s : S)
      → Keeps (runs act (news (segments_by rewrite retarget moved stretches)) left 0 s)
      (runs act' (olds (segments_by rewrite retarget moved stretches)) left 0 s)
  new_keeps moved stretches are left s =
      let segments = segments_by rewrite retarget moved stretches in
      subst (λ rows. Keeps (runs act rows left 0 s) (runs act' (olds segments) left 0 s))
      (olds_swapped segments)
      (subst (λ rows. Keeps (runs act (olds (all_swapped segments)) left 0 s)
      (runs act' rows left 0 s)) (news_swapped segments)
      (keeps_runs act act' IsSame (all_swapped segments)
      (all_alike moved (IsStart (all_swapped segments)) stretches 0 0 are
      (λ g h start. let e : g ≡ 0 + g = omega arith in let f : h ≡ 0 + h = omega arith in
      subst (λ n. IsStart (all_swapped segments) n (0 + h)) e
      (subst (λ n. IsStart (all_swapped segments) g n) f start))) left 0 0 s s Here refl))
