-- Code whose stretches were rewritten by as many straight rows, cut again.
use Rattle.std.proofs.Common.{◌≡◌, refl, ◌∙◌, ap, arith, ℕ, ◌+◌, ◌<◌, ◌≤◌, Bool, true, false}
use Rattle.std.proofs.Common.{List, [], ◌∷◌, ◌++◌, length, map, append-nil, append_assoc}
use Rattle.std.specs.Prelude.{Option, Some, None, nat_lt}
use Rattle.std.proofs.lemmas.Bool.Decides.{nat_tests}
use Rattle.std.specs.List.{AllByRecursion}
use Rattle.std.specs.Option.{option_map}
use Rattle.row_runs.specs.Cut.{Stretch, all_rows, as_list, cut, cut_row, joined_to, segments_by}
use Rattle.row_runs.specs.Segments.{news}

module _ {Row : Type 0} (ends : Row → Bool) (goal : ℕ → Bool) where
  abbrev pub Straight : List Row → Type 0
  Straight rows = AllByRecursion (λ row. ends row ≡ false) rows

  -- none of so many rows but the first is a goal
  abbrev pub Inside : ℕ → ℕ → Type 0
  Inside at many = (k : ℕ) → at < k → k < at + many → goal k ≡ false

  -- stretches that code is cut into from a number on
  pub data AreCut : ℕ → List (Stretch Row) → Type 0 where
    NoStretch : {at : ℕ} → AreCut at []
    Ended : {at next : ℕ} {front : List Row} {row : Row} {rest : List (Stretch Row)}
        → Straight front → Inside at (length front + 1) → ends row ≡ true
        → next ≡ at + length front + 1 → AreCut next rest
        → AreCut at (record { front = front; last = Some row } ∷ rest)
    BeforeGoal : {at next : ℕ} {front : List Row} {rest : List (Stretch Row)}
        → Straight front → 0 < length front → Inside at (length front)
        → next ≡ at + length front → goal next ≡ true → AreCut next rest
        → AreCut at (record { front = front; last = None } ∷ rest)
    AtEnd : {at : ℕ} {front : List Row} → Straight front → 0 < length front
        → Inside at (length front)
        → AreCut at (record { front = front; last = None } ∷ [])

  -- ---- one stretch
  cut_ended : (at next : ℕ) (front : List Row) (row : Row) (more : List Row) → Straight front
      → Inside at (length front + 1) → ends row ≡ true → next ≡ at + length front + 1
      → cut ends goal at (front ++ row ∷ more)
      ≡ record { front = front; last = Some row } ∷ cut ends goal next more
  cut_ended at next [] row more straight inside is number =
      let same : at + 1 ≡ next = omega (arith, number) in
      ap (λ e. cut_row e (goal (at + 1)) row (cut ends goal (at + 1) more)) is
      ∙ ap (λ k. record { front = []; last = Some row } ∷ cut ends goal k more) same
  cut_ended at next (one ∷ front) row more straight inside is number =
      let rest : List (Stretch Row) = cut ends goal (at + 1) (front ++ row ∷ more) in
      ap (λ e. cut_row e (goal (at + 1)) one rest) straight.0
      ∙ (ap (λ g. cut_row false g one rest) (inside (at + 1) (omega arith) (omega arith))
      ∙ ap (joined_to one)
      (cut_ended (at + 1) next front row more straight.1
      (λ k above below. inside k (omega (arith, above)) (omega (arith, below))) is
      (omega (arith, number))))

  cut_before : (at next : ℕ) (one : Row) (front more : List Row) → Straight (one ∷ front)
      → Inside at (length (one ∷ front)) → next ≡ at + length (one ∷ front) → goal next ≡ true
      → cut ends goal at (one ∷ (front ++ more))
      ≡ record { front = one ∷ front; last = None } ∷ cut ends goal next more
  cut_before at next one [] more straight inside number is =
      let same : at + 1 ≡ next = omega (arith, number) in
      ap (λ e. cut_row e (goal (at + 1)) one (cut ends goal (at + 1) more)) straight.0
      ∙ (ap (λ g. cut_row false g one (cut ends goal (at + 1) more)) (ap goal same ∙ is)
      ∙ ap (λ k. record { front = one ∷ []; last = None } ∷ cut ends goal k more) same)
  cut_before at next one (other ∷ front) more straight inside number is =
      let rest : List (Stretch Row) = cut ends goal (at + 1) (other ∷ (front ++ more)) in
      ap (λ e. cut_row e (goal (at + 1)) one rest) straight.0
      ∙ (ap (λ g. cut_row false g one rest) (inside (at + 1) (omega arith) (omega arith))
      ∙ ap (joined_to one)
      (cut_before (at + 1) next other front more straight.1
      (λ k above below. inside k (omega (arith, above)) (omega (arith, below)))
      (omega (arith, number)) is))

  cut_end : (at : ℕ) (one : Row) (front : List Row) → Straight (one ∷ front)
      → Inside at (length (one ∷ front))
      → cut ends goal at (one ∷ front) ≡ record { front = one ∷ front; last = None } ∷ []
  cut_end at one [] straight inside =
      ap (λ e. cut_row e (goal (at + 1)) one []) straight.0 ∙ by (goal (at + 1))
    where
      by : (g : Bool) → cut_row false g one [] ≡ record { front = one ∷ []; last = None } ∷ []
      by true = refl
      by false = refl
  cut_end at one (other ∷ front) straight inside =
      let rest : List (Stretch Row) = cut ends goal (at + 1) (other ∷ front) in
      ap (λ e. cut_row e (goal (at + 1)) one rest) straight.0
      ∙ (ap (λ g. cut_row false g one rest) (inside (at + 1) (omega arith) (omega arith))
      ∙ ap (joined_to one)
      (cut_end (at + 1) other front straight.1
      (λ k above below. inside k (omega (arith, above)) (omega (arith, below)))))

  -- ---- all, cut again
  pub cut_again : (at : ℕ) (stretches : List (Stretch Row)) → AreCut at stretches
      → cut ends goal at (all_rows stretches) ≡ stretches
  cut_again at stretches NoStretch = refl
  cut_again at stretches (Ended {next = next} {front = front} {row = row} {rest = rest}
      straight inside is number more) =
      ap (cut ends goal at) (append_assoc front (row ∷ []) (all_rows rest))
      ∙ (cut_ended at next front row (all_rows rest) straight inside is number
      ∙ ap (λ r. record { front = front; last = Some row } ∷ r) (cut_again next rest more))
  cut_again at stretches (BeforeGoal {next = next} {front = front} {rest = rest}
      straight some inside number is more) =
      by front straight some inside number (cut_again next rest more)
    where
      by : (front : List Row) → Straight front → 0 < length front → Inside at (length front)
          → next ≡ at + length front → cut ends goal next (all_rows rest) ≡ rest
          → cut ends goal at ((front ++ []) ++ all_rows rest)
          ≡ record { front = front; last = None } ∷ rest
      by [] straight some inside number again = absurd (omega (arith, some))
      by (one ∷ front) straight some inside number again =
          ap (λ rows. cut ends goal at (rows ++ all_rows rest)) (append-nil (one ∷ front))
          ∙ (cut_before at next one front (all_rows rest) straight inside number is
          ∙ ap (λ r. record { front = one ∷ front; last = None } ∷ r) again)
  cut_again at stretches (AtEnd {front = front} straight some inside) =
      by front straight some inside
    where
      by : (front : List Row) → Straight front → 0 < length front → Inside at (length front)
          → cut ends goal at ((front ++ []) ++ []) ≡ record { front = front; last = None } ∷ []
      by [] straight some inside = absurd (omega (arith, some))
      by (one ∷ front) straight some inside =
          ap (cut ends goal at) (append-nil ((one ∷ front) ++ []) ∙ append-nil (one ∷ front))
          ∙ cut_end at one front straight inside

  -- ---- code that is cut
  -- behind one row more
  later_inside : (at many : ℕ) → goal (at + 1) ≡ false → Inside (at + 1) many → (k : ℕ) → at < k
      → k < at + 1 + many → goal k ≡ false
  later_inside at many first inside k above below = by (nat_lt (at + 1) k) refl
    where
      by : (b : Bool) → nat_lt (at + 1) k ≡ b → goal k ≡ false
      by true e =
          let less : at + 1 < k = grind (arith, nat_tests, e) in
          inside k less (omega (arith, below))
      by false e =
          let most : k ≤ at + 1 = grind (arith, nat_tests, e) in
          let same : k ≡ at + 1 = omega (arith, most, above) in ap goal same ∙ first

  joined_cut : (at : ℕ) (row : Row) → ends row ≡ false → goal (at + 1) ≡ false
      → (rest : List (Stretch Row)) → AreCut (at + 1) rest → AreCut at (joined_to row rest)
  joined_cut at row is first rest NoStretch =
      AtEnd (is, tt) (omega arith) (λ k above below. absurd (omega (arith, above, below)))
  joined_cut at row is first rest (Ended {front = front} straight inside last number more) =
      Ended (is, straight)
      (λ k above below. later_inside at (length front + 1) first inside k above (omega (arith, below)))
      last (omega (arith, number)) more
  joined_cut at row is first rest (BeforeGoal {front = front} straight some inside number goes more) =
      BeforeGoal (is, straight) (omega arith)
      (λ k above below. later_inside at (length front) first inside k above (omega (arith, below)))
      (omega (arith, number)) goes more
  joined_cut at row is first rest (AtEnd {front = front} straight some inside) =
      AtEnd (is, straight) (omega arith)
      (λ k above below. later_inside at (length front) first inside k above (omega (arith, below)))

  pub are_cut : (at : ℕ) (rows : List Row) → AreCut at (cut ends goal at rows)
  are_cut at [] = NoStretch
  are_cut at (row ∷ rows) =
      by (ends row) refl (goal (at + 1)) refl (cut ends goal (at + 1) rows) (are_cut (at + 1) rows)
    where
      by : (e : Bool) → ends row ≡ e → (g : Bool) → goal (at + 1) ≡ g → (rest : List (Stretch Row))
          → AreCut (at + 1) rest → AreCut at (cut_row e g row rest)
      by true is g goes rest more =
          Ended {front = []} tt (λ k above below. absurd (omega (arith, above, below))) is
          (omega arith) more
      by false is true goes rest more =
          BeforeGoal (is, tt) (omega arith) (λ k above below. absurd (omega (arith, above, below)))
          (omega arith) goes more
      by false is false goes rest more = joined_cut at row is goes rest more

  -- ---- with their straight rows rewritten by as many
  module _ (rewrite : List Row → List Row)
      (long : (rows : List Row) → length (rewrite rows) ≡ length rows)
      (straight : (rows : List Row) → Straight rows → Straight (rewrite rows)) where
    abbrev pub with_front : Stretch Row → Stretch Row
    with_front stretch = record { front = rewrite stretch.front; last = stretch.last }

    rewritten_cut : (at : ℕ) (stretches : List (Stretch Row)) → AreCut at stretches
        → AreCut at (map with_front stretches)
    rewritten_cut at stretches NoStretch = NoStretch
    rewritten_cut at stretches (Ended {next = next} {front = front} {rest = rest} are inside last
        number more) =
        Ended (straight front are)
        (λ k above below. inside k above (omega (arith, below, long front))) last
        (omega (arith, number, long front)) (rewritten_cut next rest more)
    rewritten_cut at stretches (BeforeGoal {next = next} {front = front} {rest = rest} are some inside
        number is more) =
        BeforeGoal (straight front are) (omega (arith, some, long front))
        (λ k above below. inside k above (omega (arith, below, long front)))
        (omega (arith, number, long front)) is (rewritten_cut next rest more)
    rewritten_cut at stretches (AtEnd {front = front} are some inside) =
        AtEnd (straight front are) (omega (arith, some, long front))
        (λ k above below. inside k above (omega (arith, below, long front)))

    last_stays : (last : Option Row) → as_list (option_map (λ row. row) last) ≡ as_list last
    last_stays None = refl
    last_stays (Some row) = refl

    news_are : (moved : ℕ → ℕ) (stretches : List (Stretch Row))
        → news (segments_by rewrite (λ moved row. row) moved stretches)
        ≡ all_rows (map with_front stretches)
    news_are moved [] = refl
    news_are moved (stretch ∷ stretches) =
        ap (λ last. (rewrite stretch.front ++ last)
        ++ news (segments_by rewrite (λ moved row. row) moved stretches)) (last_stays stretch.last)
        ∙ ap (λ rows. (rewrite stretch.front ++ as_list stretch.last) ++ rows)
        (news_are moved stretches)

    pub cut_rewritten : (at : ℕ) (rows : List Row) (moved : ℕ → ℕ)
        → cut ends goal at
        (news (segments_by rewrite (λ moved row. row) moved (cut ends goal at rows)))
        ≡ map with_front (cut ends goal at rows)
    cut_rewritten at rows moved =
        ap (cut ends goal at) (news_are moved (cut ends goal at rows))
        ∙ cut_again at (map with_front (cut ends goal at rows))
        (rewritten_cut at (cut ends goal at rows) (are_cut at rows))
