-- Rows one after another, and longer runs.
use Rattle.std.proofs.Common.{◌≡◌, refl, sym, ◌∙◌, ap, arith, ℕ, zero, suc, ◌+◌, List, [], ◌∷◌}
use Rattle.std.proofs.Common.{◌++◌}
use Rattle.std.proofs.Common.{length, drop, append_assoc}
use Rattle.zpl_nums.specs.declared.ends.End.TheVariants.{Done}
use Rattle.row_runs.specs.Run.{Ends, Result, Step, Goes, Stops, Effect, Does, Leaps, Passes}
use Rattle.row_runs.specs.Run.{stopped, printed, stepped, went, walked, runs}
use Rattle.row_runs.specs.Growth.{GoesOnTo, StaysSo, WasCutOff, IsFurther, SameEffect}
use Rattle.row_runs.specs.Growth.{WantedMore, AreFurther}
use Rattle.row_runs.specs.Laws.{Grow}

module _ {S Row : Type 0} (act : Row → S → Effect S) where
  step_ap : (step : Step S) (f g : S → Result) → ((s : S) → f s ≡ g s)
      → stepped step f ≡ stepped step g
  step_ap (Goes bytes next) f g same = ap (printed bytes) (same next)
  step_ap (Stops stop) f g same = refl

  went_ap : (leap : ℕ → S → Result) (at : ℕ) (s : S) (e : Effect S) (f g : S → Result)
      → ((s : S) → f s ≡ g s) → went leap at s e f ≡ went leap at s e g
  went_ap leap at s (Does step) f g same = step_ap step f g same
  went_ap leap at s (Leaps goal) f g same = refl
  went_ap leap at s Passes f g same = refl

  pub walked_append : (leap : ℕ → S → Result) (rest : S → Result) (at : ℕ) (xs ys : List Row)
      (s : S)
      → walked act leap rest at (xs ++ ys) s
      ≡ walked act leap (λ s. walked act leap rest (at + length xs) ys s) at xs s
  walked_append leap rest at [] ys s =
      let e : at ≡ at + 0 = omega arith in ap (λ n. walked act leap rest n ys s) e
  walked_append leap rest at (x ∷ xs) ys s =
      went_ap leap at s (act x s) (λ s. walked act leap rest (at + 1) (xs ++ ys) s)
      (λ s. walked act leap (λ s. walked act leap rest (at + length (x ∷ xs)) ys s) (at + 1) xs s)
      (λ s. walked_append leap rest (at + 1) xs ys s ∙ behind s)
    where
      behind : (s : S)
          → walked act leap (λ s. walked act leap rest (at + 1 + length xs) ys s) (at + 1) xs s
          ≡ walked act leap (λ s. walked act leap rest (at + length (x ∷ xs)) ys s) (at + 1) xs s
      behind s =
          let e : at + 1 + length xs ≡ at + length (x ∷ xs) = omega arith in
          ap (λ n. walked act leap (λ s. walked act leap rest n ys s) (at + 1) xs s) e

  -- ---- longer runs
  grown_printed : (bytes : List ℕ) (a b : Result) → GoesOnTo a b
      → GoesOnTo (printed bytes a) (printed bytes b)
  grown_printed bytes a b (StaysSo same) = StaysSo (ap (printed bytes) same)
  grown_printed bytes a b (WasCutOff more front) =
      WasCutOff more (record {
        rest = front.rest;
        joins = ap (λ (all : List ℕ). bytes ++ all) front.joins
            ∙ sym (append_assoc bytes a.bytes front.rest);
      })

  grown_step : (step : Step S) (f g : S → Result) → ((s : S) → GoesOnTo (f s) (g s))
      → GoesOnTo (stepped step f) (stepped step g)
  grown_step (Goes bytes next) f g more = grown_printed bytes (f next) (g next) (more next)
  grown_step (Stops stop) f g more = StaysSo refl

  module _ (act' : Row → S → Effect S) (further : AreFurther act act') where
    grown_went : (leap leap' : ℕ → S → Result) (at : ℕ) (s : S) (e f : Effect S)
        (rest rest' : S → Result)
        → ((goal : ℕ) (s : S) → GoesOnTo (leap goal s) (leap' goal s))
        → ((s : S) → GoesOnTo (rest s) (rest' s)) → IsFurther e f
        → GoesOnTo (went leap at s e rest) (went leap' at s f rest')
    grown_went leap leap' at s e f rest rest' leaps more (SameEffect {effect = effect}) = by effect
      where
        by : (effect : Effect S)
            → GoesOnTo (went leap at s effect rest) (went leap' at s effect rest')
        by (Does step) = grown_step step rest rest' more
        by (Leaps goal) = leaps goal s
        by Passes = leaps (at + 1) s
    grown_went leap leap' at s e f rest rest' leaps more (WantedMore {effect = effect}) =
        WasCutOff refl (record { rest = (went leap' at s effect rest').bytes; joins = refl })

    grown_walk : (leap leap' : ℕ → S → Result)
        → ((goal : ℕ) (s : S) → GoesOnTo (leap goal s) (leap' goal s))
        → (at : ℕ) (rows : List Row) (s : S)
        → GoesOnTo (walked act leap (λ _. stopped (Ends Done)) at rows s)
        (walked act' leap' (λ _. stopped (Ends Done)) at rows s)
    grown_walk leap leap' leaps at [] s = StaysSo refl
    grown_walk leap leap' leaps at (row ∷ rows) s =
        grown_went leap leap' at s (act row s) (act' row s)
        (walked act leap (λ _. stopped (Ends Done)) (at + 1) rows)
        (walked act' leap' (λ _. stopped (Ends Done)) (at + 1) rows) leaps
        (grown_walk leap leap' leaps (at + 1) rows) (further.further row s)

    pub grow : Grow act act'
    grow code zero more fewer at s =
        WasCutOff refl (record { rest = (runs act' code more at s).bytes; joins = refl })
    grow code (suc less) zero fewer at s = absurd (omega (arith, fewer))
    grow code (suc less) (suc more) fewer at s =
        grown_walk (runs act code less) (runs act' code more)
        (λ goal s. grow code less more (omega (arith, fewer)) goal s) at (drop at code) s

  pub grow_alone : Grow act act
  grow_alone = grow act (record { further = λ row s. SameEffect })
