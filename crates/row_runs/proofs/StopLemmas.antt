-- Runs that stop by themselves.
use Rattle.std.proofs.Common.{◌≡◌, refl, ap, arith, ℕ, zero, suc, ◌+◌, Bool, true, false, List, [], ◌∷◌}
use Rattle.std.proofs.Common.{drop}
use Rattle.zpl_nums.specs.declared.ends.End.TheVariants.{Done, More}
use Rattle.row_runs.specs.Run.{Ends, Result, Step, Goes, Stops, Effect, Does, Leaps, Passes}
use Rattle.row_runs.specs.Run.{stopped, printed, stepped, went, walked, runs}
use Rattle.row_runs.specs.Growth.{step_stops, effect_stops, rows_stop, stops_itself}
use Rattle.row_runs.specs.Laws.{StopForGood, WantElse}

module _ {S Row : Type 0} (act : Row → S → Effect S) where
  -- ---- for good
  good_step : (step : Step S) (stops : S → Bool) (f g : S → Result)
      → ((s : S) → stops s ≡ true → f s ≡ g s) → step_stops act step stops ≡ true
      → stepped step f ≡ stepped step g
  good_step (Goes bytes next) stops f g same e = ap (printed bytes) (same next e)
  good_step (Stops stop) stops f g same e = refl

  good_went : (stops : ℕ → S → Bool) (leap meap : ℕ → S → Result) (at : ℕ) (s : S) (e : Effect S)
      (behind : S → Bool) (f g : S → Result)
      → ((goal : ℕ) (s : S) → stops goal s ≡ true → leap goal s ≡ meap goal s)
      → ((s : S) → behind s ≡ true → f s ≡ g s) → effect_stops act stops at s e behind ≡ true
      → went leap at s e f ≡ went meap at s e g
  good_went stops leap meap at s (Does step) behind f g leaps same e =
      good_step step behind f g same e
  good_went stops leap meap at s (Leaps goal) behind f g leaps same e = leaps goal s e
  good_went stops leap meap at s Passes behind f g leaps same e = leaps (at + 1) s e

  good_walk : (stops : ℕ → S → Bool) (leap meap : ℕ → S → Result)
      → ((goal : ℕ) (s : S) → stops goal s ≡ true → leap goal s ≡ meap goal s)
      → (at : ℕ) (rows : List Row) (s : S) → rows_stop act stops at rows s ≡ true
      → walked act leap (λ _. stopped (Ends Done)) at rows s
      ≡ walked act meap (λ _. stopped (Ends Done)) at rows s
  good_walk stops leap meap leaps at [] s e = refl
  good_walk stops leap meap leaps at (row ∷ rows) s e =
      good_went stops leap meap at s (act row s) (λ next. rows_stop act stops (at + 1) rows next)
      (walked act leap (λ _. stopped (Ends Done)) (at + 1) rows)
      (walked act meap (λ _. stopped (Ends Done)) (at + 1) rows) leaps
      (λ next. good_walk stops leap meap leaps (at + 1) rows next) e

  pub stop_for_good : StopForGood act
  stop_for_good code zero more fewer at s e = absurd (no e)
    where
      no : false ≡ true → ⊥
      no h = cc
  stop_for_good code (suc less) zero fewer at s e = absurd (omega (arith, fewer))
  stop_for_good code (suc less) (suc more) fewer at s e =
      good_walk (stops_itself act code less) (runs act code less) (runs act code more)
      (λ goal s. stop_for_good code less more (omega (arith, fewer)) goal s) at (drop at code) s e

  -- ---- else
  else_step : (step : Step S) (stops : S → Bool) (f : S → Result)
      → ((s : S) → stops s ≡ false → (f s).stop ≡ Ends More) → step_stops act step stops ≡ false
      → (stepped step f).stop ≡ Ends More
  else_step (Goes bytes next) stops f wants e = wants next e
  else_step (Stops stop) stops f wants e = cc

  else_went : (stops : ℕ → S → Bool) (leap : ℕ → S → Result) (at : ℕ) (s : S) (e : Effect S)
      (behind : S → Bool) (f : S → Result)
      → ((goal : ℕ) (s : S) → stops goal s ≡ false → (leap goal s).stop ≡ Ends More)
      → ((s : S) → behind s ≡ false → (f s).stop ≡ Ends More)
      → effect_stops act stops at s e behind ≡ false → (went leap at s e f).stop ≡ Ends More
  else_went stops leap at s (Does step) behind f leaps wants e = else_step step behind f wants e
  else_went stops leap at s (Leaps goal) behind f leaps wants e = leaps goal s e
  else_went stops leap at s Passes behind f leaps wants e = leaps (at + 1) s e

  else_walk : (stops : ℕ → S → Bool) (leap : ℕ → S → Result)
      → ((goal : ℕ) (s : S) → stops goal s ≡ false → (leap goal s).stop ≡ Ends More)
      → (at : ℕ) (rows : List Row) (s : S) → rows_stop act stops at rows s ≡ false
      → (walked act leap (λ _. stopped (Ends Done)) at rows s).stop ≡ Ends More
  else_walk stops leap leaps at [] s e = cc
  else_walk stops leap leaps at (row ∷ rows) s e =
      else_went stops leap at s (act row s) (λ next. rows_stop act stops (at + 1) rows next)
      (walked act leap (λ _. stopped (Ends Done)) (at + 1) rows) leaps
      (λ next. else_walk stops leap leaps (at + 1) rows next) e

  pub want_else : WantElse act
  want_else code zero at s e = refl
  want_else code (suc left) at s e =
      else_walk (stops_itself act code left) (runs act code left)
      (λ goal s. want_else code left goal s) at (drop at code) s e
