-- Runs that may go on for longer, of rows that may go on further.
use Rattle.std.specs.Prelude.{◌≡◌, ℕ, zero, suc, ◌+◌, Bool, true, false, List, [], ◌∷◌, drop}
use Rattle.zpl_lists.specs.Front.{IsFrontOf}
use Rattle.zpl_nums.specs.declared.ends.End.TheVariants.{More}
use Rattle.row_runs.specs.Run.{Ends, Result, Step, Goes, Stops, Effect, Does, Leaps, Passes}

-- The longer run shows the same; or the shorter one wanted more, and its bytes begin those of the
-- longer one.
pub data GoesOnTo (shorter longer : Result) : Type 0 where
  StaysSo : shorter ≡ longer → GoesOnTo shorter longer
  WasCutOff : shorter.stop ≡ Ends More → IsFrontOf shorter.bytes longer.bytes
      → GoesOnTo shorter longer

-- the second effect is the first, unless the first wants more
pub data IsFurther {S : Type 0} : Effect S → Effect S → Type 0 where
  SameEffect : {effect : Effect S} → IsFurther effect effect
  WantedMore : {effect : Effect S} → IsFurther (Does (Stops (Ends More))) effect

pub record AreFurther {S Row : Type 0} (act act' : Row → S → Effect S) : Type 0 where
  pub further : (row : Row) (s : S) → IsFurther (act row s) (act' row s)

-- ---- runs that stop by themselves
-- Whether the run of code from the row with a number on comes to the end, or to a row that stops
-- it, before it has made so many leaps and passed tests.
module _ {S Row : Type 0} (act : Row → S → Effect S) where
  abbrev pub step_stops : Step S → (S → Bool) → Bool
  step_stops (Goes bytes next) rest = rest next
  step_stops (Stops stop) rest = true

  abbrev pub effect_stops : (ℕ → S → Bool) → ℕ → S → Effect S → (S → Bool) → Bool
  effect_stops leap at state (Does step) rest = step_stops step rest
  effect_stops leap at state (Leaps goal) rest = leap goal state
  effect_stops leap at state Passes rest = leap (at + 1) state

  abbrev pub rows_stop : (ℕ → S → Bool) → ℕ → List Row → S → Bool
  rows_stop leap at [] state = true
  rows_stop leap at (row ∷ rows) state =
      effect_stops leap at state (act row state) (λ next. rows_stop leap (at + 1) rows next)

  abbrev pub stops_itself : List Row → ℕ → ℕ → S → Bool
  stops_itself code zero at state = false
  stops_itself code (suc left) at state =
      rows_stop (stops_itself code left) at (drop at code) state
