-- Bounded runs of rows, over any rows and any states.
use Rattle.std.specs.Prelude.{ℕ, zero, suc, ◌+◌, List, [], ◌∷◌, ◌++◌, drop}
use Rattle.zpl_nums.specs.declared.ends.End.{End}
use Rattle.zpl_nums.specs.declared.ends.End.TheVariants.{Done, More}

-- How a run stops: at its end, by a trap, or for want of more jumps or turns; or at a row that may
-- not stand there.
pub data Stop : Type 0 where
  Ends : (ending : End) → Stop
  Wrong : Stop

-- what a run shows: the bytes that it prints, and how it stops
pub record Result : Type 0 where
  pub bytes : List ℕ
  pub stop : Stop

-- what a straight row does: it goes on, with bytes printed; or it stops the run
pub data Step (S : Type 0) : Type 0 where
  Goes : (bytes : List ℕ) (state : S) → Step S
  Stops : (stop : Stop) → Step S

-- What a row does: what a straight row does; or it leaps to the row with a number; or it is a test,
-- and passes to the row behind it. A leap and a passed test count.
pub data Effect (S : Type 0) : Type 0 where
  Does : (step : Step S) → Effect S
  Leaps : (goal : ℕ) → Effect S
  Passes : Effect S

abbrev pub stopped : Stop → Result
stopped stop = record { bytes = []; stop = stop }

-- behind bytes that were printed before
abbrev pub printed : List ℕ → Result → Result
printed bytes result = record { bytes = bytes ++ result.bytes; stop = result.stop }

abbrev pub stepped : {S : Type 0} → Step S → (S → Result) → Result
stepped (Goes bytes next) rest = printed bytes (rest next)
stepped (Stops stop) rest = stopped stop

-- The row with the number `at` has this effect: `leap` is the run from a row that is leapt or
-- passed
-- to, `rest` the run of the rows behind it.
abbrev pub went : {S : Type 0} → (ℕ → S → Result) → ℕ → S → Effect S → (S → Result) → Result
went leap at state (Does step) rest = stepped step rest
went leap at state (Leaps goal) rest = leap goal state
went leap at state Passes rest = leap (at + 1) state

module _ {S Row : Type 0} (act : Row → S → Effect S) where
  -- rows from the one with the number `at` on, and what is run behind them
  abbrev pub walked : (ℕ → S → Result) → (S → Result) → ℕ → List Row → S → Result
  walked leap rest at [] state = rest state
  walked leap rest at (row ∷ rows) state =
      went leap at state (act row state) (λ next. walked leap rest (at + 1) rows next)

  -- The run of code from the row with a number on, which stops directly behind so many leaps and
  -- passed tests. Behind the last row is the end.
  abbrev pub runs : List Row → ℕ → ℕ → S → Result
  runs code zero at state = stopped (Ends More)
  runs code (suc left) at state =
      walked (runs code left) (λ _. stopped (Ends Done)) at (drop at code) state
