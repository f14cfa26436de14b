-- Rows that structured code is laid out in: straight rows, jumps and tests.
use Rattle.std.specs.Prelude.{ℕ, Bool, true, false}
use Rattle.row_runs.specs.Run.{Stop, Step, Stops, Effect, Does, Leaps, Passes}

pub data CodeRow (R T : Type 0) : Type 0 where
  Straight : (row : R) → CodeRow R T
  Jump : (goal : ℕ) → CodeRow R T
  -- leaps to the goal where the test is false
  Unless : (test : T) (goal : ℕ) → CodeRow R T

-- what a test says; or that it stops the run
pub data Decision : Type 0 where
  Says : (value : Bool) → Decision
  Fails : (stop : Stop) → Decision

abbrev pub decided : {S : Type 0} → Decision → ℕ → Effect S
decided (Says true) goal = Passes
decided (Says false) goal = Leaps goal
decided (Fails stop) goal = Does (Stops stop)

-- what a row does, by what straight rows do and what tests say
abbrev pub code_act : {R T S : Type 0} → (R → S → Step S) → (T → S → Decision)
    → CodeRow R T → S → Effect S
code_act step decide (Straight row) state = Does (step row state)
code_act step decide (Jump goal) state = Leaps goal
code_act step decide (Unless test goal) state = decided (decide test state) goal
