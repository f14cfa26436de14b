-- How many exchanges a run of a plan has open at once.
--
--   most_open   so many, where it has most
--   HoldsOpen   no link holds more messages in the order of a run, or than one
use Rattle.std.specs.Prelude.{◌≢◌, ℕ, zero, suc, ◌+◌, max, List, [], ◌∷◌, drop, length, None, Option}
use Rattle.grid_links.specs.Laws.{HoldsAtMost}
use Rattle.node_form.specs.declared.tables.Tables.{Tables}
use Rattle.grid_meaning.specs.Grid.{system_over}
use Rattle.row_runs.specs.Run.{Step, Goes, Stops, Effect, Does, Leaps, Passes, Wrong}
use Rattle.plan_meaning.specs.Abreast.{Abreast, start_abreast}
use Rattle.plan_meaning.specs.Act.{plan_act, plan_rows, plan_run}
use Rattle.plan_orders.specs.InStep.{IsInStep, least_moves, run_most, some_turns, stops_within}

-- ---- what is counted in a state, where a run has most of it: in each state that it comes to
module _ {S Row : Type 0} (act : Row → S → Effect S) (count : S → ℕ) where
  abbrev pub step_most : Step S → (S → ℕ) → ℕ
  step_most (Goes bytes next) rest = rest next
  step_most (Stops stop) rest = 0

  abbrev pub effect_most : (ℕ → S → ℕ) → ℕ → S → Effect S → (S → ℕ) → ℕ
  effect_most leap at state (Does step) rest = step_most step rest
  effect_most leap at state (Leaps goal) rest = leap goal state
  effect_most leap at state Passes rest = leap (at + 1) state

  abbrev pub rows_most : (ℕ → S → ℕ) → ℕ → List Row → S → ℕ
  rows_most leap at [] state = count state
  rows_most leap at (row ∷ rows) state =
      max (count state)
      (effect_most leap at state (act row state) (λ next. rows_most leap (at + 1) rows next))

  abbrev pub runs_most : List Row → ℕ → ℕ → S → ℕ
  runs_most code zero at state = count state
  runs_most code (suc left) at state =
      rows_most (runs_most code left) at (drop at code) state

-- ---- exchanges that are started and not finished
abbrev pub open_in : Abreast → ℕ
open_in all = length all.flights

-- in a run of at most a jumps and tests, with n turns of each loop
abbrev pub most_open : Tables → Option ℕ → ℕ → ℕ → ℕ
most_open code links a n =
    runs_most (plan_act code links n) open_in (plan_rows code) a 0 (start_abreast code)

-- For each run of the plan that isn't wrong with one jump more, and one turn at least, some order
-- is in step with it over links of any number of messages, and no link ever holds more of them than
-- exchanges are open at once in that longer run, or than one.
abbrev pub HoldsOpen : Tables → Tables → Type 0
HoldsOpen code plan =
    (a n : ℕ) → (plan_run plan None (suc a) (some_turns n)).stop ≢ Wrong
    → (order : List ℕ)
    × IsInStep code None (plan_run plan None a n) (least_moves (stops_within plan None a n) a n)
    (run_most plan a n) order
    × HoldsAtMost (system_over code None) order (max 1 (most_open plan None (suc a) (some_turns n)))
