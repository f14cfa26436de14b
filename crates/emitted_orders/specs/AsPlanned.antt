-- Orders of turns that bring node code to what bounded runs of its plan show.
use Rattle.std.specs.Prelude.{◌≢◌, ℕ, suc, List, Option, Some, None}
use Rattle.grid_links.specs.Laws.{HoldsAtMost}
use Rattle.node_form.specs.declared.tables.Tables.{Tables}
use Rattle.grid_meaning.specs.Grid.{system_over}
use Rattle.row_runs.specs.Run.{Wrong}
use Rattle.plan_orders.specs.of_plan_meaning.Act.{plan_run}
use Rattle.plan_orders.specs.InStep.{IsInStep, least_moves, run_most, some_turns, stops_within}

-- For each run of the plan of at most a jumps and tests, and n turns of each loop within a group,
-- where one more jump, and one turn at least, isn't wrong: all is said by the plan, and done by the
-- code.
abbrev pub ComesAsPlanned : Tables → Tables → Option ℕ → Type 0
ComesAsPlanned code plan links =
    (a n : ℕ) → (plan_run plan links (suc a) (some_turns n)).stop ≢ Wrong
    → (order : List ℕ)
    × IsInStep code links (plan_run plan links a n)
    (least_moves (stops_within plan links a n) a n) (run_most plan a n) order

-- Where the plan isn't wrong over links of so many messages, in which at most so many exchanges are
-- open at once, such an order does the same over links of any number of messages, and no link ever
-- holds more.
abbrev pub HoldsAsPlanned : Tables → Tables → ℕ → Type 0
HoldsAsPlanned code plan most =
    (a n : ℕ) → (plan_run plan (Some most) (suc a) (some_turns n)).stop ≢ Wrong
    → (order : List ℕ)
    × IsInStep code None (plan_run plan (Some most) a n)
    (least_moves (stops_within plan (Some most) a n) a n) (run_most plan a n) order
    × HoldsAtMost (system_over code None) order most
