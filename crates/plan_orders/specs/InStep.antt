-- Bounded runs of plans, and orders of turns that bring the code there.
use Rattle.std.specs.Prelude.{◌≡◌, ◌≢◌, ◌⊎◌, ℕ, zero, suc, ◌+◌, ◌*◌, ◌<◌, ◌≤◌, Bool, true, false, List}
use Rattle.std.specs.Prelude.{All, length, Option, Some, None}
use Rattle.zpl_nums.specs.declared.ends.End.{End}
use Rattle.zpl_nums.specs.declared.ends.End.TheVariants.{More}
use Rattle.grid_links.specs.Laws.{HoldsAtMost, Reaches}
use Rattle.grid_links.specs.Run as run
use Rattle.grid_links.specs.Run.{Rests, count_of, moves_of, start_world}
use Rattle.grid_paths.specs.Scene.{OnlyMoves}
use Rattle.node_form.specs.declared.tables.Tables.{Tables}
use Rattle.grid_meaning.specs.Grid.{EndsAs, HasEmptyLinks, IsOver, after, processors, system_over}
use Rattle.grid_meaning.specs.Order.{IsOrder}
use Rattle.grid_meaning.specs.State.{HasThree}
use Rattle.row_runs.specs.Run.{Ends, Result, Wrong}
use Rattle.row_runs.specs.Growth.{stops_itself}
use Rattle.plan_meaning.specs.Abreast.{start_abreast}
use Rattle.plan_meaning.specs.Act.{plan_act, plan_rows, plan_run}
use Rattle.plan_orders.specs.Brings.{row_most}

-- The order, of moves alone, brings the code to what a run shows: over as it ends, with all links
-- empty, or not over where it wants more; each processor rests or has made at least so many moves,
-- and none is stuck; who rests isn't held up by a full link; and one has made as many where the run
-- wants more. Where it doesn't, none has made more moves than the most, if rows of three dimensions
-- have three.
pub record IsInStep (code : Tables) (links : Option ℕ) (result : Result) (bound most : ℕ)
    (order : List ℕ) : Type 0 where
  pub turns : IsOrder (processors code) order
  pub only_moves :
      OnlyMoves (system_over code links) (start_world (system_over code links)) order
  pub printed : (after code links order).printed ≡ result.bytes
  pub ends : (ending : End) → result.stop ≡ Ends ending → ending ≢ More
      → EndsAs (after code links order) ending × HasEmptyLinks (after code links order)
  pub goes_on : result.stop ≡ Ends More → ¬ IsOver (after code links order)
  pub reaches : Reaches (system_over code links) order bound
  pub freely : (p : ℕ) → p < count_of (system_over code links)
      → Rests (system_over code None) (run.after (system_over code links) order) p
      ⊎ (bound ≤ length (moves_of (system_over code links) order p))
  pub one_moved : result.stop ≡ Ends More
      → (p : ℕ) × (p < processors code)
      × (bound ≤ length (moves_of (system_over code links) order p))
  pub few : All (HasThree code) code.code → result.stop ≢ Ends More → (p : ℕ)
      → p < processors code → length (moves_of (system_over code links) order p) ≤ most

-- the most moves of a processor in a run of at most a jumps and tests, with n turns of each loop:
-- fewer than a are made, and between two of them at most all rows and the end behind them
abbrev pub run_most : Tables → ℕ → ℕ → ℕ
run_most code a n = a * ((length code.code + 1) * row_most code n)

-- how many moves each has made that doesn't rest: as many as a loop was given turns, where the run
-- stops by itself, and else as many as jumps and tests
abbrev pub least_moves : Bool → ℕ → ℕ → ℕ
least_moves true a n = n
least_moves false a n = a

abbrev pub stops_within : Tables → Option ℕ → ℕ → ℕ → Bool
stops_within code links a n =
    stops_itself (plan_act code links n) (plan_rows code) a 0 (start_abreast code)

-- so many turns, and one at least
abbrev pub some_turns : ℕ → ℕ
some_turns zero = 1
some_turns (suc n) = suc n

-- There is such an order for each run of at most a jumps and tests, and n turns of each loop within
-- a group, where one more jump, and one turn at least, isn't wrong.
abbrev pub ComesInStep : Tables → Option ℕ → Type 0
ComesInStep code links =
    (a n : ℕ) → (plan_run code links (suc a) (some_turns n)).stop ≢ Wrong
    → (order : List ℕ)
    × IsInStep code links (plan_run code links a n)
    (least_moves (stops_within code links a n) a n) (run_most code a n) order

-- Where the plan isn't wrong over links of so many messages, in which at most so many exchanges are
-- open at once, such an order does the same over links of any number of messages, and no link ever
-- holds more.
abbrev pub HoldsFew : Tables → ℕ → Type 0
HoldsFew code most =
    (a n : ℕ) → (plan_run code (Some most) (suc a) (some_turns n)).stop ≢ Wrong
    → (order : List ℕ)
    × IsInStep code None (plan_run code (Some most) a n)
    (least_moves (stops_within code (Some most) a n) a n) (run_most code a n) order
    × HoldsAtMost (system_over code None) order most

-- Over links of any number of messages the plan shows the same, and stops so.
abbrev pub ShowsFreely : Tables → ℕ → Type 0
ShowsFreely code most =
    (a n : ℕ) → (plan_run code (Some most) a n).stop ≢ Wrong
    → (plan_run code None a n ≡ plan_run code (Some most) a n)
    × (stops_within code None a n ≡ stops_within code (Some most) a n)
