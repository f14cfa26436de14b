-- From the meaning of a program over a flat program and its plan to node code.
--
--   meanings, steps_in   outcomes of runs as meanings, and their steps, by the bound on loops
--   IsMeant              a flat program shows outcomes, and never comes to a row that may not stand
--                        there
--   IsPlanOf             a plan shows what the flat program shows, over links
--   ComesInOrder         each bounded run of the plan has an order of the code
use Rattle.std.specs.Prelude.{◌≢◌, ℕ, ◌≤◌, Option, All, length}
use Rattle.zpl_meaning.specs.Outcome.{Outcome}
use Rattle.zpl_meaning.specs.Program.{Meaning}
use Rattle.node_form.specs.declared.tables.Tables.{Tables}
use Rattle.grid_meaning.specs.State.{HasThree}
use Rattle.row_runs.specs.Run.{Wrong}
use Rattle.row_runs.specs.Segments.{Keeps}
use Rattle.flat_form.specs.Act.{flat_run}
use Rattle.lowering_runs.specs.Shown.{Shows}
use Rattle.emitted_orders.specs.of_plan_meaning.Act.{plan_run}
use Rattle.emitted_orders.specs.AsPlanned.{ComesAsPlanned}

-- ---- outcomes
abbrev pub meanings : (ℕ → Outcome) → ℕ → Meaning
meanings outcomes n = record { bytes = (outcomes n).bytes; ending = (outcomes n).ending }

abbrev pub steps_in : (ℕ → Outcome) → ℕ → ℕ
steps_in outcomes n = (outcomes n).steps

-- ---- from a flat program to code
-- For each bound on the turns of loops a run of it shows the outcome.
pub record IsMeant (flat : Tables) (outcomes : ℕ → Outcome) : Type 0 where
  pub shown : (n : ℕ) → Shows (λ a. flat_run flat a n) n (outcomes n)
  pub right : (a n : ℕ) → (flat_run flat a n).stop ≢ Wrong

abbrev pub IsPlanOf : Tables → Tables → Option ℕ → Type 0
IsPlanOf flat plan links = (a n : ℕ) → Keeps (flat_run flat a n) (plan_run plan links a n)

-- The code has as many rows as the plan, and three elements where arrays of three have them.
pub record ComesInOrder (plan code : Tables) (links : Option ℕ) : Type 0 where
  pub orders : ComesAsPlanned code plan links
  pub long : length plan.code ≤ length code.code
  pub three : All (HasThree code) code.code
