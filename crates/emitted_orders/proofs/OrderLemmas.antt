-- What node code comes to in step is what its plan shows.
use Rattle.std.proofs.Common.{◌≡◌, refl, sym, ap, ◌∙◌, subst, ℕ, suc, ◌+◌, ◌*◌, ◌≤◌, Bool}
use Rattle.std.proofs.Common.{true, false, List, Option, Some, None}
use Rattle.std.specs.Prelude.{max}
use Rattle.std.proofs.Math.Nat.{le-max_left}
use Rattle.std.proofs.lemmas.List.{length-map}
use Rattle.node_form.specs.declared.tables.Tables.{Tables}
use Rattle.row_runs.specs.Run.{Result}
use Rattle.plan_orders.specs.of_plan_meaning.Act.{plan_run}
use Rattle.node_emit.specs.Emit.{along_tree, emitted}
use Rattle.plan_orders.specs.Brings.{row_most}
use Rattle.plan_orders.specs.InStep.{ComesInStep, IsInStep, least_moves, run_most, some_turns, stops_within}
use Rattle.plan_orders.specs.Open.{HoldsOpen, most_open}
use Rattle.plan_orders.proofs.OpenLemmas.{open_enough, open_step}
use Rattle.plan_orders.proofs.RoomLemmas.{free_step}
use Rattle.emitted_orders.specs.AsPlanned.{ComesAsPlanned, HoldsAsPlanned}
use Rattle.emitted_orders.proofs.AlikeLemmas.{emitted_runs, emitted_stops}

-- code is as long as its plan, and groups are the same
same_most : (tree : Bool) (grid : List ℕ) (plan : Tables) (a n : ℕ)
    → run_most (emitted tree grid plan) a n ≡ run_most plan a n
same_most true grid plan a n =
    ap (λ long. a * ((long + 1) * row_most plan n)) (length-map plan.code along_tree)
same_most false grid plan a n = refl

pub comes_as_planned : (tree : Bool) (grid : List ℕ) (plan : Tables) (links : Option ℕ)
    → plan.grid ≡ grid → ComesInStep (emitted tree grid plan) links
    → ComesAsPlanned (emitted tree grid plan) plan links
comes_as_planned tree grid plan links same comes a n right =
    subst (λ most. Comes (plan_run plan links a n)
    (least_moves (stops_within plan links a n) a n) most) (same_most tree grid plan a n)
    (subst (λ stops. Comes (plan_run plan links a n) (least_moves stops a n) (run_most code a n))
    (emitted_stops tree grid plan same links a n)
    (subst (λ result. Comes result (least_moves (stops_within code links a n) a n)
    (run_most code a n)) (emitted_runs tree grid plan same links a n)
    (comes a n (λ wrong. right (sym (ap (λ (r : Result). r.stop)
    (emitted_runs tree grid plan same links (suc a) (some_turns n))) ∙ wrong)))))
  where
    code : Tables
    code = emitted tree grid plan

    Comes : Result → ℕ → ℕ → Type 0
    Comes result least most = (order : List ℕ) × IsInStep code links result least most order

-- over links of any number of messages, none of which ever holds more than so many
pub holds_as_planned : (code plan : Tables) (most : ℕ) → ComesAsPlanned code plan (Some most)
    → HoldsAsPlanned code plan most
holds_as_planned code plan most comes a n right =
    let (order, step) = comes a n right in
    let (stepped, holds) = free_step code most _ _ _ order step in
    (order, stepped, holds)

-- and none ever holds more than exchanges are open at once in the plan's run, or than one
pub open_as_planned : (code plan : Tables)
    → ((most : ℕ) → 1 ≤ most → HoldsAsPlanned code plan most) → HoldsOpen code plan
open_as_planned code plan few a n right =
    let most = max 1 (most_open plan None (suc a) (some_turns n)) in
    let enough = open_enough plan a n right in
    open_step code plan a n most enough
    (few most (le-max_left 1 (most_open plan None (suc a) (some_turns n))) a n enough.right)
