-- From the runs of a flat program to orders in step of node code.
use Rattle.std.proofs.Common.{◌≡◌, ◌≢◌, ◌⊎◌, inl, inr, ℕ, suc, ◌+◌, ◌*◌, ◌^◌, ◌≤◌, Bool, true}
use Rattle.std.proofs.Common.{false, List, length, Option, refl, sym, ◌∙◌, ap, subst, arith}
use Rattle.std.proofs.Math.Nat.{pow-le-pow_right}
use Rattle.std.proofs.lemmas.Nat.{mul-le}
use Rattle.zpl_nums.specs.declared.ends.End.{End}
use Rattle.zpl_nums.specs.declared.ends.End.TheVariants.{More}
use Rattle.grid_links.specs.Laws.{Reaches}
use Rattle.grid_links.specs.Run.{moves_of}
use Rattle.node_form.specs.declared.tables.Tables.{Tables}
use Rattle.grid_meaning.specs.Grid.{system_over}
use Rattle.zpl_meaning.specs.Outcome.{Outcome}
use Rattle.row_runs.specs.Run.{Ends, Result, Wrong}
use Rattle.row_runs.specs.Segments.{Keeps, Same, WasWrong}
use Rattle.row_runs.proofs.StopLemmas.{want_else}
use Rattle.flat_form.specs.Act.{flat_run}
use Rattle.zpl_claims.specs.LockStep.{HasLockSteps, IsLockStep}
use Rattle.every_order.specs.InFew.{EndsInFew, EndsWithin, move_bound}
use Rattle.lowering_runs.specs.Shown.{Few, IsBound, Many, Shattered, shown}
use Rattle.emitted_orders.specs.of_plan_meaning.Abreast.{start_abreast}
use Rattle.emitted_orders.specs.of_plan_meaning.Act.{plan_act, plan_rows, plan_run}
use Rattle.emitted_orders.specs.of_plan_orders.Brings.{most_loops}
use Rattle.emitted_orders.specs.of_plan_orders.InStep.{IsInStep, least_moves, run_most, some_turns, stops_within}
use Rattle.lock_steps.specs.Meant.{ComesInOrder, IsMeant, IsPlanOf, meanings, steps_in}

-- ---- what is kept of what isn't wrong is the same
pub kept_same : (old new : Result) → old.stop ≢ Wrong → Keeps old new → old ≡ new
kept_same old new right (WasWrong wrong) = absurd (right wrong)
kept_same old new right (Same same) = same

-- ---- as many moves, and fewer
reaches_less : (code : Tables) (links : Option ℕ) (order : List ℕ) (few many : ℕ) → few ≤ many
    → Reaches (system_over code links) order many → Reaches (system_over code links) order few
reaches_less code links order few many less reaches = record {
  moved = λ p below. by p (reaches.moved p below);
  not_stuck = reaches.not_stuck;
}
  where
    by : {A : Type 0} (p : ℕ) → A ⊎ (many ≤ length (moves_of (system_over code links) order p))
        → A ⊎ (few ≤ length (moves_of (system_over code links) order p))
    by p (inl rests) = inl rests
    by p (inr moved) = inr (omega (arith, less, moved))

-- ---- the most moves
moves_fit : (jumps steps rows more loops all : ℕ) → jumps ≤ 16 * (steps + 1) → rows ≤ more
    → loops ≤ all
    → jumps * ((rows + 1) * (2 ^ 23 * loops)) ≤ 2 ^ 27 * (more + 1) * (steps + 1) * all
moves_fit jumps steps rows more loops all few long wide =
    let turns : 2 ^ 23 * loops ≤ 2 ^ 23 * all = omega (arith, wide) in
    let inner : (rows + 1) * (2 ^ 23 * loops) ≤ (more + 1) * (2 ^ 23 * all) =
    mul-le (rows + 1) (2 ^ 23 * loops) (more + 1) (2 ^ 23 * all) (omega (arith, long)) turns in
    let whole : jumps * ((rows + 1) * (2 ^ 23 * loops))
    ≤ 16 * (steps + 1) * ((more + 1) * (2 ^ 23 * all)) =
    mul-le jumps ((rows + 1) * (2 ^ 23 * loops)) (16 * (steps + 1)) ((more + 1) * (2 ^ 23 * all))
    few inner in
    let same : 16 * (steps + 1) * ((more + 1) * (2 ^ 23 * all))
    ≡ 2 ^ 27 * (more + 1) * (steps + 1) * all = omega arith in
    subst (λ m. jumps * ((rows + 1) * (2 ^ 23 * loops)) ≤ m) same whole

module _ (flat plan code : Tables) (links : Option ℕ) (outcomes : ℕ → Outcome)
    (meant : IsMeant flat outcomes) (of : IsPlanOf flat plan links)
    (orders : ComesInOrder plan code links) (n : ℕ) where
  abbrev outcome : Outcome
  outcome = outcomes n

  abbrev Found : ℕ → List ℕ → Type 0
  Found a order =
      IsInStep code links (plan_run plan links a n)
      (least_moves (stops_within plan links a n) a n) (run_most plan a n) order

  plan_alike : (a turns : ℕ) → flat_run flat a turns ≡ plan_run plan links a turns
  plan_alike a turns =
      kept_same (flat_run flat a turns) (plan_run plan links a turns) (meant.right a turns)
      (of a turns)

  plan_same : (a : ℕ) → flat_run flat a n ≡ plan_run plan links a n
  plan_same a = plan_alike a n

  found : (a : ℕ) → (order : List ℕ) × Found a order
  found a =
      orders.orders a n (λ wrong. meant.right (suc a) (some_turns n)
      (ap (λ r. r.stop) (plan_alike (suc a) (some_turns n)) ∙ wrong))

  -- a bound on jumps for which the run shows the outcome: at least n, where more is wanted
  record Chosen : Type 0 where
    jumps : ℕ
    same : plan_run plan links jumps n ≡ shown outcome
    enough : outcome.ending ≡ More → n ≤ jumps
    few : outcome.ending ≢ More → jumps ≤ 16 * (outcome.steps + 1)

  chosen_by : (bound : ℕ) → flat_run flat bound n ≡ shown outcome
      → IsBound (λ a. flat_run flat a n) n bound outcome → Chosen
  chosen_by bound same (Few within less) = record {
    jumps = bound;
    same = sym (plan_same bound) ∙ same;
    enough = λ more. absurd (within more);
    few = λ other. less;
  }
  chosen_by bound same (Many more less) = record {
    jumps = bound;
    same = sym (plan_same bound) ∙ same;
    enough = λ other. less;
    few = λ within. absurd (within more);
  }
  chosen_by bound same (Shattered more stays) = record {
    jumps = bound + n;
    same = sym (plan_same (bound + n)) ∙ stays (bound + n) (omega arith) ∙ same;
    enough = λ other. omega arith;
    few = λ within. absurd (within more);
  }

  chosen : Chosen
  chosen =
      let shows = meant.shown n in
      chosen_by shows.bound shows.same shows.size

  -- each has made as many moves as the bound on turns
  enough_moves : (one : Chosen) → (stops : Bool) → stops_within plan links one.jumps n ≡ stops
      → n ≤ least_moves stops one.jumps n
  enough_moves one true is = omega arith
  enough_moves one false is =
      let wants : (plan_run plan links one.jumps n).stop ≡ Ends More =
      want_else (plan_act plan links n) (plan_rows plan) one.jumps 0 (start_abreast plan) is in
      let ends : Ends outcome.ending ≡ Ends More = sym (ap (λ r. r.stop) one.same) ∙ wants in
      one.enough (ending_of outcome.ending ends)
    where
      ending_of : (ending : End) → Ends ending ≡ Ends More → ending ≡ More
      ending_of ending e = cc

  step_of : (one : Chosen) (order : List ℕ) → Found one.jumps order
      → IsLockStep code links (meanings outcomes n) n order
  step_of one order step =
      let bytes : (plan_run plan links one.jumps n).bytes ≡ outcome.bytes =
      ap (λ r. r.bytes) one.same in
      let stop : (plan_run plan links one.jumps n).stop ≡ Ends outcome.ending =
      ap (λ r. r.stop) one.same in
      let few = enough_moves one (stops_within plan links one.jumps n) refl in
      record {
        turns = step.turns;
        printed = step.printed ∙ bytes;
        ends = λ within.
            let end = step.ends outcome.ending stop within in
            record {
              within = within;
              all = step.printed ∙ bytes;
              ending = end.0;
              links = end.1;
            };
        goes_on = λ more. step.goes_on (stop ∙ ap Ends more);
        reaches = reaches_less code links order n
            (least_moves (stops_within plan links one.jumps n) one.jumps n) few step.reaches;
        one_moved = λ more.
            let one_of = step.one_moved (stop ∙ ap Ends more) in
            (one_of.0, one_of.1, omega (arith, few, one_of.2));
      }

  few_of : (loops : ℕ) → most_loops plan ≤ loops → outcome.ending ≢ More → (one : Chosen)
      → (order : List ℕ) → Found one.jumps order
      → EndsWithin code links (move_bound code (steps_in outcomes) loops n) order
  few_of loops least within one order step =
      let stop : (plan_run plan links one.jumps n).stop ≡ Ends outcome.ending =
      ap (λ r. r.stop) one.same in
      let deep : (n + 1) ^ most_loops plan ≤ (n + 1) ^ loops =
      pow-le-pow_right {n = n + 1} (omega arith) least in
      record {
        over = (step.ends outcome.ending stop within).0.over;
        few = λ p below.
            let less = step.few orders.three (λ more. within (ending_of (sym stop ∙ more))) p below
            in
            let fits = moves_fit one.jumps outcome.steps (length plan.code) (length code.code)
            ((n + 1) ^ most_loops plan) ((n + 1) ^ loops) (one.few within) orders.long deep in
            omega (arith, less, fits);
      }
    where
      ending_of : {ending : End} → Ends ending ≡ Ends More → ending ≡ More
      ending_of e = cc

pub in_step : (flat plan code : Tables) (links : Option ℕ) (outcomes : ℕ → Outcome)
    → IsMeant flat outcomes → IsPlanOf flat plan links → ComesInOrder plan code links
    → HasLockSteps code links (meanings outcomes)
in_step flat plan code links outcomes meant of orders n =
    let one = chosen flat plan code links outcomes meant of orders n in
    let order = found flat plan code links outcomes meant of orders n one.jumps in
    (order.0, step_of flat plan code links outcomes meant of orders n one order.0 order.1)

pub in_few : (flat plan code : Tables) (links : Option ℕ) (outcomes : ℕ → Outcome) (loops : ℕ)
    → IsMeant flat outcomes → IsPlanOf flat plan links → ComesInOrder plan code links
    → most_loops plan ≤ loops → EndsInFew code links (meanings outcomes) (steps_in outcomes) loops
in_few flat plan code links outcomes loops meant of orders least n within =
    let one = chosen flat plan code links outcomes meant of orders n in
    let order = found flat plan code links outcomes meant of orders n one.jumps in (
      order.0,
      few_of flat plan code links outcomes meant of orders n loops least within one order.0 order.1,
    )
