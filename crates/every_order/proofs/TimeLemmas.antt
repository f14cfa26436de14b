-- Code that some order ends with few moves comes to its end in time after every order.
use Rattle.std.proofs.Common.{◌≡◌, ℕ, ◌+◌, ◌*◌, ◌^◌, ◌≤◌, [], ◌++◌, length, Option}
use Rattle.std.proofs.Common.{sym, ◌∙◌, ap, subst, arith, append-nil}
use Rattle.grid_links.specs.Laws.{CountsMoves}
use Rattle.grid_links.specs.Run.{all_moves, count_of, laps}
use Rattle.node_form.specs.declared.tables.Tables.{Tables}
use Rattle.grid_meaning.specs.Grid.{IsOver, after, processors, system_over}
use Rattle.grid_meaning.specs.Order.{given}
use Rattle.grid_meaning.proofs.GridLemmas.{length-start_locals}
use Rattle.zpl_meaning.specs.Program.{Meaning}
use Rattle.zpl_claims.specs.Bound.{EndsInBound, turn_bound}
use Rattle.every_order.specs.InFew.{EndsInFew, move_bound}
use Rattle.every_order.proofs.GoodLemmas.{KnowsOrders, grid_over, world_over}
use Rattle.every_order.proofs.RoundLemmas.{given_laps}

-- the most turns are rounds, one for each move that all processors may make
rounds_are_turns : (code : Tables) (steps : ℕ → ℕ) (loops n : ℕ)
    → turn_bound code steps loops n
    ≡ processors code * move_bound code steps loops n * processors code
rounds_are_turns code steps loops n =
    by (processors code) (length code.code + 1) (steps n + 1) ((n + 1) ^ loops)
  where
    by : (p rows many power : ℕ)
        → 2 ^ 27 * p * p * rows * many * power ≡ p * (2 ^ 27 * rows * many * power) * p
    by p rows many power = omega arith

pub in_time : (code : Tables) (links : Option ℕ) → KnowsOrders code links
    → CountsMoves (system_over code links) → (mean : ℕ → Meaning) (steps : ℕ → ℕ) (loops : ℕ)
    → EndsInFew code links mean steps loops → EndsInBound code links mean steps loops
in_time code links knows counts mean steps loops few n order within is =
    let system = system_over code links in
    let found = few n within in
    let count = processors code in
    let most = move_bound code steps loops n in
    let many : count_of system ≡ count = length-start_locals code in
    let moves : all_moves system found.0 ≤ count_of system * most =
    counts.all found.0 most (λ p below. found.1.few p (omega (arith, below, many))) in
    let rounds = count * most in
    let less : all_moves system found.0 ≤ all_moves system order + rounds =
    omega (arith, subst (λ c. all_moves system found.0 ≤ c * most) many moves) in
    let ends = knows.laps found.0 order [] rounds
    (world_over code links knows found.0 found.1.over) less in
    let turns : given order count (length order + turn_bound code steps loops n)
    ≡ order ++ laps (count_of system) rounds ++ [] =
    ap (λ k. given order count (length order + k)) (rounds_are_turns code steps loops n)
    ∙ (given_laps order count rounds
    ∙ (ap (λ c. order ++ laps c rounds) (sym many)
    ∙ sym (append-nil (order ++ laps (count_of system) rounds)))) in
    subst (λ turns. IsOver (after code links turns)) (sym turns)
    (grid_over code links knows (order ++ laps (count_of system) rounds ++ []) ends)
