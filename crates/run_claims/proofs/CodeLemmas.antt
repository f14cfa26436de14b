-- Runs of faithful code: they are never stuck nor idle, and come to their end in time.
use Rattle.std.proofs.Common.{◌≡◌, ℕ, zero, suc, ◌+◌, ◌-◌, ◌<◌, ◌≤◌, List, [], ◌∷◌, ◌++◌, length, Option, Some, None, All}
use Rattle.std.proofs.Common.{Ok, sym, subst, inl, arith, add-zero, add-suc}
use Rattle.std.proofs.lemmas.List.Elements.{All-head, All-tail}
use Rattle.node_form.specs.declared.tables.Tables.{Tables}
use Rattle.zpl_claims.specs.Build.{HoldAsMany, IsBuiltFor}
use Rattle.zpl_claims.specs.Compiled.{IsFaithful}
use Rattle.zpl_claims.specs.Good.{IsRight}
use Rattle.zpl_meaning.specs.Program.{mean_of, steps_of}
use Rattle.zpl_names.specs.Expansion.{shattered_loops}
use Rattle.zpl_claims.specs.Bound.{turn_bound}
use Rattle.grid_meaning.specs.Action.{StuckKind}
use Rattle.grid_meaning.specs.Grid.{processors, after, IsOver, IsCapacity}
use Rattle.grid_meaning.specs.Order.{IsOrder, given, turn_number}
use Rattle.grid_order.specs.Reading.{reading}
use Rattle.grid_runs.specs.Run.{grid_at, IsIdleAt, IsLimitedAt, IsStuckAt}
use Rattle.list_claims.specs.Code.{IsCodeOf, origin_for}
use Rattle.needs_runs.proofs.HoldsLemmas.{some_processors}
use Rattle.call_claims.specs.Command.{Asked, build_of, limit_of}
use Rattle.exec_claims.specs.Cause.{run_of}
use Rattle.run_claims.specs.Decided.{IsTooFew}

-- ---- the laws that are needed
-- turns round the processors behind an order are an order
abbrev pub AreOrders : Type 0
AreOrders =
    (order : List ℕ) (count k : ℕ) → 0 < count → IsOrder count order
    → IsOrder count (given order count k)

-- a grid that is over stays so while more turns are given
abbrev pub StaysOver : Type 0
StaysOver = (code : Tables) (links : Option ℕ) (order more : List ℕ)
    → IsOver (after code links order)
    → after code links (order ++ more)
    ≡ record (after code links order) { turns = (after code links order).turns + length more }

-- an order that was read is of its processors
abbrev pub AreBelow : Type 0
AreBelow = (count : ℕ) (text order : List ℕ) → reading count text ≡ Ok order
    → All (λ p. p < count) order

pub record Laws : Type 0 where
  pub orders : AreOrders
  pub stays : StaysOver
  pub below : AreBelow

-- ---- orders
last_of : {X : Type 0} (P : X → Type 0) (xs : List X) (x : X) → All P (xs ++ x ∷ []) → P x
last_of P [] x all = All-head P x [] all
last_of P (y ∷ xs) x all = last_of P xs x (All-tail P y (xs ++ x ∷ []) all)

stays_over : StaysOver → (code : Tables) (links : Option ℕ) (order : List ℕ) (k more : ℕ)
    → IsOver (after code links (given order (processors code) k))
    → IsOver (after code links (given order (processors code) (k + more)))
stays_over law code links order k zero over =
    subst (λ n. IsOver (after code links (given order (processors code) n))) (sym (add-zero k)) over
stays_over law code links order k (suc more) over =
    let before : IsOver (after code links (given order (processors code) (k + more))) =
    stays_over law code links order k more over in
    let same = law code links (given order (processors code) (k + more))
    (turn_number order (processors code) (k + more) ∷ []) before in
    let now : IsOver (after code links (given order (processors code) (suc (k + more)))) =
    subst IsOver (sym same) before in
    subst (λ n. IsOver (after code links (given order (processors code) n))) (sym (add-suc k more))
    now

not_within : (bound limit : ℕ) → (bound ≤ limit → ⊥) → limit < bound
not_within bound limit h = omega arith

the_rest : (few bound limit k : ℕ) → bound ≤ limit → k ≡ few + limit
    → few + bound + (limit - bound) ≡ k
the_rest few bound limit k within all = omega arith

-- the links that the words ask for are those that the code is for
many_enough : (links : Option ℕ) → HoldAsMany links links
many_enough None = tt
many_enough (Some capacity) = omega arith

module _ (laws : Laws) {text : List ℕ} {code : Tables} (asked : Asked)
    (of_text : IsCodeOf text (build_of asked) code)
    (capacity : IsCapacity asked.links) (more : List ℕ) (order : List ℕ)
    (read : reading (processors code) more ≡ Ok order) where
  faithful : IsFaithful (origin_for of_text.accepted) code
  faithful = of_text.right.faithful

  built_for : IsBuiltFor (build_of asked) asked.links
  built_for = (capacity, λ early. many_enough asked.links)

  some_there : 0 < processors code
  some_there = some_processors code

  is_order : (k : ℕ) → IsOrder (processors code) (given order (processors code) k)
  is_order k = laws.orders order (processors code) k some_there
      (laws.below (processors code) more order read)

  is_processor : (k : ℕ) → turn_number order (processors code) k < processors code
  is_processor k =
      last_of (λ p. p < processors code) (given order (processors code) k)
      (turn_number order (processors code) k) (is_order (suc k))

  pub right_at : (k : ℕ)
      → IsRight code asked.links (mean_of of_text.program (build_of asked).settings
      (length (given order (processors code) k))) (grid_at (run_of code asked order) k)
  right_at k = faithful.good asked.links built_for (given order (processors code) k) (is_order k)

  pub never_stuck : (k p : ℕ) (kind : StuckKind) → ¬ IsStuckAt (run_of code asked order) k p kind
  never_stuck k p kind is =
      (right_at k).not_stuck (record {
        processor = p;
        there = subst (λ q. q < processors code) (sym is.processor) (is_processor k);
        kind = kind;
        stuck = is.stuck;
      })

  pub never_idle : (k p : ℕ) → ¬ IsIdleAt (run_of code asked order) k p
  never_idle k p is =
      (right_at k).not_idle is.idle

  -- a grid that isn't over was given fewer turns behind the order than the bound
  pub too_few : (k : ℕ) → IsLimitedAt (run_of code asked order) k
      → IsTooFew (limit_of asked) code (mean_of of_text.program (build_of asked).settings)
      (steps_of of_text.program (build_of asked).settings) (shattered_loops of_text.program)
  too_few k is = λ n ends.
      let limit : ℕ = limit_of asked in
      let bound : ℕ = turn_bound code (steps_of of_text.program (build_of asked).settings)
      (shattered_loops of_text.program) n in
      let there : IsOver (after code asked.links
      (given order (processors code) (length order + bound))) =
      faithful.in_time asked.links built_for n order ends
      (laws.below (processors code) more order read) in
      not_within bound limit (λ within. is.goes_on (inl
      (subst (λ b. IsOver (grid_at (run_of code asked order) b))
      (the_rest (length order) bound limit k within is.all_given)
      (stays_over laws.stays code asked.links order (length order + bound) (limit - bound)
      there))))
