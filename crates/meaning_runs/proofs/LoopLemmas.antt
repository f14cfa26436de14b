-- A loop wants more where it comes to a turn that it may not make, or to one that wants more.
use Rattle.std.proofs.Common.{◌≡◌, ℕ, zero, suc, true, false, ℤ}
use Rattle.zpl_nums.specs.declared.ends.End.TheVariants.{More}
use Rattle.zpl_meaning.specs.Store.{Store}
use Rattle.zpl_meaning.specs.Outcome.{Outcome, Test, Count, is_past, next_value}
use Rattle.zpl_meaning.specs.Wanting.{Holds, WhileWants, RepeatWants, ForWants}
use Rattle.meaning_runs.specs.Comes.{ComesToTest, ComesToTurn, ComesToValue}

module _ (test : Test) (body : Store → Outcome) where
  pub while_finds : (Goal : Type 0) (n : ℕ) (store : Store) → WhileWants test body n store
      → ((last : Store) → ComesToTest test body n store zero last → Holds test last true → Goal)
      → ((left : ℕ) (turn : Store) → ComesToTest test body n store (suc left) turn
      → Holds test turn true → (body turn).ending ≡ More → Goal)
      → Goal
  while_finds Goal zero store (WhileWants.no_turn_left holds) stops in_turn =
      stops store (ComesToTest.Enters zero store) holds
  while_finds Goal (suc n) store (WhileWants.in_a_turn holds more) stops in_turn =
      in_turn n store (ComesToTest.Enters (suc n) store) holds more
  while_finds Goal (suc n) store (WhileWants.later holds done wants) stops in_turn =
      while_finds Goal n (body store).store wants
      (λ last comes. stops last (ComesToTest.Again n zero store last holds done comes))
      (λ left turn comes. in_turn left turn
      (ComesToTest.Again n (suc left) store turn holds done comes))

  pub while_wants : (n : ℕ) (store : Store) (left : ℕ) (later : Store)
      → ComesToTest test body n store left later → WhileWants test body left later
      → WhileWants test body n store
  while_wants n store left later (ComesToTest.Enters m same) wants = wants
  while_wants n store left later (ComesToTest.Again m k same after holds done comes) wants =
      WhileWants.later holds done (while_wants m (body same).store k after comes wants)

  pub repeat_finds : (Goal : Type 0) (n : ℕ) (store : Store) → RepeatWants test body n store
      → ((last : Store) → ComesToTurn test body n store zero last → Goal)
      → ((left : ℕ) (turn : Store) → ComesToTurn test body n store (suc left) turn
      → (body turn).ending ≡ More → Goal)
      → Goal
  repeat_finds Goal zero store RepeatWants.no_turn_left stops in_turn =
      stops store (ComesToTurn.Enters zero store)
  repeat_finds Goal (suc n) store (RepeatWants.in_a_turn more) stops in_turn =
      in_turn n store (ComesToTurn.Enters (suc n) store) more
  repeat_finds Goal (suc n) store (RepeatWants.later done holds wants) stops in_turn =
      repeat_finds Goal n (body store).store wants
      (λ last comes. stops last (ComesToTurn.Again n zero store last done holds comes))
      (λ left turn comes. in_turn left turn
      (ComesToTurn.Again n (suc left) store turn done holds comes))

  pub repeat_wants : (n : ℕ) (store : Store) (left : ℕ) (later : Store)
      → ComesToTurn test body n store left later → RepeatWants test body left later
      → RepeatWants test body n store
  repeat_wants n store left later (ComesToTurn.Enters m same) wants = wants
  repeat_wants n store left later (ComesToTurn.Again m k same after done holds comes) wants =
      RepeatWants.later done holds (repeat_wants m (body same).store k after comes wants)

module _ (count : Count) (set : ℤ → Store → Store) (body : Store → Outcome) where
  pub for_finds : (Goal : Type 0) (n : ℕ) (value : ℤ) (store : Store)
      → ForWants count set body n value store
      → ((reached : ℤ) (last : Store) → ComesToValue count set body n value store zero reached last
      → is_past count reached ≡ false → Goal)
      → ((left : ℕ) (reached : ℤ) (turn : Store)
      → ComesToValue count set body n value store (suc left) reached turn
      → is_past count reached ≡ false → (body (set reached turn)).ending ≡ More → Goal)
      → Goal
  for_finds Goal zero value store (ForWants.no_turn_left past) stops in_turn =
      stops value store (ComesToValue.Enters zero value store) past
  for_finds Goal (suc n) value store (ForWants.in_a_turn past more) stops in_turn =
      in_turn n value store (ComesToValue.Enters (suc n) value store) past more
  for_finds Goal (suc n) value store (ForWants.later past done wants) stops in_turn =
      for_finds Goal n (next_value count value) (body (set value store)).store wants
      (λ reached last comes. stops reached last
      (ComesToValue.Again n zero value reached store last past done comes))
      (λ left reached turn comes. in_turn left reached turn
      (ComesToValue.Again n (suc left) value reached store turn past done comes))

  pub for_wants : (n : ℕ) (value : ℤ) (store : Store) (left : ℕ) (reached : ℤ) (later : Store)
      → ComesToValue count set body n value store left reached later
      → ForWants count set body left reached later
      → ForWants count set body n value store
  for_wants n value store left reached later (ComesToValue.Enters m from same) wants = wants
  for_wants n value store left reached later
      (ComesToValue.Again m k from to same after past done comes) wants =
      ForWants.later past done
      (for_wants m (next_value count from) (body (set from same)).store k to after comes wants)
