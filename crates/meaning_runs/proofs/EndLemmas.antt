-- How an outcome that ends with a trap comes about.
use Rattle.std.proofs.Common.{◌≡◌, ℕ, zero, suc, Bool, true, false, ◌⊎◌, inl, inr, ℤ, refl}
use Rattle.std.proofs.Common.{ap, ◌∙◌}
use Rattle.zpl_nums.specs.Integer.{is_true}
use Rattle.zpl_nums.specs.declared.ends.End.{End}
use Rattle.zpl_nums.specs.declared.ends.End.TheVariants.{Done, Trap, More}
use Rattle.zpl_nums.specs.declared.ends.TrapKind.{TrapKind}
use Rattle.zpl_meaning.specs.Computed.{Computed, Gives, Traps}
use Rattle.zpl_meaning.specs.Store.{Store}
use Rattle.zpl_meaning.specs.Outcome.{Outcome, goes_on, wants_more, counting, then_at, then_do}
use Rattle.zpl_meaning.specs.Outcome.{with_value, choose, Test, tested, while_turns, repeat_turns}
use Rattle.zpl_meaning.specs.Outcome.{Count, is_past, next_value, for_turns}
use Rattle.zpl_meaning.specs.Wanting.{Holds}
use Rattle.meaning_runs.specs.Comes.{ComesToTest, ComesToTurn, ComesToValue}

pub done_no_trap : {A : Type 0} (kind : TrapKind) (line : ℕ) → Done ≡ Trap kind line → A
done_no_trap kind line e = cc

pub more_no_trap : {A : Type 0} (kind : TrapKind) (line : ℕ) → More ≡ Trap kind line → A
more_no_trap kind line e = cc

-- ---- what the parts end with, the whole ends with

pub then_goes : (first : Outcome) (next : Store → Outcome) → first.ending ≡ Done
    → (then_do first next).ending ≡ (next first.store).ending
then_goes first next done = ap (λ ending. (then_at ending first next).ending) done

pub tested_goes : (test : Test) (one other : Store → Outcome) (store : Store) (truth : Bool)
    → Holds test store truth
    → (tested test one other store).ending ≡ (choose truth one other store).ending
tested_goes test one other store truth h =
    ap (λ c. (with_value c store test.line (λ value.
    choose (is_true value) one other store)).ending) h.has
    ∙ ap (λ b. (choose b one other store).ending) h.so

module _ (test : Test) (body : Store → Outcome) where
  pub while_same : (n : ℕ) (store : Store) (left : ℕ) (later : Store)
      → ComesToTest test body n store left later
      → (while_turns n test body store).ending ≡ (while_turns left test body later).ending
  while_same n store left later (ComesToTest.Enters m same) = refl
  while_same n store left later (ComesToTest.Again m k same after holds done comes) =
      tested_goes test (λ s. then_do (body s) (while_turns m test body)) goes_on same true holds
      ∙ (then_goes (body same) (while_turns m test body) done
      ∙ while_same m (body same).store k after comes)

  pub repeat_same : (n : ℕ) (store : Store) (left : ℕ) (later : Store)
      → ComesToTurn test body n store left later
      → (repeat_turns n test body store).ending ≡ (repeat_turns left test body later).ending
  repeat_same n store left later (ComesToTurn.Enters m same) = refl
  repeat_same n store left later (ComesToTurn.Again m k same after done holds comes) =
      then_goes (body same) (tested test goes_on (repeat_turns m test body)) done
      ∙ (tested_goes test goes_on (repeat_turns m test body) (body same).store false holds
      ∙ repeat_same m (body same).store k after comes)

module _ (count : Count) (set : ℤ → Store → Store) (body : Store → Outcome) where
  abbrev pub turn_of : ℕ → ℤ → Store → Outcome
  turn_of n value store =
      counting 1
      (then_do (body (set value store)) (for_turns n count set body (next_value count value)))

  pub for_turn : (n : ℕ) (value : ℤ) (store : Store) → is_past count value ≡ false
      → (for_turns (suc n) count set body value store).ending ≡ (turn_of n value store).ending
  for_turn n value store past = ap (λ b. (choose b goes_on (turn_of n value) store).ending) past

  pub for_same : (n : ℕ) (value : ℤ) (store : Store) (left : ℕ) (reached : ℤ) (later : Store)
      → ComesToValue count set body n value store left reached later
      → (for_turns n count set body value store).ending
      ≡ (for_turns left count set body reached later).ending
  for_same n value store left reached later (ComesToValue.Enters m from same) = refl
  for_same n value store left reached later
      (ComesToValue.Again m k from to same after past done comes) =
      for_turn m from same past
      ∙ (then_goes (body (set from same)) (for_turns m count set body (next_value count from)) done
      ∙ for_same m (next_value count from) (body (set from same)).store k to after comes)

-- ---- a trap of the whole comes of a part

module _ (kind : TrapKind) (line : ℕ) where
  abbrev pub Ends : Outcome → Type 0
  Ends outcome = outcome.ending ≡ Trap kind line

  pub then_stays : (first : Outcome) (next : Store → Outcome) → Ends first
      → Ends (then_do first next)
  then_stays first next e = ap (λ ending. (then_at ending first next).ending) e ∙ e

  pub value_stops : {A : Type 0} (computed : Computed A) (store : Store) (at : ℕ)
      (next : A → Outcome) → computed ≡ Traps kind → at ≡ line
      → Ends (with_value computed store at next)
  value_stops computed store at next is same =
      ap (λ (c : Computed _). (with_value c store at next).ending) is ∙ ap (Trap kind) same

  -- what is computed traps
  pub record Stops {A : Type 0} (computed : Computed A) (at : ℕ) : Type 0 where
    pub is : computed ≡ Traps kind
    pub same : at ≡ line

  pub record GoesOn {A : Type 0} (computed : Computed A) (next : A → Outcome) : Type 0 where
    pub value : A
    pub is : computed ≡ Gives value
    pub ends : Ends (next value)

  pub value_traps : {A : Type 0} (computed : Computed A) (store : Store) (at : ℕ)
      (next : A → Outcome) → Ends (with_value computed store at next)
      → Stops computed at ⊎ GoesOn computed next
  value_traps (Gives value) store at next e =
      inr (record { value = value; is = refl; ends = e })
  value_traps (Traps other) store at next e =
      let kinds : other ≡ kind = cc in
      let lines : at ≡ line = cc in inl (record { is = ap Traps kinds; same = lines })

  pub record Follows (first : Outcome) (next : Store → Outcome) : Type 0 where
    pub done : first.ending ≡ Done
    pub ends : Ends (next first.store)

  pub then_traps : (first : Outcome) (next : Store → Outcome) → Ends (then_do first next)
      → Ends first ⊎ Follows first next
  then_traps first next e = by first.ending refl e
    where
      by : (ending : End) → first.ending ≡ ending → Ends (then_at ending first next)
          → Ends first ⊎ Follows first next
      by Done is e = inr (record { done = is; ends = e })
      by (Trap other at) is e = inl e
      by More is e = inl e

  pub record Chosen (test : Test) (one other : Store → Outcome) (store : Store) : Type 0 where
    pub truth : Bool
    pub holds : Holds test store truth
    pub ends : Ends (choose truth one other store)

  pub tested_traps : (test : Test) (one other : Store → Outcome) (store : Store)
      → Ends (tested test one other store)
      → Stops (test.value store) test.line ⊎ Chosen test one other store
  tested_traps test one other store e = by (test.value store) refl e
    where
      by : (computed : Computed ℤ) → test.value store ≡ computed
          → Ends (with_value computed store test.line (λ value.
          choose (is_true value) one other store))
          → Stops (test.value store) test.line ⊎ Chosen test one other store
      by (Gives value) is e =
          inr (record {
            truth = is_true value;
            holds = record { value = value; has = is; so = refl };
            ends = e;
          })
      by (Traps other) is e =
          let kinds : other ≡ kind = cc in
          let lines : test.line ≡ line = cc in
          inl (record { is = is ∙ ap Traps kinds; same = lines })

  module _ (test : Test) (body : Store → Outcome) (Goal : Type 0) where
    -- what follows from a loop that traps, where it does from its test and from each turn
    abbrev pub WhileTraps : ℕ → Store → Type 0
    WhileTraps n store =
        Ends (while_turns n test body store)
        → ((left : ℕ) (last : Store) → ComesToTest test body n store left last
        → Stops (test.value last) test.line → Goal)
        → ((left : ℕ) (turn : Store) → ComesToTest test body n store (suc left) turn
        → Holds test turn true → Ends (body turn) → Goal)
        → Goal

    pub while_traps : (n : ℕ) (store : Store) → WhileTraps n store
    while_traps zero store e stops in_turn =
        by (tested_traps test wants_more goes_on store e)
      where
        chosen : (truth : Bool) → Ends (choose truth wants_more goes_on store) → Goal
        chosen true e = more_no_trap kind line e
        chosen false e = done_no_trap kind line e

        by : Stops (test.value store) test.line ⊎ Chosen test wants_more goes_on store → Goal
        by (inl trap) = stops zero store (ComesToTest.Enters zero store) trap
        by (inr c) = chosen c.truth c.ends
    while_traps (suc n) store e stops in_turn =
        by (tested_traps test (λ s. then_do (body s) (while_turns n test body)) goes_on store e)
        (while_traps n (body store).store)
      where
        turn : Holds test store true
            → Ends (body store) ⊎ Follows (body store) (while_turns n test body)
            → WhileTraps n (body store).store → Goal
        turn holds (inl trap) deeper =
            in_turn n store (ComesToTest.Enters (suc n) store) holds trap
        turn holds (inr f) deeper =
            deeper f.ends
            (λ left last comes. stops left last
            (ComesToTest.Again n left store last holds f.done comes))
            (λ left turn comes. in_turn left turn
            (ComesToTest.Again n (suc left) store turn holds f.done comes))

        chosen : (truth : Bool) → Holds test store truth
            → Ends (choose truth (λ s. then_do (body s) (while_turns n test body)) goes_on store)
            → WhileTraps n (body store).store → Goal
        chosen true holds e deeper =
            turn holds (then_traps (body store) (while_turns n test body) e) deeper
        chosen false holds e deeper = done_no_trap kind line e

        by : Stops (test.value store) test.line
            ⊎ Chosen test (λ s. then_do (body s) (while_turns n test body)) goes_on store
            → WhileTraps n (body store).store → Goal
        by (inl trap) deeper = stops (suc n) store (ComesToTest.Enters (suc n) store) trap
        by (inr c) deeper = chosen c.truth c.holds c.ends deeper

    -- where the test behind a turn traps
    pub record EndsBehind (turn : Store) : Type 0 where
      pub done : (body turn).ending ≡ Done
      pub trap : Stops (test.value (body turn).store) test.line

    abbrev pub RepeatTraps : ℕ → Store → Type 0
    RepeatTraps n store =
        Ends (repeat_turns n test body store)
        → ((left : ℕ) (turn : Store) → ComesToTurn test body n store (suc left) turn
        → EndsBehind turn → Goal)
        → ((left : ℕ) (turn : Store) → ComesToTurn test body n store (suc left) turn
        → Ends (body turn) → Goal)
        → Goal

    pub repeat_traps : (n : ℕ) (store : Store) → RepeatTraps n store
    repeat_traps zero store e stops in_turn = more_no_trap kind line e
    repeat_traps (suc n) store e stops in_turn =
        by (then_traps (body store) (tested test goes_on (repeat_turns n test body)) e)
        (repeat_traps n (body store).store)
      where
        chosen : (body store).ending ≡ Done → (truth : Bool) → Holds test (body store).store truth
            → Ends (choose truth goes_on (repeat_turns n test body) (body store).store)
            → RepeatTraps n (body store).store → Goal
        chosen done true holds e deeper = done_no_trap kind line e
        chosen done false holds e deeper =
            deeper e
            (λ left turn comes. stops left turn
            (ComesToTurn.Again n (suc left) store turn done holds comes))
            (λ left turn comes. in_turn left turn
            (ComesToTurn.Again n (suc left) store turn done holds comes))

        behind_it : (body store).ending ≡ Done
            → Stops (test.value (body store).store) test.line
            ⊎ Chosen test goes_on (repeat_turns n test body) (body store).store
            → RepeatTraps n (body store).store → Goal
        behind_it done (inl trap) deeper =
            stops n store (ComesToTurn.Enters (suc n) store) (record { done = done; trap = trap })
        behind_it done (inr c) deeper = chosen done c.truth c.holds c.ends deeper

        by : Ends (body store)
            ⊎ Follows (body store) (tested test goes_on (repeat_turns n test body))
            → RepeatTraps n (body store).store → Goal
        by (inl trap) deeper = in_turn n store (ComesToTurn.Enters (suc n) store) trap
        by (inr f) deeper =
            behind_it f.done
            (tested_traps test goes_on (repeat_turns n test body) (body store).store f.ends) deeper

  module _ (count : Count) (set : ℤ → Store → Store) (body : Store → Outcome) (Goal : Type 0) where
    abbrev pub ForTraps : ℕ → ℤ → Store → Type 0
    ForTraps n value store =
        Ends (for_turns n count set body value store)
        → ((left : ℕ) (reached : ℤ) (turn : Store)
        → ComesToValue count set body n value store (suc left) reached turn
        → is_past count reached ≡ false → Ends (body (set reached turn)) → Goal)
        → Goal

    pub for_traps : (n : ℕ) (value : ℤ) (store : Store) → ForTraps n value store
    for_traps zero value store e in_turn = by (is_past count value) e
      where
        by : (past : Bool) → Ends (choose past goes_on wants_more store) → Goal
        by true e = done_no_trap kind line e
        by false e = more_no_trap kind line e
    for_traps (suc n) value store e in_turn =
        by (is_past count value) refl e
        (for_traps n (next_value count value) (body (set value store)).store)
      where
        turn : is_past count value ≡ false
            → Ends (body (set value store)) ⊎ Follows (body (set value store))
            (for_turns n count set body (next_value count value))
            → ForTraps n (next_value count value) (body (set value store)).store → Goal
        turn past (inl trap) deeper =
            in_turn n value store (ComesToValue.Enters (suc n) value store) past trap
        turn past (inr f) deeper =
            deeper f.ends (λ left reached turn comes. in_turn left reached turn
            (ComesToValue.Again n (suc left) value reached store turn past f.done comes))

        by : (past : Bool) → is_past count value ≡ past
            → Ends (choose past goes_on (turn_of count set body n value) store)
            → ForTraps n (next_value count value) (body (set value store)).store → Goal
        by true past e deeper = done_no_trap kind line e
        by false past e deeper =
            turn past (then_traps (body (set value store))
            (for_turns n count set body (next_value count value)) e) deeper
