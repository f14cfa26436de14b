-- What units of plans do, whatever the numbers of their exchanges are.
use Rattle.std.proofs.Common.{◌≡◌, refl, sym, ◌∙◌, ap, subst, ℕ, zero, suc, ◌+◌, ◌-◌, Bool, true, false}
use Rattle.std.proofs.Common.{List, [], ◌∷◌, ◌++◌, length, map, drop, true≢false, arith, ℤ, is_some}
use Rattle.std.proofs.lemmas.Bool.Decides.{nat_tests}
use Rattle.std.proofs.Math.Path.{fun_ext}
use Rattle.std.specs.Prelude.{◌&&◌, ◌==◌, flat_map, Option, Some, None, option_and_then, slice_get}
use Rattle.std.specs.Prelude.{unwrap_or}
use Rattle.std.specs.List.{AllByRecursion, list_all}
use Rattle.node_form.specs.declared.arrays.Item.{Item}
use Rattle.node_form.specs.declared.instructions.Instr.{Instr}
use Rattle.node_form.specs.declared.instructions.Instr.TheVariants as instr
use Rattle.node_form.specs.declared.tables.Tables.{Tables}
use Rattle.code_parts.specs.Early.{is_roomy}
use Rattle.code_parts.specs.Exchanged.{is_exchange_row}
use Rattle.code_parts.specs.Stretch.{ends_stretch}
use Rattle.code_parts.specs.Uses.{items_of, rows_or_none}
use Rattle.comm_combine.specs.of_plan_form.Units.{Exchange, PlanUnit, Single, exchanges_in, numbered_from, unit_of}
use Rattle.comm_combine.specs.of_plan_form.Units.{unit_rows, units_of}
use Rattle.grid_meaning.specs.Collective.{Collective, TakesFrom, Last, others_where}
use Rattle.grid_meaning.specs.Exchange.{word_count}
use Rattle.grid_meaning.specs.Local.{Local}
use Rattle.row_orders.specs.Rows.{Flight, alone_where, taken_where, taking}
use Rattle.row_runs.specs.Run.{Wrong, Effect, Does}
use Rattle.row_runs.specs.Straight.{Flow, Halts, OnTo, TiedWrong, flow_behind, flow_step, flow_then}
use Rattle.row_runs.specs.Straight.{through}
use Rattle.row_runs.proofs.StraightLemmas.{through_append}
use Rattle.needs_runs.specs.of_plan_meaning.Abreast.{Abreast, Share, every, go_where, locals_of, of_processors}
use Rattle.needs_runs.specs.of_plan_meaning.Abreast.{share_of}
use Rattle.needs_runs.specs.of_plan_meaning.Act.{found}
use Rattle.needs_runs.specs.of_plan_meaning.Messages.{are_partners, does_well, finished_of, from_of, next_with}
use Rattle.needs_runs.specs.of_plan_meaning.Messages.{begun, final_of, leaves_row, middle_of, next_or, receivers}
use Rattle.needs_runs.specs.of_plan_meaning.Messages.{senders, started, to_of, took}
use Rattle.plan_passes.specs.Units.{AreUnits, MoreExchange, MoreRow, NoUnits}
use Rattle.plan_passes.proofs.AwaitLemmas.{Await, Ready, Wanted, await_act, ready_act, ready_step}
use Rattle.plan_passes.proofs.CrossLemmas.{AsBefore}
use Rattle.plan_passes.proofs.EarlyLemmas.{IfOn, before_trans, same_flow, then_before}
use Rattle.plan_passes.proofs.EarlyLemmas.{then_where}
use Rattle.plan_passes.proofs.FinishLemmas.{finish_row, takes_together}
use Rattle.plan_passes.proofs.OpenLemmas.{KeepsOpen, OpenLeap, OpenOn, OpenPass, OpenStop, OpenWanted}
use Rattle.plan_passes.proofs.OpenLemmas.{row_open}
use Rattle.plan_passes.proofs.StartLemmas.{can_send, flight_of, start_row, started_is}

-- ---- a finish doesn't look at its number
pub senders_takes : (xs : List ℕ) → senders (map TakesFrom xs ++ Last ∷ []) ≡ xs
senders_takes [] = refl
senders_takes (x ∷ xs) = ap (λ l. x ∷ l) (senders_takes xs)

receivers_takes : (xs : List ℕ) → receivers (map TakesFrom xs ++ Last ∷ []) ≡ []
receivers_takes [] = refl
receivers_takes (x ∷ xs) = receivers_takes xs

module _ (code : Tables) (items : List Item) (all : Abreast) (heard : ℕ → ℕ → List ℤ) where
  abbrev locals : ℕ → Local
  locals = locals_of all

  abbrev pub from : ℕ → List ℕ
  from p = others_where code p (λ q. word_count code (locals p) items q p)

  taking_number : (k p : ℕ) (words : ℕ → List ℤ) (from : List ℕ) (local : Local)
      → taking (finish_row code k items p) words local from
      ≡ taking (finish_row code 0 items p) words local from
  taking_number k p words [] local = refl
  taking_number k p words (q ∷ from) local =
      ap (λ next. option_and_then next
      (taken_where ((finish_row code 0 items p).awaits local q (length (words q)))
      ((finish_row code 0 items p).taken local q (words q))))
      (fun_ext (λ next. taking_number k p words from next))

  abbrev pub outcome : ℕ → Option Local
  outcome p = taking (finish_row code 0 items p) (λ q. heard q p) (locals p) (from p)

  abbrev pub final : ℕ → Local
  final p = unwrap_or (outcome p) (locals p)

  module _ (k : ℕ) where
    abbrev row : ℕ → Collective
    row = finish_row code k items

    begun_is : (p : ℕ) → begun code row locals p ≡ Some (locals p)
    begun_is p = ap (λ b. alone_where b (row p) (locals p)) (takes_together (from p))

    middle_is : (p : ℕ) → middle_of code row locals p ≡ locals p
    middle_is p = ap (λ o. unwrap_or o (locals p)) (begun_is p)

    took_is : (p : ℕ) → took code row locals heard p ≡ outcome p
    took_is p =
        ap (λ l. taking (row p) (λ q. heard q p) l (from_of code row locals p)) (middle_is p)
        ∙ (ap (λ f. taking (row p) (λ q. heard q p) (locals p) f) (senders_takes (from p))
        ∙ taking_number k p (λ q. heard q p) (from p) (locals p))

    final_is : (p : ℕ) → final_of code row locals heard p ≡ final p
    final_is p =
        ap (λ o. unwrap_or o (middle_of code row locals p)) (took_is p)
        ∙ ap (λ l. unwrap_or (outcome p) l) (middle_is p)

    pub well_is : (p : ℕ) → does_well code row locals heard p
        ≡ (is_some (outcome p) && leaves_row ((finish_row code 0 items p).last (final p)))
    well_is p =
        ap (λ o. is_some o
        && list_all (λ q. is_some ((row p).words_to (middle_of code row locals p) q))
        (to_of code row locals p)
        && is_some (took code row locals heard p)
        && leaves_row ((row p).last (final_of code row locals heard p))) (begun_is p)
        ∙ (ap (λ to. list_all (λ q. is_some ((row p).words_to (middle_of code row locals p) q)) to
        && is_some (took code row locals heard p)
        && leaves_row ((row p).last (final_of code row locals heard p))) (receivers_takes (from p))
        ∙ (ap (λ o. is_some o && leaves_row ((row p).last (final_of code row locals heard p)))
        (took_is p)
        ∙ ap (λ l. is_some (outcome p) && leaves_row ((row p).last l)) (final_is p)))

    pub share_is : (p : ℕ)
        → share_of (next_or (final_of code row locals heard p)
        ((row p).last (final_of code row locals heard p)))
        ≡ share_of (next_or (final p) ((finish_row code 0 items p).last (final p)))
    share_is p = ap (λ l. share_of (next_or l ((row p).last l))) (final_is p)

  pub well_same : (k : ℕ) → does_well code (finish_row code k items) locals heard
      ≡ does_well code (finish_row code 0 items) locals heard
  well_same k = fun_ext (λ p. well_is k p ∙ sym (well_is 0 p))

  pub next_same : (k : ℕ) (flights : List Flight)
      → next_with code (finish_row code k items) locals heard flights
      ≡ next_with code (finish_row code 0 items) locals heard flights
  next_same k flights =
      ap (λ s. record { shares = s; flights = flights })
      (fun_ext (λ p. share_is k p ∙ sym (share_is 0 p)))

-- ---- no exchange is open
abbrev pub NoFlights : Await → Type 0
NoFlights (Ready all) = all.flights ≡ []
NoFlights (Wanted group) = Unit {0}

abbrev pub quiet : (ℕ → Share) → Abreast
quiet shares = record { shares = shares; flights = [] }

pub then_same : (P : Await → Type 0) (f : Flow Await) (next other : Await → Flow Await) → IfOn P f
    → ((s : Await) → P s → next s ≡ other s) → flow_then f next ≡ flow_then f other
then_same P (OnTo bytes s) next other is same = ap (flow_behind bytes) (same s is)
then_same P (Halts bytes stop) next other is same = refl

module _ (code : Tables) (links : Option ℕ) (n : ℕ) where
  abbrev pub act : Instr → Await → Effect Await
  act = await_act code links n

  -- ---- an exchange: its start and its finish, where no other is open
  abbrev pub flow_where : Bool → Abreast → Flow Await
  flow_where true next = OnTo [] (Ready next)
  flow_where false next = Halts [] Wrong

  module _ (items : List Item) (shares : ℕ → Share) where
    abbrev pub sent_flight : Flight
    sent_flight = flight_of code 0 items shares

    abbrev pub starts : Bool
    starts = is_roomy links 0 && can_send code 0 items shares

    abbrev pub partners : Bool
    partners = are_partners code sent_flight.to (from_of code (finish_row code 0 items) (locals_of (quiet shares)))

    abbrev pub all_well : Bool
    all_well =
        every code (does_well code (finish_row code 0 items) (locals_of (quiet shares)) sent_flight.words)

    abbrev pub received : Abreast
    received =
        of_processors code (quiet shares)
        (next_with code (finish_row code 0 items) (locals_of (quiet shares)) sent_flight.words [])

  abbrev pub exchange_flow : List Item → Await → Flow Await
  exchange_flow items (Ready all) =
      flow_where (starts items all.shares && (partners items all.shares && all_well items all.shares))
      (received items all.shares)
  exchange_flow items (Wanted group) = Halts [] Wrong

  -- ---- units one after another
  abbrev pub units_flow : List PlanUnit → Await → Flow Await
  units_flow [] s = OnTo [] s
  units_flow (Exchange items ∷ units) s = flow_then (exchange_flow items s) (units_flow units)
  units_flow (Single row ∷ units) s = flow_then (through act (row ∷ []) s) (units_flow units)

  -- ---- what stays quiet
  pub exchange_quiet : (items : List Item) (s : Await) → IfOn NoFlights (exchange_flow items s)
  exchange_quiet items (Ready all) =
      by (starts items all.shares && (partners items all.shares && all_well items all.shares))
    where
      by : (b : Bool) → IfOn NoFlights (flow_where b (received items all.shares))
      by true = refl
      by false = tt
  exchange_quiet items (Wanted group) = tt

  effect_quiet : (all : Abreast) (e : Effect Await) → KeepsOpen all e → all.flights ≡ []
      → IfOn NoFlights (flow_step e (λ s. OnTo [] s))
  effect_quiet all e (OpenOn same) none = same ∙ none
  effect_quiet all e OpenWanted none = tt
  effect_quiet all e OpenStop none = tt
  effect_quiet all e OpenLeap none = tt
  effect_quiet all e OpenPass none = tt

  pub row_quiet : (row : Instr) → is_exchange_row row ≡ false → (s : Await) → NoFlights s
      → IfOn NoFlights (through act (row ∷ []) s)
  row_quiet row e (Ready all) none =
      effect_quiet all (ready_act code links n row all) (row_open all code links n row e) none
  row_quiet row e (Wanted group) none = tt

  -- ---- a start and its finish are the exchange
  module _ (exchange : ℕ) (items : List Item) (here : slice_get code.exchanges exchange ≡ Some items)
    where
      abbrev start : Instr
      start = instr.Start exchange

      abbrev finish : Instr
      finish = instr.Finish exchange

      same_number : (exchange == exchange) ≡ true
      same_number = let one : (exchange == exchange) ≡ true = grind (arith, nat_tests) in one

      both_do : (shares : ℕ → Share) (s p w : Bool)
          → flow_step (Does (ready_step (go_where s []
          (record { shares = shares; flights = flight_of code exchange items shares ∷ [] }))))
          (λ _. flow_step (Does (ready_step (go_where (true && p && w) [] (received items shares))))
          (λ s. OnTo [] s))
          ≡ flow_where (s && (p && w)) (received items shares)
      both_do shares false p w = refl
      both_do shares true true true = refl
      both_do shares true true false = refl
      both_do shares true false w = refl

      finish_does : (shares : ℕ → Share)
          → act finish (Ready (record {
            shares = shares;
            flights = flight_of code exchange items shares ∷ [];
          }))
          ≡ Does (ready_step (go_where
          (true && partners items shares && all_well items shares) [] (received items shares)))
      finish_does shares =
          ap (λ o. Does (ready_step (found o (λ some. finished_of code
          (finish_row code exchange some) (quiet shares) exchange
          (flight_of code exchange items shares) [])))) here
          ∙ (ap (λ b. Does (ready_step (go_where (b && partners items shares
          && every code (does_well code (finish_row code exchange items) (locals_of (quiet shares))
          (sent_flight items shares).words)) []
          (of_processors code (quiet shares)
          (next_with code (finish_row code exchange items) (locals_of (quiet shares))
          (sent_flight items shares).words []))))) same_number
          ∙ (ap (λ w. Does (ready_step (go_where (true && partners items shares && every code w) []
          (of_processors code (quiet shares)
          (next_with code (finish_row code exchange items) (locals_of (quiet shares))
          (sent_flight items shares).words [])))))
          (well_same code items (quiet shares) (sent_flight items shares).words exchange)
          ∙ ap (λ next. Does (ready_step (go_where
          (true && partners items shares && all_well items shares) []
          (of_processors code (quiet shares) next))))
          (next_same code items (quiet shares) (sent_flight items shares).words exchange [])))

      start_does : (shares : ℕ → Share)
          → act start (Ready (quiet shares))
          ≡ Does (ready_step (go_where (starts items shares) []
          (record { shares = shares; flights = flight_of code exchange items shares ∷ [] })))
      start_does shares =
          ap (λ o. Does (ready_step (found o (λ items.
          started code (start_row code exchange items) (quiet shares) links exchange)))) here
          ∙ ap (λ s. Does (ready_step s)) (started_is code exchange items (quiet shares) links)

      pair_quiet : (shares : ℕ → Share)
          → through act (start ∷ finish ∷ []) (Ready (quiet shares))
          ≡ exchange_flow items (Ready (quiet shares))
      pair_quiet shares =
          ap (λ e. flow_step e (λ s. flow_step (act finish s) (λ s. OnTo [] s))) (start_does shares)
          ∙ (by (starts items shares)
          ∙ both_do shares (starts items shares) (partners items shares) (all_well items shares))
        where
          by : (b : Bool)
              → flow_step (Does (ready_step (go_where b []
              (record { shares = shares; flights = flight_of code exchange items shares ∷ [] }))))
              (λ s. flow_step (act finish s) (λ s. OnTo [] s))
              ≡ flow_step (Does (ready_step (go_where b []
              (record { shares = shares; flights = flight_of code exchange items shares ∷ [] }))))
              (λ _. flow_step (Does (ready_step (go_where
              (true && partners items shares && all_well items shares) [] (received items shares))))
              (λ s. OnTo [] s))
          by true = ap (λ e. flow_behind [] (flow_step e (λ s. OnTo [] s))) (finish_does shares)
          by false = refl

      pub pair_flow : (s : Await) → NoFlights s
          → through act (start ∷ finish ∷ []) s ≡ exchange_flow items s
      pair_flow (Ready all) none =
          ap (λ f. through act (start ∷ finish ∷ [])
          (Ready (record { shares = all.shares; flights = f }))) none
          ∙ pair_quiet all.shares
      pair_flow (Wanted group) none = refl

  -- ---- rows of units are their units
  unit_alone : (row : Instr) → is_exchange_row row ≡ false → unit_of code row ≡ Single row ∷ []
  unit_alone (instr.Start exchange) e = absurd (true≢false e)
  unit_alone (instr.Finish exchange) e = absurd (true≢false e)
  unit_alone row e = refl

  pair_before : (exchange : ℕ) (o : Option (List Item)) → slice_get code.exchanges exchange ≡ o
      → (s : Await) → NoFlights s
      → AsBefore (through act (instr.Start exchange ∷ instr.Finish exchange ∷ []) s)
      (exchange_flow (rows_or_none o) s)
  pair_before exchange (Some items) here s none =
      subst (AsBefore (through act (instr.Start exchange ∷ instr.Finish exchange ∷ []) s))
      (pair_flow exchange items here s none) (same_flow _)
  pair_before exchange None here (Ready all) none =
      subst (λ o. AsBefore (flow_step (Does (ready_step (found o (λ items.
      started code (start_row code exchange items) all links exchange))))
      (λ s. flow_step (act (instr.Finish exchange) s) (λ s. OnTo [] s)))
      (exchange_flow [] (Ready all))) (sym here) TiedWrong
  pair_before exchange None here (Wanted group) none = TiedWrong

  pub rows_are_units : (rows : List Instr) → AreUnits rows → (s : Await) → NoFlights s
      → AsBefore (through act rows s) (units_flow (units_of code rows) s)
  rows_are_units rows NoUnits s none = same_flow (OnTo [] s)
  rows_are_units rows (MoreExchange {exchange = exchange} {rows = rest} more) s none =
      let pair = instr.Start exchange ∷ instr.Finish exchange ∷ [] in
      let items = items_of code exchange in
      subst (λ f. AsBefore f (flow_then (exchange_flow items s) (units_flow (units_of code rest))))
      (sym (through_append act pair rest s))
      (before_trans _ _ _
      (then_before (through act pair s) (exchange_flow items s) (through act rest)
      (pair_before exchange (slice_get code.exchanges exchange) refl s none))
      (then_where NoFlights (exchange_flow items s) (through act rest)
      (units_flow (units_of code rest)) (exchange_quiet items s)
      (λ s none. rows_are_units rest more s none)))
  rows_are_units rows (MoreRow {row = row} {rows = rest} other more) s none =
      subst (λ units. AsBefore (through act (row ∷ rest) s) (units_flow (units ++ units_of code rest) s))
      (sym (unit_alone row other))
      (subst (λ f. AsBefore f
      (flow_then (through act (row ∷ []) s) (units_flow (units_of code rest))))
      (sym (through_append act (row ∷ []) rest s))
      (then_where NoFlights (through act (row ∷ []) s) (through act rest)
      (units_flow (units_of code rest)) (row_quiet row other s none)
      (λ s none. rows_are_units rest more s none)))

-- ---- units by other numbers, in other tables that differ in code and exchanges alone
-- a unit's row is one of a stretch, and of no exchange
abbrev pub IsPlain : PlanUnit → Type 0
IsPlain (Exchange items) = Unit {0}
IsPlain (Single row) = (ends_stretch row ≡ false) × (is_exchange_row row ≡ false)

pub first_dropped : {X : Type 0} (xs : List X) (k : ℕ) (x : X) (rest : List X) → drop k xs ≡ x ∷ rest
    → (slice_get xs k ≡ Some x) × (drop (suc k) xs ≡ rest)
first_dropped [] zero x rest e = absurd (by e)
  where
    by : {X : Type 0} {x : X} {rest : List X} → [] ≡ x ∷ rest → ⊥
    by e = cc
first_dropped [] (suc k) x rest e = absurd (by e)
  where
    by : {X : Type 0} {x : X} {rest : List X} → [] ≡ x ∷ rest → ⊥
    by e = cc
first_dropped (y ∷ xs) zero x rest e = by e
  where
    by : {X : Type 0} {x y : X} {xs rest : List X} → y ∷ xs ≡ x ∷ rest → (Some y ≡ Some x) × (xs ≡ rest)
    by e = (cc, cc)
first_dropped (y ∷ xs) (suc k) x rest e = first_dropped xs k x rest e

module _ (code : Tables) (links : Option ℕ) (n : ℕ) (rows : List Instr) (exchanges : List (List Item))
  where
    abbrev pub new_tables : Tables
    new_tables = record code { exchanges = exchanges; code = rows }

    same_row : (row : Instr) → is_exchange_row row ≡ false → (s : Await)
        → await_act new_tables links n row s ≡ await_act code links n row s
    same_row (instr.Start exchange) e s = absurd (true≢false e)
    same_row (instr.Finish exchange) e s = absurd (true≢false e)
    same_row row e (Ready all) = refl
    same_row row e (Wanted group) = refl

    pub numbered_flow : (units : List PlanUnit) → AllByRecursion IsPlain units
        → (count : ℕ) (rest : List (List Item))
        → drop count exchanges ≡ exchanges_in (flat_map unit_rows units) ++ rest
        → (s : Await) → NoFlights s
        → through (await_act new_tables links n) (numbered_from count (flat_map unit_rows units)) s
        ≡ units_flow code links n units s
    numbered_flow [] plain count rest there s none = refl
    numbered_flow (Exchange items ∷ units) plain count rest there s none =
        let found_here = first_dropped exchanges count items
        (exchanges_in (flat_map unit_rows units) ++ rest) there in
        let next : count + 1 ≡ suc count = omega arith in
        let back : count + 1 - 1 ≡ count = omega arith in
        let pair = instr.Start count ∷ instr.Finish count ∷ [] in
        let others : List Instr = numbered_from (count + 1) (flat_map unit_rows units) in
        let new : Instr → Await → Effect Await = await_act new_tables links n in
        ap (λ k. through new (instr.Start count ∷ instr.Finish k ∷ others) s) back
        ∙ (through_append new pair others s
        ∙ (ap (λ f. flow_then f (through new others))
        (pair_flow new_tables links n count items found_here.0 s none)
        ∙ then_same NoFlights (exchange_flow code links n items s) (through new others)
        (units_flow code links n units) (exchange_quiet code links n items s)
        (λ s none. numbered_flow units plain.1 (count + 1) rest
        (ap (λ k. drop k exchanges) next ∙ found_here.1) s none)))
    numbered_flow (Single row ∷ units) plain count rest there s none =
        let new : Instr → Await → Effect Await = await_act new_tables links n in
        let others : List Instr = numbered_from count (flat_map unit_rows units) in
        through_append new (row ∷ []) others s
        ∙ (ap (λ e. flow_then (flow_step e (λ s. OnTo [] s)) (through new others))
        (same_row row plain.0.1 s)
        ∙ then_same NoFlights (through (await_act code links n) (row ∷ []) s) (through new others)
        (units_flow code links n units) (row_quiet code links n row plain.0.1 s none)
        (λ s none. numbered_flow units plain.1 count rest there s none))
