-- `start` goes on where links have room, and `finish` where what is on its way is its exchange's.
use Rattle.std.proofs.Common.{◌≡◌, refl, sym, ◌∙◌, ap, ap₂, subst, ℕ, zero, suc, ◌+◌, ◌<◌, ◌==◌}
use Rattle.std.proofs.Common.{true, List, [], ◌∷◌, ◌++◌, ℤ, pos, length, map, take, All, Option}
use Rattle.std.proofs.Common.{Some, None, eq-eqb, false, length-append, ◌≤◌}
use Rattle.grid_paths.specs.Tree.{times}
use Rattle.std.specs.Prelude.{Contains, drop, option_and_then, slice_get}
use Rattle.std.specs.List.{AllZip}
use Rattle.std.specs.Option.{IsSomeAnd, option_map}
use Rattle.std.proofs.lemmas.List.Sums.{sum_by-cons}
use Rattle.std.proofs.lemmas.List.Elements.{All-head, All-tail}
use Rattle.zpl_region.specs.declared.regions.Region.{Region}
use Rattle.zpl_region.specs.Region.{IsMember, components, members}
use Rattle.zpl_region.proofs.ListLemmas.{Among, Contains-from_among, among_from_Contains}
use Rattle.zpl_arrays.specs.Array.{Array, has_place}
use Rattle.zpl_arrays.proofs.ArrayLemmas.{place_of_member}
use Rattle.grid_layout.specs.Layout.{held_of, laid_out}
use Rattle.grid_layout.specs.Piece.{needed_in, owned_part}
use Rattle.code_parts.specs.Early.{is_roomy}
use Rattle.node_form.specs.declared.arrays.ArrayRow.{ArrayRow}
use Rattle.node_form.specs.declared.arrays.Item.{Item}
use Rattle.node_form.specs.declared.tables.Tables.{Tables}
use Rattle.node_form.specs.Fits.{FitsItem, storage_of}
use Rattle.grid_meaning.specs.Action.{goes_on}
use Rattle.grid_meaning.specs.Collective.{Collective, Last, Sends, TakesFrom, others_where}
use Rattle.grid_meaning.specs.Exchange as exchange
use Rattle.grid_meaning.specs.Exchange.{places_in, places_of, words_between, words_written}
use Rattle.grid_meaning.specs.Local.{Local, processors}
use Rattle.grid_meaning.specs.Place.{values_at, with_values}
use Rattle.grid_meaning.specs.State.{ArePlaces, IsSlot, IsStore}
use Rattle.grid_meaning.specs.Stored.{arrangement_of, box_of}
use Rattle.row_orders.specs.Rows.{ArePartners, Flight, taken_where}
use Rattle.row_orders.proofs.PartnerLemmas.{partners_by_words}
use Rattle.checked_rows.specs.of_plan_meaning.Abreast.{Abreast, locals_of}
use Rattle.checked_rows.specs.of_plan_meaning.Messages.{finished, started}
use Rattle.checked_rows.specs.of_needs_runs.Agree.{HasLayout}
use Rattle.checked_rows.proofs.of_needs_runs.HoldsLemmas.{some_processors}
use Rattle.checked_rows.proofs.of_needs_runs.OwnerLemmas.{boxed_steps}
use Rattle.checked_rows.proofs.of_needs_runs.PieceLemmas.{box_there, boxed, piece_place}
use Rattle.checked_rows.proofs.of_needs_runs.SlotLemmas.{zip_there}
use Rattle.message_runs.proofs.WorkLemmas.{others_below}
use Rattle.checked_rows.specs.of_needs_runs.Holds.{lies_in_own}
use Rattle.checked_messages.specs.Going.{GoesOn, HasPlacesOf, IsOnItsWay, StandAlike, wanted}
use Rattle.checked_messages.proofs.GoLemmas.{Acts, IsBehind, finished_goes, flight_of, said_many}
use Rattle.checked_messages.proofs.GoLemmas.{started_goes, to_is}
use Rattle.checked_messages.proofs.HeldLemmas.{IsHeld, Puts, ReadsAll, held_still, same_places}
use Rattle.checked_messages.proofs.HeldLemmas.{then_places, values_put, values_read}
use Rattle.checked_messages.proofs.OwnLemmas.{storage_steps, stored_held}
use Rattle.checked_messages.proofs.WorkLemmas.{behind_start, others_turned}

flat_vector : (rank : ℕ) (v : List ℤ) → All (λ x. x ≡ pos 0) (drop rank v) → components rank v ≡ v
flat_vector zero [] all = refl
flat_vector (suc rank) [] all = refl
flat_vector zero (x ∷ v) all =
    let first : x ≡ pos 0 = All-head (λ x. x ≡ pos 0) x v all in
    ap (λ l. pos 0 ∷ l) (flat_vector zero v (All-tail (λ x. x ≡ pos 0) x v all))
    ∙ ap (λ y. y ∷ v) (sym first)
flat_vector (suc rank) (x ∷ v) all = ap (λ l. x ∷ l) (flat_vector rank v all)

module _ (code : Tables) (layout : HasLayout code) (all : Abreast)
    (alike : StandAlike code all) where
  abbrev pub slots : List Region
  slots = (all.shares 0).slots

  slots_fit : AllZip IsSlot code.slots slots
  slots_fit = (alike.parts 0 (some_processors code)).slots

  -- the places of an item that one processor has for another
  abbrev places : Item → ℕ → ℕ → List (List ℤ)
  places item q p = places_in code q p item (slice_get slots item.slot)

  record OfItem (item : Item) : Type 0 where
    row : ArrayRow
    there : slice_get code.arrays item.array ≡ Some row
    told : row.stored ≡ true
    region : Region
    in_slot : slice_get slots item.slot ≡ Some region
    slot_is : IsSlot row.rank region
    flat : components row.rank item.shift ≡ item.shift

  of_item : (item : Item) → FitsItem code item → OfItem item
  of_item item fits = by (slice_get code.arrays item.array) refl fits.array fits.stored
    where
      by : (o : Option ArrayRow) → slice_get code.arrays item.array ≡ o
          → IsSomeAnd o (λ row. row.rank ≡ fits.rank) → IsSomeAnd o (λ row. row.stored ≡ true)
          → OfItem item
      by None e ranked told = absurd ranked
      by (Some row) e ranked told =
          let found = zip_there IsSlot code.slots slots item.slot fits.rank slots_fit fits.slot in
          record {
            row = row;
            there = e;
            told = told;
            region = found.0;
            in_slot = found.1;
            slot_is = subst (λ r. IsSlot r found.0) (sym ranked) found.2;
            flat =
                flat_vector row.rank item.shift
                (subst (λ r. All (λ x. x ≡ pos 0) (drop r item.shift)) (sym ranked) fits.shift.1);
          }

  -- a place that q has for p is held by both
  module _ (item : Item) (fits : FitsItem code item) (long : length item.shift ≡ 3) (q p : ℕ)
      (q_below : q < processors code) (below : p < processors code) (t : List ℤ)
      (among : Among (places item q p) t) where
    abbrev of : OfItem item
    of = of_item item fits

    abbrev box : Region
    box = held_of (laid_out (arrangement_of code)) (box_of of.row) p

    facts : IsMember box t × IsMember (storage_of of.row) t × (lies_in_own code q of.row t ≡ true)
    facts =
        piece_place code layout item.array of.row of.there of.told p below of.region of.slot_is
        item.shift long of.flat q q_below t
        (subst (λ ts. Among ts t) (ap (places_in code q p item) of.in_slot
        ∙ ap (λ b. members (owned_part (laid_out (arrangement_of code)) q p
        (needed_in (laid_out (arrangement_of code)) (held_of (laid_out (arrangement_of code)) b p) p
        of.region item.shift))) (box_there code layout item.array of.row of.there of.told)) among)

    pub sender_holds : IsHeld (all.shares q).stores item.array t
    sender_holds =
        stored_held code layout item.array of.row of.there all alike of.told q q_below t facts.2
        (place_of_member (storage_of of.row).dims t (storage_steps of.row.dims) facts.1)

    pub receiver_holds : IsHeld (all.shares p).stores item.array t
    receiver_holds =
        let mine = zip_there (IsStore code p) code.arrays (all.shares p).stores item.array of.row
        (alike.parts p below).stores of.there in
        record {
          store = mine.0;
          there = mine.1;
          place =
              subst (λ (r : Region). has_place r t ≡ true)
              (sym (subst (λ b. ArePlaces code p of.row b mine.0.storage) of.told mine.2.places))
              (place_of_member box.dims t (boxed_steps box.dims
              (boxed code layout item.array of.row of.there of.told p below)) facts.0);
        }

  module _ (number : ℕ) (items : List Item) (fits : All (FitsItem code) items)
      (long : All (λ (item : Item). length item.shift ≡ 3) items) where
    abbrev start_row : ℕ → Collective
    start_row p = exchange.started code p number items

    abbrev finish_row : ℕ → Collective
    finish_row p = exchange.finished code p number items

    abbrev State : ℕ → Local → Type 0
    State p local = IsBehind (all.shares p) local

    abbrev many : ℕ → ℕ → ℕ
    many = wanted code slots items

    slots_at : (p : ℕ) → p < processors code → (local : Local) → State p local
        → local.slots ≡ slots
    slots_at p below local state = state.keeps.slots ∙ alike.alike p below

    partners : ArePartners (processors code) (λ p. others_where code p (many p))
        (λ p. others_where code p (λ q. many q p))
    partners = partners_by_words code many (λ p q. many q p) (λ p q a b. refl)

    -- ---- `start`
    pub words_said : (p q : ℕ) → p < processors code → q < processors code → (local : Local)
        → State p local → (some : List Item) → All (FitsItem code) some
        → All (λ (item : Item). length item.shift ≡ 3) some
        → ReadsAll (wanted code slots some p q) (words_between code local some p q)
    words_said p q below q_below local state [] fits long =
        record { words = []; is = refl; long = refl }
    words_said p q below q_below local state (item ∷ some) fits long =
        let its = All-head (FitsItem code) item some fits in
        let three = All-head (λ (item : Item). length item.shift ≡ 3) item some long in
        let one = values_read local.stores item.array (places item p q) (λ t among.
        held_still (all.shares p).stores local.stores item.array t state.keeps.stores
        (sender_holds item its three p q below q_below t among)) in
        let rest = words_said p q below q_below local state some
        (All-tail (FitsItem code) item some fits)
        (All-tail (λ (item : Item). length item.shift ≡ 3) item some long) in
        record {
          words = one.words ++ rest.words;
          is =
              ap (λ slots. option_and_then (λ words. option_map (λ rest. words ++ rest)
              (words_between code local some p q))
              (values_at local.stores item.array (places_in code p q item
              (slice_get slots item.slot)))) (slots_at p below local state)
              ∙ (ap (option_and_then (λ words. option_map (λ rest. words ++ rest)
              (words_between code local some p q))) one.is
              ∙ ap (option_map (λ rest. one.words ++ rest)) rest.is);
          long =
              length-append one.words rest.words
              ∙ (ap₂ (λ m n. m + n) one.long rest.long
              ∙ sym (sum_by-cons (λ item. length (places item p q)) item some));
        }

    abbrev start_acts : Acts code start_row all State many
    start_acts = record {
      alone = λ p. false;
      to = λ p. others_where code p (many p);
      from = λ p. [];
      stages = λ p below.
          ap (λ slots. map Sends (others_where code p (wanted code slots items p)) ++ Last ∷ [])
          (alike.alike p below);
      begins = λ p below. record {
        local = locals_of all p;
        is = refl;
        has = behind_start (all.shares p);
      };
      says = λ p q below among local state.
          words_said p q below (others_below code p (many p) q among) local state items fits long;
      takes = λ p q below among local state words same. absurd among;
      ends = λ p below local state. record {
        next = goes_on local;
        shown = [];
        is = refl;
        running = state.running;
        keeps = state.keeps;
      };
    }

    abbrev pub its_flight : Flight
    its_flight = flight_of code start_row all State many start_acts number

    pub start_goes : (links : Option ℕ) → is_roomy links (length all.flights) ≡ true
        → GoesOn code all (all.flights ++ its_flight ∷ []) (started code start_row all links number)
    start_goes links roomy =
        started_goes code start_row all State many start_acts links number roomy (λ p below. refl)
        partners.once

    pub on_its_way : IsOnItsWay code slots items its_flight
    on_its_way = record {
      to = λ p below. to_is code start_row all State many start_acts p below;
      long = λ p q below q_below sends.
          said_many code start_row all State many start_acts p q below
          (among_from_Contains (others_where code p (many p)) q
          (subst (λ to. Contains to q) (to_is code start_row all State many start_acts p below)
          sends));
    }

    -- ---- `finish`
    words_put : (p q : ℕ) → p < processors code → q < processors code → (local : Local)
        → State p local → (some : List Item) → All (FitsItem code) some
        → All (λ (item : Item). length item.shift ≡ 3) some → (words : List ℤ) (stores : List Array)
        → AllZip HasPlacesOf (all.shares p).stores stores
        → Puts stores (words_written code local q p some words stores)
    words_put p q below q_below local state [] fits long words stores same =
        record { next = stores; is = refl; places = same_places stores }
    words_put p q below q_below local state (item ∷ some) fits long words stores same =
        let its = All-head (FitsItem code) item some fits in
        let three = All-head (λ (item : Item). length item.shift ≡ 3) item some long in
        let ts = places item q p in
        let one = values_put item.array ts (take (length ts) words) stores (λ t among.
        held_still (all.shares p).stores stores item.array t same
        (receiver_holds item its three q p q_below below t among)) in
        let rest = words_put p q below q_below local state some
        (All-tail (FitsItem code) item some fits)
        (All-tail (λ (item : Item). length item.shift ≡ 3) item some long) (drop (length ts) words)
        one.next (then_places (all.shares p).stores stores one.next same one.places) in
        record {
          next = rest.next;
          is =
              ap (λ slots.
              let ts = places_in code q p item (slice_get slots item.slot) in
              option_and_then (words_written code local q p some (drop (length ts) words))
              (with_values item.array ts (take (length ts) words) stores))
              (slots_at p below local state)
              ∙ (ap (option_and_then (words_written code local q p some (drop (length ts) words)))
              one.is
              ∙ rest.is);
          places = then_places stores one.next rest.next one.places rest.places;
        }

    abbrev finish_acts : Acts code finish_row all State many
    finish_acts = record {
      alone = λ p. false;
      to = λ p. [];
      from = λ p. others_where code p (λ q. many q p);
      stages = λ p below.
          ap (λ slots. map TakesFrom (others_where code p (λ q. wanted code slots items q p))
          ++ Last ∷ []) (alike.alike p below);
      begins = λ p below. record {
        local = locals_of all p;
        is = refl;
        has = behind_start (all.shares p);
      };
      says = λ p q below among local state. absurd among;
      takes = λ p q below among local state words same.
          let q_below = others_below code p (λ q. many q p) q among in
          let put = words_put p q below q_below local state items fits long words local.stores
          state.keeps.stores in
          record {
            local = record local { stores = put.next };
            is =
                ap (λ b. taken_where b ((finish_row p).taken local q words))
                (ap (λ slots. length words == wanted code slots items q p)
                (slots_at p below local state)
                ∙ eq-eqb (length words) (many q p) same)
                ∙ ap (option_map (λ stores. record local { stores = stores })) put.is;
            has = record {
              running = state.running;
              keeps = record {
                scalars = state.keeps.scalars;
                slots = state.keeps.slots;
                cells = state.keeps.cells;
                stores =
                    then_places (all.shares p).stores local.stores put.next state.keeps.stores
                    put.places;
                flag = state.keeps.flag;
              };
            };
          };
      ends = λ p below local state. record {
        next = goes_on local;
        shown = [];
        is = refl;
        running = state.running;
        keeps = state.keeps;
      };
    }

    pub finish_goes : (flight : Flight) (flights : List Flight) → all.flights ≡ flight ∷ flights
        → flight.exchange ≡ number → IsOnItsWay code slots items flight
        → GoesOn code all flights (finished code finish_row all number)
    finish_goes flight flights first same is =
        finished_goes code finish_row all State many finish_acts number flight flights first same
        (λ p q a b. (
          ap (times q) (is.to p a) ∙ partners.both_ways p q a b,
          subst (λ to. times q to ≤ 1) (sym (is.to p a)) (partners.once p q a b),
        ))
        (λ p q below among.
        let back = others_turned code many p q below among in
        is.long q p back.0 below (subst (λ to. Contains to p) (sym (is.to q back.0))
        (Contains-from_among (others_where code q (many q)) p back.1)))
