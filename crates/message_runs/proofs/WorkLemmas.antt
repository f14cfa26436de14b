-- Rows in which processors send each other words for places of one array: what each makes of it.
use Rattle.std.proofs.Common.{◌≡◌, ◌⊎◌, refl, sym, ◌∙◌, ap, subst, inl, inr, ℕ, zero, suc, ◌+◌, ◌<◌, ◌≤◌, ◌==◌, true, false, not, nat_lt, List, [], ◌∷◌, ◌++◌, ℤ, length, map, Option, Some, None, arith, eq-eqb, eq-or-lt_of_le}
use Rattle.std.specs.Prelude.{option_and_then, slice_get, slice_set}
use Rattle.std.specs.List.{range_with_len}
use Rattle.std.specs.Option.{option_map}
use Rattle.std.proofs.lemmas.Bool.Decides.{nat_tests}
use Rattle.std.proofs.lemmas.List.{length-map}
use Rattle.zpl_region.specs.declared.regions.Region.{Region}
use Rattle.zpl_region.specs.Region.{members}
use Rattle.zpl_region.proofs.ListLemmas.{Among, Among-filter, among_filtered}
use Rattle.zpl_arrays.specs.Array.{Array, IsArray, has_place}
use Rattle.node_form.specs.declared.arrays.ArrayRow.{ArrayRow}
use Rattle.node_form.specs.declared.tables.Tables.{Tables}
use Rattle.grid_meaning.specs.Action.{goes_on}
use Rattle.grid_meaning.specs.Collective.{Collective, Alone, Last, Sends, TakesFrom, others, others_where}
use Rattle.grid_meaning.specs.Delivery.{Delivery, delivered, each_word, replaced, with_combined}
use Rattle.grid_meaning.specs.Local.{Local, processor_numbers, processors}
use Rattle.grid_meaning.specs.Place.{with_values}
use Rattle.grid_meaning.specs.Room.{zeros_at}
use Rattle.grid_meaning.specs.State.{ArePlaces, IsStore}
use Rattle.grid_meaning.specs.Stored.{no_places}
use Rattle.row_orders.specs.Rows.{ArePartners, delivery_stages, taken_where, taking}
use Rattle.row_orders.proofs.PartnerLemmas.{partners_by_words, same_turned}
use Rattle.row_runs.specs.Run.{Does, Goes}
use Rattle.row_runs.specs.Rows.{AreEffects}
use Rattle.flat_form.specs.Moves.{found, moved_in, with_stores}
use Rattle.flat_form.specs.Whole.{Whole, with_store}
use Rattle.plan_orders.specs.of_plan_meaning.Abreast.{Abreast, locals_of, share_of}
use Rattle.plan_orders.specs.of_plan_meaning.Messages as plan
use Rattle.normal_runs.proofs.PlaceLemmas.{set_there, set_twice}
use Rattle.needs_runs.specs.Holds.{Holds}
use Rattle.needs_runs.proofs.HoldsLemmas.{holds_as, some_processors}
use Rattle.needs_runs.proofs.RoomRows.{IsSet, store_set}
use Rattle.needs_runs.proofs.SlotLemmas.{zip_there}
use Rattle.message_runs.proofs.DeliverLemmas.{IsDelivered, delivered_agrees}
use Rattle.message_runs.proofs.WriteLemmas.{put_combined, put_values, written, written_array, written_storage}

-- ---- lists
range_below : (a n q : ℕ) → Among (range_with_len a n) q → q < a + n
range_below a zero q among = absurd among
range_below a (suc n) q (inl same) = omega (arith, same)
range_below a (suc n) q (inr later) =
    let less = range_below (a + 1) n q later in omega (arith, less)

pub others_below : (code : Tables) (p : ℕ) (many : ℕ → ℕ) (q : ℕ)
    → Among (others_where code p many) q → q < processors code
others_below code p many q among =
    let low = range_below 0 (processors code) q
    (among_filtered (λ q. not (q == p)) (processor_numbers code) q
    (among_filtered (λ q. nat_lt 0 (many q)) (others code p) q among).0).0 in
    omega (arith, low)

range_among : (a n q : ℕ) → a ≤ q → q < a + n → Among (range_with_len a n) q
range_among a zero q low high = absurd (omega (arith, low, high))
range_among a (suc n) q low high =
    by (eq-or-lt_of_le low)
    (λ less. range_among (a + 1) n q (omega (arith, less)) (omega (arith, high)))
  where
    by : (a ≡ q) ⊎ (a < q) → (a < q → Among (range_with_len (a + 1) n) q)
        → (a ≡ q) ⊎ Among (range_with_len (a + 1) n) q
    by (inl same) rest = inl same
    by (inr less) rest = inr (rest less)

some_test : (m : ℕ) → 0 < m → nat_lt 0 m ≡ true
some_test m some = grind (arith, nat_tests, some)

pub others_among : (code : Tables) (p : ℕ) (many : ℕ → ℕ) (q : ℕ) → q < processors code
    → (q == p) ≡ false → 0 < many q → Among (others_where code p many) q
others_among code p many q below apart some =
    Among-filter (λ r. nat_lt 0 (many r)) (others code p) q
    (Among-filter (λ r. not (r == p)) (processor_numbers code) q
    (range_among 0 (processors code) q (omega arith) (omega (arith, below))) (ap not apart))
    (some_test (many q) some)

-- others are others to each other
pub all_others_below : (code : Tables) (p q : ℕ) → p < processors code → Among (others code p) q
    → (q < processors code) × Among (others code q) p
all_others_below code p q below among =
    let parts = among_filtered (λ q. not (q == p)) (processor_numbers code) q among in
    let low = range_below 0 (processors code) q parts.0 in (
      omega (arith, low),
      Among-filter (λ r. not (r == q)) (processor_numbers code) p
          (range_among 0 (processors code) p (omega arith) (omega (arith, below)))
          (ap not (same_turned q p) ∙ parts.1),
    )

pub words_all : (word : List ℤ → Option ℤ) (value : List ℤ → ℤ) (ts : List (List ℤ))
    → ((t : List ℤ) → Among ts t → word t ≡ Some (value t)) → each_word word ts ≡ Some (map value ts)
words_all word value [] each = refl
words_all word value (t ∷ ts) each =
    ap (option_and_then (λ v. option_map (λ rest. v ∷ rest) (each_word word ts))) (each t (inl refl))
    ∙ ap (option_map (λ rest. value t ∷ rest))
    (words_all word value ts (λ u later. each u (inr later)))

-- ---- whole arrays
pub moved_step : (whole : Whole) (array : ℕ) (region : Region) (value : List ℤ → ℤ) (store : Array)
    → slice_get whole.stores array ≡ Some store
    → ((t : List ℤ) → Among (members region) t → has_place store.storage t ≡ true)
    → moved_in whole array region value
    ≡ Goes [] (with_store whole array (written replaced value (members region) store))
moved_step whole array region value store here places =
    ap (λ o. found o (with_stores whole))
    (put_values array value (members region) whole.stores store here places)

module _ (code : Tables) (whole : Whole) (all : Abreast) (holds : Holds code whole all)
    (array : ℕ) (row : ArrayRow) (there : slice_get code.arrays array ≡ Some row) where
  abbrev start : ℕ → Local
  start = locals_of all

  abbrev own_of : Option Array → Array
  own_of (Some own) = own
  own_of None = zeros_at (no_places 1)

  -- what a processor has of the array
  abbrev pub mine : ℕ → Array
  mine p = own_of (slice_get (all.shares p).stores array)

  pub mine_there : (p : ℕ) → p < processors code
      → slice_get (all.shares p).stores array ≡ Some (mine p)
  mine_there p below =
      let found = zip_there (IsStore code p) code.arrays (all.shares p).stores array row
      (holds.own p below).parts.stores there in
      found.1 ∙ ap Some (sym (ap own_of found.1))

  pub mine_is : (p : ℕ) → p < processors code → IsStore code p row (mine p)
  mine_is p below =
      let found = zip_there (IsStore code p) code.arrays (all.shares p).stores array row
      (holds.own p below).parts.stores there in
      subst (λ o. IsStore code p row (own_of o)) (sym found.1) found.2

  -- a processor with another array there
  abbrev pub with_mine : ℕ → Array → Local
  with_mine p a = record (start p) { stores = slice_set (all.shares p).stores array a }

  module _ (targets_in : Local → ℕ → ℕ → List (List ℤ)) (word_in : ℕ → Local → List ℤ → Option ℤ)
      (own_in : ℕ → Local → List (List ℤ)) (combined : ℤ → ℤ → ℤ)
      (targets : ℕ → ℕ → List (List ℤ)) (own : ℕ → List (List ℤ)) (word : ℕ → List ℤ → ℤ) where
    abbrev delivery : ℕ → Delivery
    delivery p = record {
      array = array;
      targets = targets_in;
      word = word_in p;
      own = own_in p;
      combined = combined;
    }

    abbrev pub work : ℕ → Collective
    work p = delivered code p (delivery p)

    -- with its own words, and then with those of others
    abbrev pub put : ℕ → Array
    put p = written replaced (word p) (own p) (mine p)

    abbrev pub after : ℕ → List ℕ → Array → Array
    after p [] a = a
    after p (q ∷ qs) a = after p qs (written combined (word q) (targets q p) a)

    abbrev to_all : ℕ → List ℕ
    to_all p = others_where code p (λ q. length (targets p q))

    abbrev pub from_all : ℕ → List ℕ
    from_all p = others_where code p (λ q. length (targets q p))

    abbrev pub final : ℕ → Array
    final p = after p (from_all p) (put p)

    -- words go for some tuples, whose values each processor has when it says them
    pub record IsWork : Type 0 where
      pub targets_are : (local : Local) → local.slots ≡ whole.slots → targets_in local ≡ targets
      pub own_are : (p : ℕ) (local : Local) → local.slots ≡ whole.slots → own_in p local ≡ own p
      pub own_places : (p : ℕ) → p < processors code → (t : List ℤ) → Among (own p) t
          → has_place (mine p).storage t ≡ true
      pub target_places : (q p : ℕ) → p < processors code → (t : List ℤ) → Among (targets q p) t
          → has_place (mine p).storage t ≡ true
      pub begins : (p : ℕ) → p < processors code → (t : List ℤ) → Among (own p) t
          → word_in p (start p) t ≡ Some (word p t)
      pub says : (p q : ℕ) → p < processors code → q < processors code → (t : List ℤ)
          → Among (targets p q) t → word_in p (with_mine p (put p)) t ≡ Some (word p t)

    after_storage : (p : ℕ) (qs : List ℕ) (a : Array) → (after p qs a).storage ≡ a.storage
    after_storage p [] a = refl
    after_storage p (q ∷ qs) a =
        after_storage p qs (written combined (word q) (targets q p) a)
        ∙ written_storage combined (word q) (targets q p) a

    after_array : (p : ℕ) (qs : List ℕ) (a : Array) → IsArray a → IsArray (after p qs a)
    after_array p [] a is = is
    after_array p (q ∷ qs) a is =
        after_array p qs (written combined (word q) (targets q p) a)
        (written_array combined (word q) (targets q p) a is)

    pub final_storage : (p : ℕ) → (final p).storage ≡ (mine p).storage
    final_storage p =
        after_storage p (from_all p) (put p) ∙ written_storage replaced (word p) (own p) (mine p)

    pub final_is : (p : ℕ) → p < processors code → IsStore code p row (final p)
    final_is p below = record {
      filled = after_array p (from_all p) (put p)
          (written_array replaced (word p) (own p) (mine p) (mine_is p below).filled);
      places = subst (ArePlaces code p row row.stored) (sym (final_storage p))
          (mine_is p below).places;
    }

    module _ (is : IsWork) where
      abbrev said : ℕ → ℕ → List ℤ
      said p q = map (word p) (targets p q)

      slots_are : (p : ℕ) → p < processors code → (start p).slots ≡ whole.slots
      slots_are p below = (holds.own p below).slots

      stages_are : (p : ℕ) → p < processors code
          → (work p).stages (start p) ≡ delivery_stages true (to_all p) (from_all p)
      stages_are p below =
          ap (λ ts. Alone ∷ (map Sends (others_where code p (λ q. length (ts p q)))
          ++ (map TakesFrom (others_where code p (λ q. length (ts q p))) ++ Last ∷ [])))
          (is.targets_are (start p) (slots_are p below))

      begins_are : (p : ℕ) → p < processors code
          → (work p).alone (start p) ≡ Some (with_mine p (put p))
      begins_are p below =
          ap (λ ts. option_and_then (λ words. option_map (λ stores. record (start p) { stores = stores })
          (with_values array ts words (start p).stores)) (each_word (word_in p (start p)) ts))
          (is.own_are p (start p) (slots_are p below))
          ∙ (ap (option_and_then (λ words. option_map (λ stores. record (start p) { stores = stores })
          (with_values array (own p) words (start p).stores)))
          (words_all (word_in p (start p)) (word p) (own p) (is.begins p below))
          ∙ ap (option_map (λ stores. record (start p) { stores = stores }))
          (put_values array (word p) (own p) (start p).stores (mine p) (mine_there p below)
          (is.own_places p below)))

      says_are : (p q : ℕ) → p < processors code → q < processors code
          → (work p).words_to (with_mine p (put p)) q ≡ Some (said p q)
      says_are p q below q_below =
          ap (λ ts. each_word (word_in p (with_mine p (put p))) (ts p q))
          (is.targets_are (with_mine p (put p)) (slots_are p below))
          ∙ words_all (word_in p (with_mine p (put p))) (word p) (targets p q)
          (is.says p q below q_below)

      takes_are : (p : ℕ) → p < processors code → (qs : List ℕ) (a : Array)
          → a.storage ≡ (mine p).storage
          → taking (work p) (λ q. said q p) (with_mine p a) qs ≡ Some (with_mine p (after p qs a))
      takes_are p below [] a same = refl
      takes_are p below (q ∷ qs) a same =
          let local = with_mine p a in
          let next = written combined (word q) (targets q p) a in
          ap (λ ts. option_and_then (λ next. taking (work p) (λ q. said q p) next qs)
          (taken_where (length (said q p) == length (ts q p))
          (with_combined (delivery p) local (ts q p) (said q p))))
          (is.targets_are local (slots_are p below))
          ∙ (ap (λ b. option_and_then (λ next. taking (work p) (λ q. said q p) next qs)
          (taken_where b (with_combined (delivery p) local (targets q p) (said q p))))
          (eq-eqb (length (said q p)) (length (targets q p)) (length-map (targets q p) (word q)))
          ∙ (ap (λ o. option_and_then (λ next. taking (work p) (λ q. said q p) next qs)
          (option_map (λ stores. record local { stores = stores }) o))
          (put_combined (delivery p) (word q) (targets q p) local.stores a
          (set_there (all.shares p).stores array a (mine p) (mine_there p below))
          (λ t among. subst (λ (r : Region). has_place r t ≡ true) (sym same)
          (is.target_places q p below t among)))
          ∙ (ap (λ stores. taking (work p) (λ q. said q p) (record (start p) { stores = stores }) qs)
          (set_twice (all.shares p).stores array a next)
          ∙ takes_are p below qs next
          (written_storage combined (word q) (targets q p) a ∙ same))))

      partners : ArePartners (processors code) to_all from_all
      partners = partners_by_words code (λ p q. length (targets p q)) (λ p q. length (targets q p))
          (λ p q a b. refl)

      module _ (new : Array) (set : IsSet code whole all holds array row new final) where
        work_delivered : IsDelivered code work all (with_store whole array new) []
        work_delivered = record {
          quiet = holds.flights;
          alone = λ p. true;
          to = to_all;
          from = from_all;
          stages = stages_are;
          partners = partners;
          middle = λ p. with_mine p (put p);
          begins = begins_are;
          words = said;
          says = λ p q below among.
              says_are p q below (others_below code p (λ q. length (targets p q)) q among);
          hears = λ p q below among.
              let q_below = others_below code p (λ q. length (targets q p)) q among in
              (q_below, says_are q p q_below below);
          final = λ p. with_mine p (final p);
          takes = λ p below. takes_are p below (from_all p) (put p)
              (written_storage replaced (word p) (own p) (mine p));
          next = λ p. goes_on (with_mine p (final p));
          shown = λ p. [];
          ends = λ p below. refl;
          running = λ p below. refl;
          prints = refl;
          holds = holds_as code (with_store whole array new) _
              (record { shares = λ p. share_of (goes_on (with_mine p (final p))); flights = [] })
              (some_processors code) (λ p below. refl) refl
              (store_set code whole all holds array row new final set);
        }

        pub work_agrees : AreEffects (Holds code) (Does (Goes [] (with_store whole array new)))
            (Does (plan.delivered code work all))
        work_agrees =
            delivered_agrees code work all (with_store whole array new) [] work_delivered
