-- A row in which words go for places of one array goes on where each processor holds the places
-- that it reads and sets.
use Rattle.std.proofs.Common.{◌≡◌, refl, sym, ◌∙◌, ap, ℕ, ◌<◌, ◌==◌, Bool, true, false, not}
use Rattle.std.proofs.Common.{nat_lt, List, [], ◌∷◌, ◌++◌, ℤ, length, map, Option, eq-eqb, arith}
use Rattle.std.specs.Prelude.{option_and_then, slice_get, unwrap_or}
use Rattle.std.specs.Option.{option_map}
use Rattle.std.proofs.lemmas.Bool.Decides.{nat_tests}
use Rattle.zpl_region.specs.declared.regions.Region.{Region}
use Rattle.zpl_region.proofs.ListLemmas.{Among, among_filtered}
use Rattle.node_form.specs.declared.tables.Tables.{Tables}
use Rattle.grid_meaning.specs.Action.{goes_on}
use Rattle.grid_meaning.specs.Collective.{Collective, Alone, Last, Sends, TakesFrom, others}
use Rattle.grid_meaning.specs.Collective.{others_where}
use Rattle.grid_meaning.specs.Delivery.{Delivery, delivered, each_word, with_combined}
use Rattle.grid_meaning.specs.Local.{Local, processor_numbers, processors}
use Rattle.grid_meaning.specs.Owner.{region_in}
use Rattle.grid_meaning.specs.Place.{with_values}
use Rattle.grid_meaning.specs.Stored.{no_places}
use Rattle.row_orders.specs.Rows.{delivery_stages, taken_where}
use Rattle.row_orders.proofs.PartnerLemmas.{partners_by_words, same_turned}
use Rattle.checked_rows.specs.of_plan_meaning.Abreast.{Abreast, Share, locals_of, standing}
use Rattle.checked_rows.specs.of_plan_meaning.Messages as plan
use Rattle.message_runs.proofs.WorkLemmas.{others_among, others_below}
use Rattle.checked_rows.specs.of_node_check.Told.{SlotHas}
use Rattle.checked_messages.specs.Going.{GoesOn, StandAlike}
use Rattle.checked_messages.proofs.GoLemmas.{Acts, Comes, IsBehind, delivered_goes}
use Rattle.checked_messages.proofs.HeldLemmas.{AreHeld, Reads, combined_put, held_still}
use Rattle.checked_messages.proofs.HeldLemmas.{same_places}
use Rattle.checked_messages.proofs.HeldLemmas.{then_places, values_put, words_read}

-- ---- who sends to whom
pub some_of : (m : ℕ) → nat_lt 0 m ≡ true → 0 < m
some_of m some = grind (arith, nat_tests, some)

-- who is taken from sends
pub others_turned : (code : Tables) (many : ℕ → ℕ → ℕ) (p q : ℕ) → p < processors code
    → Among (others_where code p (λ q. many q p)) q
    → (q < processors code) × Among (others_where code q (λ r. many q r)) p
others_turned code many p q below among =
    let one = among_filtered (λ q. nat_lt 0 (many q p)) (others code p) q among in
    let two = among_filtered (λ q. not (q == p)) (processor_numbers code) q one.0 in (
      others_below code p (λ q. many q p) q among,
      others_among code q (λ r. many q r) p below
          (sym (same_turned p q) ∙ by (q == p) two.1) (some_of (many q p) one.1),
    )
  where
    by : (b : Bool) → not b ≡ true → b ≡ false
    by true e = cc
    by false e = refl

-- ---- states in a row
pub behind_start : (share : Share) → IsBehind share (standing share)
behind_start share = record {
  running = refl;
  keeps = record {
    scalars = refl;
    slots = refl;
    cells = refl;
    stores = same_places share.stores;
    flag = refl;
  };
}

module _ (code : Tables) (all : Abreast) (alike : StandAlike code all) where
  pub region_is : (slot : ℕ) (region : Region) → SlotHas all slot region → (p : ℕ)
      → p < processors code → (local : Local) → IsBehind (all.shares p) local
      → region_in local slot ≡ region
  region_is slot region here p below local is =
      ap (λ slots. unwrap_or (slice_get slots slot) (no_places 1))
      (is.keeps.slots ∙ alike.alike p below)
      ∙ ap (λ o. unwrap_or o (no_places 1)) here

  module _ (quiet : all.flights ≡ []) (array : ℕ) (targets_in : Local → ℕ → ℕ → List (List ℤ))
      (word_in : ℕ → Local → List ℤ → Option ℤ) (own_in : ℕ → Local → List (List ℤ))
      (combined : ℤ → ℤ → ℤ) (targets : ℕ → ℕ → List (List ℤ)) (own : ℕ → List (List ℤ)) where
    abbrev delivery : ℕ → Delivery
    delivery p = record {
      array = array;
      targets = targets_in;
      word = word_in p;
      own = own_in p;
      combined = combined;
    }

    abbrev pub work : ℕ → Collective
    work p = delivered code p (delivery p)

    -- each has the places that it sets, and those that it reads for others
    pub record IsWork : Type 0 where
      pub targets_are : (p : ℕ) → p < processors code → (local : Local)
          → IsBehind (all.shares p) local → targets_in local ≡ targets
      pub own_are : (p : ℕ) → p < processors code → own_in p (locals_of all p) ≡ own p
      pub own_held : (p : ℕ) → p < processors code → AreHeld (all.shares p).stores array (own p)
      pub targets_held : (q p : ℕ) → q < processors code → p < processors code
          → AreHeld (all.shares p).stores array (targets q p)
      pub own_reads : (p : ℕ) → p < processors code → (t : List ℤ) → Among (own p) t
          → Reads (word_in p (locals_of all p) t)
      pub reads : (p q : ℕ) → p < processors code → q < processors code → (local : Local)
          → IsBehind (all.shares p) local → (t : List ℤ) → Among (targets p q) t
          → Reads (word_in p local t)

    module _ (is : IsWork) where
      abbrev State : ℕ → Local → Type 0
      State p local = IsBehind (all.shares p) local

      abbrev many : ℕ → ℕ → ℕ
      many p q = length (targets p q)

      abbrev to_all : ℕ → List ℕ
      to_all p = others_where code p (λ q. length (targets p q))

      abbrev from_all : ℕ → List ℕ
      from_all p = others_where code p (λ q. length (targets q p))

      at_start : (p : ℕ) → State p (locals_of all p)
      at_start p = behind_start (all.shares p)

      stages_are : (p : ℕ) → p < processors code
          → (work p).stages (locals_of all p) ≡ delivery_stages true (to_all p) (from_all p)
      stages_are p below =
          ap (λ ts. Alone ∷ (map Sends (others_where code p (λ q. length (ts p q)))
          ++ (map TakesFrom (others_where code p (λ q. length (ts q p))) ++ Last ∷ [])))
          (is.targets_are p below (locals_of all p) (at_start p))

      begins : (p : ℕ) → p < processors code → Comes (State p) ((work p).alone (locals_of all p))
      begins p below =
          let local = locals_of all p in
          let read = words_read (word_in p local) (own p) (is.own_reads p below) in
          let put = values_put array (own p) read.words local.stores (is.own_held p below) in
          record {
            local = record local { stores = put.next };
            is =
                ap (λ ts. option_and_then (λ words. option_map
                (λ stores. record local { stores = stores })
                (with_values array ts words local.stores)) (each_word (word_in p local) ts))
                (is.own_are p below)
                ∙ (ap (option_and_then (λ words. option_map (λ stores. record local {
                  stores =
                      stores;
                })
                (with_values array (own p) words local.stores))) read.is
                ∙ ap (option_map (λ stores. record local { stores = stores })) put.is);
            has =
                record {
                  running = refl;
                  keeps = record {
                    scalars = refl;
                    slots = refl;
                    cells = refl;
                    stores = put.places;
                    flag = refl;
                  };
                };
          }

      takes : (p q : ℕ) → p < processors code → Among (from_all p) q → (local : Local)
          → State p local → (words : List ℤ) → length words ≡ many q p
          → Comes (State p)
          (taken_where ((work p).awaits local q (length words)) ((work p).taken local q words))
      takes p q below among local state words long =
          let q_below = others_below code p (λ q. length (targets q p)) q among in
          let put = combined_put (delivery p) (targets q p) words local.stores
          (λ t one. held_still (all.shares p).stores local.stores array t state.keeps.stores
          (is.targets_held q p q_below below t one)) in
          record {
            local = record local { stores = put.next };
            is =
                ap (λ ts. taken_where (length words == length (ts q p))
                (with_combined (delivery p) local (ts q p) words))
                (is.targets_are p below local state)
                ∙ (ap (λ b. taken_where b (with_combined (delivery p) local (targets q p) words))
                (eq-eqb (length words) (length (targets q p)) long)
                ∙ ap (option_map (λ stores. record local { stores = stores })) put.is);
            has = record {
              running = state.running;
              keeps = record {
                scalars = state.keeps.scalars;
                slots = state.keeps.slots;
                cells = state.keeps.cells;
                stores =
                    then_places (all.shares p).stores local.stores put.next state.keeps.stores
                    put.places;
                flag = state.keeps.flag;
              };
            };
          }

      abbrev acts : Acts code work all State many
      acts = record {
        alone = λ p. true;
        to = to_all;
        from = from_all;
        stages = stages_are;
        begins = begins;
        says = λ p q below among local state.
            let q_below = others_below code p (λ q. length (targets p q)) q among in
            let read = words_read (word_in p local) (targets p q)
            (is.reads p q below q_below local state) in
            record {
              words = read.words;
              is =
                  ap (λ ts. each_word (word_in p local) (ts p q))
                  (is.targets_are p below local state)
                  ∙ read.is;
              long = read.long;
            };
        takes = takes;
        ends = λ p below local state. record {
          next = goes_on local;
          shown = [];
          is = refl;
          running = state.running;
          keeps = state.keeps;
        };
      }

      pub work_goes : GoesOn code all [] (plan.delivered code work all)
      work_goes =
          delivered_goes code work all State many acts quiet
          (partners_by_words code (λ p q. length (targets p q)) (λ p q. length (targets q p))
          (λ p q a b. refl)) (λ p q below among. others_turned code many p q below among)
