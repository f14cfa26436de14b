-- What the start of an exchange does: words go to those that need places, by what slots and arrays
-- of its items have alone.
use Rattle.std.proofs.Common.{◌≡◌, refl, ◌∙◌, ap, ap₂, ℕ, ◌+◌, Bool, true, false, ℤ, is_some}
use Rattle.std.proofs.Common.{List, [], ◌∷◌, ◌++◌, length, map}
use Rattle.std.proofs.Math.Path.{fun_ext}
use Rattle.std.specs.Prelude.{◌&&◌, nat_le, Option, Some, fold, option_and_then, slice_get}
use Rattle.std.specs.Prelude.{unwrap_or}
use Rattle.std.specs.List.{AllByRecursion, list_all}
use Rattle.std.specs.Option.{option_map}
use Rattle.zpl_arrays.specs.Array.{Array}
use Rattle.grid_paths.specs.Tree.{times}
use Rattle.node_form.specs.declared.arrays.Item.{Item}
use Rattle.node_form.specs.declared.tables.Tables.{Tables}
use Rattle.code_parts.specs.Early.{is_roomy}
use Rattle.grid_meaning.specs.Collective.{Collective, Sends, Last, others_where}
use Rattle.grid_meaning.specs.Exchange as exchange
use Rattle.grid_meaning.specs.Exchange.{places_in, places_of, word_count, words_between}
use Rattle.grid_meaning.specs.Local.{Local}
use Rattle.grid_meaning.specs.Place.{held_value, value_at, values_at}
use Rattle.row_orders.specs.Rows.{Flight, alone_where, taking}
use Rattle.row_runs.specs.Run.{Step}
use Rattle.needs_runs.specs.of_plan_meaning.Abreast.{Abreast, Share, every, every_two, go_where, locals_of, share_of}
use Rattle.needs_runs.specs.of_plan_meaning.Abreast.{standing}
use Rattle.needs_runs.specs.of_plan_meaning.Messages.{begun, bytes, does_well, final_of, from_of}
use Rattle.needs_runs.specs.of_plan_meaning.Messages.{leaves_row, middle_of, next_or, next_with, receivers}
use Rattle.needs_runs.specs.of_plan_meaning.Messages.{senders, started, starts_alone, to_of, took, words_of}

-- ---- stages of a start
receivers_sends : (xs : List ℕ) → receivers (map Sends xs ++ Last ∷ []) ≡ xs
receivers_sends [] = refl
receivers_sends (x ∷ xs) = ap (λ l. x ∷ l) (receivers_sends xs)

senders_sends : (xs : List ℕ) → senders (map Sends xs ++ Last ∷ []) ≡ []
senders_sends [] = refl
senders_sends (x ∷ xs) = senders_sends xs

sends_together : (xs : List ℕ) → starts_alone (map Sends xs ++ Last ∷ []) ≡ false
sends_together [] = refl
sends_together (x ∷ xs) = refl

pub and_true : (b : Bool) → (b && true) ≡ b
and_true true = refl
and_true false = refl

pub and_later : (a b c : Bool) → (a && b && c) ≡ (a && (b && c))
and_later true b c = refl
and_later false b c = refl

module _ (code : Tables) (number : ℕ) (items : List Item) where
  abbrev pub start_row : ℕ → Collective
  start_row p = exchange.started code p number items

  abbrev pub sent_to : ℕ → Share → List ℕ
  sent_to p share = others_where code p (word_count code (standing share) items p)

  abbrev pub words_sent : ℕ → Share → ℕ → Option (List ℤ)
  words_sent p share q = words_between code (standing share) items p q

  abbrev pub flight_of : (ℕ → Share) → Flight
  flight_of shares = record {
    exchange = number;
    to = λ p. sent_to p (shares p);
    words = λ p q. unwrap_or (words_sent p (shares p) q) [];
  }

  abbrev pub can_say : (ℕ → Share) → ℕ → Bool
  can_say shares p = list_all (λ q. is_some (words_sent p (shares p) q)) (sent_to p (shares p))

  abbrev pub can_send : (ℕ → Share) → Bool
  can_send shares =
      every_two code (λ p q. nat_le (times q (sent_to p (shares p))) 1)
      && every code (can_say shares)

  abbrev pub start_on : Option ℕ → Abreast → Step Abreast
  start_on links all =
      go_where (is_roomy links (length all.flights) && can_send all.shares) []
      (record all { flights = all.flights ++ flight_of all.shares ∷ [] })

  module _ (all : Abreast) where
    abbrev locals : ℕ → Local
    locals = locals_of all

    to_is : (p : ℕ) → to_of code start_row locals p ≡ sent_to p (all.shares p)
    to_is p = receivers_sends (sent_to p (all.shares p))

    from_is : (p : ℕ) → from_of code start_row locals p ≡ []
    from_is p = senders_sends (sent_to p (all.shares p))

    begun_is : (p : ℕ) → begun code start_row locals p ≡ Some (locals p)
    begun_is p =
        ap (λ b. alone_where b (start_row p) (locals p)) (sends_together (sent_to p (all.shares p)))

    middle_is : (p : ℕ) → middle_of code start_row locals p ≡ locals p
    middle_is p = ap (λ o. unwrap_or o (locals p)) (begun_is p)

    words_are : (p q : ℕ) → words_of code start_row locals p q
        ≡ unwrap_or (words_sent p (all.shares p) q) []
    words_are p q = ap (λ l. unwrap_or (words_between code l items p q) []) (middle_is p)

    module _ (heard : ℕ → ℕ → List ℤ) where
      took_is : (p : ℕ) → took code start_row locals heard p ≡ Some (locals p)
      took_is p =
          ap (λ from. taking (start_row p) (λ q. heard q p) (middle_of code start_row locals p) from)
          (from_is p)
          ∙ ap Some (middle_is p)

      final_is : (p : ℕ) → final_of code start_row locals heard p ≡ locals p
      final_is p = ap (λ o. unwrap_or o (middle_of code start_row locals p)) (took_is p)

      well_is : (p : ℕ) → does_well code start_row locals heard p ≡ can_say all.shares p
      well_is p =
          ap (λ o. is_some o
          && list_all (λ q. is_some ((start_row p).words_to (middle_of code start_row locals p) q))
          (to_of code start_row locals p)
          && is_some (took code start_row locals heard p)
          && leaves_row ((start_row p).last (final_of code start_row locals heard p))) (begun_is p)
          ∙ (ap (λ l. list_all (λ q. is_some (words_between code l items p q))
          (to_of code start_row locals p)
          && is_some (took code start_row locals heard p)
          && leaves_row ((start_row p).last (final_of code start_row locals heard p))) (middle_is p)
          ∙ (ap (λ to. list_all (λ q. is_some (words_sent p (all.shares p) q)) to
          && is_some (took code start_row locals heard p)
          && leaves_row ((start_row p).last (final_of code start_row locals heard p))) (to_is p)
          ∙ (ap (λ o. can_say all.shares p && is_some o
          && leaves_row ((start_row p).last (final_of code start_row locals heard p))) (took_is p)
          ∙ (ap (λ b. b && leaves_row ((start_row p).last (final_of code start_row locals heard p)))
          (and_true (can_say all.shares p))
          ∙ (ap (λ l. can_say all.shares p && leaves_row ((start_row p).last l)) (final_is p)
          ∙ and_true (can_say all.shares p))))))

      shares_are : (p : ℕ)
          → share_of (next_or (final_of code start_row locals heard p)
          ((start_row p).last (final_of code start_row locals heard p)))
          ≡ all.shares p
      shares_are p = ap (λ l. share_of (next_or l ((start_row p).last l))) (final_is p)

    pub started_is : (links : Option ℕ) → started code start_row all links number ≡ start_on links all
    started_is links =
        let heard : ℕ → ℕ → List ℤ = λ p q. [] in
        let to : to_of code start_row locals ≡ (λ p. sent_to p (all.shares p)) = fun_ext to_is in
        let words : words_of code start_row locals
        ≡ (λ p q. unwrap_or (words_sent p (all.shares p) q) []) =
        fun_ext (λ p. fun_ext (words_are p)) in
        let well : does_well code start_row locals heard ≡ can_say all.shares =
        fun_ext (well_is heard) in
        let shares : (next_with code start_row locals heard all.flights).shares ≡ all.shares =
        fun_ext (shares_are heard) in
        ap (λ w. go_where (is_roomy links (length all.flights)
        && every_two code (λ p q. nat_le (times q (to_of code start_row locals p)) 1) && every code w)
        (bytes code start_row locals heard)
        (next_with code start_row locals heard
        (all.flights ++ (record {
          exchange = number;
          to = to_of code start_row locals;
          words = words_of code start_row locals;
        }) ∷ []))) well
        ∙ (ap (λ t. go_where (is_roomy links (length all.flights)
        && every_two code (λ p q. nat_le (times q (t p)) 1) && every code (can_say all.shares)) []
        (next_with code start_row locals heard
        (all.flights ++ (record {
          exchange = number;
          to = t;
          words = words_of code start_row locals;
        }) ∷ []))) to
        ∙ (ap (λ w. go_where (is_roomy links (length all.flights)
        && every_two code (λ p q. nat_le (times q (sent_to p (all.shares p))) 1)
        && every code (can_say all.shares)) []
        (next_with code start_row locals heard
        (all.flights ++ (record {
          exchange = number;
          to = λ p. sent_to p (all.shares p);
          words = w;
        }) ∷ []))) words
        ∙ (ap (λ s. go_where (is_roomy links (length all.flights)
        && every_two code (λ p q. nat_le (times q (sent_to p (all.shares p))) 1)
        && every code (can_say all.shares)) []
        (record { shares = s; flights = all.flights ++ flight_of all.shares ∷ [] })) shares
        ∙ ap (λ b. go_where b []
        (record all { flights = all.flights ++ flight_of all.shares ∷ [] }))
        (and_later (is_roomy links (length all.flights))
        (every_two code (λ p q. nat_le (times q (sent_to p (all.shares p))) 1))
        (every code (can_say all.shares))))))

-- ---- what it sends goes by the items' slots and arrays
abbrev pub HaveItem : Item → Share → Share → Type 0
HaveItem item one other =
    (slice_get other.slots item.slot ≡ slice_get one.slots item.slot)
    × (slice_get other.stores item.array ≡ slice_get one.stores item.array)

abbrev pub HaveItems : List Item → Share → Share → Type 0
HaveItems items one other = AllByRecursion (λ item. HaveItem item one other) items

pub values_same : (one other : List Array) (array : ℕ) (places : List (List ℤ))
    → slice_get other array ≡ slice_get one array
    → values_at other array places ≡ values_at one array places
values_same one other array [] same = refl
values_same one other array (t ∷ places) same =
    ap (λ o. option_and_then (λ value. option_map (λ rest. value ∷ rest)
    (values_at other array places)) (option_and_then (held_value t) o)) same
    ∙ ap (λ more. option_and_then (λ value. option_map (λ rest. value ∷ rest) more)
    (value_at one array t)) (values_same one other array places same)

module _ (code : Tables) (one other : Share) where
  places_same : (item : Item) → HaveItem item one other → (from to : ℕ)
      → places_of code (standing other) from to item ≡ places_of code (standing one) from to item
  places_same item same from to = ap (places_in code from to item) same.0

  sums_same : (f g : Item → ℕ) (sum : ℕ) (items : List Item)
      → AllByRecursion (λ item. f item ≡ g item) items
      → fold (λ a item. a + f item) sum items ≡ fold (λ a item. a + g item) sum items
  sums_same f g sum [] same = refl
  sums_same f g sum (item ∷ items) same =
      ap (λ k. fold (λ a item. a + f item) (sum + k) items) same.0
      ∙ sums_same f g (sum + g item) items same.1

  counts_same : (items : List Item) → HaveItems items one other → (from to : ℕ)
      → word_count code (standing other) items from to ≡ word_count code (standing one) items from to
  counts_same items same from to =
      sums_same (λ item. length (places_of code (standing other) from to item))
      (λ item. length (places_of code (standing one) from to item)) 0 items (each items same)
    where
      each : (items : List Item) → HaveItems items one other
          → AllByRecursion (λ item. length (places_of code (standing other) from to item)
          ≡ length (places_of code (standing one) from to item)) items
      each [] same = tt
      each (item ∷ items) same = (ap length (places_same item same.0 from to), each items same.1)

  words_same : (items : List Item) → HaveItems items one other → (from to : ℕ)
      → words_between code (standing other) items from to
      ≡ words_between code (standing one) items from to
  words_same [] same from to = refl
  words_same (item ∷ items) same from to =
      ap (λ more. option_and_then (λ words. option_map (λ rest. words ++ rest) more)
      (values_at other.stores item.array (places_of code (standing other) from to item)))
      (words_same items same.1 from to)
      ∙ ap (λ values. option_and_then (λ words. option_map (λ rest. words ++ rest)
      (words_between code (standing one) items from to)) values)
      (ap (values_at other.stores item.array) (places_same item same.0 from to)
      ∙ values_same one.stores other.stores item.array
      (places_of code (standing one) from to item) same.0.1)

  pub sent_to_same : (number : ℕ) (items : List Item) → HaveItems items one other → (p : ℕ)
      → sent_to code number items p other ≡ sent_to code number items p one
  sent_to_same number items same p =
      ap (others_where code p) (fun_ext (λ q. counts_same items same p q))

module _ (code : Tables) (number : ℕ) (items : List Item) (one other : ℕ → Share)
    (same : (p : ℕ) → HaveItems items (one p) (other p)) where
  pub flight_same : flight_of code number items other ≡ flight_of code number items one
  flight_same =
      let to : (λ p. sent_to code number items p (other p)) ≡ (λ p. sent_to code number items p (one p)) =
      fun_ext (λ p. sent_to_same code (one p) (other p) number items (same p) p) in
      let words : (λ p q. unwrap_or (words_sent code number items p (other p) q) [])
      ≡ (λ p q. unwrap_or (words_sent code number items p (one p) q) []) =
      fun_ext (λ p. fun_ext (λ q. ap (λ o. unwrap_or o [])
      (words_same code (one p) (other p) items (same p) p q))) in
      ap₂ (λ t w. record { exchange = number; to = t; words = w }) to words

  pub can_send_same : can_send code number items other ≡ can_send code number items one
  can_send_same =
      let to : (λ p. sent_to code number items p (other p)) ≡ (λ p. sent_to code number items p (one p)) =
      fun_ext (λ p. sent_to_same code (one p) (other p) number items (same p) p) in
      let words : (λ p q. words_sent code number items p (other p) q)
      ≡ (λ p q. words_sent code number items p (one p) q) =
      fun_ext (λ p. fun_ext (λ q. words_same code (one p) (other p) items (same p) p q)) in
      ap₂ (λ t w. every_two code (λ p q. nat_le (times q (t p)) 1)
      && every code (λ p. list_all (λ q. is_some (w p q)) (t p))) to words
