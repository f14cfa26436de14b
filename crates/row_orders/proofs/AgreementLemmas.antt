-- All come to one value: one round up, and one down.
use Rattle.std.proofs.Common.{◌≡◌, ℕ, ◌+◌, ◌-◌, ◌*◌, ◌<◌, ◌≤◌, Bool, true, false, cond, ◌==◌, nat_lt, ℤ, List, [], ◌∷◌, ◌++◌, length, map, replicate, find, fold, if◌then◌else◌, All, Option, Some, None, refl, sym, ◌∙◌, ap, ap₂, subst, arith, append_assoc, append-nil, length-append, lt-ltb, eq-eqb, zero-add}
use Rattle.std.proofs.lemmas.Bool.{ne_eqb}
use Rattle.std.proofs.lemmas.List.{length-map, length-replicate}
use Rattle.std.proofs.lemmas.List.Sums.{sum_by-cons}
use Rattle.std.proofs.lemmas.List.Elements.{All-head, All-tail, All-nil, All-cons}
use Rattle.grid_meaning.specs.of_grid_links.Links.{IsWithin}
use Rattle.grid_meaning.specs.of_grid_links.declared.messages.Message.{Message}
use Rattle.grid_meaning.specs.of_grid_links.Run.{count_of}
use Rattle.grid_meaning.specs.of_node_form.declared.tables.Tables.{Tables}
use Rattle.grid_meaning.specs.Action.{Action}
use Rattle.grid_meaning.specs.Collective.{Collective, Stage, Sends, TakesFrom, Last, Kin, agreed, agreeing_stages, to_parent, joined_values, value_for, value_of_all, word_from, word_or_zero, first_word, kept_with, keeping}
use Rattle.grid_meaning.specs.Grid.{IsCapacity, system_over}
use Rattle.grid_meaning.specs.Local.{Local}
use Rattle.grid_meaning.specs.Turn.{processes}
use Rattle.grid_paths.specs.Path.{AreOthers, Event, Quiet, Sent, Taken, IsPath, messages_to, messages_from, shown_in}
use Rattle.grid_paths.specs.Scene.{Scene, Leads}
use Rattle.grid_paths.specs.Laws.{IsOnceEach, Round}
use Rattle.grid_paths.proofs.RoundLemmas.{leads_agreed, leads_through, runs_in_turn}
use Rattle.grid_paths.specs.Tree.{times, parents}
use Rattle.row_orders.specs.Rows.{at_turn, KeepsRow, IsBlind, taking, IsAtRow, quiet_scene}
use Rattle.row_orders.specs.Agreement.{gathered, Agreeing, Agree}
use Rattle.row_orders.proofs.StageLemmas.{at_row_kept, last_step, sends_path, takes_path}
use Rattle.grid_paths.proofs.EventLemmas.{path_through, messages_to-append, messages_from-append, shown_in-append, named-append, sends_named, takes_named, sends_take_none, takes_send_none, sends_show_none, takes_show_none, sends_send, takes_take}
use Rattle.row_orders.proofs.DeliveryLemmas.{in_order}

pub backwards : (count : ℕ) → IsOnceEach count (λ k. count - 1 - k) (λ p. count - 1 - p)
backwards count = record {
  at_below = λ k below. omega arith;
  place_below = λ p below. omega arith;
  place_at = λ k below. omega arith;
  at_place = λ p below. omega arith;
}

-- ---- the row
pub agreed_keeps : (kin : Kin) (join : ℤ → ℤ → ℤ) (own : Local → ℤ) (last : Local → ℤ → Action)
    (local next : Local) (q : ℕ) (words : List ℤ)
    → keeping local q words ≡ next → KeepsRow (agreed kin join own last) local next
agreed_keeps kin join own last local next q words same =
    subst (KeepsRow (agreed kin join own last) local) same
    (record { at = refl; ended = refl; stages = refl; tag = refl })

pub agreed_blind : (kin : Kin) (join : ℤ → ℤ → ℤ) (own : Local → ℤ) (last : Local → ℤ → Action)
    → ((local : Local) (n : ℕ) → own (at_turn n local) ≡ own local)
    → ((local : Local) (n : ℕ) (value : ℤ) → last (at_turn n local) value ≡ last local value)
    → IsBlind (agreed kin join own last)
agreed_blind kin join own last blind_own blind_last = record {
  stages = λ local n. refl;
  tag = λ local n. refl;
  alone = λ local n. refl;
  words_to = λ local n q. ap (λ v. Some (v ∷ [])) (by_value kin.parent local n q);
  awaits = λ local n q many. refl;
  taken = λ local n q words. refl;
  last = λ local n. blind_last local n _ ∙ ap (last local) (by_all kin.parent local n);
  keeps_alone = λ local next e. cc;
  keeps_taken = λ local next q words e. agreed_keeps kin join own last local next q words cc;
}
  where
    by_joined : (local : Local) (n : ℕ) → joined_values kin join own (at_turn n local)
        ≡ joined_values kin join own local
    by_joined local n = ap (λ v. fold (λ value entry. join value (first_word entry.1)) v local.kept)
        (blind_own local n)

    by_value : (parent : Option ℕ) (local : Local) (n q : ℕ)
        → value_for kin join own parent (at_turn n local) q ≡ value_for kin join own parent local q
    by_value None local n q = by_joined local n
    by_value (Some parent) local n q = ap
        (λ v. if◌then◌else◌ (q == parent) v (word_from local parent)) (by_joined local n)

    by_all : (parent : Option ℕ) (local : Local) (n : ℕ)
        → value_of_all kin join own parent (at_turn n local)
        ≡ value_of_all kin join own parent local
    by_all None local n = by_joined local n
    by_all (Some parent) local n = refl

pub taking_agreed : (kin : Kin) (join : ℤ → ℤ → ℤ) (own : Local → ℤ) (last : Local → ℤ → Action)
    (value : ℕ → ℤ) (local : Local) (from : List ℕ)
    → taking (agreed kin join own last) (λ q. value q ∷ []) local from
    ≡ Some (gathered value local from)
taking_agreed kin join own last value local [] = refl
taking_agreed kin join own last value local (q ∷ from) = taking_agreed kin join own last value
    (keeping local q (value q ∷ [])) from

pub stages_are : (kin : Kin) → agreeing_stages kin
    ≡ map TakesFrom kin.children
    ++ (map Sends (parents kin.parent)
    ++ (map TakesFrom (parents kin.parent) ++ (map Sends kin.children ++ Last ∷ [])))
stages_are kin = ap (λ l. map TakesFrom kin.children ++ l) (by kin.parent)
  where
    by : (o : Option ℕ) → to_parent o ++ (map Sends kin.children ++ Last ∷ [])
        ≡ map Sends (parents o)
        ++ (map TakesFrom (parents o) ++ (map Sends kin.children ++ Last ∷ []))
    by None = refl
    by (Some parent) = refl

-- ---- what is kept
abbrev IsAbove : ℕ → ℕ × List ℤ → Type 0
IsAbove r entry = r < entry.0

kept_all : (r q : ℕ) (words : List ℤ) (kept : List (ℕ × List ℤ)) → r < q → All (IsAbove r) kept
    → All (IsAbove r) (kept_with q words kept)
kept_all r q words [] less all = All-cons (IsAbove r) (q, words) [] less all
kept_all r q words (entry ∷ kept) less all = by (nat_lt q entry.0)
    (kept_all r q words kept less (All-tail (IsAbove r) entry kept all))
  where
    by : (b : Bool) → All (IsAbove r) (kept_with q words kept)
        → All (IsAbove r) (if◌then◌else◌ b ((q, words) ∷ (entry ∷ kept))
        (entry ∷ kept_with q words kept))
    by true rest = All-cons (IsAbove r) (q, words) (entry ∷ kept) less all
    by false rest = All-cons (IsAbove r) entry (kept_with q words kept)
        (All-head (IsAbove r) entry kept all) rest

gathered_above : (r : ℕ) (value : ℕ → ℤ) (local : Local) (from : List ℕ)
    → All (IsAbove r) local.kept → All (λ c. r < c) from
    → All (IsAbove r) (gathered value local from).kept
gathered_above r value local [] kept from_above = kept
gathered_above r value local (q ∷ from) kept from_above =
    gathered_above r value (keeping local q (value q ∷ [])) from
    (kept_all r q (value q ∷ []) local.kept (All-head (λ c. r < c) q from from_above) kept)
    (All-tail (λ c. r < c) q from from_above)

kept_front : (r : ℕ) (words : List ℤ) (kept : List (ℕ × List ℤ)) → All (IsAbove r) kept
    → kept_with r words kept ≡ (r, words) ∷ kept
kept_front r words [] above = refl
kept_front r words (entry ∷ kept) above =
    ap (λ b. if◌then◌else◌ b ((r, words) ∷ (entry ∷ kept)) (entry ∷ kept_with r words kept))
    (lt-ltb r entry.0 (All-head (IsAbove r) entry kept above))

word_kept : (local : Local) (r : ℕ) (value : ℤ) → All (IsAbove r) local.kept
    → word_from (keeping local r (value ∷ [])) r ≡ value
word_kept local r value above =
    ap (λ kept. word_from (record local { kept = kept }) r)
    (kept_front r (value ∷ []) local.kept above)
    ∙ ap (λ b. word_or_zero
    (cond b (Some (r, value ∷ [])) (find (λ entry. entry.0 == r) local.kept))) (eq-eqb r r refl)

-- ---- numbers in lists
pub All-each : {X : Type 0} (P Q : X → Type 0) (xs : List X) → ((x : X) → P x → Q x) → All P xs
    → All Q xs
All-each P Q xs f all = λ i d below. f _ (all i d below)

pub times_below : (p q : ℕ) (numbers : List ℕ) → All (λ c. q < c) numbers → p ≤ q → times p numbers
    ≡ 0
times_below p q [] above less = refl
times_below p q (c ∷ numbers) above less =
    let apart : c ≡ p → ⊥ = λ same. omega
    (arith, All-head (λ k. q < k) c numbers above, same, less) in
    sum_by-cons (λ m. cond (m == p) 1 0) c numbers
    ∙ ap₂ (λ b n. cond b 1 0 + n) (ne_eqb c p apart)
    (times_below p q numbers (All-tail (λ k. q < k) c numbers above) less)

module _ (code : Tables) (links : Option ℕ) (capable : IsCapacity links) (kin : ℕ → Kin)
    (join : ℤ → ℤ → ℤ) (own : Local → ℤ) (last : Local → ℤ → Action)
    (value : ℤ) (one other : ℕ → Local) (shown : ℕ → List ℕ)
    (is : Agreeing code links kin join own last value one other shown) where
  abbrev count : ℕ
  count = count_of (system_over code links)

  abbrev row : ℕ → Collective
  row p = agreed (kin p) join own last

  abbrev above : ℕ → List ℕ
  above p = parents (kin p).parent

  abbrev below_of : ℕ → List ℕ
  below_of p = (kin p).children

  abbrev tag : ℕ
  tag = 2 * is.at + 1

  abbrev up_message : ℕ → Message
  up_message p = record { tag = tag; words = is.sum p ∷ [] }

  abbrev down_message : Message
  down_message = record { tag = tag; words = value ∷ [] }

  abbrev ups : ℕ → List (Event Message)
  ups p = map (λ c. Taken c (up_message c)) (below_of p)
      ++ map (λ q. Sent q (up_message p)) (above p)

  abbrev downs : ℕ → List (Event Message)
  downs p = map (λ q. Taken q down_message) (above p)
      ++ (map (λ c. Sent c down_message) (below_of p) ++ Quiet (shown p) ∷ [])

  abbrev summed : ℕ → Local
  summed p = gathered is.sum (one p) (below_of p)

  abbrev told : ℕ → Local
  told p = gathered (λ q. value) (summed p) (above p)

  abbrev turn : ℕ → ℕ
  turn p = length (below_of p) + length (above p)

  abbrev halfway : Scene Local Message
  halfway = record { locals = λ p. at_turn (turn p) (summed p); links = λ p q. [] }

  blind : (p : ℕ) → IsBlind (row p)
  blind p = agreed_blind (kin p) join own last is.blind_own is.blind_last

  -- the children come behind
  children_above : (p : ℕ) → p < count → All (λ c. p < c) (below_of p)
  children_above p inside = All-each (λ c. (p < c) × (c < count)) (λ c. p < c) (below_of p)
      (λ c both. both.0) (is.children p inside)

  children_others : (p : ℕ) → p < count → AreOthers count p (below_of p)
  children_others p inside = All-each (λ c. (p < c) × (c < count))
      (λ c. (c < count) × ((c == p) ≡ false)) (below_of p)
      (λ c both. (both.1, ne_eqb c p (λ same. omega (arith, both.0, same)))) (is.children p inside)

  parents_others : (p : ℕ) → p < count → AreOthers count p (above p)
  parents_others p inside = by (kin p).parent refl
    where
      by : (o : Option ℕ) → (kin p).parent ≡ o → AreOthers count p (parents o)
      by None e = All-nil (λ q. (q < count) × ((q == p) ≡ false))
      by (Some r) e =
          let less : r < p = is.parent p r inside e in
          All-cons (λ q. (q < count) × ((q == p) ≡ false)) r []
          (omega (arith, less, inside), ne_eqb r p (λ same. omega (arith, less, same)))
          (All-nil (λ q. (q < count) × ((q == p) ≡ false)))

  -- ---- what is said
  summed_above : (p r : ℕ) → p < count → r < p → All (IsAbove r) (summed p).kept
  summed_above p r inside less =
      gathered_above r is.sum (one p) (below_of p)
      (subst (All (IsAbove r)) (sym (is.kept p inside)) (All-nil (IsAbove r)))
      (All-each (λ c. p < c) (λ c. r < c) (below_of p) (λ c more. omega (arith, less, more))
      (children_above p inside))

  up_says : (p : ℕ) → p < count
      → All (λ q. (row p).words_to (summed p) q ≡ Some (is.sum p ∷ [])) (above p)
  up_says p inside = by (kin p).parent
    where
      by : (o : Option ℕ) → All
          (λ q. Some (value_for (kin p) join own o (summed p) q ∷ []) ≡ Some (is.sum p ∷ []))
          (parents o)
      by None = All-nil (λ q. Some (value_for (kin p) join own None (summed p) q ∷ [])
          ≡ Some (is.sum p ∷ []))
      by (Some r) =
          All-cons (λ q. Some (value_for (kin p) join own (Some r) (summed p) q ∷ [])
          ≡ Some (is.sum p ∷ [])) r []
          (ap (λ b. Some (if◌then◌else◌ b (joined_values (kin p) join own (summed p))
          (word_from (summed p) r) ∷ [])) (eq-eqb r r refl)
          ∙ ap (λ v. Some (v ∷ [])) (is.sums p inside))
          (All-nil (λ q. Some (value_for (kin p) join own (Some r) (summed p) q ∷ [])
          ≡ Some (is.sum p ∷ [])))

  word_told : (p r : ℕ) → p < count → r < p → word_from (keeping (summed p) r (value ∷ [])) r
      ≡ value
  word_told p r inside less = word_kept (summed p) r value (summed_above p r inside less)

  down_says : (p : ℕ) → p < count
      → All (λ c. (row p).words_to (told p) c ≡ Some (value ∷ [])) (below_of p)
  down_says p inside = All-each (λ c. (p < c) × (c < count))
      (λ c. (row p).words_to (told p) c ≡ Some (value ∷ [])) (below_of p)
      (λ c both. ap (λ v. Some (v ∷ [])) (by c both.0 (kin p).parent refl)) (is.children p inside)
    where
      by : (c : ℕ) → p < c → (o : Option ℕ) → (kin p).parent ≡ o
          → value_for (kin p) join own o (gathered (λ q. value) (summed p) (parents o)) c ≡ value
      by c more None e = is.sums p inside ∙ is.root p inside e
      by c more (Some r) e =
          let less : r < p = is.parent p r inside e in
          ap (λ b. if◌then◌else◌ b
          (joined_values (kin p) join own (keeping (summed p) r (value ∷ [])))
          (word_from (keeping (summed p) r (value ∷ [])) r))
          (ne_eqb c r (λ same. omega (arith, more, less, same)))
          ∙ word_told p r inside less

  value_told : (p : ℕ) → p < count → value_of_all (kin p) join own (kin p).parent (told p) ≡ value
  value_told p inside = by (kin p).parent refl
    where
      by : (o : Option ℕ) → (kin p).parent ≡ o
          → value_of_all (kin p) join own o (gathered (λ q. value) (summed p) (parents o)) ≡ value
      by None e = is.sums p inside ∙ is.root p inside e
      by (Some r) e = word_told p r inside (is.parent p r inside e)

  -- ---- the paths
  abbrev front : ℕ → List Stage
  front p = map TakesFrom (below_of p) ++ map Sends (above p)

  front_long : (p : ℕ) → length (front p) ≡ turn p
  front_long p =
      length-append (map TakesFrom (below_of p)) (map Sends (above p))
      ∙ ap₂ (λ m n. m + n) (length-map (below_of p) TakesFrom) (length-map (above p) Sends)

  up_path : (p : ℕ) → p < count
      → IsPath (processes code) p (one p) (ups p) (at_turn (turn p) (summed p)) × KeepsRow (row p)
      (one p) (summed p)
  up_path p inside =
      let tagged : (row p).tag (one p) ≡ tag = ap (λ n. 2 * n + 1) (is.same_at p inside) in
      let (took, keeps) = takes_path code p (row p) (one p) (summed p) 0 (length (below_of p)) tag
      (λ c. is.sum c ∷ []) (below_of p) []
      (map Sends (above p) ++ (map TakesFrom (above p) ++ (map Sends (below_of p) ++ Last ∷ [])))
      (is.at_row p inside) (blind p)
      (stages_are (kin p)) refl (sym (zero-add (length (below_of p)))) tagged
      (taking_agreed (kin p) join own last is.sum (one p) (below_of p)) in (
        path_through (processes code) p (one p) _ _ (map (λ c. Taken c (up_message c)) (below_of p))
            (map (λ q. Sent q (up_message p)) (above p))
            (subst (λ l. IsPath (processes code) p l
            (map (λ c. Taken c (up_message c)) (below_of p))
            (at_turn (length (below_of p)) (summed p)))
            (ap (λ n. at_turn n (one p)) (sym (is.made p inside))) took)
            (sends_path code p (row p) (summed p) (length (below_of p)) (turn p) tag
            (λ q. is.sum p ∷ []) (above p) (map TakesFrom (below_of p))
            (map TakesFrom (above p) ++ (map Sends (below_of p) ++ Last ∷ []))
            (at_row_kept code p (row p) (one p) (summed p) keeps (is.at_row p inside))
            (blind p) (stages_are (kin p)) (length-map (below_of p) TakesFrom) refl
            (keeps.tag ∙ tagged)
            (up_says p inside)),
        keeps,
      )

  down_path : (p : ℕ) → p < count
      → IsPath (processes code) p (at_turn (turn p) (summed p)) (downs p) (other p)
  down_path p inside =
      let (up, keeps) = up_path p inside in
      let tagged : (row p).tag (summed p) ≡ tag = keeps.tag
      ∙ ap (λ n. 2 * n + 1) (is.same_at p inside) in
      let at_summed : IsAtRow code p (row p) (summed p) = at_row_kept code p (row p) (one p)
      (summed p) keeps (is.at_row p inside) in
      let rest : List Stage = map Sends (below_of p) ++ Last ∷ [] in
      let (took, more) = takes_path code p (row p) (summed p) (told p) (turn p)
      (turn p + length (above p)) tag (λ q. value ∷ []) (above p) (front p) rest
      at_summed (blind p) (stages_are (kin p)
      ∙ sym (append_assoc (map TakesFrom (below_of p)) (map Sends (above p))
      (map TakesFrom (above p) ++ rest)))
      (front_long p) refl tagged
      (taking_agreed (kin p) join own last (λ q. value) (summed p) (above p)) in
      let at_told : IsAtRow code p (row p) (told p) = at_row_kept code p (row p) (summed p) (told p)
      more at_summed in
      let further : List Stage = front p ++ map TakesFrom (above p) in
      let long : length further ≡ turn p + length (above p) =
      length-append (front p) (map TakesFrom (above p))
      ∙ ap₂ (λ m n. m + n) (front_long p) (length-map (above p) TakesFrom) in
      let all : agreeing_stages (kin p) ≡ further ++ rest =
      stages_are (kin p)
      ∙ (sym (append_assoc (map TakesFrom (below_of p)) (map Sends (above p))
      (map TakesFrom (above p) ++ rest))
      ∙ sym (append_assoc (front p) (map TakesFrom (above p)) rest)) in
      let end : ℕ = turn p + length (above p) + length (below_of p) in
      path_through (processes code) p _ _ (other p) (map (λ q. Taken q down_message) (above p)) _
      took
      (path_through (processes code) p _ _ (other p) (map (λ c. Sent c down_message) (below_of p))
      (Quiet (shown p) ∷ [])
      (sends_path code p (row p) (told p) (turn p + length (above p)) end tag (λ c. value ∷ [])
      (below_of p) further (Last ∷ []) at_told (blind p) all long refl
      (more.tag ∙ tagged) (down_says p inside)) (
        other p,
        last_step code p (row p) (told p) (other p) end (shown p)
            (further ++ map Sends (below_of p)) at_told (blind p)
            (all ∙ sym (append_assoc further (map Sends (below_of p)) (Last ∷ [])))
            (length-append further (map Sends (below_of p))
            ∙ ap₂ (λ m n. m + n) long (length-map (below_of p) Sends))
            (ap (last (told p)) (value_told p inside) ∙ is.ends p inside),
        refl,
      ))

  -- ---- the messages
  ups_send : (p q : ℕ) → messages_to q (ups p) ≡ replicate (times q (above p)) (up_message p)
  ups_send p q =
      messages_to-append q (map (λ c. Taken c (up_message c)) (below_of p))
      (map (λ r. Sent r (up_message p)) (above p))
      ∙ ap₂ (λ a b. a ++ b) (takes_send_none q up_message (below_of p))
      (sends_send q (λ r. up_message p) (above p))

  ups_take : (p q : ℕ) → messages_from p (ups q) ≡ replicate (times p (below_of q)) (up_message p)
  ups_take p q =
      messages_from-append p (map (λ c. Taken c (up_message c)) (below_of q))
      (map (λ r. Sent r (up_message q)) (above q))
      ∙ (ap₂ (λ a b. a ++ b) (takes_take p up_message (below_of q))
      (sends_take_none p (λ r. up_message q) (above q))
      ∙ append-nil (replicate (times p (below_of q)) (up_message p)))

  downs_send : (p q : ℕ) → messages_to q (downs p) ≡ replicate (times q (below_of p)) down_message
  downs_send p q =
      messages_to-append q (map (λ r. Taken r down_message) (above p))
      (map (λ c. Sent c down_message) (below_of p) ++ Quiet (shown p) ∷ [])
      ∙ (ap₂ (λ a b. a ++ b) (takes_send_none q (λ r. down_message) (above p))
      (messages_to-append q (map (λ c. Sent c down_message) (below_of p)) (Quiet (shown p) ∷ []))
      ∙ (append-nil (messages_to q (map (λ c. Sent c down_message) (below_of p)))
      ∙ sends_send q (λ r. down_message) (below_of p)))

  downs_take : (p q : ℕ) → messages_from p (downs q) ≡ replicate (times p (above q)) down_message
  downs_take p q =
      messages_from-append p (map (λ r. Taken r down_message) (above q))
      (map (λ c. Sent c down_message) (below_of q) ++ Quiet (shown q) ∷ [])
      ∙ (ap₂ (λ a b. a ++ b) (takes_take p (λ r. down_message) (above q))
      (messages_from-append p (map (λ c. Sent c down_message) (below_of q)) (Quiet (shown q) ∷ [])
      ∙ ap (λ a. a ++ []) (sends_take_none p (λ r. down_message) (below_of q)))
      ∙ append-nil (replicate (times p (above q)) down_message))

  within_one : (many : ℕ) (message : Message) → many ≤ 1 → IsWithin links (replicate many message)
  within_one many message few = by links capable
    where
      by : (capacity : Option ℕ) → IsCapacity capacity → IsWithin capacity (replicate many message)
      by None able = tt
      by (Some capacity) able = omega (arith, length-replicate many message, few, able)

  up_round : Round (system_over code links) (λ p. count - 1 - p) ups (quiet_scene one) halfway
  up_round = record {
    path = λ p inside. (up_path p inside).0;
    named = λ p inside.
        named-append count p (map (λ c. Taken c (up_message c)) (below_of p))
        (map (λ q. Sent q (up_message p)) (above p))
        (takes_named count p up_message (below_of p) (children_others p inside))
        (sends_named count p (λ q. up_message p) (above p) (parents_others p inside));
    balance = λ p q a b.
        ups_send p q
        ∙ (ap (λ n. replicate n (up_message p)) (sym (is.family q p b a))
        ∙ sym (append-nil (messages_from p (ups q)) ∙ ups_take p q));
    early = λ p q a b sooner.
        let none : times p (below_of q)
        ≡ 0 = times_below p q (below_of q) (children_above q b) (omega arith) in
        subst (λ n. n ≤ 0) (sym
        (ap length (ups_take p q ∙ ap (λ n. replicate n (up_message p)) none))) (omega arith);
    rooms = λ p q a b.
        subst (IsWithin links)
        (sym (ups_send p q ∙ ap (λ n. replicate n (up_message p)) (sym (is.family q p b a))))
        (within_one (times p (below_of q)) (up_message p) (is.once q p b a));
  }

  down_round : Round (system_over code links) (λ p. p) downs halfway (quiet_scene other)
  down_round = record {
    path = down_path;
    named = λ p inside.
        named-append count p (map (λ q. Taken q down_message) (above p))
        (map (λ c. Sent c down_message) (below_of p) ++ Quiet (shown p) ∷ [])
        (takes_named count p (λ q. down_message) (above p) (parents_others p inside))
        (named-append count p (map (λ c. Sent c down_message) (below_of p)) (Quiet (shown p) ∷ [])
        (sends_named count p (λ c. down_message) (below_of p) (children_others p inside)) (tt, tt));
    balance = λ p q a b.
        downs_send p q
        ∙ (ap (λ n. replicate n down_message) (is.family p q a b)
        ∙ sym (append-nil (messages_from p (downs q)) ∙ downs_take p q));
    early = λ p q a b sooner.
        let none : times p (above q) ≡ 0 = sym (is.family p q a b)
        ∙ times_below q p (below_of p) (children_above p a) (omega arith) in
        subst (λ n. n ≤ 0) (sym
        (ap length (downs_take p q ∙ ap (λ n. replicate n down_message) none))) (omega arith);
    rooms = λ p q a b.
        subst (IsWithin links) (sym (downs_send p q))
        (within_one (times q (below_of p)) down_message (is.once p q a b));
  }

  agreed_all : Leads (system_over code links) (quiet_scene one) (quiet_scene other)
      (λ p. length (agreeing_stages (kin p))) shown
  agreed_all =
      leads_agreed (system_over code links) (quiet_scene one) (quiet_scene other) (quiet_scene one)
      (quiet_scene other) _ _ _ _
      (record { local = λ p inside. refl; link = λ p q a b. refl })
      (record { local = λ p inside. refl; link = λ p q a b. refl })
      (λ p inside. long p) (λ p inside. show p)
      (leads_through (system_over code links) (quiet_scene one) halfway (quiet_scene other) _ _ _ _
      (runs_in_turn (system_over code links) (λ k. count - 1 - k) (λ p. count - 1 - p) ups
      (quiet_scene one) halfway (backwards count) up_round)
      (runs_in_turn (system_over code links) (λ k. k) (λ p. p) downs halfway (quiet_scene other)
      (in_order count) down_round))
    where
      long : (p : ℕ) → length (ups p) + length (downs p) ≡ length (agreeing_stages (kin p))
      long p =
          let a : List Stage = map TakesFrom (below_of p) in
          omega (
            arith,
            ap length (stages_are (kin p)),
            length-append (map (λ c. Taken c (up_message c)) (below_of p))
                (map (λ q. Sent q (up_message p)) (above p)),
            length-append (map (λ q. Taken q down_message) (above p))
                (map (λ c. Sent c down_message) (below_of p) ++ Quiet (shown p) ∷ []),
            length-append (map (λ c. Sent c down_message) (below_of p)) (Quiet (shown p) ∷ []),
            length-append a (map Sends (above p)
                ++ (map TakesFrom (above p) ++ (map Sends (below_of p) ++ Last ∷ []))),
            length-append (map Sends (above p))
                (map TakesFrom (above p) ++ (map Sends (below_of p) ++ Last ∷ [])),
            length-append (map TakesFrom (above p)) (map Sends (below_of p) ++ Last ∷ []),
            length-append (map Sends (below_of p)) (Last ∷ []),
            length-map (below_of p) TakesFrom,
            length-map (below_of p) Sends,
            length-map (above p)
                TakesFrom,
            length-map (above p) Sends,
            length-map (below_of p) (took up_message),
            length-map (above p)
                (sent (λ q. up_message p)),
            length-map (above p) (took (λ q. down_message)),
            length-map (below_of p) (sent (λ q. down_message)),
          )
        where
          took : (ℕ → Message) → ℕ → Event Message
          took message q = Taken q (message q)

          sent : (ℕ → Message) → ℕ → Event Message
          sent message q = Sent q (message q)

      show : (p : ℕ) → shown_in (ups p) ++ shown_in (downs p) ≡ shown p
      show p =
          ap₂ (λ x y. x ++ y)
          (shown_in-append (map (λ c. Taken c (up_message c)) (below_of p))
          (map (λ q. Sent q (up_message p)) (above p))
          ∙ ap₂ (λ x y. x ++ y) (takes_show_none up_message (below_of p))
          (sends_show_none (λ q. up_message p) (above p)))
          (shown_in-append (map (λ q. Taken q down_message) (above p))
          (map (λ c. Sent c down_message) (below_of p) ++ Quiet (shown p) ∷ [])
          ∙ ap₂ (λ x y. x ++ y) (takes_show_none (λ q. down_message) (above p))
          (shown_in-append (map (λ c. Sent c down_message) (below_of p)) (Quiet (shown p) ∷ [])
          ∙ ap₂ (λ x y. x ++ y) (sends_show_none (λ c. down_message) (below_of p))
          (append-nil (shown p))))

pub agrees : (code : Tables) (links : Option ℕ) → IsCapacity links → Agree code links
agrees code links capable kin join own last value one other shown is = agreed_all code links capable
    kin join own last value one other shown is
