-- A remap read on one processor: what its turns are when they are counted.
use Rattle.std.proofs.Common.{suc, ◌≡◌, ℕ, ◌+◌, ◌-◌, ◌*◌, ◌%◌, ◌<◌, ◌≤◌, ◌==◌, nat_le, Bool, true, false, not, cond, ℤ, List, [], ◌∷◌, ◌++◌, drop, filter, length, map, All, Option, Some, None, option_map, option_and_then, refl, sym, ◌∙◌, ap, subst, arith, if◌then◌else◌}
use Rattle.std.specs.Prelude.{nat_lt}
use Rattle.std.proofs.Math.Seq.{drop-append_seam}
use Rattle.std.proofs.lemmas.List.Elements.{All-nil, All-cons, All-head, All-tail, All-filter}
use Rattle.zpl_arrays.specs.Array.{Array}
use Rattle.grid_paths.specs.Tree.{times}
use Rattle.node_form.specs.declared.arrays.ArrayRow.{ArrayRow}
use Rattle.node_form.specs.declared.tables.Tables.{Tables}
use Rattle.grid_meaning.specs.Collective.{Collective, Stage, Alone, Sends, TakesFrom, Last, kept_with, keeping, others}
use Rattle.grid_meaning.specs.Local.{Local, processor_numbers, processors}
use Rattle.grid_meaning.specs.Place.{with_values}
use Rattle.grid_meaning.specs.Remap.{Want, answer, first_values, owns_all, remap_own, remapped, request, request_taken, some_wants, wants, wants_at_once, written}
use Rattle.grid_meaning.proofs.RemapLemmas.{IfApart, IsApart, values_apart}
use Rattle.row_orders.proofs.PartnerLemmas.{below-range, same_turned, times-filter, times-range}
use Rattle.plan_meaning.specs.Messages.{receivers, senders}
use Rattle.row_orders.specs.Rows.{taken_where, taking}
use Rattle.plan_orders.proofs.ChainLemmas.{re}

-- ---- the others
pub record IsOther (code : Tables) (p q : ℕ) : Type 0 where
  pub below : q < processors code
  pub apart : (q == p) ≡ false

passing : (test : ℕ → Bool) (ms : List ℕ) → All (λ q. test q ≡ true) (filter test ms)
passing test [] = All-nil (λ q. test q ≡ true)
passing test (m ∷ ms) = by (test m) refl (passing test ms)
  where
    by : (b : Bool) → test m ≡ b → All (λ q. test q ≡ true) (filter test ms)
        → All (λ q. test q ≡ true) (cond b (m ∷ filter test ms) (filter test ms))
    by true e rest = All-cons (λ q. test q ≡ true) m (filter test ms) e rest
    by false e rest = rest

pub are_others : (code : Tables) (p : ℕ) → All (IsOther code p) (others code p)
are_others code p = λ i d less. record {
  below =
      All-filter _ (λ q. q < processors code) (processor_numbers code)
      (below-range 0 (processors code) (processors code) (omega arith)) i d less;
  apart = turned _ (passing (λ q. not (q == p)) (processor_numbers code) i d less);
}
  where
    turned : (q : ℕ) → not (q == p) ≡ true → (q == p) ≡ false
    turned q e = by (q == p) e
      where
        by : (b : Bool) → not b ≡ true → b ≡ false
        by true h = cc
        by false h = refl

pub others_times : (code : Tables) (p q : ℕ) → q < processors code
    → times q (others code p) ≡ cond (not (q == p)) 1 0
others_times code p q below =
    times-filter (λ r. not (r == p)) q (processor_numbers code)
    ∙ ap (λ n. cond (not (q == p)) n 0)
    (times-range q 0 (processors code) (omega arith) (omega (arith, below)))

pub others_both : (code : Tables) (p q : ℕ) → p < processors code → q < processors code
    → (times q (others code p) ≡ times p (others code q)) × (times q (others code p) ≤ 1)
others_both code p q a b = (
  others_times code p q b
      ∙ (ap (λ e. cond (not e) 1 0) (same_turned p q) ∙ sym (others_times code q p a)),
  subst (λ n. n ≤ 1) (sym (others_times code p q b)) (few (not (q == p))),
)
  where
    few : (b : Bool) → cond b 1 0 ≤ 1
    few true = omega arith
    few false = omega arith

-- ---- who is in stages
pub sends_in : (to : List ℕ) (rest : List Stage)
    → receivers (map Sends to ++ rest) ≡ to ++ receivers rest
sends_in [] rest = refl
sends_in (q ∷ to) rest = ap (λ l. q ∷ l) (sends_in to rest)

pub takes_out : (from : List ℕ) (rest : List Stage)
    → receivers (map TakesFrom from ++ rest) ≡ receivers rest
takes_out [] rest = refl
takes_out (q ∷ from) rest = takes_out from rest

pub takes_in : (from : List ℕ) (rest : List Stage)
    → senders (map TakesFrom from ++ rest) ≡ from ++ senders rest
takes_in [] rest = refl
takes_in (q ∷ from) rest = ap (λ l. q ∷ l) (takes_in from rest)

pub sends_out : (to : List ℕ) (rest : List Stage) → senders (map Sends to ++ rest) ≡ senders rest
sends_out [] rest = refl
sends_out (q ∷ to) rest = sends_out to rest

abbrev pub names_of : List (ℕ × List ℤ) → List ℕ
names_of kept = map (λ entry. entry.0) kept

pub sends_to_names : (kept : List (ℕ × List ℤ))
    → map (λ entry. Sends entry.0) kept ≡ map Sends (names_of kept)
sends_to_names [] = refl
sends_to_names (entry ∷ kept) = ap (λ l. Sends entry.0 ∷ l) (sends_to_names kept)

-- the stages of a remap read: requests, and then answers to these, and from those
abbrev pub asking_stages : List ℕ → List ℕ → List ℕ → List Stage
asking_stages all back_to back_from =
    Alone ∷ (map Sends all ++ (map TakesFrom all
    ++ (map Sends back_to ++ (map TakesFrom back_from ++ Last ∷ []))))

pub receivers_are : (all back_to back_from : List ℕ)
    → drop (length all) (receivers (asking_stages all back_to back_from)) ≡ back_to
receivers_are all back_to back_from =
    ap (drop (length all))
    (sends_in all _
    ∙ ap (λ l. all ++ l)
    (takes_out all _
    ∙ (sends_in back_to (map TakesFrom back_from ++ Last ∷ [])
    ∙ (ap (λ l. back_to ++ l) (takes_out back_from (Last ∷ [])) ∙ none back_to))))
    ∙ drop-append_seam all back_to
  where
    none : (xs : List ℕ) → xs ++ [] ≡ xs
    none [] = refl
    none (x ∷ xs) = ap (λ l. x ∷ l) (none xs)

pub senders_are : (all back_to back_from : List ℕ)
    → drop (length all) (senders (asking_stages all back_to back_from)) ≡ back_from
senders_are all back_to back_from =
    ap (drop (length all))
    (sends_out all _
    ∙ (takes_in all _
    ∙ ap (λ l. all ++ l)
    (sends_out back_to (map TakesFrom back_from ++ Last ∷ [])
    ∙ (takes_in back_from (Last ∷ []) ∙ none back_from))))
    ∙ drop-append_seam all back_from
  where
    none : (xs : List ℕ) → xs ++ [] ≡ xs
    none [] = refl
    none (x ∷ xs) = ap (λ l. x ∷ l) (none xs)

-- ---- kept words
kept_others : (P : ℕ → Type 0) (q : ℕ) (words : List ℤ) (kept : List (ℕ × List ℤ)) → P q
    → All P (names_of kept) → All P (names_of (kept_with q words kept))
kept_others P q words [] is all = All-cons P q [] is (All-nil P)
kept_others P q words (entry ∷ kept) is all =
    by (nat_lt q entry.0)
    (kept_others P q words kept is (All-tail P entry.0 (names_of kept) all))
  where
    by : (b : Bool) → All P (names_of (kept_with q words kept))
        → All P (names_of (if b then (q, words) ∷ (entry ∷ kept)
        else entry ∷ kept_with q words kept))
    by true rest = All-cons P q (names_of (entry ∷ kept)) is all
    by false rest =
        All-cons P entry.0 (names_of (kept_with q words kept))
        (All-head P entry.0 (names_of kept) all) rest

-- ---- such a row
module _ (code : Tables) (p array slot from : ℕ) (parts : List ℕ) (row : ArrayRow) where
  abbrev pub Row : Collective
  Row = remapped code p array slot from parts row

  abbrev pub most : ℕ
  most = 2 * (processors code - 1)

  stored_re : (at m : ℕ) (local : Local) (o : Option (List Array))
      → option_map (λ stores. record (re at m local) { stores = stores }) o
      ≡ option_map (re at m) (option_map (λ stores. record local { stores = stores }) o)
  stored_re at m local None = refl
  stored_re at m local (Some stores) = refl

  pub alone_re : (at m : ℕ) (local : Local)
      → Row.alone (re at m local) ≡ option_map (re at m) (Row.alone local)
  alone_re at m local = by (wants code p array slot from parts row local)
    where
      valued : (first : List Want) (o : Option (List ℤ))
          → option_and_then (λ values. written code p array slot from parts row first values
          (re at m local)) o
          ≡ option_map (re at m) (option_and_then (λ values. written code p array slot from parts
          row first values local) o)
      valued first None = refl
      valued first (Some values) =
          stored_re at m local (with_values array (map (λ want. want.index) first) values
          local.stores)

      by : (o : Option (List Want))
          → option_and_then (remap_own code p array slot from parts row (re at m local)) o
          ≡ option_map (re at m)
          (option_and_then (remap_own code p array slot from parts row local) o)
      by None = refl
      by (Some all) =
          valued (wants_at_once code p array slot from parts row all)
          (first_values code p array slot from parts row local
          (wants_at_once code p array slot from parts row all))

  -- only stores change
  pub record IsStored (local next : Local) : Type 0 where
    pub stores : List Array
    pub is : next ≡ record local { stores = stores }
    pub apart : IsApart array local.stores stores

  written_stored : (which : List Want) (values : List ℤ) (local next : Local)
      → written code p array slot from parts row which values local ≡ Some next
      → IsStored local next
  written_stored which values local next e =
      by (with_values array (map (λ want. want.index) which) values local.stores)
      (values_apart array (map (λ want. want.index) which) values local.stores) e
    where
      by : (o : Option (List Array)) → IfApart array local.stores o
          → option_map (λ stores. record local { stores = stores }) o ≡ Some next
          → IsStored local next
      by None apart e = cc
      by (Some stores) apart e =
          let same : record local { stores = stores } ≡ next = cc in
          record { stores = stores; is = sym same; apart = apart }

  pub alone_stored : (local next : Local) → Row.alone local ≡ Some next → IsStored local next
  alone_stored local next e = by (wants code p array slot from parts row local) e
    where
      valued : (first : List Want) (o : Option (List ℤ))
          → option_and_then (λ values. written code p array slot from parts row first values local)
          o ≡ Some next → IsStored local next
      valued first None e = cc
      valued first (Some values) e = written_stored first values local next e

      by : (o : Option (List Want))
          → option_and_then (remap_own code p array slot from parts row local) o ≡ Some next
          → IsStored local next
      by None e = cc
      by (Some all) e =
          valued (wants_at_once code p array slot from parts row all)
          (first_values code p array slot from parts row local
          (wants_at_once code p array slot from parts row all)) e

  -- ---- turns that are counted otherwise, on the same side of the requests
  pub words_same : (at m k : ℕ) (base : Local) (q : ℕ) → nat_le m most ≡ nat_le k most
      → Row.words_to (re at m base) q ≡ Row.words_to (record base { made = k }) q
  words_same at m k base q same =
      ap (λ b. if b then option_map (request code p array slot from parts row q)
      (wants code p array slot from parts row base)
      else answer code p array slot from parts row base q) same

  pub awaits_same : (at m : ℕ) (base : Local) (q many : ℕ)
      → nat_le m most ≡ nat_le base.made most
      → Row.awaits (re at m base) q many ≡ Row.awaits base q many
  awaits_same at m base q many same =
      ap (λ b. if b then many % row.rank == 0
      else many == length (some_wants code p array slot from parts row
      (wants code p array slot from parts row base) q)) same

  request_re : (at m : ℕ) (base : Local) (q : ℕ) (words : List ℤ) (owns : Bool)
      → request_taken code p array slot from parts row (re at m base) q words owns
      ≡ option_map (re at m) (request_taken code p array slot from parts row base q words owns)
  request_re at m base q words true = by (length words == 0)
    where
      by : (b : Bool)
          → Some (if b then re at m base else keeping (re at m base) q words)
          ≡ option_map (re at m) (Some (if b then base else keeping base q words))
      by true = refl
      by false = refl
  request_re at m base q words false = refl

  pub taken_same : (at m : ℕ) (base : Local) (q : ℕ) (words : List ℤ)
      → nat_le m most ≡ nat_le base.made most
      → Row.taken (re at m base) q words ≡ option_map (re at m) (Row.taken base q words)
  taken_same at m base q words same =
      ap (λ b. if b then request_taken code p array slot from parts row (re at m base) q words
      (owns_all code p array slot from parts row words)
      else written code p array slot from parts row (some_wants code p array slot from parts row
      (wants code p array slot from parts row base) q) words (re at m base)) same
      ∙ by (nat_le base.made most)
    where
      by : (b : Bool)
          → (if b then request_taken code p array slot from parts row (re at m base) q words
          (owns_all code p array slot from parts row words)
          else written code p array slot from parts row (some_wants code p array slot from parts row
          (wants code p array slot from parts row base) q) words (re at m base))
          ≡ option_map (re at m)
          (if b then request_taken code p array slot from parts row base q words
          (owns_all code p array slot from parts row words)
          else written code p array slot from parts row (some_wants code p array slot from parts row
          (wants code p array slot from parts row base) q) words base)
      by true = request_re at m base q words (owns_all code p array slot from parts row words)
      by false =
          stored_re at m base (with_values array (map (λ want. want.index)
          (some_wants code p array slot from parts row
          (wants code p array slot from parts row base) q)) words base.stores)

  -- ---- what is kept while requests are taken, and while answers are
  pub record Asks (base : Local) : Type 0 where
    pub runs : base.ended ≡ None
    pub made : base.made ≡ 1
    pub kept : All (IsOther code p) (names_of base.kept)

  asked_taken : (base next : Local) (q : ℕ) (words : List ℤ) (owns : Bool) → Asks base
      → IsOther code p q
      → request_taken code p array slot from parts row base q words owns ≡ Some next → Asks next
  asked_taken base next q words true asks is e = by (length words == 0) e
    where
      by : (b : Bool) → Some (if b then base else keeping base q words) ≡ Some next → Asks next
      by true e = let same : base ≡ next = cc in subst Asks same asks
      by false e =
          let same : keeping base q words ≡ next = cc in
          subst Asks same (record {
            runs = asks.runs;
            made = asks.made;
            kept = kept_others (IsOther code p) q words base.kept is asks.kept;
          })
  asked_taken base next q words false asks is e = cc

  pub asks_keep : nat_le 1 most ≡ true → (base next : Local) (q : ℕ) (words : List ℤ)
      → Asks base → IsOther code p q → Row.taken base q words ≡ Some next → Asks next
  asks_keep some base next q words asks is e =
      asked_taken base next q words (owns_all code p array slot from parts row words) asks is
      (sym (ap (λ b. if b then request_taken code p array slot from parts row base q words
      (owns_all code p array slot from parts row words)
      else written code p array slot from parts row (some_wants code p array slot from parts row
      (wants code p array slot from parts row base) q) words base)
      (ap (λ k. nat_le k most) asks.made ∙ some)) ∙ e)

  pub record Answers (first base : Local) : Type 0 where
    pub runs : base.ended ≡ None
    pub made : base.made ≡ 1 + most
    pub kept : base.kept ≡ first.kept
    pub slots : base.slots ≡ first.slots
    pub apart : IsApart array first.stores base.stores

  pub answers_keep : nat_le (1 + most) most ≡ false → (first base next : Local) (q : ℕ)
      (words : List ℤ) → Answers first base → Row.taken base q words ≡ Some next
      → Answers first next
  answers_keep later first base next q words answers e =
      let stored : IsStored base next =
      written_stored (some_wants code p array slot from parts row
      (wants code p array slot from parts row base) q) words base next
      (sym (ap (λ b. if b then request_taken code p array slot from parts row base q words
      (owns_all code p array slot from parts row words)
      else written code p array slot from parts row (some_wants code p array slot from parts row
      (wants code p array slot from parts row base) q) words base)
      (ap (λ k. nat_le k most) answers.made ∙ later)) ∙ e) in
      subst (Answers first) (sym stored.is) (record {
        runs = answers.runs;
        made = answers.made;
        kept = answers.kept;
        slots = answers.slots;
        apart = record {
          same = λ other apart. stored.apart.same other apart ∙ answers.apart.same other apart;
        };
      })

  -- ---- the stages
  abbrev pub back_from : Local → List ℕ
  back_from local =
      filter (λ q. nat_le 1 (length (some_wants code p array slot from parts row
      (wants code p array slot from parts row local) q))) (others code p)

  pub stages_are : (local : Local)
      → Row.stages local
      ≡ asking_stages (others code p) (names_of local.kept) (back_from local)
  stages_are local =
      ap (λ l. Alone ∷ (map Sends (others code p) ++ (map TakesFrom (others code p)
      ++ (l ++ (map TakesFrom (back_from local) ++ Last ∷ []))))) (sends_to_names local.kept)

  -- ---- how many requests are kept
  kept_more : (q : ℕ) (words : List ℤ) (kept : List (ℕ × List ℤ))
      → length (kept_with q words kept) ≤ length kept + 1
  kept_more q words [] = omega arith
  kept_more q words (entry ∷ kept) = by (nat_lt q entry.0) (kept_more q words kept)
    where
      by : (b : Bool) → length (kept_with q words kept) ≤ length kept + 1
          → length (if b then (q, words) ∷ (entry ∷ kept) else entry ∷ kept_with q words kept)
          ≤ suc (length kept) + 1
      by true rest = omega arith
      by false rest = omega (arith, rest)

  request_more : (base next : Local) (q : ℕ) (words : List ℤ) (owns : Bool)
      → request_taken code p array slot from parts row base q words owns ≡ Some next
      → length next.kept ≤ length base.kept + 1
  request_more base next q words true e = by (length words == 0) e
    where
      by : (b : Bool) → Some (if b then base else keeping base q words) ≡ Some next
          → length next.kept ≤ length base.kept + 1
      by true e =
          let same : base ≡ next = cc in
          let alike = ap (λ l. length l.kept) same in
          omega (arith, alike)
      by false e =
          let same : keeping base q words ≡ next = cc in
          let alike = ap (λ l. length l.kept) same in
          let more = kept_more q words base.kept in
          omega (arith, alike, more)
  request_more base next q words false e = cc

  taken_more : (base next : Local) (q : ℕ) (words : List ℤ)
      → Row.taken base q words ≡ Some next → length next.kept ≤ length base.kept + 1
  taken_more base next q words e = by (nat_le base.made most) e
    where
      by : (b : Bool)
          → (if b then request_taken code p array slot from parts row base q words
          (owns_all code p array slot from parts row words)
          else written code p array slot from parts row (some_wants code p array slot from parts row
          (wants code p array slot from parts row base) q) words base) ≡ Some next
          → length next.kept ≤ length base.kept + 1
      by true e =
          request_more base next q words (owns_all code p array slot from parts row words) e
      by false e =
          let stored = written_stored (some_wants code p array slot from parts row
          (wants code p array slot from parts row base) q) words base next e in
          let alike = ap (λ l. length l.kept) stored.is in
          omega (arith, alike)

  pub taking_more : (words : ℕ → List ℤ) (qs : List ℕ) (base final : Local)
      → taking Row words base qs ≡ Some final
      → length final.kept ≤ length base.kept + length qs
  taking_more words [] base final e =
      let same : base ≡ final = cc in
      let alike = ap (λ l. length l.kept) same in
      omega (arith, alike)
  taking_more words (q ∷ qs) base final e =
      by (Row.awaits base q (length (words q))) (Row.taken base q (words q)) refl e
      (λ next. taking_more words qs next final)
    where
      by : (b : Bool) (o : Option Local) → Row.taken base q (words q) ≡ o
          → option_and_then (λ next. taking Row words next qs) (taken_where b o) ≡ Some final
          → ((next : Local) → taking Row words next qs ≡ Some final
          → length final.kept ≤ length next.kept + length qs)
          → length final.kept ≤ length base.kept + length (q ∷ qs)
      by true None takes e rest = cc
      by true (Some next) takes e rest =
          let first = taken_more base next q (words q) takes in
          let later = rest next e in
          omega (arith, first, later)
      by false o takes e rest = cc
