-- An exchange seen as writes: each processor writes what owners have at the places that it needs.
use Rattle.std.proofs.Common.{◌≡◌, ◌⊎◌, inl, inr, refl, sym, ◌∙◌, ap, ap₂, subst, arith, ℕ, zero, suc}
use Rattle.std.proofs.Common.{◌+◌, ◌<◌, ◌≤◌, Bool, true, false, List, [], ◌∷◌, ◌++◌, length, map, ℤ, pos}
use Rattle.std.proofs.Common.{Option, Some, None, is_some, eq-eqb, ltb-true, true≢false, length-append}
use Rattle.std.proofs.Common.{take, drop}
use Rattle.std.proofs.lemmas.Bool.Decides.{nat_tests}
use Rattle.std.proofs.lemmas.List.{length-map}
use Rattle.std.proofs.lemmas.List.Sums.{sum_by-cons}
use Rattle.std.proofs.Math.Path.{fun_ext}
use Rattle.std.specs.Prelude.{◌&&◌, ◌==◌, flat_map, if◌then◌else◌, nat_le, nat_lt, not}
use Rattle.std.specs.Prelude.{option_and_then, slice_get, sum_by, unwrap_or}
use Rattle.std.specs.List.{list_all, range_with_len}
use Rattle.std.specs.Option.{option_map}
use Rattle.zpl_region.specs.declared.regions.Region.{Region}
use Rattle.zpl_region.proofs.ListLemmas.{Among, Among-append_left, Among-append_right, Among-filter}
use Rattle.zpl_region.proofs.ListLemmas.{Among-map, among_appended, among_filtered, among_mapped}
use Rattle.zpl_arrays.specs.Array.{Array}
use Rattle.grid_paths.specs.Tree.{times}
use Rattle.code_parts.specs.Early.{is_roomy}
use Rattle.node_form.specs.declared.arrays.Item.{Item}
use Rattle.node_form.specs.declared.tables.Tables.{Tables}
use Rattle.grid_meaning.specs.Collective.{others, others_where}
use Rattle.grid_meaning.specs.Exchange.{places_in, word_count, words_between, words_written}
use Rattle.grid_meaning.specs.Local.{Local, processor_numbers, processors}
use Rattle.grid_meaning.specs.Place.{value_at, values_at, with_value, with_values}
use Rattle.row_orders.specs.Rows.{ArePartners, taken_where, taking}
use Rattle.row_orders.proofs.PartnerLemmas.{partners_by_words}
use Rattle.row_runs.specs.Run.{Wrong}
use Rattle.row_runs.specs.Straight.{Flow, Halts, OnTo}
use Rattle.needs_runs.specs.of_plan_meaning.Abreast.{Abreast, Share, every, locals_of, of_processors, share_of}
use Rattle.needs_runs.specs.of_plan_meaning.Abreast.{standing}
use Rattle.needs_runs.specs.of_plan_meaning.Messages.{does_well, from_of, leaves_row, next_or, next_with}
use Rattle.plan_passes.proofs.AwaitLemmas.{Await, Ready}
use Rattle.plan_passes.proofs.FinishLemmas.{finish_row}
use Rattle.plan_passes.proofs.StartLemmas.{sent_to, words_sent}
use Rattle.plan_passes.proofs.UnitLemmas.{all_well, exchange_flow, flow_where, outcome, partners, quiet}
use Rattle.plan_passes.proofs.UnitLemmas.{received, senders_takes, sent_flight, share_is, starts, well_is}
use Rattle.plan_passes.proofs.WriteLemmas.{Write, put, written}

-- ---- lists
pub among_flat : {X Y : Type 0} (f : X → List Y) (xs : List X) (y : Y) → Among (flat_map f xs) y
    → (x : X) × Among xs x × Among (f x) y
among_flat f [] y among = absurd among
among_flat {X = X} f (x ∷ xs) y among =
    by (among_appended (f x) (flat_map f xs) y among) (among_flat f xs y)
  where
    by : Among (f x) y ⊎ Among (flat_map f xs) y
        → (Among (flat_map f xs) y → (z : X) × Among xs z × Among (f z) y)
        → (z : X) × Among (x ∷ xs) z × Among (f z) y
    by (inl here) more = (x, inl refl, here)
    by (inr later) more = let (z, one, two) = more later in (z, inr one, two)

pub flat_among : {X Y : Type 0} (f : X → List Y) (xs : List X) (x : X) (y : Y) → Among xs x
    → Among (f x) y → Among (flat_map f xs) y
flat_among f [] x y one two = absurd one
flat_among f (z ∷ xs) x y (inl same) two =
    Among-append_left (f z) (flat_map f xs) y (subst (λ w. Among (f w) y) (sym same) two)
flat_among f (z ∷ xs) x y (inr one) two =
    Among-append_right (f z) (flat_map f xs) y (flat_among f xs x y one two)

take_front : {X : Type 0} (k : ℕ) (xs ys : List X) → length xs ≡ k → take k (xs ++ ys) ≡ xs
take_front zero [] ys e = refl
take_front zero (x ∷ xs) ys e = absurd (omega (arith, e))
take_front (suc k) [] ys e = absurd (omega (arith, e))
take_front (suc k) (x ∷ xs) ys e = ap (λ l. x ∷ l) (take_front k xs ys (omega (arith, e)))

drop_front : {X : Type 0} (k : ℕ) (xs ys : List X) → length xs ≡ k → drop k (xs ++ ys) ≡ ys
drop_front zero [] ys e = refl
drop_front zero (x ∷ xs) ys e = absurd (omega (arith, e))
drop_front (suc k) [] ys e = absurd (omega (arith, e))
drop_front (suc k) (x ∷ xs) ys e = drop_front k xs ys (omega (arith, e))

then_alike : {X Y : Type 0} (f g : X → Option Y) (o : Option X) → ((x : X) → f x ≡ g x)
    → option_and_then f o ≡ option_and_then g o
then_alike f g None same = refl
then_alike f g (Some x) same = same x

-- ---- processors
among_range : (a n q : ℕ) → Among (range_with_len a n) q → (a ≤ q) × (q < a + n)
among_range a zero q among = absurd among
among_range a (suc n) q (inl same) = (omega (arith, same), omega (arith, same))
among_range a (suc n) q (inr later) =
    let (low, high) = among_range (a + 1) n q later in (omega (arith, low), omega (arith, high))

range_among : (a n q : ℕ) → a ≤ q → q < a + n → Among (range_with_len a n) q
range_among a zero q low high = absurd (omega (arith, low, high))
range_among a (suc n) q low high = by (a == q) refl (range_among (a + 1) n q)
  where
    by : (b : Bool) → (a == q) ≡ b
        → (a + 1 ≤ q → q < a + 1 + n → Among (range_with_len (a + 1) n) q)
        → Among (range_with_len a (suc n)) q
    by true e more = inl (let same : a ≡ q = grind (arith, nat_tests, e) in same)
    by false e more =
        inr (more (let higher : a + 1 ≤ q = grind (arith, nat_tests, e, low) in higher)
        (omega (arith, high)))

list_all_at : (test : ℕ → Bool) (ns : List ℕ) → list_all test ns ≡ true → (n : ℕ) → Among ns n
    → test n ≡ true
list_all_at test [] e n among = absurd among
list_all_at test (m ∷ ns) e n among =
    by (test m) (list_all test ns) refl refl e among (λ two later. list_all_at test ns two n later)
  where
    by : (a b : Bool) → test m ≡ a → list_all test ns ≡ b → (a && b) ≡ true → Among (m ∷ ns) n
        → (list_all test ns ≡ true → Among ns n → test n ≡ true) → test n ≡ true
    by true true one two e (inl same) more = subst (λ k. test k ≡ true) same one
    by true true one two e (inr later) more = more two later
    by true false one two e k more = absurd (true≢false (sym e))
    by false b one two e k more = absurd (true≢false (sym e))

all_list : (test : ℕ → Bool) (ns : List ℕ) → ((n : ℕ) → Among ns n → test n ≡ true)
    → list_all test ns ≡ true
all_list test [] all = refl
all_list test (m ∷ ns) all =
    ap (λ b. b && list_all test ns) (all m (inl refl)) ∙ all_list test ns (λ n k. all n (inr k))

pub every_at : (code : Tables) (test : ℕ → Bool) → every code test ≡ true → (p : ℕ)
    → p < processors code → test p ≡ true
every_at code test e p below =
    list_all_at test (processor_numbers code) e p
    (range_among 0 (processors code) p (omega arith) (omega (arith, below)))

pub at_every : (code : Tables) (test : ℕ → Bool)
    → ((p : ℕ) → p < processors code → test p ≡ true) → every code test ≡ true
at_every code test all =
    all_list test (processor_numbers code) (λ p among.
    all p (let is = among_range 0 (processors code) p among in
    let low = is.1 in omega (arith, low)))

other_is : (code : Tables) (p q : ℕ) (many : ℕ → ℕ) → Among (others_where code p many) q
    → (q < processors code) × ((q == p) ≡ false) × (nat_lt 0 (many q) ≡ true)
other_is code p q many among =
    let (one, some) = among_filtered (λ q. nat_lt 0 (many q)) (others code p) q among in
    let (two, apart) = among_filtered (λ q. not (q == p)) (processor_numbers code) q one in
    let is = among_range 0 (processors code) q two in
    let below = is.1 in (omega (arith, below), by (q == p) apart, some)
  where
    by : (b : Bool) → not b ≡ true → b ≡ false
    by true e = absurd (true≢false (sym e))
    by false e = refl

is_other : (code : Tables) (p q : ℕ) (many : ℕ → ℕ) → q < processors code → (q == p) ≡ false
    → nat_lt 0 (many q) ≡ true → Among (others_where code p many) q
is_other code p q many below apart some =
    Among-filter (λ q. nat_lt 0 (many q)) (others code p) q
    (Among-filter (λ q. not (q == p)) (processor_numbers code) q
    (range_among 0 (processors code) q (omega arith) (omega (arith, below))) (ap not apart)) some

some_test : (m : ℕ) → 0 < m → nat_lt 0 m ≡ true
some_test m some = grind (arith, nat_tests, some)

-- ---- options
both_some : {X Y Z : Type 0} (f : X → Y → Z) (o : Option X) (r : Option Y)
    → is_some (option_and_then (λ x. option_map (f x) r) o) ≡ true
    → (is_some o ≡ true) × (is_some r ≡ true)
both_some f None r e = absurd (true≢false (sym e))
both_some f (Some x) None e = absurd (true≢false (sym e))
both_some f (Some x) (Some y) e = (refl, refl)

some_value : (o : Option ℤ) → is_some o ≡ true → o ≡ Some (unwrap_or o (pos 0))
some_value None e = absurd (true≢false (sym e))
some_value (Some x) e = refl

-- ---- values at places, and writes at them
values_some : (stores : List Array) (a : ℕ) (ts : List (List ℤ))
    → ((t : List ℤ) → Among ts t → is_some (value_at stores a t) ≡ true)
    → values_at stores a ts ≡ Some (map (λ t. unwrap_or (value_at stores a t) (pos 0)) ts)
values_some stores a [] all = refl
values_some stores a (t ∷ ts) all =
    ap (λ o. option_and_then (λ value. option_map (λ rest. value ∷ rest) (values_at stores a ts)) o)
    (some_value (value_at stores a t) (all t (inl refl)))
    ∙ ap (option_map (λ rest. unwrap_or (value_at stores a t) (pos 0) ∷ rest))
    (values_some stores a ts (λ u k. all u (inr k)))

values_each : (stores : List Array) (a : ℕ) (ts : List (List ℤ))
    → is_some (values_at stores a ts) ≡ true → (t : List ℤ) → Among ts t
    → is_some (value_at stores a t) ≡ true
values_each stores a [] e t among = absurd among
values_each stores a (u ∷ ts) e t (inl same) =
    subst (λ v. is_some (value_at stores a v) ≡ true) same
    (both_some (λ value rest. value ∷ rest) (value_at stores a u) (values_at stores a ts) e).0
values_each stores a (u ∷ ts) e t (inr later) =
    values_each stores a ts
    (both_some (λ value rest. value ∷ rest) (value_at stores a u) (values_at stores a ts) e).1 t later

pub written_append : (xs ys : List Write) (s : List Array)
    → written (xs ++ ys) s ≡ option_and_then (written ys) (written xs s)
written_append [] ys s = refl
written_append (w ∷ xs) ys s = by (put w s) (λ m. written_append xs ys m)
  where
    by : (o : Option (List Array))
        → ((m : List Array) → written (xs ++ ys) m ≡ option_and_then (written ys) (written xs m))
        → option_and_then (written (xs ++ ys)) o
        ≡ option_and_then (written ys) (option_and_then (written xs) o)
    by None more = refl
    by (Some m) more = more m

-- ---- what owners have
module _ (code : Tables) (slots : List Region) where
  abbrev pub owned : ℕ → ℕ → Item → List (List ℤ)
  owned q p item = places_in code q p item (slice_get slots item.slot)

  abbrev pub many : List Item → ℕ → ℕ → ℕ
  many items q p = sum_by (λ item. length (owned q p item)) items

  abbrev pub from_others : List Item → ℕ → List ℕ
  from_others items p = others_where code p (λ q. many items q p)

  some_many : (items : List Item) (q p : ℕ) (item : Item) (t : List ℤ) → Among items item
      → Among (owned q p item) t → 0 < many items q p
  some_many [] q p item t among place = absurd among
  some_many (first ∷ items) q p item t among place =
      subst (λ k. 0 < k) (sym (sum_by-cons (λ item. length (owned q p item)) first items))
      (by among (λ later. some_many items q p item t later place))
    where
      some : {X : Type 0} (xs : List X) (x : X) → Among xs x → 0 < length xs
      some [] x k = absurd k
      some (y ∷ xs) x k = omega arith

      by : Among (first ∷ items) item → (Among items item → 0 < many items q p)
          → 0 < length (owned q p first) + sum_by (λ item. length (owned q p item)) items
      by (inl same) rest =
          let one : 0 < length (owned q p first) =
          subst (λ i. 0 < length (owned q p i)) (sym same) (some (owned q p item) t place) in
          omega (arith, one)
      by (inr later) rest = let more : 0 < many items q p = rest later in omega (arith, more)

  module _ (shares : ℕ → Share) where
    abbrev pub value_there : ℕ → ℕ → List ℤ → ℤ
    value_there q a t = unwrap_or (value_at (shares q).stores a t) (pos 0)

    abbrev pub write_of : ℕ → ℕ → List ℤ → Write
    write_of q a t = record { array = a; place = t; value = value_there q a t }

    abbrev pub writes_from : List Item → ℕ → ℕ → List Write
    writes_from items p q = flat_map (λ item. map (write_of q item.array) (owned q p item)) items

    abbrev pub writes_to : List Item → ℕ → List ℕ → List Write
    writes_to items p from = flat_map (writes_from items p) from

    abbrev pub all_writes : List Item → ℕ → List Write
    all_writes items p = writes_to items p (from_others items p)

    -- one of these writes: by whom, of which item, and where
    pub record IsSent (items : List Item) (p : ℕ) (w : Write) : Type 0 where
      pub owner : ℕ
      pub below : owner < processors code
      pub apart : (owner == p) ≡ false
      pub item : Item
      pub one : Among items item
      pub place : List ℤ
      pub here : Among (owned owner p item) place
      pub is : write_of owner item.array place ≡ w

    pub sent_is : (items : List Item) (p : ℕ) (w : Write) → Among (all_writes items p) w
        → IsSent items p w
    sent_is items p w among =
        let (q, from, some) = among_flat (writes_from items p) (from_others items p) w among in
        let (below, apart, _) = other_is code p q (λ q. many items q p) from in
        let (item, one, at) =
        among_flat (λ item. map (write_of q item.array) (owned q p item)) items w some in
        let (t, is, here) = among_mapped (write_of q item.array) (owned q p item) w at in
        record {
          owner = q;
          below = below;
          apart = apart;
          item = item;
          one = one;
          place = t;
          here = here;
          is = is;
        }

    pub is_sent : (items : List Item) (p : ℕ) (w : Write) → IsSent items p w
        → Among (all_writes items p) w
    is_sent items p w sent =
        subst (Among (all_writes items p)) sent.is
        (flat_among (writes_from items p) (from_others items p) sent.owner _
        (is_other code p sent.owner (λ q. many items q p) sent.below sent.apart
        (some_test (many items sent.owner p)
        (some_many items sent.owner p sent.item sent.place sent.one sent.here)))
        (flat_among (λ item. map (write_of sent.owner item.array) (owned sent.owner p item)) items
        sent.item _ sent.one
        (Among-map (write_of sent.owner sent.item.array) (owned sent.owner p sent.item) sent.place
        sent.here)))

    -- ---- words
    abbrev words_all : List Item → ℕ → ℕ → List ℤ
    words_all [] q p = []
    words_all (item ∷ items) q p =
        map (value_there q item.array) (owned q p item) ++ words_all items q p

    words_long : (items : List Item) (q p : ℕ) → length (words_all items q p) ≡ many items q p
    words_long [] q p = refl
    words_long (item ∷ items) q p =
        length-append (map (value_there q item.array) (owned q p item)) (words_all items q p)
        ∙ (ap₂ (λ m n. m + n) (length-map (owned q p item) (value_there q item.array))
        (words_long items q p)
        ∙ sym (sum_by-cons (λ item. length (owned q p item)) item items))

    -- the owner has them
    abbrev pub Said : List Item → ℕ → ℕ → Type 0
    Said items q p =
        (item : Item) → Among items item → (t : List ℤ) → Among (owned q p item) t
        → is_some (value_at (shares q).stores item.array t) ≡ true

    words_said : (items : List Item) (q p : ℕ) → (shares q).slots ≡ slots → Said items q p
        → words_between code (standing (shares q)) items q p ≡ Some (words_all items q p)
    words_said [] q p agree said = refl
    words_said (item ∷ items) q p agree said =
        ap (λ o. option_and_then (λ words. option_map (λ rest. words ++ rest)
        (words_between code (standing (shares q)) items q p)) o)
        (ap (λ some. values_at (shares q).stores item.array
        (places_in code q p item (slice_get some item.slot))) agree
        ∙ values_some (shares q).stores item.array (owned q p item) (said item (inl refl)))
        ∙ ap (option_map (λ rest. map (value_there q item.array) (owned q p item) ++ rest))
        (words_said items q p agree (λ other k. said other (inr k)))

    said_words : (items : List Item) (q p : ℕ) → (shares q).slots ≡ slots
        → is_some (words_between code (standing (shares q)) items q p) ≡ true → Said items q p
    said_words [] q p agree e item among t place = absurd among
    said_words (first ∷ items) q p agree e item among t place =
        let parts = both_some (λ words rest. words ++ rest)
        (values_at (shares q).stores first.array
        (places_in code q p first (slice_get (shares q).slots first.slot)))
        (words_between code (standing (shares q)) items q p) e in
        by parts.0 parts.1 among
        (λ later. said_words items q p agree parts.1 item later t place)
      where
        by : is_some (values_at (shares q).stores first.array
            (places_in code q p first (slice_get (shares q).slots first.slot))) ≡ true
            → is_some (words_between code (standing (shares q)) items q p) ≡ true
            → Among (first ∷ items) item
            → (Among items item → is_some (value_at (shares q).stores item.array t) ≡ true)
            → is_some (value_at (shares q).stores item.array t) ≡ true
        by one two (inr later) rest = rest later
        by one two (inl same) rest =
            subst (λ i. is_some (value_at (shares q).stores i.array t) ≡ true) same
            (values_each (shares q).stores first.array (owned q p first)
            (subst (λ some. is_some (values_at (shares q).stores first.array
            (places_in code q p first (slice_get some first.slot))) ≡ true) agree one) t
            (subst (λ i. Among (owned q p i) t) (sym same) place))

    -- ---- words that are taken
    with_is : (q a : ℕ) (ts : List (List ℤ)) (stores : List Array)
        → with_values a ts (map (value_there q a) ts) stores ≡ written (map (write_of q a) ts) stores
    with_is q a [] stores = refl
    with_is q a (t ∷ ts) stores =
        then_alike (with_values a ts (map (value_there q a) ts)) (written (map (write_of q a) ts))
        (with_value stores a t (value_there q a t)) (λ next. with_is q a ts next)

    taken_one : (q p : ℕ) (items : List Item) (local : Local) → local.slots ≡ slots
        → (stores : List Array)
        → words_written code local q p items (words_all items q p) stores
        ≡ written (writes_from items p q) stores
    taken_one q p [] local same stores = refl
    taken_one q p (item ∷ items) local same stores =
        let ts = owned q p item in
        let vs = map (value_there q item.array) ts in
        let rest = words_all items q p in
        let long : length vs ≡ length ts = length-map ts (value_there q item.array) in
        ap (λ some. let places = places_in code q p item (slice_get some item.slot) in
        option_and_then (words_written code local q p items (drop (length places) (vs ++ rest)))
        (with_values item.array places (take (length places) (vs ++ rest)) stores)) same
        ∙ (ap₂ (λ later now. option_and_then (words_written code local q p items later)
        (with_values item.array ts now stores)) (drop_front (length ts) vs rest long)
        (take_front (length ts) vs rest long)
        ∙ (ap (option_and_then (words_written code local q p items rest)) (with_is q item.array ts stores)
        ∙ (then_alike (words_written code local q p items rest) (written (writes_from items p q))
        (written (map (write_of q item.array) ts) stores)
        (λ next. taken_one q p items local same next)
        ∙ sym (written_append (map (write_of q item.array) ts) (writes_from items p q) stores))))

    taking_is : (p : ℕ) (items : List Item) (heard : ℕ → List ℤ) (from : List ℕ)
        → ((q : ℕ) → Among from q → heard q ≡ words_all items q p) → (local : Local)
        → local.slots ≡ slots
        → taking (finish_row code 0 items p) heard local from
        ≡ option_map (λ stores. record local { stores = stores })
        (written (writes_to items p from) local.stores)
    taking_is p items heard [] says local same = refl
    taking_is p items heard (q ∷ from) says local same =
        let said : heard q ≡ words_all items q p = says q (inl refl) in
        let count : word_count code local items q p ≡ many items q p =
        ap (λ some. sum_by (λ item. length (places_in code q p item (slice_get some item.slot))) items) same in
        let awaited : (length (heard q) == word_count code local items q p) ≡ true =
        eq-eqb (length (heard q)) (word_count code local items q p)
        (ap length said ∙ (words_long items q p ∙ sym count)) in
        ap (λ b. option_and_then (λ next. taking (finish_row code 0 items p) heard next from)
        (taken_where b (option_map (λ stores. record local { stores = stores })
        (words_written code local q p items (heard q) local.stores)))) awaited
        ∙ (ap (λ words. option_and_then (λ next. taking (finish_row code 0 items p) heard next from)
        (option_map (λ stores. record local { stores = stores })
        (words_written code local q p items words local.stores))) said
        ∙ (ap (λ o. option_and_then (λ next. taking (finish_row code 0 items p) heard next from)
        (option_map (λ stores. record local { stores = stores }) o))
        (taken_one q p items local same local.stores)
        ∙ (by (written (writes_from items p q) local.stores)
        (λ next. taking_is p items heard from (λ r k. says r (inr k))
        (record local { stores = next }) same)
        ∙ ap (option_map (λ stores. record local { stores = stores }))
        (sym (written_append (writes_from items p q) (writes_to items p from) local.stores)))))
      where
        by : (o : Option (List Array))
            → ((next : List Array)
            → taking (finish_row code 0 items p) heard (record local { stores = next }) from
            ≡ option_map (λ stores. record local { stores = stores })
            (written (writes_to items p from) next))
            → option_and_then (λ next. taking (finish_row code 0 items p) heard next from)
            (option_map (λ stores. record local { stores = stores }) o)
            ≡ option_map (λ stores. record local { stores = stores })
            (option_and_then (written (writes_to items p from)) o)
        by None more = refl
        by (Some next) more = more next

    -- ---- the exchange
    abbrev pub AllSaid : List Item → Type 0
    AllSaid items =
        (q p : ℕ) → q < processors code → p < processors code → (q == p) ≡ false → Said items q p

    abbrev pub AllWrite : List Item → Type 0
    AllWrite items =
        (p : ℕ) → p < processors code
        → is_some (written (all_writes items p) (shares p).stores) ≡ true

    -- behind it
    abbrev pub stores_behind : List Item → ℕ → List Array
    stores_behind items p =
        unwrap_or (written (all_writes items p) (shares p).stores) (shares p).stores

    abbrev pub all_behind : List Item → Abreast
    all_behind items =
        record { shares = λ p. record (shares p) { stores = stores_behind items p }; flights = [] }

    abbrev pub behind : List Item → Abreast
    behind items = of_processors code (quiet shares) (all_behind items)

    module _ (links : Option ℕ) (n : ℕ)
        (agree : (p : ℕ) → p < processors code → (shares p).slots ≡ slots) (items : List Item) where
      abbrev heard : ℕ → ℕ → List ℤ
      heard = (sent_flight code links n items shares).words

      counts_are : (p q r : ℕ) → p < processors code
          → word_count code (standing (shares p)) items q r ≡ many items q r
      counts_are p q r below =
          ap (λ some. sum_by (λ item. length (places_in code q r item (slice_get some item.slot))) items)
          (agree p below)

      to_is : (p : ℕ) → p < processors code
          → sent_to code 0 items p (shares p) ≡ others_where code p (λ q. many items p q)
      to_is p below = ap (others_where code p) (fun_ext (λ q. counts_are p p q below))

      from_is : (p : ℕ) → p < processors code
          → from_of code (finish_row code 0 items) (locals_of (quiet shares)) p ≡ from_others items p
      from_is p below =
          senders_takes (others_where code p (λ q. word_count code (standing (shares p)) items q p))
          ∙ ap (others_where code p) (fun_ext (λ q. counts_are p q p below))

      are_partners : ArePartners (processors code) (λ p. others_where code p (λ q. many items p q))
          (from_others items)
      are_partners =
          partners_by_words code (λ p q. many items p q) (λ p q. many items q p) (λ p q a b. refl)

      le_test : (k m : ℕ) → k ≤ m → nat_le k m ≡ true
      le_test k m less = grind (arith, nat_tests, less)

      partners_do : partners code links n items shares ≡ true
      partners_do =
          at_every code (λ p. every code (λ q.
          (times q (sent_to code 0 items p (shares p))
          == times p (from_of code (finish_row code 0 items) (locals_of (quiet shares)) q))
          && nat_le (times q (sent_to code 0 items p (shares p))) 1))
          (λ p a. at_every code (λ q. (times q (sent_to code 0 items p (shares p))
          == times p (from_of code (finish_row code 0 items) (locals_of (quiet shares)) q))
          && nat_le (times q (sent_to code 0 items p (shares p))) 1)
          (λ q b. ap₂ (λ qs ps. (times q qs == times p ps) && nat_le (times q qs) 1) (to_is p a)
          (from_is q b)
          ∙ (ap (λ t. t && nat_le (times q (others_where code p (λ q. many items p q))) 1)
          (eq-eqb _ _ (are_partners.both_ways p q a b))
          ∙ le_test _ 1 (are_partners.once p q a b))))

      heard_is : AllSaid items → (p q : ℕ) → p < processors code → Among (from_others items p) q
          → heard q p ≡ words_all items q p
      heard_is said p q below among =
          let (q_below, apart, _) = other_is code p q (λ q. many items q p) among in
          ap (λ o. unwrap_or o [])
          (words_said items q p (agree q q_below) (said q p q_below below apart))

      outcome_is : AllSaid items → (p : ℕ) → p < processors code
          → outcome code items (quiet shares) heard p
          ≡ option_map (λ stores. record (standing (shares p)) { stores = stores })
          (written (all_writes items p) (shares p).stores)
      outcome_is said p below =
          ap (taking (finish_row code 0 items p) (λ q. heard q p) (standing (shares p)))
          (ap (others_where code p) (fun_ext (λ q. counts_are p q p below)))
          ∙ taking_is p items (λ q. heard q p) (from_others items p)
          (λ q among. heard_is said p q below among) (standing (shares p)) (agree p below)

      well_at : AllSaid items → (p : ℕ) → p < processors code
          → does_well code (finish_row code 0 items) (locals_of (quiet shares)) heard p
          ≡ is_some (written (all_writes items p) (shares p).stores)
      well_at said p below =
          well_is code items (quiet shares) heard 0 p
          ∙ (ap (λ o. is_some o && leaves_row ((finish_row code 0 items p).last
          (unwrap_or o (standing (shares p))))) (outcome_is said p below)
          ∙ by (written (all_writes items p) (shares p).stores))
        where
          by : (o : Option (List Array))
              → (is_some (option_map (λ stores. record (standing (shares p)) { stores = stores }) o)
              && leaves_row ((finish_row code 0 items p).last
              (unwrap_or (option_map (λ stores. record (standing (shares p)) { stores = stores }) o)
              (standing (shares p)))))
              ≡ is_some o
          by None = refl
          by (Some next) = refl

      share_at : AllSaid items → (p : ℕ) → p < processors code
          → (received code links n items shares).shares p ≡ (behind items).shares p
      share_at said p below =
          ap (λ s. if nat_lt p (processors code) then s else shares p)
          (share_is code items (quiet shares) heard 0 p
          ∙ (ap (λ o. let local = unwrap_or o (standing (shares p)) in
          share_of (next_or local ((finish_row code 0 items p).last local))) (outcome_is said p below)
          ∙ by (written (all_writes items p) (shares p).stores)))
        where
          by : (o : Option (List Array))
              → (let local =
              unwrap_or (option_map (λ stores. record (standing (shares p)) { stores = stores }) o)
              (standing (shares p)) in
              share_of (next_or local ((finish_row code 0 items p).last local)))
              ≡ record (shares p) { stores = unwrap_or o (shares p).stores }
          by None = refl
          by (Some next) = refl

      received_is : AllSaid items → received code links n items shares ≡ behind items
      received_is said =
          ap (λ s. record { shares = s; flights = [] }) (fun_ext (λ p.
          either (nat_lt p (processors code))
          ((next_with code (finish_row code 0 items) (locals_of (quiet shares)) heard []).shares p)
          (record (shares p) { stores = stores_behind items p }) (shares p)
          (λ e. share_at said p (ltb-true p (processors code) e))))
        where
          either : (b : Bool) (x y z : Share)
              → (b ≡ true → (if b then x else z) ≡ (if b then y else z))
              → (if b then x else z) ≡ (if b then y else z)
          either true x y z same = same refl
          either false x y z same = refl

      -- whether it can start
      three : (a b c : Bool) → (a && (b && c)) ≡ true → (a ≡ true) × (b ≡ true) × (c ≡ true)
      three true true true e = (refl, refl, refl)
      three true true false e = absurd (true≢false (sym e))
      three true false c e = absurd (true≢false (sym e))
      three false b c e = absurd (true≢false (sym e))

      said_by : every code (λ p. list_all (λ q. is_some (words_sent code 0 items p (shares p) q))
          (sent_to code 0 items p (shares p))) ≡ true → AllSaid items
      said_by e q p q_below below apart item among t place =
          said_words items q p (agree q q_below)
          (list_all_at (λ r. is_some (words_sent code 0 items q (shares q) r))
          (sent_to code 0 items q (shares q))
          (every_at code (λ p. list_all (λ q. is_some (words_sent code 0 items p (shares p) q))
          (sent_to code 0 items p (shares p))) e q q_below) p
          (subst (λ l. Among l p) (sym (to_is q q_below))
          (is_other code q p (λ r. many items q r) below (turned q p apart)
          (some_test (many items q p) (some_many items q p item t among place))))) item among t place
        where
          turned : (a b : ℕ) → (a == b) ≡ false → (b == a) ≡ false
          turned a b e = grind (arith, nat_tests, e)

      by_said : AllSaid items
          → every code (λ p. list_all (λ q. is_some (words_sent code 0 items p (shares p) q))
          (sent_to code 0 items p (shares p))) ≡ true
      by_said said =
          at_every code (λ p. list_all (λ q. is_some (words_sent code 0 items p (shares p) q))
          (sent_to code 0 items p (shares p)))
          (λ q q_below. all_list (λ r. is_some (words_sent code 0 items q (shares q) r))
          (sent_to code 0 items q (shares q)) (λ p among.
          let (below, apart, _) = other_is code q p (λ r. many items q r)
          (subst (λ l. Among l p) (to_is q q_below) among) in
          ap is_some (words_said items q p (agree q q_below)
          (said q p q_below below (turned p q apart)))))
        where
          turned : (a b : ℕ) → (a == b) ≡ false → (b == a) ≡ false
          turned a b e = grind (arith, nat_tests, e)

      once_each : every code (λ p. every code (λ q.
          nat_le (times q (sent_to code 0 items p (shares p))) 1)) ≡ true
      once_each =
          at_every code (λ p. every code (λ q. nat_le (times q (sent_to code 0 items p (shares p))) 1))
          (λ p a. at_every code (λ q. nat_le (times q (sent_to code 0 items p (shares p))) 1)
          (λ q b. ap (λ qs. nat_le (times q qs) 1) (to_is p a)
          ∙ le_test _ 1 (are_partners.once p q a b)))

      pub data Exchanged : Flow Await → Type 0 where
        Wrongly : Exchanged (Halts [] Wrong)
        Rightly : is_roomy links 0 ≡ true → AllSaid items → AllWrite items
            → Exchanged (OnTo [] (Ready (behind items)))

      pub exchanged : Exchanged (exchange_flow code links n items (Ready (quiet shares)))
      exchanged =
          by (starts code links n items shares && (partners code links n items shares
          && all_well code links n items shares)) refl
        where
          by : (b : Bool)
              → (starts code links n items shares && (partners code links n items shares
              && all_well code links n items shares)) ≡ b
              → Exchanged (flow_where code links n b (received code links n items shares))
          by false e = Wrongly
          by true e =
              let (can_start, _, well) = three (starts code links n items shares)
              (partners code links n items shares) (all_well code links n items shares) e in
              let (roomy, _, sends) = three (is_roomy links 0)
              (every code (λ p. every code (λ q. nat_le (times q (sent_to code 0 items p (shares p))) 1)))
              (every code (λ p. list_all (λ q. is_some (words_sent code 0 items p (shares p) q))
              (sent_to code 0 items p (shares p)))) can_start in
              let said = said_by sends in
              subst (λ next. Exchanged (OnTo [] (Ready next))) (sym (received_is said))
              (Rightly roomy said (λ p below.
              sym (well_at said p below)
              ∙ every_at code (does_well code (finish_row code 0 items) (locals_of (quiet shares)) heard)
              well p below))

      pub exchange_does : is_roomy links 0 ≡ true → AllSaid items → AllWrite items
          → exchange_flow code links n items (Ready (quiet shares))
          ≡ OnTo [] (Ready (behind items))
      exchange_does roomy said write =
          ap (λ b. flow_where code links n b (received code links n items shares))
          (ap₂ (λ a b. a && b)
          (ap₂ (λ a b. a && b) roomy (ap₂ (λ a b. a && b) once_each (by_said said)))
          (ap₂ (λ a b. a && b) partners_do
          (at_every code (does_well code (finish_row code 0 items) (locals_of (quiet shares)) heard)
          (λ p below. well_at said p below ∙ write p below))))
          ∙ ap (λ next. OnTo [] (Ready next)) (received_is said)
