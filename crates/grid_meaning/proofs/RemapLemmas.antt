-- The turns of `remap`: from whom requests come, and that what is written leaves the wanted tuples as they are.
use Rattle.std.proofs.Common.{◌≡◌, ◌≢◌, inl, inr, ℕ, zero, suc, ◌+◌, ◌-◌, ◌*◌, ◌%◌, ◌<◌, ◌≤◌, ◌==◌, Bool, true, false, cond, nat_lt, not, List, [], ◌∷◌, ◌++◌, length, map, take, refl, sym, ap, ◌∙◌, subst, ℤ, arith, eqb-true, length-append}
use Rattle.std.specs.Prelude.{Option, Some, None, All, filter, slice_get, slice_set, option_and_then, nat_le, unwrap_or}
use Rattle.std.specs.List.{filter_map, range_with_len}
use Rattle.std.specs.Option.{IfSome, IsSome, option_map}
use Rattle.std.proofs.lemmas.Bool.Decides.{nat_tests}
use Rattle.std.proofs.lemmas.List.{length-map}
use Rattle.std.proofs.lemmas.List.Elements.{All-nil, All-cons, All-head, All-tail}
use Rattle.node_form.specs.of_zpl_arrays.Array.{Array, has_place, updated}
use Rattle.node_form.specs.declared.arrays.ArrayRow.{ArrayRow}
use Rattle.node_form.specs.declared.tables.Tables.{Tables}
use Rattle.grid_meaning.specs.Collective.{Stage, Alone, Sends, TakesFrom, Last, others}
use Rattle.grid_meaning.specs.Local.{Local, processors}
use Rattle.grid_meaning.specs.Owner.{region_in, tuples_of}
use Rattle.grid_meaning.specs.Place.{held_value, held_with, value_at, where_held, with_value, with_values}
use Rattle.grid_meaning.specs.Remap.{coordinates_at, owns_all, padded, remapped, request_taken, some_wants, wants, wants_at, written}
use Rattle.grid_meaning.specs.Stored.{no_places}
use Rattle.grid_meaning.specs.State.{IsPart, IsRequest, placed}

-- ---- some of a list's elements
pub IsPart-all : (P : ℕ → Type 0) (xs ys : List ℕ) → IsPart xs ys → All P ys → All P xs
IsPart-all P [] ys part all = All-nil P
IsPart-all P (x ∷ xs) [] part all = absurd part
IsPart-all P (x ∷ xs) (y ∷ ys) (inl here) all =
    All-cons P x xs (subst P (sym here.0) (All-head P y ys all)) (IsPart-all P xs ys here.1 (All-tail P y ys all))
IsPart-all P (x ∷ xs) (y ∷ ys) (inr part) all = IsPart-all P (x ∷ xs) ys part (All-tail P y ys all)

IsPart-alone : (z : ℕ) (ys : List ℕ) → IsPart (z ∷ []) (ys ++ z ∷ [])
IsPart-alone z [] = inl (refl, tt)
IsPart-alone z (y ∷ ys) = inr (IsPart-alone z ys)

IsPart-push : (xs ys : List ℕ) (z : ℕ) → IsPart xs ys → IsPart (xs ++ z ∷ []) (ys ++ z ∷ [])
IsPart-push [] ys z part = IsPart-alone z ys
IsPart-push (x ∷ xs) [] z part = absurd part
IsPart-push (x ∷ xs) (y ∷ ys) z (inl here) = inl (here.0, IsPart-push xs ys z here.1)
IsPart-push (x ∷ xs) (y ∷ ys) z (inr part) = inr (IsPart-push (x ∷ xs) ys z part)

IsPart-further : (xs ys : List ℕ) (j : ℕ) → IsPart xs (take j ys) → IsPart xs (take (suc j) ys)
IsPart-further [] ys j part = tt
IsPart-further (x ∷ xs) [] zero part = absurd part
IsPart-further (x ∷ xs) [] (suc j) part = absurd part
IsPart-further (x ∷ xs) (y ∷ ys) zero part = absurd part
IsPart-further (x ∷ xs) (y ∷ ys) (suc j) (inl here) = inl (here.0, IsPart-further xs ys j here.1)
IsPart-further (x ∷ xs) (y ∷ ys) (suc j) (inr part) = inr (IsPart-further (x ∷ xs) ys j part)

-- one turn more
pub IsPart-later : (xs ys : List ℕ) (made many : ℕ) → IsPart xs (take (made - many) ys) → IsPart xs (take (made + 1 - many) ys)
IsPart-later xs ys made many part = by (nat_lt made many) refl
  where
    by : (early : Bool) → nat_lt made many ≡ early → IsPart xs (take (made + 1 - many) ys)
    by true e =
        let before : made < many = grind (arith, nat_tests) in
        let same : made - many ≡ made + 1 - many = omega arith in
        subst (λ n. IsPart xs (take n ys)) same part
    by false e =
        let behind : many ≤ made = grind (arith, nat_tests) in
        let more : suc (made - many) ≡ made + 1 - many = omega arith in
        subst (λ n. IsPart xs (take n ys)) more (IsPart-further xs ys (made - many) part)

-- ---- the others are numbered in ascending order
record IsAbove (start from : ℕ) (before : List ℕ) : Type 0 where
  above : start ≤ from
  below : All (λ m. m < from) before

ascends : (keep : ℕ → Bool) (many start k from : ℕ) → slice_get (filter keep (range_with_len start many)) k ≡ Some from
    → IsAbove start from (take k (filter keep (range_with_len start many)))
ascends keep zero start zero from is = cc
ascends keep zero start (suc k) from is = cc
ascends keep (suc many) start k from is = by (keep start) k is (λ j there. ascends keep many (start + 1) j from there)
  where
    rest : List ℕ
    rest = filter keep (range_with_len (start + 1) many)

    by : (here : Bool) (j : ℕ) → slice_get (cond here (start ∷ filter keep (range_with_len (start + 1) many)) (filter keep (range_with_len (start + 1) many))) j ≡ Some from
        → ((i : ℕ) → slice_get (filter keep (range_with_len (start + 1) many)) i ≡ Some from
        → IsAbove (start + 1) from (take i (filter keep (range_with_len (start + 1) many))))
        → IsAbove start from (take j (cond here (start ∷ filter keep (range_with_len (start + 1) many)) (filter keep (range_with_len (start + 1) many))))
    by true zero there further =
        let same : start ≡ from = cc in
        record { above = omega arith; below = All-nil (λ m. m < from) }
    by true (suc j) there further =
        let more = further j there in
        record {
          above = omega (arith, more.above);
          below = All-cons (λ m. m < from) start _ (omega (arith, more.above)) more.below;
        }
    by false j there further =
        let more = further j there in
        record { above = omega (arith, more.above); below = more.below }

pub below_other : (code : Tables) (p k from : ℕ) → slice_get (others code p) k ≡ Some from
    → All (λ m. m < from) (take k (others code p))
below_other code p k from is = (ascends (λ q. not (q == p)) (processors code) 0 k from is).below

-- as many as there are processors beside this one
count_without : (p many start : ℕ) → start ≤ p → p < start + many
    → length (filter (λ q. not (q == p)) (range_with_len start many)) + 1 ≡ many
count_without p zero start above below = absurd (omega arith)
count_without p (suc many) start above below =
    by (start == p) refl (λ low high. count_without p many (start + 1) low high)
  where
    all_above : (n from : ℕ) → p < from → length (filter (λ q. not (q == p)) (range_with_len from n)) ≡ n
    all_above zero from high = refl
    all_above (suc n) from high = here (from == p) refl (all_above n (from + 1) (omega arith))
      where
        here : (is : Bool) → (from == p) ≡ is → length (filter (λ q. not (q == p)) (range_with_len (from + 1) n)) ≡ n
            → length (cond (not is) (from ∷ filter (λ q. not (q == p)) (range_with_len (from + 1) n))
            (filter (λ q. not (q == p)) (range_with_len (from + 1) n))) ≡ suc n
        here true e rest = absurd (let same = eqb-true from p e in omega arith)
        here false e rest = omega arith

    by : (is : Bool) → (start == p) ≡ is
        → (start + 1 ≤ p → p < start + 1 + many → length (filter (λ q. not (q == p)) (range_with_len (start + 1) many)) + 1 ≡ many)
        → length (cond (not is) (start ∷ filter (λ q. not (q == p)) (range_with_len (start + 1) many))
        (filter (λ q. not (q == p)) (range_with_len (start + 1) many))) + 1 ≡ suc many
    by true e further =
        let same = eqb-true start p e in
        omega (arith, all_above many (start + 1) (omega arith))
    by false e further =
        let apart : start ≢ p = grind (arith, nat_tests) in
        omega (arith, further (omega arith) (omega arith))

pub length-others : (code : Tables) (p : ℕ) → p < processors code → length (others code p) + 1 ≡ processors code
length-others code p inside = count_without p (processors code) 0 (omega arith) (omega arith)

-- an element that is above all others is put at the end
pub placed-last : (numbers : List ℕ) (n : ℕ) → All (λ m. m < n) numbers → placed numbers n ≡ numbers ++ n ∷ []
placed-last [] n below = refl
placed-last (m ∷ numbers) n below =
    by (nat_lt n m) refl (placed-last numbers n (All-tail (λ m. m < n) m numbers below))
  where
    by : (before : Bool) → nat_lt n m ≡ before → placed numbers n ≡ numbers ++ n ∷ [] → cond before (n ∷ (m ∷ numbers)) (m ∷ placed numbers n) ≡ m ∷ (numbers ++ n ∷ [])
    by true e rest =
        let before : n < m = grind (arith, nat_tests) in
        absurd (omega (arith, All-head (λ m. m < n) m numbers below))
    by false e rest = ap (λ list. m ∷ list) rest

take-more : (ys : List ℕ) (k y : ℕ) → slice_get ys k ≡ Some y → take (suc k) ys ≡ take k ys ++ y ∷ []
take-more [] zero y is = cc
take-more [] (suc k) y is = cc
take-more (x ∷ ys) zero y is = let same : x ≡ y = cc in ap (λ z. z ∷ []) same
take-more (x ∷ ys) (suc k) y is = ap (λ list. x ∷ list) (take-more ys k y is)

-- the next other one sent a request
pub IsPart-next : (code : Tables) (p k from : ℕ) (senders : List ℕ) → slice_get (others code p) k ≡ Some from
    → IsPart senders (take k (others code p)) → IsPart (placed senders from) (take (suc k) (others code p))
IsPart-next code p k from senders is part =
    subst (IsPart (placed senders from)) (sym (take-more (others code p) k from is))
    (subst (λ list. IsPart list (take k (others code p) ++ from ∷ []))
    (sym (placed-last senders from (IsPart-all (λ m. m < from) senders _ part (below_other code p k from is))))
    (IsPart-push senders (take k (others code p)) from part))

-- ---- the turns in which requests are taken
record IsBehind (many k : ℕ) (rest : List Stage) (stage : Stage) : Type 0 where
  i : ℕ
  is : k ≡ many + i
  there : slice_get rest i ≡ Some stage

past_sends : (xs : List ℕ) (rest : List Stage) (k from : ℕ) → slice_get (map Sends xs ++ rest) k ≡ Some (TakesFrom from)
    → IsBehind (length xs) k rest (TakesFrom from)
past_sends [] rest k from is = record { i = k; is = omega arith; there = is }
past_sends (x ∷ xs) rest zero from is = cc
past_sends (x ∷ xs) rest (suc k) from is =
    let more = past_sends xs rest k from is in
    record { i = more.i; is = omega (arith, more.is); there = more.there }

among_takes : (xs : List ℕ) (rest : List Stage) (k from : ℕ) → slice_get (map TakesFrom xs ++ rest) k ≡ Some (TakesFrom from)
    → k < length xs → slice_get xs k ≡ Some from
among_takes [] rest k from is few = absurd (omega arith)
among_takes (x ∷ xs) rest zero from is few = let same : x ≡ from = cc in ap Some same
among_takes (x ∷ xs) rest (suc k) from is few = among_takes xs rest k from is (omega arith)

pub record IsAskedBy (many made : ℕ) (xs : List ℕ) (from : ℕ) : Type 0 where
  pub k : ℕ
  pub is : made ≡ many + k
  pub there : slice_get xs k ≡ Some from

pub asked_by : (xs : List ℕ) (rest : List Stage) (made from : ℕ)
    → slice_get (Alone ∷ (map Sends xs ++ (map TakesFrom xs ++ rest))) made ≡ Some (TakesFrom from)
    → made ≤ 2 * length xs → IsAskedBy (length xs + 1) made xs from
asked_by xs rest zero from is early = cc
asked_by xs rest (suc made) from is early =
    let behind = past_sends xs (map TakesFrom xs ++ rest) made from is in
    record {
      k = behind.i;
      is = omega (arith, behind.is);
      there = among_takes xs rest behind.i from behind.there (omega (arith, behind.is));
    }

-- ---- what is written to one array leaves the others as they are
pub record IsApart (array : ℕ) (old next : List Array) : Type 0 where
  pub same : (other : ℕ) → other ≢ array → slice_get next other ≡ slice_get old other

set_apart : (stores : List Array) (array other : ℕ) (store : Array) → other ≢ array
    → slice_get (slice_set stores array store) other ≡ slice_get stores other
set_apart [] array other store apart = refl
set_apart (s ∷ stores) zero zero store apart = absurd (apart refl)
set_apart (s ∷ stores) zero (suc other) store apart = refl
set_apart (s ∷ stores) (suc array) zero store apart = refl
set_apart (s ∷ stores) (suc array) (suc other) store apart =
    set_apart stores array other store (λ e. apart (ap suc e))

abbrev pub IfApart : ℕ → List Array → Option (List Array) → Type 0
IfApart array old None = Unit {0}
IfApart array old (Some next) = IsApart array old next

value_apart : (stores : List Array) (array : ℕ) (t : List ℤ) (value : ℤ) → IfApart array stores (with_value stores array t value)
value_apart stores array t value = by (slice_get stores array)
  where
    held : (store : Array) (b : Bool) → IfApart array stores (option_map (slice_set stores array) (where_held b (updated store t value)))
    held store true = record { same = λ other apart. set_apart stores array other (updated store t value) apart }
    held store false = tt

    by : (found : Option Array) → IfApart array stores (option_map (slice_set stores array) (option_and_then (held_with t value) found))
    by None = tt
    by (Some store) = held store (has_place store.storage t)

pub values_apart : (array : ℕ) (places : List (List ℤ)) (values : List ℤ) (stores : List Array)
    → IfApart array stores (with_values array places values stores)
values_apart array [] values stores = record { same = λ other apart. refl }
values_apart array (t ∷ places) [] stores = record { same = λ other apart. refl }
values_apart array (t ∷ places) (value ∷ values) stores =
    by (with_value stores array t value) (value_apart stores array t value) (λ more. values_apart array places values more)
  where
    joined : (more : List Array) (last : Option (List Array)) → IsApart array stores more → IfApart array more last → IfApart array stores last
    joined more None one two = tt
    joined more (Some last) one two = record { same = λ other apart. two.same other apart ∙ one.same other apart }

    by : (first : Option (List Array)) → IfApart array stores first
        → ((more : List Array) → IfApart array more (with_values array places values more))
        → IfApart array stores (option_and_then (with_values array places values) first)
    by None one further = tt
    by (Some more) one further = joined more (with_values array places values more) one (further more)

-- ---- so the wanted tuples stay
coordinates_stay : (old next : Local) (parts : List ℕ) (t : List ℤ)
    → All (λ part. slice_get next.stores part ≡ slice_get old.stores part) parts
    → coordinates_at next parts t ≡ coordinates_at old parts t
coordinates_stay old next [] t same = refl
coordinates_stay old next (part ∷ parts) t same =
    ap (λ found. option_and_then (λ x. option_map (λ rest. x ∷ rest) (coordinates_at next parts t)) (option_and_then (held_value t) found))
    (All-head (λ part. slice_get next.stores part ≡ slice_get old.stores part) part parts same)
    ∙ ap (λ more. option_and_then (λ x. option_map (λ rest. x ∷ rest) more) (value_at old.stores part t))
    (coordinates_stay old next parts t (All-tail (λ part. slice_get next.stores part ≡ slice_get old.stores part) part parts same))

wants_stay : (old next : Local) (parts : List ℕ) (tuples : List (List ℤ))
    → All (λ part. slice_get next.stores part ≡ slice_get old.stores part) parts
    → wants_at next parts tuples ≡ wants_at old parts tuples
wants_stay old next parts [] same = refl
wants_stay old next parts (t ∷ tuples) same =
    ap (λ found. option_and_then (λ x. option_map (λ rest. record { index = t; tuple = padded x } ∷ rest) (wants_at next parts tuples)) found)
    (coordinates_stay old next parts t same)
    ∙ ap (λ more. option_and_then (λ x. option_map (λ rest. record { index = t; tuple = padded x } ∷ rest) more) (coordinates_at old parts t))
    (wants_stay old next parts tuples same)

parts_stay : (array : ℕ) (old next : List Array) (parts : List ℕ) → IsApart array old next → All (λ part. part ≢ array) parts
    → All (λ part. slice_get next part ≡ slice_get old part) parts
parts_stay array old next [] same apart = All-nil (λ part. slice_get next part ≡ slice_get old part)
parts_stay array old next (part ∷ parts) same apart =
    All-cons (λ part. slice_get next part ≡ slice_get old part) part parts
    (same.same part (All-head (λ part. part ≢ array) part parts apart))
    (parts_stay array old next parts same (All-tail (λ part. part ≢ array) part parts apart))

-- ---- the parts of a row that fits are others than its target
abbrev pub IsOther : ℕ → Option ℕ → Type 0
IsOther array part = IfSome part (λ other. other ≢ array)

pub parts_apart : (array : ℕ) (parts : List (Option ℕ)) → All (IsOther array) parts
    → All (λ part. part ≢ array) (filter_map (λ part. part) parts)
parts_apart array [] all = All-nil (λ part. part ≢ array)
parts_apart array (None ∷ parts) all = parts_apart array parts (All-tail (IsOther array) None parts all)
parts_apart array (Some part ∷ parts) all =
    All-cons (λ part. part ≢ array) part (filter_map (λ part. part) parts) (All-head (IsOther array) (Some part) parts all)
    (parts_apart array parts (All-tail (IsOther array) (Some part) parts all))

-- ---- a row
module _ (code : Tables) (p : ℕ) (array slot from : ℕ) (parts : List ℕ) (row : ArrayRow) where
  -- the stages are the same where the kept words are, and the index arrays
  pub same_stages : (old next : Local) → next.slots ≡ old.slots → next.kept ≡ old.kept → IsApart array old.stores next.stores
      → All (λ part. part ≢ array) parts
      → (remapped code p array slot from parts row).stages next ≡ (remapped code p array slot from parts row).stages old
  same_stages old next slots kept same apart =
      let wanted : wants code p array slot from parts row next ≡ wants code p array slot from parts row old =
      ap (λ r. wants_at next parts (tuples_of code p r)) (ap (λ s. unwrap_or (slice_get s slot) (no_places 1)) slots)
      ∙ wants_stay old next parts (tuples_of code p (region_in old slot)) (parts_stay array old.stores next.stores parts same apart) in
      ap (λ k. Alone ∷ (map Sends (others code p) ++ (map TakesFrom (others code p) ++ (map (λ (entry : ℕ × List ℤ). Sends entry.0) k
      ++ (map TakesFrom (filter (λ q. nat_le 1 (length (some_wants code p array slot from parts row (wants code p array slot from parts row next) q))) (others code p)) ++ Last ∷ []))))) kept
      ∙ ap (λ w. Alone ∷ (map Sends (others code p) ++ (map TakesFrom (others code p) ++ (map (λ (entry : ℕ × List ℤ). Sends entry.0) old.kept
      ++ (map TakesFrom (filter (λ q. nat_le 1 (length (some_wants code p array slot from parts row w q))) (others code p)) ++ Last ∷ []))))) wanted

  -- what is asked of a request that may be kept, by its words alone
  pub record IsAsked (entry : ℕ × List ℤ) : Type 0 where
    pub some : 0 < length entry.1
    pub whole : (length entry.1 % row.rank == 0) ≡ true
    pub owned : owns_all code p array slot from parts row entry.1 ≡ true

  at_first : nat_le 0 (2 * (processors code - 1)) ≡ true
  at_first = grind (arith, nat_tests)

  pub IsAsked-request : (local : Local) (entry : ℕ × List ℤ)
      → IsRequest (remapped code p array slot from parts row) (record local { made = 0 }) entry → IsAsked entry
  IsAsked-request local entry request = record {
    some = request.0;
    whole = subst (λ b. cond b (length entry.1 % row.rank == 0) (length entry.1 == length (some_wants code p array slot from parts row (wants code p array slot from parts row (record local { made = 0 })) entry.0)) ≡ true) at_first request.1;
    owned = by (owns_all code p array slot from parts row entry.1) refl
        (subst (λ b. IsSome (cond b (request_taken code p array slot from parts row (record local { made = 0 }) entry.0 entry.1
        (owns_all code p array slot from parts row entry.1)) (written code p array slot from parts row
        (some_wants code p array slot from parts row (wants code p array slot from parts row (record local { made = 0 })) entry.0) entry.1 (record local { made = 0 }))))
        at_first request.2);
  }
    where
      by : (owned : Bool) → owns_all code p array slot from parts row entry.1 ≡ owned
          → IsSome (request_taken code p array slot from parts row (record local { made = 0 }) entry.0 entry.1 owned)
          → owns_all code p array slot from parts row entry.1 ≡ true
      by true e some = e
      by false e some = cc

  pub IsRequest-asked : (local : Local) (entry : ℕ × List ℤ) → IsAsked entry
      → IsRequest (remapped code p array slot from parts row) (record local { made = 0 }) entry
  IsRequest-asked local entry asked = (
    asked.some,
    subst (λ b. cond b (length entry.1 % row.rank == 0) (length entry.1 == length (some_wants code p array slot from parts row (wants code p array slot from parts row (record local { made = 0 })) entry.0)) ≡ true) (sym at_first) asked.whole,
    subst (λ b. IsSome (cond b (request_taken code p array slot from parts row (record local { made = 0 }) entry.0 entry.1
        (owns_all code p array slot from parts row entry.1)) (written code p array slot from parts row
        (some_wants code p array slot from parts row (wants code p array slot from parts row (record local { made = 0 })) entry.0) entry.1 (record local { made = 0 }))))
        (sym at_first)
        (subst (λ b. IsSome (request_taken code p array slot from parts row (record local { made = 0 }) entry.0 entry.1 b)) (sym asked.owned) refl),
  )

  -- requests are taken before the last turns
  pub long_stages : (local : Local) → 2 * length (others code p) + 2 ≤ length ((remapped code p array slot from parts row).stages local)
  long_stages local =
      let last = map TakesFrom (filter (λ q. nat_le 1 (length (some_wants code p array slot from parts row (wants code p array slot from parts row local) q))) (others code p)) ++ Last ∷ [] in
      let answers = map (λ (entry : ℕ × List ℤ). Sends entry.0) local.kept ++ last in
      let requests = map TakesFrom (others code p) ++ answers in
      omega (
        arith,
        length-append (map Sends (others code p)) requests,
        length-append (map TakesFrom (others code p)) answers,
        length-append (map (λ (entry : ℕ × List ℤ). Sends entry.0) local.kept) last,
        length-append (map TakesFrom (filter (λ q. nat_le 1 (length (some_wants code p array slot from parts row (wants code p array slot from parts row local) q))) (others code p))) (Last ∷ []),
        length-map (others code p) Sends,
        length-map (others code p) TakesFrom,
      )
