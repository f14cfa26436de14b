-- What the steps of the code come to.
use Rattle.std.proofs.Common.{◌≡◌, ◌⊎◌, inl, inr, ◌<◌, ◌≤◌, ℕ, zero, suc, ◌+◌, refl, sym, ap, ◌∙◌, subst, arith, Bool, true, false}
use Rattle.std.proofs.Common.{true≢false, List, [], ◌∷◌, ◌++◌, length, get_or, drop, take, ◌&&◌, ◌==◌, cond, ℤ, Option, Some, None}
use Rattle.std.proofs.Common.{pos}
use Rattle.std.specs.Prelude.{All, filter, flat_map, map, neg_ℤ, not, slice_get, slice_set, sum_by, IfOk, Result, Ok, Err}
use Rattle.std.specs.Option.{IfSome}
use Rattle.std.specs.Result.{result_ok}
use Rattle.zpl_region.specs.declared.regions.Region.{Region}
use Rattle.zpl_region.specs.declared.regions.RegionLimit.{RegionLimit}
use Rattle.zpl_region.specs.Tests.{is_within_limit}
use Rattle.node_form.specs.Control.{formed_by}
use Rattle.node_form.specs.declared.members.Member.{Member}
use Rattle.node_form.specs.declared.instructions.RegionForm.{RegionForm}
use Rattle.grid_meaning.specs.Stored.{no_places}
use Rattle.node_check.specs.declared.verdicts.Verdict.{Verdict}
use Rattle.node_check.specs.Verdict.{judged, judged_at}
use Rattle.std.specs.List.{range_with_len}
use Rattle.std.proofs.lemmas.Bool.Decides.{Decides-eqb}
use Rattle.std.proofs.lemmas.List.Sums.{sum_by-cons}
use Rattle.node_form.specs.declared.arrays.ArrayDim.{ArrayDim}
use Rattle.node_form.specs.declared.arrays.ArrayDim.TheVariants.{Range, Star}
use Rattle.node_form.specs.declared.instructions.Instr.{Instr}
use Rattle.node_form.specs.declared.instructions.Instr.TheVariants as instr
use Rattle.node_form.specs.declared.tables.Tables.{Tables}
use Rattle.node_form.specs.Fits.{Fits, FitsInstr}
use Rattle.node_form.proofs.GrowthLemmas.{Fits-instr-row}
use Rattle.flat_form.specs.Static.{is_in_fringe}
use Rattle.node_check.specs.Fact.{Fact, Agree, Border, Held, Made, Stands, Uniform}
use Rattle.node_check.specs.Front.{HasRegion, Point, formed_in, loses_none, start_point}
use Rattle.node_check.specs.Learn.{loses, start_slots}
use Rattle.node_check.specs.Path.{without}
use Rattle.node_check.specs.Settled.{GoesWithin, IsGoodAt, IsRight, IsSettled, StartsWith, nones, sizes}
use Rattle.node_check.specs.Walk.{Walk, begun, entered, front_at, goal_of, left, walked}
use Rattle.node_check.proofs.GoodLemmas.{good_start, walk_right}
use Rattle.node_check.proofs.LessLemmas.{IsLess, walk_less}
use Rattle.code_parts.proofs.ListLemmas.{In}

-- ---- fringes, dimension by dimension
and_true_is : (b : Bool) → b ≡ (b && true)
and_true_is true = refl
and_true_is false = refl

fringe_first : (dim : ArrayDim) (dims : List ArrayDim) (d : ℤ) (shift : List ℤ)
    → is_in_fringe (dim ∷ dims) (d ∷ shift)
    ≡ (is_in_fringe (dim ∷ []) (d ∷ []) && is_in_fringe dims shift)
fringe_first (Range lo hi low high) dims d shift =
    ap (λ b. b && is_in_fringe dims shift) (and_true_is _)
fringe_first Star dims d shift = ap (λ b. b && is_in_fringe dims shift) (and_true_is _)

pub fringe_three : (one two three : ArrayDim) (x y z : ℤ)
    → is_in_fringe (one ∷ two ∷ three ∷ []) (x ∷ y ∷ z ∷ [])
    ≡ (is_in_fringe (one ∷ []) (x ∷ [])
    && (is_in_fringe (two ∷ []) (y ∷ []) && is_in_fringe (three ∷ []) (z ∷ [])))
fringe_three one two three x y z =
    fringe_first one (two ∷ three ∷ []) x (y ∷ z ∷ [])
    ∙ ap (λ b. is_in_fringe (one ∷ []) (x ∷ []) && b)
    (fringe_first two (three ∷ []) y (z ∷ []))

-- ---- rows that lose no fact
lost_none : (code : Tables) (row : Instr) (fact : Fact) → loses_none row ≡ true
    → loses code row fact ≡ false
lost_none code (instr.Set scalar expr line) fact is = absurd (true≢false (sym is))
lost_none code (instr.Fix slot region) fact is = absurd (true≢false (sym is))
lost_none code (instr.Dims slot parts line) fact is = absurd (true≢false (sym is))
lost_none code (instr.Formed form slot from shift line) fact is = absurd (true≢false (sym is))
lost_none code (instr.Room array slot) fact is = absurd (true≢false (sym is))
lost_none code (instr.Loop slot group) fact is = absurd (true≢false (sym is))
lost_none code row (Uniform scalar) is = refl
lost_none code row (Stands slot region) is = refl
lost_none code row (Made form slot from shift) is = refl
lost_none code row (Held slot array shift) is = refl
lost_none code row (Agree target source kind) is = refl
lost_none code row (Border slot shift) is = refl

pub kept_all : (code : Tables) (row : Instr) → loses_none row ≡ true → (facts : List Fact)
    → facts ≡ filter (λ fact. not (loses code row fact)) facts
kept_all code row is [] = refl
kept_all code row is (fact ∷ facts) =
    ap (λ facts. fact ∷ facts) (kept_all code row is facts)
    ∙ ap (λ b. cond (not b) (fact ∷ filter (λ fact. not (loses code row fact)) facts)
    (filter (λ fact. not (loses code row fact)) facts)) (sym (lost_none code row fact is))

-- ---- taking out the first of some numbers
pub closed_at : (xs : List ℕ) (i d exchange : ℕ) → i < length xs → get_or xs i d ≡ exchange
    → take i xs ++ without exchange (drop i xs) ≡ take i xs ++ drop (suc i) xs
closed_at [] i d exchange below is = absurd (omega (arith, below))
closed_at (x ∷ xs) zero d exchange below is =
    ap (λ b. cond b xs (x ∷ without exchange xs)) ((Decides-eqb x exchange).1 is)
closed_at (x ∷ xs) (suc i) d exchange below is =
    ap (λ xs. x ∷ xs) (closed_at xs i d exchange (omega (arith, below)) is)

pub closed_past : (xs : List ℕ) (i d exchange : ℕ) → i < length xs
    → (get_or xs i d ≡ exchange → ⊥)
    → take i xs ++ without exchange (drop i xs)
    ≡ take (suc i) xs ++ without exchange (drop (suc i) xs)
closed_past [] i d exchange below other = absurd (omega (arith, below))
closed_past (x ∷ xs) zero d exchange below other =
    by (x == exchange) refl
  where
    by : (b : Bool) → (x == exchange) ≡ b
        → cond (x == exchange) xs (x ∷ without exchange xs) ≡ x ∷ without exchange xs
    by true is = absurd (other ((Decides-eqb x exchange).0 is))
    by false is = ap (λ b. cond b xs (x ∷ without exchange xs)) is
closed_past (x ∷ xs) (suc i) d exchange below other =
    ap (λ xs. x ∷ xs) (closed_past xs i d exchange (omega (arith, below)) other)

-- ---- rows go to numbers that are there
goes_within : (code : Tables) (row : Instr) → FitsInstr code row
    → GoesWithin (length code.code + 1) row
goes_within code (instr.Jump goal) fits other is =
    let same : goal ≡ other = cc in
    omega (arith, fits.fit, same)
goes_within code (instr.Unless expr goal line) fits other is =
    let same : goal ≡ other = cc in
    omega (arith, fits.fit.1, same)
goes_within code row fits other is = cc

pub row_within : (code : Tables) (many : ℕ) (row : Instr) → FitsInstr code row
    → many ≡ length code.code + 1 → GoesWithin many row
row_within code many row fits is goal leads =
    omega (arith, is, goes_within code row fits goal leads)

-- ---- a walk along fronts that are right
module _ (code : Tables) (fronts : List (Option Point)) (fits : Fits code)
    (right : IsRight code fronts) where
  less : IsLess (begun fronts) (walked code 0 code.code (begun fronts))
  less =
      walk_less code 0 code.code (begun fronts) (omega (arith, right.many))
      (λ k row there.
      row_within code (length fronts) row (Fits-instr-row code k row fits there) right.many)

  pub walk_fewer : nones (walked code 0 code.code (begun fronts)).fronts ≤ nones fronts
  walk_fewer = less.fewer

  pub walk_reaches : (walked code 0 code.code (begun fronts)).reached ≡ true
      → nones (walked code 0 code.code (begun fronts)).fronts < nones fronts
  walk_reaches is = by (less.newly is)
    where
      by : (false ≡ true) ⊎ (nones (walked code 0 code.code (begun fronts)).fronts < nones fronts)
          → nones (walked code 0 code.code (begun fronts)).fronts < nones fronts
      by (inl no_way) = absurd (true≢false (sym no_way))
      by (inr fewer) = fewer

  pub walk_loses : (walked code 0 code.code (begun fronts)).reached ≡ false
      → (walked code 0 code.code (begun fronts)).lost ≡ true
      → sizes (walked code 0 code.code (begun fronts)).fronts < sizes fronts
  walk_loses is lost = by (less.loses is lost)
    where
      by : (false ≡ true) ⊎ (sizes (walked code 0 code.code (begun fronts)).fronts < sizes fronts)
          → sizes (walked code 0 code.code (begun fronts)).fronts < sizes fronts
      by (inl no_way) = absurd (true≢false (sym no_way))
      by (inr fewer) = fewer

-- ---- the first fronts
pub none_more : (fronts : List (Option Point)) (at : ℕ)
    → front_at (fronts ++ None ∷ []) at ≡ front_at fronts at
none_more [] zero = refl
none_more [] (suc at) = refl
none_more (front ∷ fronts) zero = refl
none_more (front ∷ fronts) (suc at) = none_more fronts at

pub one_longer : (fronts : List (Option Point))
    → length (fronts ++ None ∷ []) ≡ length fronts + 1
one_longer [] = omega arith
one_longer (front ∷ fronts) =
    let rest = one_longer fronts in
    omega (arith, rest)

pub first_right : (code : Tables) (fronts : List (Option Point))
    → ((at : ℕ) → front_at fronts at ≡ front_at (Some (start_point code) ∷ []) at)
    → length fronts ≡ length code.code + 1 → IsRight code fronts
first_right code fronts same many = record {
  good = λ at. subst (λ o. IsGoodAt code at o) (sym (same at)) (by at);
  many = many;
  start =
      subst (λ o. StartsWith code o) (sym (same 0)) (record {
        opened = refl;
        facts = λ fact h. h;
      });
}
  where
    by : (at : ℕ) → IsGoodAt code at (front_at (Some (start_point code) ∷ []) at)
    by zero = good_start code
    by (suc at) = tt

-- ---- one step of each loop
first_of : {X : Type 0} (xs : List X) (i : ℕ) (x : X) → slice_get xs i ≡ Some x
    → drop i xs ≡ x ∷ drop (suc i) xs
first_of [] i x there = cc
first_of (y ∷ xs) zero x there =
    let same : y ≡ x = cc in
    ap (λ y. y ∷ xs) same
first_of (y ∷ xs) (suc i) x there = first_of xs i x there

pub walked_step : (code : Tables) (rows : List Instr) (i : ℕ) (row : Instr) (walk : Walk)
    → slice_get rows i ≡ Some row
    → walked code (i + 1) (drop (i + 1) rows) (left code row (entered i walk))
    ≡ walked code i (drop i rows) walk
walked_step code rows i row walk there =
    let more : i + 1 ≡ suc i = omega arith in
    ap (λ n. walked code n (drop n rows) (left code row (entered i walk))) more
    ∙ ap (λ rest. walked code i rest walk) (sym (first_of rows i row there))

pub judged_step : (code : Tables) (fronts : List (Option Point)) (rows : List Instr) (i : ℕ)
    (row : Instr) (verdict : Verdict) → slice_get rows i ≡ Some row
    → judged code fronts (i + 1) (drop (i + 1) rows) (judged_at code fronts i row verdict)
    ≡ judged code fronts i (drop i rows) verdict
judged_step code fronts rows i row verdict there =
    let more : i + 1 ≡ suc i = omega arith in
    ap (λ n. judged code fronts n (drop n rows) (judged_at code fronts i row verdict)) more
    ∙ ap (λ rest. judged code fronts i rest verdict) (sym (first_of rows i row there))

pub start_step : (ranks : List ℕ) (i rank : ℕ) → slice_get ranks i ≡ Some rank
    → Stands i (no_places rank) ∷ start_slots (i + 1) (drop (i + 1) ranks)
    ≡ start_slots i (drop i ranks)
start_step ranks i rank there =
    let more : i + 1 ≡ suc i = omega arith in
    ap (λ n. Stands i (no_places rank) ∷ start_slots (i + 1) (drop n ranks)) more
    ∙ ap (start_slots i) (sym (first_of ranks i rank there))

pub members_step : (groups : List (List Member)) (i : ℕ) (group : List Member)
    → slice_get groups i ≡ Some group
    → sum_by length (drop i groups) ≡ length group + sum_by length (drop (i + 1) groups)
members_step groups i group there =
    let more : suc i ≡ i + 1 = omega arith in
    let one : sum_by length (group ∷ drop (suc i) groups)
    ≡ length group + sum_by length (drop (suc i) groups) =
    sum_by-cons length group (drop (suc i) groups) in
    ap (sum_by length) (first_of groups i group there)
    ∙ (one ∙ ap (λ n. length group + sum_by length (drop n groups)) more)

pub range_more : (n : ℕ)
    → map Uniform (range_with_len 0 n) ++ Uniform n ∷ [] ≡ map Uniform (range_with_len 0 (n + 1))
range_more n =
    let more : suc n ≡ n + 1 = omega arith in
    let none : 0 + n ≡ n = omega arith in
    ap (λ k. map Uniform (range_with_len 0 n) ++ Uniform k ∷ []) (sym none)
    ∙ (from 0 n ∙ ap (λ k. map Uniform (range_with_len 0 k)) more)
  where
    later : (a n : ℕ) → a + suc n ≡ a + 1 + n
    later a n = omega arith

    none_more : (a : ℕ) → a + 0 ≡ a
    none_more a = omega arith

    from : (a n : ℕ)
        → map Uniform (range_with_len a n) ++ Uniform (a + n) ∷ []
        ≡ map Uniform (range_with_len a (suc n))
    from a zero = ap (λ k. Uniform k ∷ []) (none_more a)
    from a (suc n) =
        ap (λ k. Uniform a ∷ (map Uniform (range_with_len (a + 1) n) ++ Uniform k ∷ [])) (later a n)
        ∙ ap (λ facts. Uniform a ∷ facts) (from (a + 1) n)

pub closed_end : (xs : List ℕ) (i exchange : ℕ) → length xs ≤ i
    → xs ≡ take i xs ++ without exchange (drop i xs)
closed_end [] zero exchange long = refl
closed_end [] (suc i) exchange long = refl
closed_end (x ∷ xs) zero exchange long = absurd (omega (arith, long))
closed_end (x ∷ xs) (suc i) exchange long =
    ap (λ xs. x ∷ xs) (closed_end xs i exchange (omega (arith, long)))

-- ---- both parts of a test
pub and_same : {a b c d : Bool} → a ≡ b → c ≡ d → (a && c) ≡ (b && d)
and_same {a = a} {d = d} first second = ap (λ c. a && c) second ∙ ap (λ a. a && d) first

pub some_ok : (P : Region → Type 0) (res : Result Region RegionLimit) (o : Option Region)
    → o ≡ result_ok res → IfOk res P → IfSome o P
some_ok P (Ok region) o is holds = subst (λ o. IfSome o P) (sym is) holds
some_ok P (Err limit) o is holds = subst (λ o. IfSome o P) (sym is) tt

pub formed_here : (form : RegionForm) (slot from : ℕ) (shift : List ℤ) (number : ℕ)
    (region : Region) → number ≡ from
    → map (Stands slot) (filter is_within_limit (formed_by form shift region ∷ []))
    ≡ formed_in form slot from shift (Stands number region)
formed_here form slot from shift number region same =
    ap (λ b. map (Stands slot) (filter is_within_limit
    (map (formed_by form shift) (cond b (region ∷ []) []))))
    (sym ((Decides-eqb number from).1 same))

pub none_told : (o : Option ℕ) → ((n : ℕ) → o ≡ Some n → ⊥) → o ≡ None
none_told None never = refl
none_told (Some n) never = absurd (never n refl)

pub three_negated : (xs : List ℤ) (a b c : ℤ) → length xs ≡ 3
    → a ≡ neg_ℤ (get_or xs 0 (pos 0)) → b ≡ neg_ℤ (get_or xs 1 (pos 0))
    → c ≡ neg_ℤ (get_or xs 2 (pos 0)) → a ∷ b ∷ c ∷ [] ≡ map neg_ℤ xs
three_negated [] a b c long e f g = absurd (omega (arith, long))
three_negated (x ∷ []) a b c long e f g = absurd (omega (arith, long))
three_negated (x ∷ y ∷ []) a b c long e f g = absurd (omega (arith, long))
three_negated (x ∷ y ∷ z ∷ []) a b c long e f g =
    ap (λ a. a ∷ b ∷ c ∷ []) e
    ∙ (ap (λ b. neg_ℤ x ∷ b ∷ c ∷ []) f ∙ ap (λ c. neg_ℤ x ∷ neg_ℤ y ∷ c ∷ []) g)
three_negated (x ∷ y ∷ z ∷ w ∷ xs) a b c long e f g = absurd (omega (arith, long))

pub fringe_of : (dims : List ArrayDim) (shift : List ℤ) (d : ArrayDim) → length dims ≡ 3
    → length shift ≡ 3
    → (is_in_fringe (get_or dims 0 d ∷ []) (get_or shift 0 (pos 0) ∷ [])
    && (is_in_fringe (get_or dims 1 d ∷ []) (get_or shift 1 (pos 0) ∷ [])
    && is_in_fringe (get_or dims 2 d ∷ []) (get_or shift 2 (pos 0) ∷ [])))
    ≡ is_in_fringe dims shift
fringe_of (one ∷ two ∷ three ∷ []) (x ∷ y ∷ z ∷ []) d many long =
    sym (fringe_three one two three x y z)
fringe_of [] shift d many long = absurd (omega (arith, many))
fringe_of (one ∷ []) shift d many long = absurd (omega (arith, many))
fringe_of (one ∷ two ∷ []) shift d many long = absurd (omega (arith, many))
fringe_of (one ∷ two ∷ three ∷ four ∷ dims) shift d many long = absurd (omega (arith, many))
fringe_of (one ∷ two ∷ three ∷ []) [] d many long = absurd (omega (arith, long))
fringe_of (one ∷ two ∷ three ∷ []) (x ∷ []) d many long = absurd (omega (arith, long))
fringe_of (one ∷ two ∷ three ∷ []) (x ∷ y ∷ []) d many long = absurd (omega (arith, long))
fringe_of (one ∷ two ∷ three ∷ []) (x ∷ y ∷ z ∷ w ∷ shift) d many long =
    absurd (omega (arith, long))
