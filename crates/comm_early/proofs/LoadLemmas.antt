-- What is noted of open exchanges is what is open among the rows as they stand.
use Rattle.std.proofs.Common.{◌≡◌, ◌⊎◌, inl, inr, refl, sym, ap, ◌∙◌, subst, arith, ℕ, suc}
use Rattle.std.proofs.Common.{◌+◌, ◌-◌, ◌≤◌, ◌<◌, ◌==◌, Bool, true, false, not, true≢false}
use Rattle.std.proofs.Common.{List, [], ◌∷◌, ◌++◌, length}
use Rattle.std.specs.Prelude.{◌&&◌, ◌||◌, cond, count_by, if◌then◌else◌, filter, max, nat_le, nat_lt}
use Rattle.std.specs.Prelude.{Option, Some, None, slice_get}
use Rattle.std.proofs.lemmas.Bool.{ltb-false, ltb-true, lt-ltb, le-ltb}
use Rattle.std.proofs.lemmas.Bool.Decides.{Decides-eqb, leb_tells}
use Rattle.std.proofs.lemmas.List.Sums.{length-filter, sum_by-cons}
use Rattle.std.proofs.lemmas.List.Filters.{length-filter_both}
use Rattle.last_writes.specs.of_node_form.declared.instructions.Instr.{Instr}
use Rattle.last_writes.specs.of_node_form.declared.instructions.Instr.TheVariants as instr
use Rattle.last_writes.specs.of_code_parts.Early.{is_roomy, open_behind}
use Rattle.last_writes.specs.Last.{is_listed, noted}
use Rattle.comm_early.specs.Place.{IsFinished, IsLoaded, IsNewLoad, IsStarted, finished_by}
use Rattle.comm_early.specs.Place.{full_with, later_starts}
use Rattle.comm_early.specs.Send.{open_behind_all}
use Rattle.comm_early.specs.Written.{other_at}
use Rattle.comm_early.specs.declared.load.Load.{Load}
use Rattle.comm_early.proofs.CrossLemmas.{is_finish, is_start, onto, onto_both, open_more}
use Rattle.comm_early.proofs.TrackLemmas.{Tracks, tracks_alike, tracks_both, tracks_later}
use Rattle.comm_early.proofs.TrackLemmas.{tracks_more, tracks_none}

-- ---- numbers
same_test : (a b c d : ℕ) → (a ≡ b → c ≡ d) → (c ≡ d → a ≡ b) → (a == b) ≡ (c == d)
same_test a b c d there back = by (a == b) (c == d) refl refl
  where
    by : (s t : Bool) → (a == b) ≡ s → (c == d) ≡ t → s ≡ t
    by true t one other =
        sym ((Decides-eqb c d).1 (there ((Decides-eqb a b).0 one))) ∙ other
    by false true one other =
        sym one ∙ (Decides-eqb a b).1 (back ((Decides-eqb c d).0 other))
    by false false one other = refl

other_test : (a b : ℕ) → ((a ≡ b) → ⊥) → (a == b) ≡ false
other_test a b differ = by (a == b) refl
  where
    by : (s : Bool) → (a == b) ≡ s → s ≡ false
    by true is = absurd (differ ((Decides-eqb a b).0 is))
    by false is = refl

least_test : (a b : ℕ) → nat_le a b ≡ not (nat_lt b a)
least_test a b = by (leb_tells a b)
  where
    by : ((nat_le a b ≡ true) × (a ≤ b)) ⊎ ((nat_le a b ≡ false) × (b < a))
        → nat_le a b ≡ not (nat_lt b a)
    by (inl most) = most.0 ∙ ap not (sym (le-ltb b a most.1))
    by (inr less) = less.0 ∙ ap not (sym (lt-ltb b a less.1))

-- ---- counts of a number
abbrev pub times_in : ℕ → List ℕ → ℕ
times_in x numbers = count_by (λ number. number == x) numbers

abbrev one_if : Bool → ℕ
one_if b = cond b 1 0

one_counted : (x y : ℕ) (numbers : List ℕ)
    → times_in x (y ∷ numbers) ≡ cond (y == x) 1 0 + times_in x numbers
one_counted x y numbers = sum_by-cons (λ number. cond (number == x) 1 0) y numbers

-- without one, none of it is left, and of others as many
abbrev left_without : ℕ → List ℕ → List ℕ
left_without x numbers = filter (λ number. not (number == x)) numbers

none_left : (x : ℕ) (numbers : List ℕ) → times_in x (left_without x numbers) ≡ 0
none_left x [] = refl
none_left x (number ∷ numbers) = by (number == x) refl (none_left x numbers)
  where
    by : (b : Bool) → (number == x) ≡ b → times_in x (left_without x numbers) ≡ 0
        → times_in x (cond (not b) (number ∷ left_without x numbers) (left_without x numbers)) ≡ 0
    by true is rest = rest
    by false is rest =
        one_counted x number (left_without x numbers)
        ∙ omega (arith, ap one_if is, rest)

others_left : (x y : ℕ) → (x == y) ≡ false → (numbers : List ℕ)
    → times_in y (left_without x numbers) ≡ times_in y numbers
others_left x y differ [] = refl
others_left x y differ (number ∷ numbers) =
    by (number == x) refl (others_left x y differ numbers)
  where
    by : (b : Bool) → (number == x) ≡ b
        → times_in y (left_without x numbers) ≡ times_in y numbers
        → times_in y (cond (not b) (number ∷ left_without x numbers) (left_without x numbers))
        ≡ times_in y (number ∷ numbers)
    by true is rest =
        let apart : (number == y) ≡ false =
        ap (λ n. n == y) ((Decides-eqb number x).0 is) ∙ differ in
        rest ∙ sym (one_counted y number numbers
        ∙ omega (arith, ap one_if apart))
    by false is rest =
        one_counted y number (left_without x numbers)
        ∙ (ap (λ n. cond (number == y) 1 0 + n) rest ∙ sym (one_counted y number numbers))

times_without : (x y : ℕ) (numbers : List ℕ) (old : ℕ) → old ≡ times_in y numbers
    → (if is_listed (x ∷ []) y then 0 else old) ≡ times_in y (left_without x numbers)
times_without x y numbers old is = by (x == y) refl
  where
    by : (b : Bool) → (x == y) ≡ b
        → (if b || false then 0 else old) ≡ times_in y (left_without x numbers)
    by true same =
        sym (subst (λ z. times_in z (left_without x numbers) ≡ 0) ((Decides-eqb x y).0 same)
        (none_left x numbers))
    by false differ = is ∙ sym (others_left x y differ numbers)

length_without : (x : ℕ) (numbers : List ℕ)
    → length numbers - times_in x numbers ≡ length (left_without x numbers)
length_without x numbers =
    let both = length-filter_both (λ number. number == x) (λ number. not (number == x))
    (λ number. refl) numbers in
    let first = length-filter (λ number. number == x) numbers in
    omega (arith, both, first)

times_with : (x y : ℕ) (numbers : List ℕ) (one old : ℕ) → one ≡ times_in x numbers
    → old ≡ times_in y numbers
    → (if is_listed (x ∷ []) y then one + 1 else old) ≡ times_in y (x ∷ numbers)
times_with x y numbers one old one_is old_is = by (x == y) refl ∙ sym (one_counted y x numbers)
  where
    by : (b : Bool) → (x == y) ≡ b
        → (if b || false then one + 1 else old) ≡ cond (x == y) 1 0 + times_in y numbers
    by true same =
        let count : one ≡ times_in y numbers =
        one_is ∙ ap (λ z. times_in z numbers) ((Decides-eqb x y).0 same) in
        omega (arith, count, ap one_if same)
    by false differ = omega (arith, old_is, ap one_if differ)

-- ---- links that are full, or will be
abbrev pub will_fill : Option ℕ → ℕ → Bool
will_fill None count = false
will_fill (Some capacity) count = count == capacity

full_is : (links : Option ℕ) (count number full : ℕ)
    → full_with links count number full ≡ (if true && not (is_roomy links count) then number else full)
full_is None count number full = refl
full_is (Some capacity) count number full =
    ap (λ b. if b then number else full) (least_test capacity count)

later_is : (links : Option ℕ) (count starts start : ℕ) → starts < start
    → is_listed (later_starts links count starts) start
    ≡ (true && will_fill links (count + (start - starts)))
later_is None count starts start after = refl
later_is (Some capacity) count starts start after = by (leb_tells capacity count)
  where
    or_none : (b : Bool) → (b || false) ≡ b
    or_none true = refl
    or_none false = refl

    by : ((nat_le capacity count ≡ true) × (capacity ≤ count))
        ⊎ ((nat_le capacity count ≡ false) × (count < capacity))
        → is_listed (if nat_le capacity count then [] else (starts + (capacity - count)) ∷ []) start
        ≡ (count + (start - starts) == capacity)
    by (inl most) =
        ap (λ b. is_listed (if b then [] else (starts + (capacity - count)) ∷ []) start) most.0
        ∙ sym (other_test (count + (start - starts)) capacity
        (λ same. omega (arith, same, most.1, after)))
    by (inr less) =
        ap (λ b. is_listed (if b then [] else (starts + (capacity - count)) ∷ []) start) less.0
        ∙ (or_none (starts + (capacity - count) == start)
        ∙ same_test (starts + (capacity - count)) start (count + (start - starts)) capacity
        (λ same. omega (arith, same, less.1, after)) (λ same. omega (arith, same, less.1, after)))

one_fuller : (finish : Bool) (links : Option ℕ) (count starts : ℕ)
    → ((finish && not (is_roomy links count))
    || (finish && will_fill links (count + (starts + 1 - starts))))
    ≡ (finish && not (is_roomy links (suc count)))
one_fuller false links count starts = refl
one_fuller true None count starts = refl
one_fuller true (Some capacity) count starts = by (nat_lt count capacity) refl
  where
    by : (b : Bool) → nat_lt count capacity ≡ b
        → (not b || (count + (starts + 1 - starts) == capacity)) ≡ not (nat_lt (suc count) capacity)
    by true is = from (nat_lt (suc count) capacity) refl
      where
        below : count < capacity
        below = ltb-true count capacity is

        from : (b : Bool) → nat_lt (suc count) capacity ≡ b
            → (count + (starts + 1 - starts) == capacity) ≡ not b
        from true less =
            other_test (count + (starts + 1 - starts)) capacity
            (λ same. omega (arith, same, ltb-true (suc count) capacity less))
        from false most =
            (Decides-eqb (count + (starts + 1 - starts)) capacity).1
            (omega (arith, below, ltb-false (suc count) capacity most))
    by false is =
        ap not (sym (le-ltb (suc count) capacity (omega (arith, ltb-false count capacity is))))

-- ---- rows as they stand: reversed, up to the last start, and the others behind it
module _ (code : List Instr) (links : Option ℕ) where
  abbrev pub opened_at : List Instr → ℕ → ℕ → List ℕ
  opened_at fixed first at = open_behind_all (onto code fixed first (at - first))

  pub record Loads (fixed : List Instr) (first last : ℕ) (load : Load) : Type 0 where
    pub capacity : load.links ≡ links
    pub times : (exchange : ℕ)
        → noted load.times exchange ≡ times_in exchange (opened_at fixed first last)
    pub opened : load.opened ≡ length (opened_at fixed first last)
    pub few_opened : load.opened ≤ last
    pub few_starts : load.starts ≤ last
    pub full : Tracks code (λ at row. is_finish row
        && not (is_roomy links (length (opened_at fixed first at)))) first last load.full
    pub later : (start : ℕ) → load.starts < start
        → Tracks code (λ at row. is_finish row
        && will_fill links (length (opened_at fixed first at) + (start - load.starts)))
        first last (noted load.later start)

  pub loads_new : (at : ℕ) (load : Load) → IsNewLoad links load → Loads [] at at load
  loads_new at load new = record {
    capacity = new.links;
    times = λ exchange. new.times exchange
        ∙ sym (ap (λ k. times_in exchange (open_behind_all (onto code [] at k))) none);
    opened = new.opened ∙ sym (ap (λ k. length (open_behind_all (onto code [] at k))) none);
    few_opened = omega (arith, new.opened);
    few_starts = omega (arith, new.starts);
    full = tracks_none code _ at load.full new.full;
    later = λ start after. tracks_none code _ at (noted load.later start) (new.later start);
  }
    where
      none : at - at ≡ 0
      none = omega arith

  -- ---- a row that is no start
  one_opened : (row : Instr) (before : List Instr) → is_start row ≡ false
      → open_behind_all (other_at (Some row) ++ before) ≡ open_behind (open_behind_all before) row
  one_opened (instr.Start exchange) before other = absurd (true≢false other)
  one_opened row before other = refl

  pub opened_next : (fixed : List Instr) (first last : ℕ) (row : Instr) → first ≤ last
      → slice_get code last ≡ Some row → is_start row ≡ false
      → opened_at fixed first (last + 1) ≡ open_behind (opened_at fixed first last) row
  opened_next fixed first last row order there other =
      let more : last + 1 - first ≡ suc (last - first) = omega (arith, order) in
      let same : first + (last - first) ≡ last = omega (arith, order) in
      ap (λ k. open_behind_all (onto code fixed first k)) more
      ∙ (ap (λ r. open_behind_all (other_at r ++ onto code fixed first (last - first)))
      (ap (slice_get code) same ∙ there)
      ∙ one_opened row (onto code fixed first (last - first)) other)

  loads_other : (fixed : List Instr) (first last : ℕ) (row : Instr) (load : Load) → first ≤ last
      → slice_get code last ≡ Some row → is_finish row ≡ false
      → opened_at fixed first (last + 1) ≡ opened_at fixed first last
      → Loads fixed first last load → Loads fixed first (last + 1) load
  loads_other fixed first last row load order there other same l = record {
    capacity = l.capacity;
    times = λ exchange. l.times exchange ∙ sym (ap (times_in exchange) same);
    opened = l.opened ∙ sym (ap length same);
    few_opened = omega (arith, l.few_opened);
    few_starts = omega (arith, l.few_starts);
    full = tracks_more code _ first last load.full load.full row there order
        (unmoved (not (is_roomy links (length (opened_at fixed first last)))) load.full) l.full;
    later = λ start after.
        tracks_more code _ first last (noted load.later start) (noted load.later start) row there
        order
        (unmoved (will_fill links
        (length (opened_at fixed first last) + (start - load.starts))) (noted load.later start))
        (l.later start after);
  }
    where
      unmoved : (b : Bool) (value : ℕ) → value ≡ (if is_finish row && b then last + 1 else value)
      unmoved b value = sym (ap (λ f. if f && b then last + 1 else value) other)

  loads_finish : (fixed : List Instr) (first last exchange : ℕ) (old new : Load) → first ≤ last
      → slice_get code last ≡ Some (instr.Finish exchange)
      → IsFinished old exchange (last + 1) new
      → Loads fixed first last old → Loads fixed first (last + 1) new
  loads_finish fixed first last exchange old new order there is l = record {
    capacity = is.links ∙ l.capacity;
    times = λ other. is.times other
        ∙ (times_without exchange other now (noted old.times other) (l.times other)
        ∙ sym (ap (times_in other) next));
    opened = opened ∙ sym (ap length next);
    few_opened = omega (arith, is.opened, l.few_opened);
    few_starts = omega (arith, is.starts, l.few_starts);
    full = tracks_more code _ first last old.full new.full (instr.Finish exchange) there order
        (is.full ∙ (ap (λ c. full_with c old.opened (last + 1) old.full) l.capacity
        ∙ (ap (λ n. full_with links n (last + 1) old.full) l.opened
        ∙ full_is links (length now) (last + 1) old.full))) l.full;
    later = λ start after.
        subst (λ n. Tracks code (λ at row. is_finish row
        && will_fill links (length (opened_at fixed first at) + (start - n)))
        first (last + 1) (noted new.later start)) (sym is.starts)
        (later start (subst (λ n. n < start) is.starts after));
  }
    where
      now : List ℕ
      now = opened_at fixed first last

      next : opened_at fixed first (last + 1) ≡ left_without exchange now
      next = opened_next fixed first last (instr.Finish exchange) order there refl

      opened : new.opened ≡ length (left_without exchange now)
      opened =
          is.opened
          ∙ (ap (λ n. n - noted old.times exchange) l.opened
          ∙ (ap (λ n. length now - n) (l.times exchange) ∙ length_without exchange now))

      later : (start : ℕ) → old.starts < start → Tracks code (λ at row. is_finish row
          && will_fill links (length (opened_at fixed first at) + (start - old.starts)))
          first (last + 1) (noted new.later start)
      later start after =
          tracks_more code _ first last (noted old.later start) (noted new.later start)
          (instr.Finish exchange) there order
          (is.later start
          ∙ (ap (λ c. if is_listed (later_starts c old.opened old.starts) start then last + 1
          else noted old.later start) l.capacity
          ∙ (ap (λ n. if is_listed (later_starts links n old.starts) start then last + 1
          else noted old.later start) l.opened
          ∙ ap (λ b. if b then last + 1 else noted old.later start)
          (later_is links (length now) old.starts start after))))
          (l.later start after)

  pub loads_row : (fixed : List Instr) (first last : ℕ) (row : Instr) (old new : Load)
      → first ≤ last → slice_get code last ≡ Some row → is_start row ≡ false
      → IsLoaded old row (last + 1) new
      → Loads fixed first last old → Loads fixed first (last + 1) new
  loads_row fixed first last (instr.Start exchange) old new order there other is l =
      absurd (true≢false other)
  loads_row fixed first last (instr.Finish exchange) old new order there other is l =
      loads_finish fixed first last exchange old new order there is l
  loads_row fixed first last row old new order there other is l =
      subst (Loads fixed first (last + 1)) (sym is)
      (loads_other fixed first last row old order there refl
      (opened_next fixed first last row order there refl) l)

  -- ---- a start, which crosses the last rows
  module _ (fixed : List Instr) (first a b exchange : ℕ)
      (others : (k : ℕ) (row : Instr) → k < b → slice_get code (first + a + k) ≡ Some row
      → is_listed (finished_by row) exchange ≡ false) where
    abbrev pub fixed_with : List Instr
    fixed_with = instr.Start exchange ∷ onto code fixed first a

    pub opened_before : (at : ℕ) → first + a ≤ at → at ≤ first + a + b
        → opened_at fixed_with (first + a) at ≡ exchange ∷ opened_at fixed first at
    opened_before at behind before =
        open_more code (onto code fixed first a) (first + a) (at - (first + a)) exchange
        (λ k row below. others k row (omega (arith, below, before, behind)))
        ∙ (ap (λ rows. exchange ∷ open_behind_all rows)
        (sym (onto_both code fixed first a (at - (first + a))))
        ∙ ap (λ k. exchange ∷ open_behind_all (onto code fixed first k)) same)
      where
        same : a + (at - (first + a)) ≡ at - first
        same = omega (arith, behind)

    pub opened_last : slice_get code (first + a + b) ≡ Some (instr.Start exchange)
        → opened_at fixed_with (first + a) (first + a + b + 1)
        ≡ exchange ∷ opened_at fixed first (first + a + b)
    opened_last there =
        ap (λ k. open_behind_all (onto code fixed_with (first + a) k)) more
        ∙ (ap (λ r. open_behind_all (other_at r ++ onto code fixed_with (first + a) b)) there
        ∙ (ap (λ k. open_behind_all (onto code fixed_with (first + a) k)) back
        ∙ opened_before (first + a + b) (omega arith) (omega arith)))
      where
        more : first + a + b + 1 - (first + a) ≡ suc b
        more = omega arith

        back : b ≡ first + a + b - (first + a)
        back = omega arith

    pub loads_start : (old new : Load)
        → slice_get code (first + a + b) ≡ Some (instr.Start exchange)
        → IsStarted old exchange new
        → Loads fixed first (first + a + b) old
        → Loads fixed_with (first + a) (first + a + b + 1) new
    loads_start old new there is l = record {
      capacity = is.links ∙ l.capacity;
      times = λ other. is.times other
          ∙ (times_with exchange other now (noted old.times exchange) (noted old.times other)
          (l.times exchange) (l.times other)
          ∙ sym (ap (times_in other) (opened_last there)));
      opened =
          omega (arith, is.opened, l.opened, ap length (opened_last there));
      few_opened = omega (arith, is.opened, l.few_opened);
      few_starts = omega (arith, is.starts, l.few_starts);
      full = tracks_more code _ (first + a) (first + a + b)
          (max old.full (noted old.later (old.starts + 1))) new.full (instr.Start exchange) there
          (omega arith) is.full full;
      later = λ start after.
          tracks_more code _ (first + a) (first + a + b) (noted old.later start)
          (noted new.later start) (instr.Start exchange) there (omega arith)
          (ap (λ notes. noted notes start) is.later)
          (later start after);
    }
      where
        now : List ℕ
        now = opened_at fixed first (first + a + b)

        order : first ≤ first + a
        order = omega arith

        full : Tracks code (λ at row. is_finish row
            && not (is_roomy links (length (opened_at fixed_with (first + a) at))))
            (first + a) (first + a + b) (max old.full (noted old.later (old.starts + 1)))
        full =
            tracks_alike code
            (λ at row. (is_finish row && not (is_roomy links (length (opened_at fixed first at))))
            || (is_finish row && will_fill links
            (length (opened_at fixed first at) + (old.starts + 1 - old.starts))))
            (λ at row. is_finish row
            && not (is_roomy links (length (opened_at fixed_with (first + a) at))))
            (first + a) (first + a + b) (max old.full (noted old.later (old.starts + 1)))
            (λ at row behind before here.
            one_fuller (is_finish row) links (length (opened_at fixed first at)) old.starts
            ∙ ap (λ numbers. is_finish row && not (is_roomy links (length numbers)))
            (sym (opened_before at behind (omega (arith, before)))))
            (tracks_both code
            (λ at row. is_finish row && not (is_roomy links (length (opened_at fixed first at))))
            (λ at row. is_finish row && will_fill links
            (length (opened_at fixed first at) + (old.starts + 1 - old.starts)))
            (first + a) (first + a + b) old.full (noted old.later (old.starts + 1))
            (tracks_later code
            (λ at row. is_finish row && not (is_roomy links (length (opened_at fixed first at))))
            first (first + a) (first + a + b) old.full order l.full)
            (tracks_later code
            (λ at row. is_finish row && will_fill links
            (length (opened_at fixed first at) + (old.starts + 1 - old.starts)))
            first (first + a) (first + a + b) (noted old.later (old.starts + 1)) order
            (l.later (old.starts + 1) (omega arith))))

        later : (start : ℕ) → new.starts < start → Tracks code (λ at row. is_finish row
            && will_fill links (length (opened_at fixed_with (first + a) at)
            + (start - new.starts))) (first + a) (first + a + b) (noted old.later start)
        later start after =
            tracks_alike code
            (λ at row. is_finish row && will_fill links
            (length (opened_at fixed first at) + (start - old.starts)))
            (λ at row. is_finish row && will_fill links
            (length (opened_at fixed_with (first + a) at) + (start - new.starts)))
            (first + a) (first + a + b) (noted old.later start)
            (λ at row behind before here.
            ap (λ n. is_finish row && will_fill links n)
            (sum at behind (omega (arith, before))))
            (tracks_later code
            (λ at row. is_finish row && will_fill links
            (length (opened_at fixed first at) + (start - old.starts)))
            first (first + a) (first + a + b) (noted old.later start) order
            (l.later start (omega (arith, after, is.starts))))
          where
            sum : (at : ℕ) → first + a ≤ at → at ≤ first + a + b
                → length (opened_at fixed first at) + (start - old.starts)
                ≡ length (opened_at fixed_with (first + a) at) + (start - new.starts)
            sum at behind before =
                omega (
                  arith,
                  after,
                  is.starts,
                  ap length (opened_before at behind before),
                )
