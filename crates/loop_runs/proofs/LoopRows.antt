-- The row `loop` on all processors, with its vote, does what the flat loop does.
--
--   loop_tied   where its needs were brought
use Rattle.std.proofs.Common.{◌≡◌, ◌⊎◌, inl, inr, refl, sym, ◌∙◌, ap, subst, arith, ℕ, zero, suc, ◌+◌}
use Rattle.std.proofs.Common.{◌<◌, ◌≤◌, Bool, true, false, ◌&&◌, ◌||◌, not, List, [], ◌∷◌}
use Rattle.std.proofs.Common.{map, ℤ, Option, Some, None}
use Rattle.std.specs.Prelude.{fold, if◌then◌else◌, nat_lt, option_and_then, slice_get, ⊤}
use Rattle.std.proofs.lemmas.Bool.Decides.{nat_tests}
use Rattle.std.specs.List.{flat_map, list_all, list_any, range_with_len}
use Rattle.zpl_nums.specs.declared.ends.End.TheVariants.{Trap, More}
use Rattle.zpl_nums.specs.declared.ends.TrapKind.TheVariants as kind
use Rattle.zpl_region.proofs.ListLemmas.{Among}
use Rattle.row_runs.specs.Run.{Ends as Ended, Goes, Step, Stops, Wrong}
use Rattle.row_runs.specs.Straight.{Every, Flow, OnTo, Tied, TiedHalt, TiedOn, TiedWrong}
use Rattle.row_runs.specs.Straight.{flow_behind, flow_of, through}
use Rattle.node_form.specs.declared.tables.Tables.{Tables}
use Rattle.node_form.specs.Group as group_of
use Rattle.code_parts.specs.Uses as uses
use Rattle.zpl_arrays.specs.Array.{Array}
use Rattle.grid_meaning.specs.Collective.{group_line, line_or_zero}
use Rattle.grid_meaning.specs.Local.{processors}
use Rattle.nest_meaning.proofs.TreeLemmas.{reads_only}
use Rattle.nest_meaning.specs.Units.{units_of}
use Rattle.flat_form.specs.Loop.{Point, all_awaiting, awaiting, log_ways, start_columns, units_do}
use Rattle.flat_form.specs.Names.{Total, group_totals}
use Rattle.flat_form.specs.Row.{member_inlined}
use Rattle.flat_form.specs.States.{IsWhole}
use Rattle.flat_form.specs.Whole.{Whole}
use Rattle.plan_form.specs.Units.{PlanRow, unit_rows}
use Rattle.comm_needs.specs.Needs.{is_voted_on, vote_if}
use Rattle.needs_runs.specs.of_plan_meaning.Abreast.{Abreast, Share, every, is_quiet, locals_of, standing}
use Rattle.needs_runs.specs.of_plan_meaning.Abreast.{are_none, go_where, of_processors}
use Rattle.needs_runs.proofs.of_plan_meaning.ThereLemmas.{there_is}
use Rattle.needs_runs.specs.of_plan_meaning.Act.{ends_where, found, is_vote_of, loop_does, voted, voted_as}
use Rattle.needs_runs.specs.of_plan_meaning.Loops.{Shared, Through, all_shared, lacks}
use Rattle.needs_runs.specs.of_plan_meaning.Loops.{looped, share_behind, shared, tree_looped, wants}
use Rattle.needs_runs.specs.Holds.{Holds}
use Rattle.needs_runs.specs.Planned.{planned_does, vote_behind, vote_where}
use Rattle.needs_runs.proofs.HoldsLemmas.{every_all, same_number, some_processors}
use Rattle.loop_runs.proofs.BehindLemmas.{Behind, behind_holds, whole_behind}
use Rattle.loop_runs.proofs.ColumnLemmas.{AnyOf, FlagFrom, From, Gone, HasFlag, IsLine, Keeps, Own, Waits}
use Rattle.loop_runs.proofs.ColumnLemmas.{own_from, own_run}
use Rattle.loop_runs.proofs.FlatLemmas.{FlatMore, FlatOn, FlatWrong, FlatZero, Kept}
use Rattle.loop_runs.proofs.LineLemmas.{line_is, loopless_units}
use Rattle.loop_runs.proofs.LoopEnd.{DoneAre, EndsAre, OwnAt, StageIs, ThroughTo, end_at}
use Rattle.loop_runs.proofs.LoopStart.{D, FlagsOf, FlatIs, Given, OwnTo, flat_to, kept_at, own_to, part, tuples}
use Rattle.loop_runs.proofs.LoopStart.{units, zeros}
use Rattle.loop_runs.proofs.PartLemmas.{inside_region, own_has, owner, owner_low}
use Rattle.loop_runs.proofs.TupleLemmas.{AllThrough, MoreDone, SomeWants, flag_of}
use Rattle.loop_runs.proofs.VoteLemmas.{all_less, less_all, less_have, less_none, less_of, vote_least}
use Rattle.loop_runs.proofs.VoteLemmas.{same_less, vote_none}

-- ---- tests
ahead : (a p : ℕ) → a ≤ p → (a ≡ p) ⊎ (a + 1 ≤ p)
ahead a p low = by (nat_lt a p) refl
  where
    by : (b : Bool) → nat_lt a p ≡ b → (a ≡ p) ⊎ (a + 1 ≤ p)
    by true e = let less : a < p = grind (arith, nat_tests, e) in inr (omega (arith, less))
    by false e = let more : p ≤ a = grind (arith, nat_tests, e) in inl (omega (arith, low, more))

list_fails : (test : ℕ → Bool) (a n p : ℕ) → a ≤ p → p < a + n → test p ≡ false
    → list_all test (range_with_len a n) ≡ false
list_fails test a zero p low high e = absurd (omega (arith, low, high))
list_fails test a (suc n) p low high e =
    by (ahead a p low) (λ more. list_fails test (a + 1) n p more (omega (arith, high)) e)
  where
    both : (b : Bool) → (b && false) ≡ false
    both true = refl
    both false = refl

    by : (a ≡ p) ⊎ (a + 1 ≤ p)
        → (a + 1 ≤ p → list_all test (range_with_len (a + 1) n) ≡ false)
        → list_all test (range_with_len a (suc n)) ≡ false
    by (inl same) rest =
        ap (λ b. b && list_all test (range_with_len (a + 1) n)) (ap test same ∙ e)
    by (inr more) rest = ap (λ b. test a && b) (rest more) ∙ both (test a)

every_fails : (code : Tables) (test : ℕ → Bool) (p : ℕ) → p < processors code → test p ≡ false
    → every code test ≡ false
every_fails code test p below e =
    list_fails test 0 (processors code) p (omega arith) (omega (arith, below)) e

module _ (code : Tables) (links : Option ℕ) (slot group n : ℕ) (whole : Whole) (all : Abreast)
    (g : Given code slot group n whole all) where
  abbrev At : List ℤ → Own Point
  At = OwnAt code slot group n whole all g

  abbrev Shares : ℕ → Shared
  Shares = shared code n (units code slot group n whole all g) slot all

  quiet : is_quiet all ≡ true
  quiet = ap are_none g.holds.flights

  abbrev OwnOf : Kept → Own Point
  OwnOf k =
      own_run (log_ways code.exprs whole k.at) n 0 (units code slot group n whole all g) k.point

  -- ---- what a tuple tells
  record TupleWith (Q : Own Point → Type 0) : Type 0 where
    at : List ℤ
    among : Among (tuples code slot group n whole all g) at
    has : Q (At at)

  any_tuple : (Q : Own Point → Type 0) (ts : List (List ℤ))
      → ((t : List ℤ) → Among ts t → Among (tuples code slot group n whole all g) t)
      → AnyOf (λ (k : Kept). Q (OwnOf k)) (map (kept_at code slot group n whole all g) ts)
      → TupleWith Q
  any_tuple Q [] within some = absurd some
  any_tuple Q (t ∷ ts) within (inl has) =
      record { at = t; among = within t (inl refl); has = has }
  any_tuple Q (t ∷ ts) within (inr some) = any_tuple Q ts (λ u k. within u (inr k)) some

  every_tuple : (Q : Own Point → Type 0) (ts : List (List ℤ))
      → Every (λ (k : Kept). Q (OwnOf k)) (map (kept_at code slot group n whole all g) ts)
      → (t : List ℤ) → Among ts t → Q (At t)
  every_tuple Q [] all t among = absurd among
  every_tuple Q (u ∷ ts) all t (inl same) = subst (λ v. Q (At v)) same all.0
  every_tuple Q (u ∷ ts) all t (inr among) = every_tuple Q ts all.1 t among

  some_tuple : (Q : Own Point → Type 0) (p : ℕ) (ts : List (List ℤ))
      → ((t : List ℤ) → Among ts t → Among (part code slot group n whole all g p) t)
      → AnyOf (λ t. Q (At t)) ts → TupleWith Q
  some_tuple Q p [] within some = absurd some
  some_tuple Q p (t ∷ ts) within (inl has) = record {
    at = t;
    among = (inside_region code g.layout g.rank g.region g.slot_is p t (within t (inl refl))).0;
    has = has;
  }
  some_tuple Q p (t ∷ ts) within (inr some) = some_tuple Q p ts (λ u k. within u (inr k)) some

  -- ---- the loop of a processor
  lacks_none : (p : ℕ) (below : p < processors code) → lacks code n (Shares p) ≡ false
  lacks_none p below = by (Shares p) (own_to code slot group n whole all g p below)
    where
      by : (s : Shared) → OwnTo code slot group n whole all g p below s → lacks code n s ≡ false
      by s (AllThrough through) = refl
      by s (SomeWants some) = refl

  record KeepsAt (t : List ℤ) : Type 0 where
    point : Point
    flag : Option ℕ
    is : At t ≡ Keeps point flag
    divides : (m : ℕ) → flag ≡ Some m → D code slot group n whole all g

  done_keeps : (p : ℕ) (below : p < processors code) (ts : List (List ℤ)) (points : List Point)
      → DoneAre code slot group n whole all g p below ts points → (t : List ℤ) → Among ts t
      → KeepsAt t
  done_keeps p below [] points done t among = absurd among
  done_keeps p below (u ∷ ts) points (MoreDone {q = q} {flag = flag} is divides rest) t (inl same) =
      subst KeepsAt same (record { point = q; flag = flag; is = is; divides = divides })
  done_keeps p below (u ∷ ts) points (MoreDone {qs = more} is divides rest) t (inr among) =
      done_keeps p below ts more rest t among

  keeps_waits : (t : List ℤ) → KeepsAt t → At t ≡ Waits → ⊥
  keeps_waits t keeps e = apart (sym keeps.is ∙ e)
    where
      apart : {q : Point} {flag : Option ℕ} → Keeps q flag ≡ Waits → ⊥
      apart e = cc

  -- one that waits at a tuple wants a turn
  waits_wants : (p : ℕ) (below : p < processors code) (t : List ℤ)
      → Among (part code slot group n whole all g p) t → At t ≡ Waits → wants code n (Shares p) ≡ true
  waits_wants p below t among e = by (Shares p) (own_to code slot group n whole all g p below)
    where
      by : (s : Shared) → OwnTo code slot group n whole all g p below s → wants code n s ≡ true
      by s (AllThrough through) =
          absurd (keeps_waits t (done_keeps p below (part code slot group n whole all g p)
          through.points through.done t among) e)
      by s (SomeWants some) = refl

  -- where none waits, all are through
  flags_less : (p : ℕ) (below : p < processors code) (flag : Option ℕ) (ts : List (List ℤ))
      → FlagsOf code slot group n whole all g p below flag ts
      ≡ all_less (λ t. flag_of (At t)) flag ts
  flags_less p below flag [] = refl
  flags_less p below flag (t ∷ ts) =
      ap (λ f. FlagsOf code slot group n whole all g p below f ts) (same_less flag (flag_of (At t)))
      ∙ flags_less p below (less_of flag (flag_of (At t))) ts

  record GoesThrough (p : ℕ) (below : p < processors code) : Type 0 where
    to : group_of.Point (List Array)
    through : ThroughTo code slot group n whole all g p below to
    flag : Option ℕ
    is : Shares p ≡ Through to flag
    flag_is : flag ≡ all_less (λ t. flag_of (At t)) None (part code slot group n whole all g p)

  goes_through : (p : ℕ) (below : p < processors code)
      → ((t : List ℤ) → Among (tuples code slot group n whole all g) t → At t ≡ Waits → ⊥)
      → GoesThrough p below
  goes_through p below never =
      by (Shares p) refl (own_to code slot group n whole all g p below)
    where
      by : (s : Shared) → Shares p ≡ s → OwnTo code slot group n whole all g p below s
          → GoesThrough p below
      by s is (AllThrough {to = to} through) = record {
        to = to;
        through = through;
        flag = FlagsOf code slot group n whole all g p below None (part code slot group n whole all g p);
        is = is;
        flag_is = flags_less p below None (part code slot group n whole all g p);
      }
      by s is (SomeWants some) =
          let found = some_tuple (λ o. o ≡ Waits) p (part code slot group n whole all g p) (λ t k. k)
          some in absurd (never found.at found.among found.has)

  -- ---- the row
  abbrev next_vote : Bool
  next_vote = is_vote_of group (vote_behind code group)

  abbrev come : Abreast
  come = record all { shares = λ p. share_behind code n (all.shares p) (Shares p) }

  abbrev all_behind : Abreast
  all_behind = of_processors code all come

  loop_is : loop_does code links n slot group (vote_behind code group) all
      ≡ all_shared code n Shares next_vote all
  loop_is =
      ap (λ o. found o (λ members. looped code n next_vote slot members all)) g.there
      ∙ ap (λ o. tree_looped code n next_vote slot o all) g.is_nest

  none_lack : every code (λ p. not (lacks code n (Shares p))) ≡ true
  none_lack = every_all code (λ p. not (lacks code n (Shares p)))
      (λ p below. ap not (lacks_none p below))

  row_goes : ((p : ℕ) → p < processors code → wants code n (Shares p) ≡ false)
      → loop_does code links n slot group (vote_behind code group) all ≡ Goes [] all_behind
  row_goes none =
      loop_is
      ∙ (ap (λ b. if b then (if every code (λ p. not (wants code n (Shares p))) then Goes [] all_behind
      else (if next_vote && is_quiet all then Stops (Ended More) else Stops Wrong)) else Stops Wrong)
      none_lack
      ∙ ap (λ b. if b then Goes [] all_behind
      else (if next_vote && is_quiet all then Stops (Ended More) else Stops Wrong))
      (every_all code (λ p. not (wants code n (Shares p))) (λ p below. ap not (none p below))))

  row_wants : (q : ℕ) → q < processors code → wants code n (Shares q) ≡ true → next_vote ≡ true
      → loop_does code links n slot group (vote_behind code group) all ≡ Stops (Ended More)
  row_wants q below wanted vote =
      loop_is
      ∙ (ap (λ b. if b then (if every code (λ p. not (wants code n (Shares p))) then Goes [] all_behind
      else (if next_vote && is_quiet all then Stops (Ended More) else Stops Wrong)) else Stops Wrong)
      none_lack
      ∙ (ap (λ b. if b then Goes [] all_behind
      else (if next_vote && is_quiet all then Stops (Ended More) else Stops Wrong))
      (every_fails code (λ p. not (wants code n (Shares p))) q below (ap not wanted))
      ∙ (ap (λ b. if b && is_quiet all then Stops (Ended More) else Stops Wrong) vote
      ∙ ap (λ b. if b then Stops (Ended More) else Stops Wrong) quiet)))

  -- ---- votes
  voted_next : D code slot group n whole all g → next_vote ≡ true
  voted_next is = ap (λ b. is_vote_of group (vote_where b group)) is ∙ same_number group

  waits_voted : (t : List ℤ) → At t ≡ Waits → D code slot group n whole all g
  waits_voted t e = by (list_any uses.is_turning g.group_members) refl
    where
      either : (b : Bool) → (b || true) ≡ true
      either true = refl
      either false = refl

      by : (b : Bool) → list_any uses.is_turning g.group_members ≡ b → D code slot group n whole all g
      by true is =
          ap (λ b. list_any uses.divides_in (uses.group_words code group) || b)
          (ap (λ o. list_any uses.is_turning (uses.rows_or_none o)) g.there ∙ is)
          ∙ either (list_any uses.divides_in (uses.group_words code group))
      by false is =
          absurd (subst (From 0) e
          (own_from (log_ways code.exprs whole t) n 0 (units_of g.nest)
          (loopless_units g.nest (ap (list_any uses.is_turning)
          (reads_only g.group_members g.nest g.is_nest) ∙ is))
          (record { cells = zeros code slot group n whole all g; log = [] })))

  abbrev VoteRows : Bool → List PlanRow
  VoteRows b = flat_map unit_rows (vote_if b group)

  abbrev Plan : Bool → Flow Abreast
  Plan b =
      flow_of (loop_does code links n slot group (vote_behind code group) all)
      (λ next. through (planned_does code links n) (VoteRows b) next)

  abbrev totals_of : List Total
  totals_of = group_totals (map (member_inlined code) g.group_members)

  abbrev FlatFlow : Step Whole → Flow Whole
  FlatFlow step = flow_of (all_awaiting totals_of step) (λ next. OnTo [] next)

  -- ---- a further turn is wanted
  tied_more : TupleWith (λ o. o ≡ Waits)
      → Tied (Holds code) (FlatFlow (Stops (Ended More))) (Plan (is_voted_on code group))
  tied_more found =
      let q = owner code g.layout g.rank g.region g.slot_is found.at in
      let below = owner_low code g.layout g.rank g.region g.slot_is found.at in
      subst (λ step. Tied (Holds code) (FlatFlow (Stops (Ended More)))
      (flow_of step (λ next. through (planned_does code links n) (VoteRows (is_voted_on code group)) next)))
      (sym (row_wants q below
      (waits_wants q below found.at
      (own_has code g.layout g.rank g.region g.slot_is found.at found.among) found.has)
      (voted_next (waits_voted found.at found.has))))
      TiedHalt

  -- ---- all go on
  module _ (never : (t : List ℤ) → Among (tuples code slot group n whole all g) t → At t ≡ Waits → ⊥)
    where
      none_want : (p : ℕ) → p < processors code → wants code n (Shares p) ≡ false
      none_want p below = ap (wants code n) (goes_through p below never).is

      flag_behind : (p : ℕ) (below : p < processors code)
          → (all_behind.shares p).flag ≡ (goes_through p below never).flag
      flag_behind p below =
          ap (λ (share : Share). share.flag) (there_is code all come p below)
          ∙ ap (λ s. (share_behind code n (all.shares p) s).flag) (goes_through p below never).is

      quiet_behind : is_quiet all_behind ≡ true
      quiet_behind = quiet

      -- a zero divisor
      module _ (m line : ℕ) (at : IsLine 0 (units code slot group n whole all g) m line)
          (from : (t : List ℤ) → Among (tuples code slot group n whole all g) t → From m (At t))
          (some : TupleWith (HasFlag m)) where
        flag_from : (t : List ℤ) → Among (tuples code slot group n whole all g) t
            → FlagFrom m (flag_of (At t))
        flag_from t among = by (At t) (from t among)
          where
            by : (o : Own Point) → From m o → FlagFrom m (flag_of o)
            by (Keeps q flag) is = is
            by Waits is = absurd is
            by Gone is = tt

        flag_some : (o : Own Point) → HasFlag m o → flag_of o ≡ Some m
        flag_some (Keeps q flag) is = is
        flag_some Waits is = absurd is
        flag_some Gone is = absurd is

        part_from : (p : ℕ) (ts : List (List ℤ))
            → ((t : List ℤ) → Among ts t → Among (part code slot group n whole all g p) t)
            → Every (λ t. FlagFrom m (flag_of (At t))) ts
        part_from p [] within = tt
        part_from p (t ∷ ts) within = (
          flag_from t (inside_region code g.layout g.rank g.region g.slot_is p t (within t (inl refl))).0,
          part_from p ts (λ u k. within u (inr k)),
        )

        any_among : (ts : List (List ℤ)) (t : List ℤ) → Among ts t → flag_of (At t) ≡ Some m
            → AnyOf (λ t. flag_of (At t) ≡ Some m) ts
        any_among [] t among e = absurd among
        any_among (u ∷ ts) t (inl same) e = inl (subst (λ v. flag_of (At v) ≡ Some m) (sym same) e)
        any_among (u ∷ ts) t (inr among) e = inr (any_among ts t among e)

        all_from : (p : ℕ) (below : p < processors code)
            → FlagFrom m (standing (all_behind.shares p)).flag
        all_from p below =
            subst (FlagFrom m) (sym (flag_behind p below ∙ (goes_through p below never).flag_is))
            (less_all (λ t. flag_of (At t)) m (part code slot group n whole all g p) None tt
            (part_from p (part code slot group n whole all g p) (λ t k. k)))

        abbrev q : ℕ
        q = owner code g.layout g.rank g.region g.slot_is some.at

        q_low : q < processors code
        q_low = owner_low code g.layout g.rank g.region g.slot_is some.at

        q_among : Among (part code slot group n whole all g q) some.at
        q_among = own_has code g.layout g.rank g.region g.slot_is some.at some.among

        q_has : (standing (all_behind.shares q)).flag ≡ Some m
        q_has =
            flag_behind q q_low
            ∙ ((goes_through q q_low never).flag_is
            ∙ less_have (λ t. flag_of (At t)) m (part code slot group n whole all g q) None tt
            (part_from q (part code slot group n whole all g q) (λ t k. k))
            (inr (any_among (part code slot group n whole all g q) some.at q_among
            (flag_some (At some.at) some.has))))

        divides : D code slot group n whole all g
        divides =
            let keeps = done_keeps q q_low (part code slot group n whole all g q)
            (goes_through q q_low never).through.points (goes_through q q_low never).through.done some.at
            q_among in
            keeps.divides m (sym (ap flag_of keeps.is) ∙ flag_some (At some.at) some.has)

        line_here : group_line code group m ≡ line
        line_here =
            ap (λ o. line_or_zero
            (option_and_then (λ members. slice_get members m) o)) g.there
            ∙ (ap (λ l. line_or_zero (slice_get l m))
            (sym (reads_only g.group_members g.nest g.is_nest)) ∙ line_is g.nest m line at)

        vote_ends : voted code all_behind group ≡ Stops (Ended (Trap kind.DivideByZero line))
        vote_ends =
            ap (voted_as code all_behind group)
            (vote_least (locals_of all_behind) (processors code) (some_processors code) m q q_low q_has
            all_from)
            ∙ (ap (λ b. ends_where b (Trap kind.DivideByZero (group_line code group m))) quiet_behind
            ∙ ap (λ l. Stops (Ended (Trap kind.DivideByZero l))) line_here)

        tied_zero : Tied (Holds code) (FlatFlow (Stops (Ended (Trap kind.DivideByZero line))))
            (Plan (is_voted_on code group))
        tied_zero =
            subst (λ b. Tied (Holds code) (FlatFlow (Stops (Ended (Trap kind.DivideByZero line)))) (Plan b))
            (sym divides)
            (subst (λ step. Tied (Holds code) (FlatFlow (Stops (Ended (Trap kind.DivideByZero line))))
            (flow_of step (λ next. through (planned_does code links n) (VoteRows true) next)))
            (sym (row_goes none_want))
            (subst (λ step. Tied (Holds code) (FlatFlow (Stops (Ended (Trap kind.DivideByZero line))))
            (flow_behind [] (flow_of step (λ next. OnTo [] next))))
            (sym vote_ends) TiedHalt))

      -- ---- nothing has stopped it
      module _ (next : Whole) (news : List Kept)
          (ends : EndsAre code slot group n whole all g (tuples code slot group n whole all g) news)
          (stage : (p : ℕ) (below : p < processors code)
          → StageIs code slot group n whole all g p below next news)
          (is_whole : IsWhole code (whole_behind code slot group n whole all g next news ends)) where
        flag_none : (t : List ℤ) → Among (tuples code slot group n whole all g) t
            → flag_of (At t) ≡ None
        flag_none t among =
            ap flag_of (end_at code slot group n whole all g (λ k. ⊤)
            (tuples code slot group n whole all g) news ends (all_true news) t among).own
          where
            all_true : (ks : List Kept) → Every (λ k. ⊤) ks
            all_true [] = tt
            all_true (k ∷ ks) = (tt, all_true ks)

        part_none : (p : ℕ) (ts : List (List ℤ))
            → ((t : List ℤ) → Among ts t → Among (part code slot group n whole all g p) t)
            → Every (λ t. flag_of (At t) ≡ None) ts
        part_none p [] within = tt
        part_none p (t ∷ ts) within = (
          flag_none t (inside_region code g.layout g.rank g.region g.slot_is p t (within t (inl refl))).0,
          part_none p ts (λ u k. within u (inr k)),
        )

        none_here : (p : ℕ) (below : p < processors code) → (goes_through p below never).flag ≡ None
        none_here p below =
            (goes_through p below never).flag_is
            ∙ less_none (λ t. flag_of (At t)) (part code slot group n whole all g p)
            (part_none p (part code slot group n whole all g p) (λ t k. k))

        behind_one : (p : ℕ) (below : p < processors code) (share : Share)
            → share ≡ record (share_behind code n (all.shares p) (Shares p)) { flag = None }
            → Behind code slot group n whole all g next news ends p below share
        behind_one p below share is = record {
          to = (goes_through p below never).to;
          through = (goes_through p below never).through;
          stage = stage p below;
          is = is ∙ ap (λ s. record (share_behind code n (all.shares p) s) { flag = None })
              (goes_through p below never).is;
        }

        with_none : (p : ℕ) (below : p < processors code)
            → all_behind.shares p
            ≡ record (share_behind code n (all.shares p) (Shares p)) { flag = None }
        with_none p below =
            there_is code all come p below
            ∙ (ap (λ s. share_behind code n (all.shares p) s) (goes_through p below never).is
            ∙ (ap (λ f. share_behind code n (all.shares p) (Through (goes_through p below never).to f))
            (none_here p below)
            ∙ sym (ap (λ s. record (share_behind code n (all.shares p) s) { flag = None })
            (goes_through p below never).is)))

        abbrev cleared : Abreast
        cleared = record all_behind { shares = λ p. record (all_behind.shares p) { flag = None } }

        vote_goes : voted code all_behind group ≡ Goes [] cleared
        vote_goes =
            ap (voted_as code all_behind group)
            (vote_none (locals_of all_behind) (processors code) (some_processors code)
            (λ p below. flag_behind p below ∙ none_here p below))
            ∙ ap (λ b. go_where b [] cleared) quiet_behind

        tied_on : Tied (Holds code) (FlatFlow (Goes [] next)) (Plan (is_voted_on code group))
        tied_on = by (is_voted_on code group)
          where
            by : (b : Bool) → Tied (Holds code) (FlatFlow (Goes [] next)) (Plan b)
            by true =
                subst (λ step. Tied (Holds code) (FlatFlow (Goes [] next))
                (flow_of step (λ next. through (planned_does code links n) (VoteRows true) next)))
                (sym (row_goes none_want))
                (subst (λ step. Tied (Holds code) (FlatFlow (Goes [] next))
                (flow_behind [] (flow_of step (λ next. OnTo [] next)))) (sym vote_goes)
                (TiedOn (behind_holds code slot group n whole all g next news ends cleared g.holds.flights
                is_whole (λ p below. behind_one p below (cleared.shares p)
                (ap (λ (share : Share). record share { flag = None }) (there_is code all come p below))))))
            by false =
                subst (λ step. Tied (Holds code) (FlatFlow (Goes [] next))
                (flow_of step (λ next. through (planned_does code links n) (VoteRows false) next)))
                (sym (row_goes none_want))
                (TiedOn (behind_holds code slot group n whole all g next news ends all_behind
                g.holds.flights is_whole
                (λ p below. behind_one p below (all_behind.shares p) (with_none p below))))

  -- ---- all cases
  pub loop_tied : ((w : Whole)
      → all_awaiting totals_of (units_do n code.exprs (units code slot group n whole all g)
      (start_columns g.region (map (member_inlined code) g.group_members)) whole) ≡ Goes [] w
      → IsWhole code w)
      → Tied (Holds code)
      (FlatFlow (units_do n code.exprs (units code slot group n whole all g)
      (start_columns g.region (map (member_inlined code) g.group_members)) whole))
      (Plan (is_voted_on code group))
  loop_tied wholes =
      by (units_do n code.exprs (units code slot group n whole all g)
      (start_columns g.region (map (member_inlined code) g.group_members)) whole) wholes
      (flat_to code slot group n whole all g)
    where
      by : (step : Step Whole)
          → ((w : Whole) → all_awaiting totals_of step ≡ Goes [] w → IsWhole code w)
          → FlatIs code slot group n whole all g step
          → Tied (Holds code) (FlatFlow step) (Plan (is_voted_on code group))
      by step wholes FlatWrong = TiedWrong
      by step wholes (FlatMore some) =
          tied_more (any_tuple (λ o. o ≡ Waits) (tuples code slot group n whole all g) (λ t k. k) some)
      by step wholes (FlatZero m line at from some) =
          let each : (t : List ℤ) → Among (tuples code slot group n whole all g) t → From m (At t) =
          every_tuple (From m) (tuples code slot group n whole all g) from in
          tied_zero (λ t among e. subst (From m) e (each t among)) m line at each
          (any_tuple (HasFlag m) (tuples code slot group n whole all g) (λ t k. k) some)
      by step wholes (FlatOn {next = next} {news = news} ends stage) =
          tied_on (λ t among e. ended t among ends e) next news ends (λ p below. stage)
          (wholes (fold awaiting next totals_of) refl)
        where
          all_true : (ks : List Kept) → Every (λ k. ⊤) ks
          all_true [] = tt
          all_true (k ∷ ks) = (tt, all_true ks)

          ended : {news : List Kept} (t : List ℤ) → Among (tuples code slot group n whole all g) t
              → EndsAre code slot group n whole all g (tuples code slot group n whole all g) news
              → At t ≡ Waits → ⊥
          ended {news = news} t among ends e =
              let found = end_at code slot group n whole all g (λ k. ⊤)
              (tuples code slot group n whole all g) news ends (all_true news) t among in
              apart (sym found.own ∙ e)
            where
              apart : {q : Point} {flag : Option ℕ} → Keeps q flag ≡ Waits → ⊥
              apart e = cc
