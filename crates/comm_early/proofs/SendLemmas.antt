-- Starts moved up, one row after another.
use Rattle.std.proofs.Common.{◌≡◌, refl, sym, ap, ◌∙◌, subst, arith, ℕ, suc, ◌+◌, ◌-◌, ◌≤◌, ◌==◌}
use Rattle.std.proofs.Common.{Bool, true, false, List, [], ◌∷◌, ◌++◌, drop, length}
use Rattle.std.specs.Prelude.{fold, reverse, Option, Some, slice_get}
use Rattle.std.proofs.Math.Path.{fun_ext}
use Rattle.std.proofs.lemmas.List.Sums.{count_by-le-length}
use Rattle.std.proofs.lemmas.List.{append-nil, append_assoc, reverse-append}
use Rattle.last_writes.specs.of_node_form.declared.instructions.Instr.{Instr}
use Rattle.last_writes.specs.of_node_form.declared.instructions.Instr.TheVariants as instr
use Rattle.last_writes.specs.of_node_form.declared.tables.Tables.{Tables}
use Rattle.last_writes.specs.of_row_runs.Cut.{moved_by, passed}
use Rattle.last_writes.specs.of_code_parts.Stretch.{ends_stretch, is_goal}
use Rattle.last_writes.specs.of_code_parts.Uses.{items_of}
use Rattle.last_writes.specs.of_flat_passes.Rewritten.{stretches_of}
use Rattle.last_writes.proofs.of_plan_form.PassLemmas.{dropped, dropped_all}
use Rattle.last_writes.proofs.of_plan_form.WalkLemmas as walks
use Rattle.last_writes.specs.Last.{noted}
use Rattle.comm_early.specs.Place.{IsNewStretch, IsNotedRow, place_by}
use Rattle.comm_early.specs.Send.{put_early, put_row, sent_early}
use Rattle.comm_early.specs.Written.{IsAt, IsFlushed, IsSentRow, IsStartSent, IsWrittenTo}
use Rattle.comm_early.specs.Written.{other_at, other_rows, others}
use Rattle.comm_early.specs.declared.sent.Sent.{Sent}
use Rattle.comm_early.specs.declared.stretch.Stretch.{Stretch}
use Rattle.comm_early.proofs.CrossLemmas.{is_start, onto, onto_reversed, put_at}
use Rattle.comm_early.proofs.FollowLemmas.{Follows, IsPlace, follows_new, follows_row, follows_start}
use Rattle.comm_early.proofs.FollowLemmas.{place_is}
use Rattle.comm_early.proofs.LoadLemmas.{Loads, opened_at}

module _ (tables : Tables) (links : Option ℕ) where
  -- ---- the rows of all stretches, as one walk
  abbrev step : List Instr → Instr → List Instr
  step before row = []

  abbrev close : List Instr → List Instr
  close before = reverse before

  abbrev same_last : (ℕ → ℕ) → Instr → Instr
  same_last moved row = row

  abbrev closed : List Instr → List Instr → List Instr
  closed = walks.closed {F = List Instr} {Old = Instr} {New = Instr} ends_stretch
      (is_goal tables.code) [] step (put_row tables links) close same_last

  abbrev pub walk : (ℕ → ℕ) → List Instr → ℕ → List Instr → List Instr
  walk = walks.walk {F = List Instr} {Old = Instr} {New = Instr} ends_stretch
      (is_goal tables.code) [] step (put_row tables links) close same_last

  abbrev pub in_front : Bool → List Instr → List Instr
  in_front = walks.in_front {F = List Instr} {Old = Instr} {New = Instr} ends_stretch
      (is_goal tables.code) [] step (put_row tables links) close same_last

  abbrev pub known : Bool → List Instr → List Instr
  known = walks.known {F = List Instr} {Old = Instr} {New = Instr} ends_stretch
      (is_goal tables.code) [] step (put_row tables links) close same_last

  abbrev pub put : Bool → (ℕ → ℕ) → List Instr → Instr → List Instr
  put = walks.put {F = List Instr} {Old = Instr} {New = Instr} ends_stretch
      (is_goal tables.code) [] step (put_row tables links) close same_last

  abbrev pub learnt : Bool → List Instr → Instr → List Instr
  learnt = walks.learnt {F = List Instr} {Old = Instr} {New = Instr} ends_stretch
      (is_goal tables.code) [] step (put_row tables links) close same_last

  closed_is : (before rows : List Instr)
      → closed before rows ≡ reverse (fold (put_row tables links) before rows)
  closed_is before [] = refl
  closed_is before (row ∷ rows) = closed_is (put_row tables links before row) rows

  abbrev pub moved : ℕ → ℕ
  moved = moved_by (closed []) same_last (stretches_of tables.code)

  pub all_sent : walk moved [] 0 tables.code ≡ (sent_early links tables).code
  all_sent =
      sym (walks.passed_walk {F = List Instr} {Old = Instr} {New = Instr} ends_stretch
      (is_goal tables.code) [] step (put_row tables links) close same_last refl tables.code)
      ∙ ap (λ f. passed f same_last (stretches_of tables.code)) (fun_ext (closed_is []))

  -- ---- the rows that are written in front of one, and those that aren't yet
  abbrev Stopped : List Instr → Type 0
  Stopped fixed = (exchange : ℕ)
      → put_early tables links exchange fixed ≡ instr.Start exchange ∷ fixed

  pub record IsSending (code : List Instr) (done : ℕ) (stretch : Stretch) (at : ℕ) : Type 0 where
    pub prior : List Instr
    pub fixed : List Instr
    pub count : ℕ
    pub number : at ≡ done + count
    pub is : code ≡ prior ++ reverse fixed
    pub left : prior ++ walk moved (onto tables.code fixed done count) at (drop at tables.code)
        ≡ walk moved [] 0 tables.code
    pub top : Stopped fixed
    pub follows : Follows tables links fixed done at stretch

  pub sends_begin : (stretch : Stretch) → IsNewStretch links stretch → IsSending [] 0 stretch 0
  sends_begin stretch new = record {
    prior = [];
    fixed = [];
    count = 0;
    number = refl;
    is = refl;
    left = refl;
    top = λ exchange. refl;
    follows = follows_new tables links 0 stretch new;
  }

  -- all that stand there, written
  flushed : (code prior fixed : List Instr) (done count to : ℕ) → code ≡ prior ++ reverse fixed
      → to - done ≡ count
      → code ++ others tables.code done to ≡ prior ++ reverse (onto tables.code fixed done count)
  flushed code prior fixed done count to is size =
      ap (λ n. code ++ other_rows tables.code done n) size
      ∙ (ap (λ l. l ++ other_rows tables.code done count) is
      ∙ (append_assoc prior (reverse fixed) (other_rows tables.code done count)
      ∙ ap (λ l. prior ++ l) (sym (onto_reversed tables.code fixed done count))))

  -- ---- in front of a row, with what it becomes
  record IsAtRow (row : Instr) (code : List Instr) (done : ℕ) (stretch : Stretch) (at : ℕ)
      : Type 0 where
    prior : List Instr
    fixed : List Instr
    count : ℕ
    number : at ≡ done + count
    is : code ≡ prior ++ reverse fixed
    left : prior ++ (put (ends_stretch row) moved (onto tables.code fixed done count) row
        ++ walk moved (learnt (ends_stretch row) (onto tables.code fixed done count) row) (at + 1)
        (drop (at + 1) tables.code)) ≡ walk moved [] 0 tables.code
    top : Stopped fixed
    follows : Follows tables links fixed done at stretch

  at_row : (row : Instr) (b : Bool) (old new : Sent) (before after : Stretch) (at : ℕ)
      → slice_get tables.code at ≡ Some row → is_goal tables.code at ≡ b
      → IsAt b tables.code old before at new after
      → IsSending old.code old.done before at → IsAtRow row new.code new.done after at
  at_row row b old new before after at there goal is s = by b is first
    where
      first : walk moved (onto tables.code s.fixed old.done s.count) at (drop at tables.code)
          ≡ in_front b (onto tables.code s.fixed old.done s.count)
          ++ (put (ends_stretch row) moved
          (known b (onto tables.code s.fixed old.done s.count)) row
          ++ walk moved (learnt (ends_stretch row)
          (known b (onto tables.code s.fixed old.done s.count)) row) (at + 1)
          (drop (at + 1) tables.code))
      first =
          ap (walk moved (onto tables.code s.fixed old.done s.count) at)
          (dropped tables.code at row there)
          ∙ ap (λ b. in_front b (onto tables.code s.fixed old.done s.count)
          ++ (put (ends_stretch row) moved
          (known b (onto tables.code s.fixed old.done s.count)) row
          ++ walk moved (learnt (ends_stretch row)
          (known b (onto tables.code s.fixed old.done s.count)) row) (at + 1)
          (drop (at + 1) tables.code))) goal

      by : (b : Bool) → IsAt b tables.code old before at new after
          → walk moved (onto tables.code s.fixed old.done s.count) at (drop at tables.code)
          ≡ in_front b (onto tables.code s.fixed old.done s.count)
          ++ (put (ends_stretch row) moved
          (known b (onto tables.code s.fixed old.done s.count)) row
          ++ walk moved (learnt (ends_stretch row)
          (known b (onto tables.code s.fixed old.done s.count)) row) (at + 1)
          (drop (at + 1) tables.code))
          → IsAtRow row new.code new.done after at
      by true is first =
          let reached : new.done ≡ at = omega (arith, is.written.number, s.number) in
          let size : at - old.done ≡ s.count = omega (arith, s.number) in
          let all = reverse (onto tables.code s.fixed old.done s.count) in
          let plus_none : at ≡ at + 0 = omega arith in
          subst (λ d. IsAtRow row new.code d after at) (sym reached) (record {
            prior = s.prior ++ all;
            fixed = [];
            count = 0;
            number = plus_none;
            is =
                is.written.rows
                ∙ (flushed old.code s.prior s.fixed old.done s.count at s.is size
                ∙ sym (append-nil (s.prior ++ all)));
            left =
                append_assoc s.prior all _
                ∙ (ap (λ l. s.prior ++ l) (sym first) ∙ s.left);
            top = λ exchange. refl;
            follows = follows_new tables links at after
                (subst (λ c. IsNewStretch c after) s.follows.load.capacity is.begun);
          })
      by false is first =
          subst (λ sent. IsAtRow row sent.code sent.done after at) (sym is.sent)
          (subst (λ stretch. IsAtRow row old.code old.done stretch at) (sym is.stretch) (record {
            prior = s.prior;
            fixed = s.fixed;
            count = s.count;
            number = s.number;
            is = s.is;
            left = ap (λ l. s.prior ++ l) (sym first) ∙ s.left;
            top = s.top;
            follows = s.follows;
          }))

  -- how much is noted in front of a row
  pub record IsFew (stretch : Stretch) (at : ℕ) : Type 0 where
    pub opened : stretch.load.opened ≤ at
    pub starts : stretch.load.starts ≤ at
    pub times : (exchange : ℕ) → noted stretch.load.times exchange ≤ at

  pub few_noted : (row : Instr) (b : Bool) (old new : Sent) (before after : Stretch) (at : ℕ)
      → slice_get tables.code at ≡ Some row → is_goal tables.code at ≡ b
      → IsAt b tables.code old before at new after
      → IsSending old.code old.done before at → IsFew after at
  few_noted row b old new before after at there goal is s = record {
    opened = load.few_opened;
    starts = load.few_starts;
    times = λ exchange.
        let most = count_by-le-length (λ number. number == exchange)
        (opened_at tables.code links r.fixed new.done at) in
        omega (arith, most, load.times exchange, load.opened, load.few_opened);
  }
    where
      r : IsAtRow row new.code new.done after at
      r = at_row row b old new before after at there goal is s

      load : Loads tables.code links r.fixed new.done at after.load
      load = r.follows.load

  -- ---- behind a row that ends a stretch
  there_one : (row : Instr) (done count at : ℕ) → at ≡ done + count
      → slice_get tables.code at ≡ Some row → slice_get tables.code (done + count) ≡ Some row
  there_one row done count at number there = ap (slice_get tables.code) (sym number) ∙ there

  ended : (row : Instr) (old new : Sent) (before after : Stretch) (at : ℕ)
      → slice_get tables.code at ≡ Some row → is_start row ≡ false
      → other_at (Some row) ≡ row ∷ []
      → IsFlushed tables.code old before (at + 1) new after
      → (r : IsAtRow row old.code old.done before at)
      → r.prior ++ ((reverse (onto tables.code r.fixed old.done r.count) ++ row ∷ [])
      ++ walk moved [] (at + 1) (drop (at + 1) tables.code)) ≡ walk moved [] 0 tables.code
      → IsSending new.code new.done after (at + 1)
  ended row old new before after at there other written is r left =
      subst (λ d. IsSending new.code d after (at + 1)) (sym reached) (record {
        prior = r.prior ++ (reverse (onto tables.code r.fixed old.done r.count) ++ row ∷ []);
        fixed = [];
        count = 0;
        number = plus_none;
        is =
            is.written.rows
            ∙ (flushed old.code r.prior r.fixed old.done (suc r.count) (at + 1) r.is size
            ∙ (ap (λ o. r.prior ++ reverse (other_at o ++ onto tables.code r.fixed old.done r.count))
            (there_one row old.done r.count at r.number there)
            ∙ (ap (λ l. r.prior ++ reverse (l ++ onto tables.code r.fixed old.done r.count)) written
            ∙ (ap (λ l. r.prior ++ l) (reverse-append (row ∷ []) (onto tables.code r.fixed old.done r.count))
            ∙ sym (append-nil (r.prior ++ (reverse (onto tables.code r.fixed old.done r.count) ++ row ∷ [])))))));
        left = append_assoc r.prior (reverse (onto tables.code r.fixed old.done r.count) ++ row ∷ []) _ ∙ left;
        top = λ exchange. refl;
        follows = follows_new tables links (at + 1) after
            (subst (λ c. IsNewStretch c after) r.follows.load.capacity is.begun);
      })
    where
      reached : new.done ≡ at + 1
      reached = omega (arith, is.written.number, r.number)

      size : at + 1 - old.done ≡ suc r.count
      size = omega (arith, r.number)

      plus_none : at + 1 ≡ at + 1 + 0
      plus_none = omega arith

  -- ---- behind another row
  noted_row : (row : Instr) (code : List Instr) (done : ℕ) (before after : Stretch) (at : ℕ)
      → slice_get tables.code at ≡ Some row → is_start row ≡ false
      → other_at (Some row) ≡ row ∷ []
      → IsNotedRow tables row before (at + 1) after
      → (r : IsAtRow row code done before at)
      → r.prior ++ walk moved (row ∷ onto tables.code r.fixed done r.count) (at + 1)
      (drop (at + 1) tables.code) ≡ walk moved [] 0 tables.code
      → IsSending code done after (at + 1)
  noted_row row code done before after at there other written is r left = record {
    prior = r.prior;
    fixed = r.fixed;
    count = suc r.count;
    number = omega (arith, r.number);
    is = r.is;
    left =
        ap (λ o. r.prior ++ walk moved (other_at o ++ onto tables.code r.fixed done r.count) (at + 1)
        (drop (at + 1) tables.code)) (there_one row done r.count at r.number there)
        ∙ (ap (λ l. r.prior ++ walk moved (l ++ onto tables.code r.fixed done r.count) (at + 1)
        (drop (at + 1) tables.code)) written ∙ left);
    top = r.top;
    follows = follows_row tables links r.fixed done at row before after there other is r.follows;
  }

  -- ---- behind a start
  started : (exchange : ℕ) (old new : Sent) (before after : Stretch) (at : ℕ)
      → slice_get tables.code at ≡ Some (instr.Start exchange)
      → IsStartSent tables exchange old before at new after
      → (r : IsAtRow (instr.Start exchange) old.code old.done before at)
      → IsSending new.code new.done after (at + 1)
  started exchange old new before after at there is r =
      subst (λ d. IsSending new.code d after (at + 1)) (sym reached) (record {
        prior = r.prior;
        fixed = (instr.Start exchange ∷ onto tables.code r.fixed old.done p.a);
        count = suc p.b;
        number = omega (arith, p.whole);
        is =
            is.rows
            ∙ (ap (λ l. l ++ instr.Start exchange ∷ [])
            (flushed old.code r.prior r.fixed old.done p.a
            (place_by before exchange (items_of tables exchange)) r.is size)
            ∙ (append_assoc r.prior (reverse (onto tables.code r.fixed old.done p.a))
            (instr.Start exchange ∷ [])
            ∙ ap (λ l. r.prior ++ l)
            (sym (reverse-append (instr.Start exchange ∷ [])
            (onto tables.code r.fixed old.done p.a)))));
        left =
            ap (λ o. r.prior ++ walk moved
            (other_at o ++ onto tables.code (instr.Start exchange ∷ onto tables.code r.fixed old.done p.a) (old.done + p.a) p.b) (at + 1)
            (drop (at + 1) tables.code)) here
            ∙ (ap (λ l. r.prior ++ walk moved l (at + 1) (drop (at + 1) tables.code)) (sym moves)
            ∙ r.left);
        top = λ other. refl;
        follows = subst (λ n. Follows tables links (instr.Start exchange ∷ onto tables.code r.fixed old.done p.a) (old.done + p.a) (n + 1) after)
            (sym p.whole) (follows_start tables links r.fixed old.done p.a p.b exchange before after
            p.others here
            (subst (λ n. IsNotedRow tables (instr.Start exchange) before (n + 1) after) p.whole
            is.noted)
            (subst (λ n. Follows tables links r.fixed old.done n before) p.whole r.follows));
      })
    where
      p : IsPlace tables links r.fixed old.done at exchange
          (place_by before exchange (items_of tables exchange))
      p = place_is tables links r.fixed old.done at exchange before r.follows (r.top exchange)

      reached : new.done ≡ old.done + p.a
      reached = is.done ∙ sym p.is

      size : place_by before exchange (items_of tables exchange) - old.done ≡ p.a
      size = omega (arith, p.is)

      here : slice_get tables.code (old.done + p.a + p.b) ≡ Some (instr.Start exchange)
      here = ap (slice_get tables.code) (sym p.whole) ∙ there

      both : r.count ≡ p.a + p.b
      both = omega (arith, r.number, p.whole)

      moves : put_early tables links exchange (onto tables.code r.fixed old.done r.count)
          ≡ onto tables.code (instr.Start exchange ∷ onto tables.code r.fixed old.done p.a)
          (old.done + p.a) p.b
      moves =
          ap (λ n. put_early tables links exchange (onto tables.code r.fixed old.done n)) both
          ∙ put_at tables.code tables links r.fixed old.done p.a p.b exchange p.stop p.crossed

  row_sent : (row : Instr) (old new : Sent) (before after : Stretch) (at : ℕ)
      → slice_get tables.code at ≡ Some row
      → IsSentRow tables row old before at new after
      → IsAtRow row old.code old.done before at → IsSending new.code new.done after (at + 1)
  row_sent (instr.Start exchange) old new before after at there is r =
      started exchange old new before after at there is r
  row_sent (instr.Jump goal) old new before after at there is r =
      ended (instr.Jump goal) old new before after at there refl refl is r r.left
  row_sent (instr.Unless expr goal line) old new before after at there is r =
      ended (instr.Unless expr goal line) old new before after at there refl refl is r r.left
  row_sent (instr.Trap kind line) old new before after at there is r =
      ended (instr.Trap kind line) old new before after at there refl refl is r r.left
  row_sent instr.End old new before after at there is r =
      ended instr.End old new before after at there refl refl is r r.left
  row_sent row old new before after at there is r =
      subst (λ sent. IsSending sent.code sent.done after (at + 1)) (sym is.sent)
      (noted_row row old.code old.done before after at there refl refl is.noted r r.left)

  pub sends_one : (row : Instr) (b : Bool) (old front new : Sent) (before middle after : Stretch)
      (at : ℕ) → slice_get tables.code at ≡ Some row → is_goal tables.code at ≡ b
      → IsAt b tables.code old before at front middle
      → IsSentRow tables row front middle at new after
      → IsSending old.code old.done before at → IsSending new.code new.done after (at + 1)
  sends_one row b old front new before middle after at there goal in_front is s =
      row_sent row front new middle after at there is
      (at_row row b old front before middle at there goal in_front s)

  pub sends_end : (old new : Sent) (stretch : Stretch) (at : ℕ) → length tables.code ≤ at
      → IsWrittenTo tables.code old at new → IsSending old.code old.done stretch at
      → new.code ≡ (sent_early links tables).code
  sends_end old new stretch at past is s =
      is.rows
      ∙ (flushed old.code s.prior s.fixed old.done s.count at s.is (omega (arith, s.number))
      ∙ (ap (λ rows. s.prior ++ walk moved (onto tables.code s.fixed old.done s.count) at rows)
      (sym (dropped_all tables.code at past))
      ∙ (s.left ∙ all_sent)))
