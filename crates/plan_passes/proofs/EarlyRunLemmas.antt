-- Plans whose starts are moved up show what they showed.
use Rattle.std.proofs.Common.{◌≡◌, refl, sym, ◌∙◌, ap, ap₂, subst, ℕ, suc, ◌+◌, ◌≤◌, Bool, true, false}
use Rattle.std.proofs.Common.{List, [], ◌∷◌, ◌++◌, length, filter, true≢false, append_assoc, append-nil}
use Rattle.std.proofs.Common.{length-append, arith}
use Rattle.std.proofs.Math.Path.{fun_ext}
use Rattle.std.proofs.lemmas.Bool.Decides.{nat_tests}
use Rattle.std.specs.Prelude.{◌&&◌, ◌==◌, cond, fold, if◌then◌else◌, not, Option, Some, None}
use Rattle.std.specs.List.{AllByRecursion}
use Rattle.std.specs.Option.{option_map}
use Rattle.std.proofs.lemmas.List.Elements.{recursion_from_All}
use Rattle.node_form.specs.Fits.{Fits, FitsInstr}
use Rattle.node_form.specs.declared.instructions.Instr.{Instr}
use Rattle.node_form.specs.declared.instructions.Instr.TheVariants as instr
use Rattle.node_form.specs.declared.tables.Tables.{Tables}
use Rattle.code_parts.specs.Early.{is_roomy, may_cross, open_behind}
use Rattle.code_parts.specs.Exchanged.{is_exchange_row}
use Rattle.code_parts.specs.Stretch.{ends_stretch, is_goal}
use Rattle.code_parts.proofs.WalkLemmas.{every_append}
use Rattle.comm_early.specs.Send.{open_behind_all, put_early, put_row, rows_early, sent_early}
use Rattle.comm_combine.specs.of_flat_passes.Kept.{EndsAlike, goal_of}
use Rattle.comm_combine.specs.of_flat_passes.Rewritten.{has_goal, stretches_of, with_moved_goal}
use Rattle.row_runs.specs.Cut.{Stretch, as_list, moved_by, passed, rewritten_by, segments_by}
use Rattle.row_runs.specs.Run.{Effect, runs}
use Rattle.row_runs.specs.Segments.{Behind, Here, IsStart, Keeps, Segment, news}
use Rattle.row_runs.specs.Straight.{Every, Flow, IsStraight, OnTo, Tied, TiedHalt, TiedOn}
use Rattle.row_runs.specs.Straight.{TiedWrong, flow_then, through}
use Rattle.row_runs.proofs.StraightLemmas.{through_append}
use Rattle.needs_runs.specs.of_plan_meaning.Abreast.{start_abreast}
use Rattle.needs_runs.specs.of_plan_meaning.Act.{plan_run}
use Rattle.plan_passes.specs.Units.{AreUnits, IsInUnits, MoreExchange, MoreRow, NoUnits}
use Rattle.plan_passes.proofs.AwaitLemmas.{Await, Ready, Wanted, await_act, plan_awaits}
use Rattle.plan_passes.proofs.CrossLemmas.{AsBefore}
use Rattle.plan_passes.proofs.EarlyLemmas.{HasOpen, IfOn, StartsApart, before_trans, filter_alone}
use Rattle.plan_passes.proofs.EarlyLemmas.{put_apart, put_before, rows_open, same_flow, then_before}
use Rattle.plan_passes.proofs.EarlyLemmas.{turned_is, turned_over}
use Rattle.plan_passes.proofs.EndLemmas.{cut_ended, news_ended}
use Rattle.plan_passes.proofs.LiftLemmas.{KeepsStretches, ended_stretches, stretches_keep_runs}
use Rattle.plan_passes.proofs.LoopLemmas.{Misses}
use Rattle.plan_passes.proofs.RowLemmas.{ends_alike, straight}

-- ---- a list with one number more
data HasMore (x : ℕ) : List ℕ → List ℕ → Type 0 where
  MoreHere : {xs : List ℕ} → HasMore x xs (x ∷ xs)
  MoreLater : {y : ℕ} {xs ys : List ℕ} → HasMore x xs ys → HasMore x (y ∷ xs) (y ∷ ys)

filtered_more : (x : ℕ) (p : ℕ → Bool) → p x ≡ true → (xs ys : List ℕ) → HasMore x xs ys
    → HasMore x (filter p xs) (filter p ys)
filtered_more x p e xs ys (MoreHere {xs = rest}) =
    subst (λ b. HasMore x (filter p rest) (cond b (x ∷ filter p rest) (filter p rest))) (sym e) MoreHere
filtered_more x p e xs ys (MoreLater {y = y} {xs = some} {ys = others} more) =
    by (p y) (filtered_more x p e some others more)
  where
    by : (b : Bool) → HasMore x (filter p some) (filter p others)
        → HasMore x (cond b (y ∷ filter p some) (filter p some))
        (cond b (y ∷ filter p others) (filter p others))
    by true more = MoreLater more
    by false more = more

alone_more : (x : ℕ) (xs ys : List ℕ) → xs ≡ [] → HasMore x xs ys → ys ≡ x ∷ []
alone_more x xs ys e (MoreHere {xs = rest}) = ap (λ l. x ∷ l) e
alone_more x xs ys e (MoreLater more) = absurd (by e)
  where
    by : {y : ℕ} {ys : List ℕ} → y ∷ ys ≡ [] → ⊥
    by e = cc

not_crossed : (b c d : Bool) → (not b && c && d) ≡ true → not b ≡ true
not_crossed true c d e = absurd (true≢false (sym e))
not_crossed false c d e = refl

swapped_test : (a b : ℕ) → not (a == b) ≡ true → not (b == a) ≡ true
swapped_test a b e = let one : not (b == a) ≡ true = grind (arith, nat_tests, e) in one

module _ (code : Tables) (links : Option ℕ) where
  put_open : (exchange : ℕ) (before : List Instr)
      → HasMore exchange (open_behind_all before)
      (open_behind_all (put_early code links exchange before))
  put_open exchange [] = MoreHere
  put_open exchange (last ∷ before) =
      by (may_cross code links (length (open_behind_all before)) last exchange) refl
      (put_open exchange before)
    where
      through_row : (row : Instr) (count : ℕ) (xs ys : List ℕ)
          → may_cross code links count row exchange ≡ true → HasMore exchange xs ys
          → HasMore exchange (open_behind xs row) (open_behind ys row)
      through_row (instr.Start other) count xs ys crosses more = absurd (true≢false (sym crosses))
      through_row (instr.Finish other) count xs ys crosses more =
          filtered_more exchange (λ x. not (x == other))
          (swapped_test other exchange (not_crossed (other == exchange) _ _ crosses)) xs ys more
      through_row row count xs ys crosses more = more

      by : (b : Bool) → may_cross code links (length (open_behind_all before)) last exchange ≡ b
          → HasMore exchange (open_behind_all before)
          (open_behind_all (put_early code links exchange before))
          → HasMore exchange (open_behind_all (last ∷ before))
          (open_behind_all (if b then last ∷ put_early code links exchange before
          else instr.Start exchange ∷ last ∷ before))
      by true e more =
          through_row last (length (open_behind_all before)) (open_behind_all before)
          (open_behind_all (put_early code links exchange before)) e more
      by false e more = MoreHere

  -- ---- as many rows, and straight ones
  put_long : (exchange : ℕ) (before : List Instr)
      → length (put_early code links exchange before) ≡ suc (length before)
  put_long exchange [] = refl
  put_long exchange (last ∷ before) =
      by (may_cross code links (length (open_behind_all before)) last exchange)
      (put_long exchange before)
    where
      by : (b : Bool) → length (put_early code links exchange before) ≡ suc (length before)
          → length (if b then last ∷ put_early code links exchange before
          else instr.Start exchange ∷ last ∷ before)
          ≡ suc (suc (length before))
      by true more = ap suc more
      by false more = refl

  row_long : (before : List Instr) (row : Instr)
      → length (put_row code links before row) ≡ suc (length before)
  row_long before (instr.Start exchange) = put_long exchange before
  row_long before row = refl

  all_long : (before rows : List Instr)
      → length (fold (put_row code links) before rows) ≡ length before + length rows
  all_long before [] = let e : length before ≡ length before + 0 = omega arith in e
  all_long before (row ∷ rows) =
      let one = row_long before row in
      let more = all_long (put_row code links before row) rows in
      let e : length (row ∷ rows) ≡ suc (length rows) = refl in
      omega (arith, one, more, e)

  turned_long : {X : Type 0} (xs : List X) → length (turned_over xs) ≡ length xs
  turned_long [] = refl
  turned_long (x ∷ xs) =
      let long = length-append (turned_over xs) (x ∷ []) in
      let more = turned_long xs in
      let e : length (x ∷ xs) ≡ suc (length xs) = refl in
      let one : length (x ∷ []) ≡ 1 = refl in omega (arith, long, more, e, one)

  pub early_is : (rows : List Instr)
      → rows_early code links rows ≡ turned_over (fold (put_row code links) [] rows)
  early_is rows = sym (turned_is (fold (put_row code links) [] rows))

  pub early_long : (rows : List Instr) → length (rows_early code links rows) ≡ length rows
  early_long rows =
      ap length (early_is rows)
      ∙ (turned_long (fold (put_row code links) [] rows)
      ∙ (let all = all_long [] rows in
      let none : length {A = Instr} [] ≡ 0 = refl in omega (arith, all, none)))

  abbrev pub AreStraight : List Instr → Type 0
  AreStraight rows = AllByRecursion (λ row. ends_stretch row ≡ false) rows

  put_straight : (exchange : ℕ) (before : List Instr) → AreStraight before
      → AreStraight (put_early code links exchange before)
  put_straight exchange [] all = (refl, tt)
  put_straight exchange (last ∷ before) all =
      by (may_cross code links (length (open_behind_all before)) last exchange)
      (put_straight exchange before all.1)
    where
      by : (b : Bool) → AreStraight (put_early code links exchange before)
          → AreStraight (if b then last ∷ put_early code links exchange before
          else instr.Start exchange ∷ last ∷ before)
      by true more = (all.0, more)
      by false more = (refl, all)

  row_straight : (before : List Instr) (row : Instr) → ends_stretch row ≡ false
      → AreStraight before → AreStraight (put_row code links before row)
  row_straight before (instr.Start exchange) e all = put_straight exchange before all
  row_straight before row e all = (e, all)

  all_straight : (before rows : List Instr) → AreStraight before → AreStraight rows
      → AreStraight (fold (put_row code links) before rows)
  all_straight before [] one two = one
  all_straight before (row ∷ rows) one two =
      all_straight (put_row code links before row) rows (row_straight before row two.0 one) two.1

  turned_straight : (rows : List Instr) → AreStraight rows → AreStraight (turned_over rows)
  turned_straight [] all = tt
  turned_straight (row ∷ rows) all =
      every_append (λ row. ends_stretch row ≡ false) (turned_over rows) (row ∷ [])
      (turned_straight rows all.1) (all.0, tt)

  pub early_straight : (rows : List Instr) → AreStraight rows
      → AreStraight (rows_early code links rows)
  early_straight rows all =
      subst AreStraight (sym (early_is rows))
      (turned_straight (fold (put_row code links) [] rows) (all_straight [] rows tt all))

  -- ---- the straight rows of a stretch
  module _ (over : Option ℕ)
      (roomy : (count : ℕ) → is_roomy links count ≡ true → is_roomy over count ≡ true) (n : ℕ) where
    abbrev act : Instr → Await → Effect Await
    act = await_act code over n

    record IsSent (olds before : List Instr) (s : Await) : Type 0 where
      apart : StartsApart before
      closed : open_behind_all before ≡ []
      ties : AsBefore (through act olds s) (through act (turned_over before) s)

    tie_more : (xs ys : List Instr) (s : Await) (row : Instr)
        → AsBefore (through act xs s) (through act ys s)
        → AsBefore (through act (xs ++ row ∷ []) s) (through act (ys ++ row ∷ []) s)
    tie_more xs ys s row ties =
        subst (λ f. AsBefore f (through act (ys ++ row ∷ []) s))
        (sym (through_append act xs (row ∷ []) s))
        (subst (AsBefore (flow_then (through act xs s) (through act (row ∷ []))))
        (sym (through_append act ys (row ∷ []) s))
        (then_before (through act xs s) (through act ys s) (through act (row ∷ [])) ties))

    exchange_sent : (exchange : ℕ) (olds before : List Instr) (s : Await) → HasOpen [] s
        → IsSent olds before s
        → IsSent (olds ++ instr.Start exchange ∷ instr.Finish exchange ∷ [])
        (instr.Finish exchange ∷ put_early code links exchange before) s
    exchange_sent exchange olds before s has sent =
        let new : Misses exchange (open_behind_all before) =
        subst (Misses exchange) (sym sent.closed) refl in
        let started : AsBefore (through act (olds ++ instr.Start exchange ∷ []) s)
        (through act (turned_over (put_early code links exchange before)) s) =
        before_trans _ _ _
        (tie_more olds (turned_over before) s (instr.Start exchange) sent.ties)
        (put_before code links over roomy n exchange before sent.apart new s has) in
        record {
          apart = (tt, put_apart code links exchange before sent.apart new);
          closed =
              ap (filter (λ x. not (x == exchange)))
              (alone_more exchange (open_behind_all before) _ sent.closed (put_open exchange before))
              ∙ filter_alone exchange (exchange ∷ [])
              ((let one : (exchange == exchange) ≡ true = grind (arith, nat_tests) in one), tt);
          ties =
              subst (λ r. AsBefore (through act r s)
              (through act (turned_over (put_early code links exchange before)
              ++ instr.Finish exchange ∷ []) s))
              (append_assoc olds (instr.Start exchange ∷ []) (instr.Finish exchange ∷ []))
              (tie_more (olds ++ instr.Start exchange ∷ [])
              (turned_over (put_early code links exchange before)) s (instr.Finish exchange) started);
        }

    no_start : (row : Instr) (before : List Instr) → is_exchange_row row ≡ false
        → put_row code links before row ≡ row ∷ before
    no_start (instr.Start exchange) before e = absurd (true≢false e)
    no_start row before e = refl

    row_sent : (row : Instr) (olds before : List Instr) (s : Await) → is_exchange_row row ≡ false
        → IsSent olds before s → IsSent (olds ++ row ∷ []) (row ∷ before) s
    row_sent (instr.Start exchange) olds before s e sent = absurd (true≢false e)
    row_sent (instr.Finish exchange) olds before s e sent = absurd (true≢false e)
    row_sent row olds before s e sent = record {
      apart = (tt, sent.apart);
      closed = sent.closed;
      ties = tie_more olds (turned_over before) s row sent.ties;
    }

    units_sent : (rows : List Instr) → AreUnits rows → (olds before : List Instr) (s : Await)
        → HasOpen [] s → IsSent olds before s
        → IsSent (olds ++ rows) (fold (put_row code links) before rows) s
    units_sent rows NoUnits olds before s has sent =
        subst (λ r. IsSent r before s) (sym (append-nil olds)) sent
    units_sent rows (MoreExchange {exchange = exchange} {rows = rest} more) olds before s has sent =
        subst (λ r. IsSent r (fold (put_row code links) before
        (instr.Start exchange ∷ instr.Finish exchange ∷ rest)) s)
        (append_assoc olds (instr.Start exchange ∷ instr.Finish exchange ∷ []) rest)
        (units_sent rest more (olds ++ instr.Start exchange ∷ instr.Finish exchange ∷ [])
        (instr.Finish exchange ∷ put_early code links exchange before) s has
        (exchange_sent exchange olds before s has sent))
    units_sent rows (MoreRow {row = row} {rows = rest} other more) olds before s has sent =
        subst (λ r. IsSent r (fold (put_row code links) before (row ∷ rest)) s)
        (append_assoc olds (row ∷ []) rest)
        (subst (λ b. IsSent ((olds ++ row ∷ []) ++ rest) (fold (put_row code links) b rest) s)
        (sym (no_start row before other))
        (units_sent rest more (olds ++ row ∷ []) (row ∷ before) s has
        (row_sent row olds before s other sent)))

    abbrev IsLike : Await → Await → Type 0
    IsLike s t = (s ≡ t) × HasOpen [] t

    like_flows : (f g : Flow Await) → AsBefore f g → IfOn (HasOpen []) g → Tied IsLike f g
    like_flows f g TiedWrong has = TiedWrong
    like_flows f g (TiedOn same) has = TiedOn (same, has)
    like_flows f g TiedHalt has = TiedHalt

    front_ties : (front : List Instr) → AreUnits front → (s t : Await) → IsLike s t
        → Tied IsLike (through act front s) (through act (rows_early code links front) t)
    front_ties front units s t like =
        let before : List Instr = fold (put_row code links) [] front in
        let sent : IsSent front before t =
        units_sent front units [] [] t like.1
        (record { apart = tt; closed = refl; ties = same_flow (OnTo [] t) }) in
        subst (λ s. Tied IsLike (through act front s) (through act (rows_early code links front) t))
        (sym like.0)
        (subst (λ r. Tied IsLike (through act front t) (through act r t)) (sym (early_is front))
        (like_flows (through act front t) (through act (turned_over before) t) sent.ties
        (subst (λ o. IfOn (HasOpen o) (through act (turned_over before) t)) sent.closed
        (rows_open code over n before sent.apart t like.1))))

    -- ---- rows that end stretches lead where they led
    abbrev stays : (ℕ → ℕ) → Instr → Instr
    stays moved row = row

    same_row : (row : Instr) (moved : ℕ → ℕ) → (has_goal row ≡ true → goal_of row ≡ moved (goal_of row))
        → with_moved_goal moved row ≡ row
    same_row (instr.Jump goal) moved same = ap instr.Jump (sym (same refl))
    same_row (instr.Unless expr goal line) moved same =
        ap (λ g. instr.Unless expr g line) (sym (same refl))
    same_row row moved same = refl

    each_straight : (rows : List Instr) → AreStraight rows → Every (IsStraight act) rows
    each_straight [] all = tt
    each_straight (row ∷ rows) all = (straight code over n row all.0, each_straight rows all.1)

    keeps : KeepsStretches act act IsLike AreUnits (λ g h. g ≡ h) (rows_early code links) stays
    keeps = record {
      old = straight code over n;
      new = λ front all units. each_straight (rows_early code links front) (early_straight front all);
      ties = λ front all units s t like. front_ties front units s t like;
      ends = λ row e moved same s t like.
          subst (λ t. EndsAlike row moved (act row s) (act row t)) like.0
          (subst (λ r. EndsAlike row moved (act row s) (act r s)) (same_row row moved same)
          (ends_alike code over n row e moved s));
    }

    -- ---- goals are where they were
    starts_stay : (segments : List (Segment Instr Instr))
        → AllByRecursion (λ segment. length segment.old ≡ length segment.new) segments
        → (g h : ℕ) → IsStart segments g h → g ≡ h
    starts_stay segments all g h Here = refl
    starts_stay segments all g h (Behind {segments = others} {g = i} {h = j} start) =
        ap₂ (λ a b. a + b) all.0 (starts_stay others all.1 i j start)

    all_as_long : (moved : ℕ → ℕ) (stretches : List (Stretch Instr))
        → AllByRecursion (λ segment. length segment.old ≡ length segment.new)
        (segments_by (rows_early code links) stays moved stretches)
    all_as_long moved [] = tt
    all_as_long moved (stretch ∷ stretches) = (by stretch.last, all_as_long moved stretches)
      where
        by : (last : Option Instr)
            → length (stretch.front ++ as_list last)
            ≡ length (rows_early code links stretch.front ++ as_list (option_map (stays moved) last))
        by None =
            length-append stretch.front [] ∙ (ap (λ k. k + length {A = Instr} []) (sym (early_long stretch.front))
            ∙ sym (length-append (rows_early code links stretch.front) []))
        by (Some row) =
            length-append stretch.front (row ∷ [])
            ∙ (ap (λ k. k + length (row ∷ [])) (sym (early_long stretch.front))
            ∙ sym (length-append (rows_early code links stretch.front) (row ∷ [])))

    same_segments : (moved other : ℕ → ℕ) (stretches : List (Stretch Instr))
        → segments_by (rows_early code links) stays moved stretches
        ≡ segments_by (rows_early code links) stays other stretches
    same_segments moved other [] = refl
    same_segments moved other (stretch ∷ stretches) =
        ap (λ r. rewritten_by (rows_early code links) stays moved stretch ∷ r)
        (same_segments moved other stretches)

    -- ---- whole plans
    goals_within : (rows : List Instr) → AllByRecursion (FitsInstr code) rows
        → AllByRecursion (λ row. has_goal row ≡ true → goal_of row ≤ length code.code) rows
    goals_within [] all = tt
    goals_within (row ∷ rows) all = (one row all.0, goals_within rows all.1)
      where
        one : (row : Instr) → FitsInstr code row → has_goal row ≡ true
            → goal_of row ≤ length code.code
        one (instr.Jump goal) fits e = fits.fit
        one (instr.Unless expr goal line) fits e = fits.fit.1
        one row fits e = absurd (true≢false (sym e))

    new_rows : passed (rows_early code links) stays
        (ended_stretches act act IsLike AreUnits (λ g h. g ≡ h) (rows_early code links) stays code.code
        keeps)
        ≡ (sent_early links code).code ++ instr.End ∷ []
    new_rows =
        let ended = ended_stretches act act IsLike AreUnits (λ g h. g ≡ h) (rows_early code links)
        stays code.code keeps in
        let moved = moved_by (rows_early code links) stays ended in
        let other = moved_by (rows_early code links) stays (stretches_of code.code) in
        news_ended (rows_early code links) stays moved instr.End refl refl (stretches_of code.code)
        ended (cut_ended (is_goal code.code) 0 code.code)
        ∙ ap (λ segments. news segments ++ instr.End ∷ [])
        (same_segments moved other (stretches_of code.code))

    same_act : (row : Instr) (s : Await)
        → act row s ≡ await_act (sent_early links code) over n row s
    same_act (instr.Loop slot group) (Ready all) = refl
    same_act row (Ready all) = refl
    same_act row (Wanted group) = refl

    pub early_keeps_runs : Fits code → IsInUnits code → (a : ℕ)
        → Keeps (plan_run code over a n) (plan_run (sent_early links code) over a n)
    early_keeps_runs fits units a =
        let new : Tables = sent_early links code in
        let begin : Await = Ready (start_abreast code) in
        let ended : List (Stretch Instr) =
        ended_stretches act act IsLike AreUnits (λ g h. g ≡ h) (rows_early code links) stays
        code.code keeps in
        let acts : act ≡ await_act new over n =
        fun_ext (λ row. fun_ext (λ s. same_act row s)) in
        let kept : Keeps (runs act (code.code ++ instr.End ∷ []) a 0 begin)
        (runs act (passed (rows_early code links) stays
        (ended_stretches act act IsLike AreUnits (λ g h. g ≡ h) (rows_early code links) stays
        code.code keeps)) a 0 begin) =
        stretches_keep_runs act act IsLike AreUnits (λ g h. g ≡ h) (rows_early code links) stays
        code.code keeps
        (λ g h start. starts_stay
        (segments_by (rows_early code links) stays
        (moved_by (rows_early code links) stays ended) ended)
        (all_as_long (moved_by (rows_early code links) stays ended) ended) g h start)
        NoUnits units
        (goals_within code.code (recursion_from_All (FitsInstr code) code.code fits.code)) a begin
        begin (refl, (refl, tt)) in
        subst (λ r. Keeps r (plan_run new over a n)) (sym (plan_awaits code over n a))
        (subst (Keeps (runs act (code.code ++ instr.End ∷ []) a 0 begin))
        (ap (λ r. runs act r a 0 begin) new_rows
        ∙ (ap (λ f. runs f (new.code ++ instr.End ∷ []) a 0 begin) acts
        ∙ sym (plan_awaits new over n a))) kept)
