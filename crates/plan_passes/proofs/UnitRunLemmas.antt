-- A pass over the units of a plan keeps its runs, where it keeps what units do.
use Rattle.std.proofs.Common.{◌≡◌, refl, sym, ◌∙◌, ap, ap₂, subst, ℕ, suc, ◌+◌, ◌-◌, true, false}
use Rattle.std.proofs.Common.{List, [], ◌∷◌, ◌++◌, length, drop, true≢false, append-nil}
use Rattle.std.proofs.Common.{length-append, arith}
use Rattle.std.specs.Prelude.{flat_map, Option, Some, None}
use Rattle.std.specs.List.{AllByRecursion}
use Rattle.std.specs.Option.{option_map}
use Rattle.node_form.specs.declared.arrays.Item.{Item}
use Rattle.node_form.specs.declared.instructions.Instr.{Instr}
use Rattle.node_form.specs.declared.instructions.Instr.TheVariants as instr
use Rattle.node_form.specs.declared.tables.Tables.{Tables}
use Rattle.code_parts.specs.Exchanged.{is_exchange_row}
use Rattle.code_parts.specs.Stretch.{ends_stretch, is_goal}
use Rattle.comm_combine.specs.of_flat_passes.Kept.{BothLeap, BothPass, BothStop, EndsAlike, GoalsWithin, OldWrong, goal_of}
use Rattle.comm_combine.specs.of_flat_passes.Rewritten.{has_goal, stretches_of, with_moved_goal}
use Rattle.comm_combine.proofs.of_flat_passes.StretchLemmas.{IsCut, all_cut}
use Rattle.comm_combine.specs.of_plan_form.Rewrite.{ended_by, rows_by}
use Rattle.comm_combine.specs.of_plan_form.Units.{Exchange, PlanRow, PlanUnit, Single, exchanges_in, numbered_from}
use Rattle.comm_combine.specs.of_plan_form.Units.{unit_rows, units_of}
use Rattle.comm_combine.proofs.of_plan_form.PassLemmas.{exchanges_both, numbered_both, numbered_length}
use Rattle.row_runs.specs.Cut as cut
use Rattle.row_runs.specs.Cut.{LastAlike, Stretch, all_rows, as_list, moved_by, rewritten_by}
use Rattle.row_runs.specs.Cut.{rows_of, segments_by}
use Rattle.row_runs.specs.Run.{Effect, runs}
use Rattle.row_runs.specs.Segments.{AllAlike, AreAlike, Behind, Here, IsStart, Keeps, Segment, news, olds}
use Rattle.row_runs.specs.Straight.{Every, Flow, IsStraight, OnTo, Tied, TiedHalt, TiedOn}
use Rattle.row_runs.specs.Straight.{TiedWrong, through}
use Rattle.row_runs.proofs.CutLemmas.{cut_rows, goals_are_starts}
use Rattle.row_runs.proofs.SegmentLemmas.{keeps_runs}
use Rattle.row_runs.proofs.StraightLemmas.{ended_alike, straight_alike}
use Rattle.plan_passes.specs.Units.{AreUnits, IsInUnits, MoreExchange, MoreRow, NoUnits}
use Rattle.plan_passes.proofs.AwaitLemmas.{Await, Ready, Wanted, await_act}
use Rattle.plan_passes.proofs.CrossLemmas.{AsBefore}
use Rattle.plan_passes.proofs.EndLemmas.{cut_ended, fronts_ended}
use Rattle.plan_passes.proofs.LiftLemmas.{IsOf, LastHas, goals_found, lasts_have}
use Rattle.plan_passes.proofs.RowLemmas.{ends_alike, straight}
use Rattle.plan_passes.proofs.UnitLemmas.{IsPlain, NoFlights, first_dropped, numbered_flow}
use Rattle.plan_passes.proofs.UnitLemmas.{rows_are_units, units_flow}

abbrev pub AreStraight : List Instr → Type 0
AreStraight rows = AllByRecursion (λ row. ends_stretch row ≡ false) rows

-- ---- one stretch, whose last row leads elsewhere
module _ {S T : Type 0} (act : Instr → S → Effect S) (act' : Instr → T → Effect T)
    (IsLike : S → T → Type 0) (IsGoal : ℕ → ℕ → Type 0) (moved : ℕ → ℕ) (front front' : List Instr)
    (at at' : ℕ) (old : Every (IsStraight act) front) (new : Every (IsStraight act') front')
    (ties : (s : S) (t : T) → IsLike s t → Tied IsLike (through act front s) (through act' front' t))
  where
    abbrev both : Option Instr → Segment Instr Instr
    both last = record {
      old = front ++ as_list last;
      new = front' ++ as_list (option_map (with_moved_goal moved) last);
    }

    stretch_alike : (last : Option Instr)
        → ((row : Instr) → last ≡ Some row → IsGoal (at + length front + 1) (at' + length front' + 1)
        → (s : S) (t : T) → IsLike s t
        → LastAlike IsGoal (at + length front) (at' + length front') (act row s)
        (act' (with_moved_goal moved row) t))
        → IsGoal (at + length (both last).old) (at' + length (both last).new)
        → AreAlike act act' IsLike IsGoal (both last) at at'
    stretch_alike None lasts next =
        straight_alike act act' IsLike IsGoal (both None) at at'
        (subst (Every (IsStraight act)) (sym (append-nil front)) old)
        (subst (Every (IsStraight act')) (sym (append-nil front')) new)
        (λ s t like. subst (λ r. Tied IsLike (through act r s) (through act' (front' ++ []) t))
        (sym (append-nil front))
        (subst (λ r. Tied IsLike (through act front s) (through act' r t)) (sym (append-nil front'))
        (ties s t like)))
    stretch_alike (Some row) lasts next =
        ended_alike act act' IsLike IsGoal front front' row (with_moved_goal moved row) at at' old new
        ties
        (lasts row refl
        (subst (λ k. IsGoal k (at' + length front' + 1)) (one_more at front row)
        (subst (λ k. IsGoal (at + length (front ++ row ∷ [])) k)
        (one_more at' front' (with_moved_goal moved row)) next)))
      where
        one_more : (k : ℕ) (rows : List Instr) (row : Instr)
            → k + length (rows ++ row ∷ []) ≡ k + length rows + 1
        one_more k rows row =
            let long = length-append rows (row ∷ []) in
            let one : length (row ∷ []) ≡ 1 = refl in omega (arith, long, one)

-- ---- rows that are numbered are as many
data AreAsLong : List (Segment Instr PlanRow) → List (Segment Instr Instr) → Type 0 where
  NoSegments : AreAsLong [] []
  MoreSegments : {one : Segment Instr PlanRow} {other : Segment Instr Instr}
      {ones : List (Segment Instr PlanRow)} {others : List (Segment Instr Instr)}
      → length one.old ≡ length other.old → length one.new ≡ length other.new
      → AreAsLong ones others → AreAsLong (one ∷ ones) (other ∷ others)

same_starts : (ones : List (Segment Instr PlanRow)) (others : List (Segment Instr Instr))
    → AreAsLong ones others → (g h : ℕ) → IsStart ones g h → IsStart others g h
same_starts ones others long g h Here = Here
same_starts ones others
    (MoreSegments {one = one} {other = other} {ones = some} {others = rest} old new more) g h
    (Behind {g = i} {h = j} start) =
    subst (λ k. IsStart (other ∷ rest) (k + i) (length one.new + j)) (sym old)
    (subst (λ k. IsStart (other ∷ rest) (length other.old + i) (k + j)) (sym new)
    (Behind (same_starts some rest more i j start)))

-- ---- the pass
module _ (code : Tables) (links : Option ℕ) (n : ℕ) (IsGood : Await → Type 0)
    (IsFit : PlanUnit → Type 0) (rewrite : List PlanUnit → List PlanUnit) where
  abbrev act : Instr → Await → Effect Await
  act = await_act code links n

  abbrev pub IsLike : Await → Await → Type 0
  IsLike s t = (s ≡ t) × IsGood t

  -- What a pass owes of the units of a stretch: its rows are those of a stretch, and from good
  -- states units that are fit go on as before, to good ones, unless they are wrong.
  pub record KeepsUnits : Type 0 where
    pub none : rewrite [] ≡ []
    pub quiet : (s : Await) → IsGood s → NoFlights s
    pub plain : (units : List PlanUnit) → AllByRecursion IsPlain units
        → AllByRecursion IsPlain (rewrite units)
    pub ties : (units : List PlanUnit) → AllByRecursion IsPlain units
        → AllByRecursion IsFit units → (s : Await) → IsGood s
        → Tied IsLike (units_flow code links n units s) (units_flow code links n (rewrite units) s)

  pub units_plain : (rows : List Instr) → AreUnits rows → AreStraight rows
      → AllByRecursion IsPlain (units_of code rows)
  units_plain rows NoUnits all = tt
  units_plain rows (MoreExchange more) all = (tt, units_plain _ more all.1.1)
  units_plain rows (MoreRow {row = row} {rows = rest} other more) all =
      by row other all.0 (units_plain rest more all.1)
    where
      by : (row : Instr) → is_exchange_row row ≡ false → ends_stretch row ≡ false
          → AllByRecursion IsPlain (units_of code rest)
          → AllByRecursion IsPlain (units_of code (row ∷ rest))
      by (instr.Start exchange) e f more = absurd (true≢false e)
      by (instr.Finish exchange) e f more = absurd (true≢false e)
      by row e f more = ((f, e), more)

  module _ (keeps : KeepsUnits) where
    tied_through : (f g h : Flow Await) → AsBefore f g → Tied IsLike g h → Tied IsLike f h
    tied_through f g h TiedWrong two = TiedWrong
    tied_through f g h (TiedOn {bytes = bytes} same) two =
        subst (λ s. Tied IsLike (OnTo bytes s) h) (sym same) two
    tied_through f g h TiedHalt two = two

    abbrev ended : List (Stretch Instr)
    ended = cut.cut ends_stretch (is_goal code.code) 0 (code.code ++ instr.End ∷ [])

    abbrev moved : ℕ → ℕ
    moved = moved_by (rows_by code rewrite) ended_by ended

    abbrev segments : List (Stretch Instr) → List (Segment Instr PlanRow)
    segments stretches = segments_by (rows_by code rewrite) ended_by moved stretches

    abbrev exchanges : List (List Item)
    exchanges = exchanges_in (news (segments ended))

    abbrev new_code : List Instr
    new_code = numbered_from 0 (news (segments ended))

    abbrev new_act : Instr → Await → Effect Await
    new_act = await_act (record code { exchanges = exchanges; code = new_code }) links n

    -- the segments with numbers, where so many exchanges start before them
    abbrev numbered : ℕ → List (Stretch Instr) → List (Segment Instr Instr)
    numbered count [] = []
    numbered count (stretch ∷ stretches) = record {
      old = rows_of stretch;
      new = numbered_from count (rows_by code rewrite stretch.front)
          ++ as_list (option_map (with_moved_goal moved) stretch.last);
    } ∷ numbered (count + length (exchanges_in (rows_by code rewrite stretch.front))) stretches

    last_numbered : (count : ℕ) (last : Option Instr)
        → numbered_from count (as_list (option_map (ended_by moved) last))
        ≡ as_list (option_map (with_moved_goal moved) last)
    last_numbered count None = refl
    last_numbered count (Some row) = refl

    last_starts : (last : Option Instr)
        → exchanges_in (as_list (option_map (ended_by moved) last)) ≡ []
    last_starts None = refl
    last_starts (Some row) = refl

    one_starts : (stretch : Stretch Instr)
        → exchanges_in (rewritten_by (rows_by code rewrite) ended_by moved stretch).new
        ≡ exchanges_in (rows_by code rewrite stretch.front)
    one_starts stretch =
        exchanges_both (rows_by code rewrite stretch.front)
        (as_list (option_map (ended_by moved) stretch.last))
        ∙ (ap (λ l. exchanges_in (rows_by code rewrite stretch.front) ++ l)
        (last_starts stretch.last)
        ∙ append-nil (exchanges_in (rows_by code rewrite stretch.front)))

    one_numbered : (count : ℕ) (stretch : Stretch Instr)
        → numbered_from count (rewritten_by (rows_by code rewrite) ended_by moved stretch).new
        ≡ numbered_from count (rows_by code rewrite stretch.front)
        ++ as_list (option_map (with_moved_goal moved) stretch.last)
    one_numbered count stretch =
        numbered_both count (rows_by code rewrite stretch.front)
        (as_list (option_map (ended_by moved) stretch.last))
        ∙ ap (λ l. numbered_from count (rows_by code rewrite stretch.front) ++ l)
        (last_numbered _ stretch.last)

    all_numbered : (count : ℕ) (stretches : List (Stretch Instr))
        → news (numbered count stretches) ≡ numbered_from count (news (segments stretches))
    all_numbered count [] = refl
    all_numbered count (stretch ∷ stretches) =
        let first = (rewritten_by (rows_by code rewrite) ended_by moved stretch).new in
        let starts = length (exchanges_in (rows_by code rewrite stretch.front)) in
        ap₂ (λ a b. a ++ b) (sym (one_numbered count stretch))
        (all_numbered (count + starts) stretches)
        ∙ (ap (λ k. numbered_from count first ++ numbered_from (count + k) (news (segments stretches)))
        (ap length (sym (one_starts stretch)))
        ∙ sym (numbered_both count first (news (segments stretches))))

    olds_are : (count : ℕ) (stretches : List (Stretch Instr))
        → olds (numbered count stretches) ≡ all_rows stretches
    olds_are count [] = refl
    olds_are count (stretch ∷ stretches) = ap (λ r. rows_of stretch ++ r)
        (olds_are (count + length (exchanges_in (rows_by code rewrite stretch.front))) stretches)

    as_long : (count : ℕ) (stretches : List (Stretch Instr))
        → AreAsLong (segments stretches) (numbered count stretches)
    as_long count [] = NoSegments
    as_long count (stretch ∷ stretches) =
        MoreSegments refl
        (sym (numbered_length count (rewritten_by (rows_by code rewrite) ended_by moved stretch).new)
        ∙ ap length (one_numbered count stretch))
        (as_long (count + length (exchanges_in (rows_by code rewrite stretch.front))) stretches)

    abbrev Start : ℕ → ℕ → Type 0
    Start = IsStart (numbered 0 ended)

    -- ---- what is owed of a stretch
    front_straight : (units : List PlanUnit) → AllByRecursion IsPlain units → (count : ℕ)
        → Every (IsStraight new_act) (numbered_from count (flat_map unit_rows units))
    front_straight [] plain count = tt
    front_straight (Exchange items ∷ units) plain count = (
      straight (record code { exchanges = exchanges; code = new_code }) links n (instr.Start count) refl,
      (
        straight (record code { exchanges = exchanges; code = new_code }) links n
            (instr.Finish (count + 1 - 1)) refl,
        front_straight units plain.1 (count + 1),
      ),
    )
    front_straight (Single row ∷ units) plain count = (
      straight (record code { exchanges = exchanges; code = new_code }) links n row plain.0.0,
      front_straight units plain.1 count,
    )

    old_straight : (rows : List Instr) → AreStraight rows → Every (IsStraight act) rows
    old_straight [] all = tt
    old_straight (row ∷ rows) all = (straight code links n row all.0, old_straight rows all.1)

    front_ties : (front : List Instr) → AreUnits front → AreStraight front
        → AllByRecursion IsFit (units_of code front) → (count : ℕ) (rest : List (List Item))
        → drop count exchanges ≡ exchanges_in (rows_by code rewrite front) ++ rest
        → (s t : Await) → IsLike s t
        → Tied IsLike (through act front s)
        (through new_act (numbered_from count (rows_by code rewrite front)) t)
    front_ties front units all fit count rest there s t like =
        let plain = units_plain front units all in
        let none : NoFlights t = keeps.quiet t like.1 in
        subst (λ s. Tied IsLike (through act front s)
        (through new_act (numbered_from count (rows_by code rewrite front)) t)) (sym like.0)
        (subst (Tied IsLike (through act front t))
        (sym (numbered_flow code links n new_code exchanges (rewrite (units_of code front))
        (keeps.plain (units_of code front) plain) count rest there t none))
        (tied_through (through act front t) (units_flow code links n (units_of code front) t)
        (units_flow code links n (rewrite (units_of code front)) t)
        (rows_are_units code links n front units t none)
        (keeps.ties (units_of code front) plain fit t like.1)))

    same_end : (row : Instr) → ends_stretch row ≡ true → (s : Await) → new_act row s ≡ act row s
    same_end (instr.Jump goal) e (Ready all) = refl
    same_end (instr.Unless expr goal line) e (Ready all) = refl
    same_end (instr.Trap kind line) e (Ready all) = refl
    same_end instr.End e (Ready all) = refl
    same_end row e (Wanted group) = refl
    same_end row e (Ready all) = absurd (true≢false (sym e))

    moved_ends : (row : Instr) → ends_stretch row ≡ true
        → ends_stretch (with_moved_goal moved row) ≡ true
    moved_ends (instr.Jump goal) e = refl
    moved_ends (instr.Unless expr goal line) e = refl
    moved_ends row e = e

    last_alike : (IsGoal : ℕ → ℕ → Type 0) (row : Instr) (at at' : ℕ)
        → (has_goal row ≡ true → IsGoal (goal_of row) (moved (goal_of row)))
        → IsGoal (at + 1) (at' + 1) → (e f : Effect Await) → EndsAlike row moved e f
        → LastAlike IsGoal at at' e f
    last_alike IsGoal row at at' goal next e f (BothLeap has) = cut.BothLeap (goal has)
    last_alike IsGoal row at at' goal next e f BothPass = cut.BothPass next
    last_alike IsGoal row at at' goal next e f BothStop = cut.BothStop
    last_alike IsGoal row at at' goal next e f OldWrong = cut.LastWrong

    start_of : (row : Instr) → IsOf code.code row → has_goal row ≡ true
        → Start (goal_of row) (moved (goal_of row))
    start_of row is has =
        same_starts (segments ended) (numbered 0 ended) (as_long 0 ended) (goal_of row)
        (moved (goal_of row))
        (goals_are_starts Instr PlanRow (rows_by code rewrite) ended_by ends_stretch
        (is_goal code.code) (code.code ++ instr.End ∷ []) (goal_of row) (is has).0 (is has).1)

    later : (count : ℕ) (stretch : Stretch Instr) (stretches : List (Stretch Instr))
        → drop count exchanges ≡ exchanges_in (news (segments (stretch ∷ stretches)))
        → drop count exchanges
        ≡ exchanges_in (rows_by code rewrite stretch.front)
        ++ exchanges_in (news (segments stretches))
    later count stretch stretches there =
        there
        ∙ (exchanges_both (rewritten_by (rows_by code rewrite) ended_by moved stretch).new
        (news (segments stretches))
        ∙ ap (λ l. l ++ exchanges_in (news (segments stretches))) (one_starts stretch))

    drop_over : {X : Type 0} (k : ℕ) (xs ys zs : List X) → drop k zs ≡ xs ++ ys
        → drop (k + length xs) zs ≡ ys
    drop_over {X = X} k [] ys zs e =
        (let same : k + length {A = X} [] ≡ k = omega arith in ap (λ m. drop m zs) same) ∙ e
    drop_over k (x ∷ xs) ys zs e =
        (let same : k + length (x ∷ xs) ≡ suc k + length xs = omega arith in
        ap (λ m. drop m zs) same)
        ∙ drop_over (suc k) xs ys zs (first_dropped zs k x (xs ++ ys) e).1

    all_alike : (count at at' : ℕ) (stretches : List (Stretch Instr))
        → AllByRecursion (IsCut ends_stretch (is_goal code.code)) stretches
        → AllByRecursion (λ stretch. AreUnits stretch.front) stretches
        → AllByRecursion (λ stretch. AllByRecursion IsFit (units_of code stretch.front)) stretches
        → AllByRecursion (LastHas (IsOf code.code)) stretches
        → drop count exchanges ≡ exchanges_in (news (segments stretches))
        → ((g h : ℕ) → IsStart (numbered count stretches) g h → Start (at + g) (at' + h))
        → AllAlike act new_act IsLike Start (numbered count stretches) at at'
    all_alike count at at' [] are units fit goals there within = tt
    all_alike count at at' (stretch ∷ stretches) are units fit goals there within =
        let rows : List Instr = numbered_from count (rows_by code rewrite stretch.front) in
        let a = length (rows_of stretch) in
        let b = length (rows ++ as_list (option_map (with_moved_goal moved) stretch.last)) in
        let rest = exchanges_in (news (segments stretches)) in
        let here = later count stretch stretches there in
        let plain = units_plain stretch.front units.0 are.0.straight in (
          stretch_alike act new_act IsLike Start moved stretch.front rows at at'
              (old_straight stretch.front are.0.straight)
              (front_straight (rewrite (units_of code stretch.front))
              (keeps.plain (units_of code stretch.front) plain) count)
              (front_ties stretch.front units.0 are.0.straight fit.0 count rest here) stretch.last
              (λ row last next s t like.
              last_alike Start row (at + length stretch.front) (at' + length rows)
              (start_of row (goals.0 row last)) next (act row s)
              (new_act (with_moved_goal moved row) t)
              (subst (λ t. EndsAlike row moved (act row s) (new_act (with_moved_goal moved row) t))
              like.0
              (subst (EndsAlike row moved (act row s))
              (sym (same_end (with_moved_goal moved row) (moved_ends row (are.0.last row last)) s))
              (ends_alike code links n row (are.0.last row last) moved s))))
              (let e : at + (a + 0) ≡ at + a = omega arith in
              let f : at' + (b + 0) ≡ at' + b = omega arith in
              subst (λ k. Start k (at' + b)) e
              (subst (λ k. Start (at + (a + 0)) k) f (within (a + 0) (b + 0) (Behind Here)))),
          all_alike (count + length (exchanges_in (rows_by code rewrite stretch.front))) (at + a)
              (at' + b) stretches are.1 units.1 fit.1 goals.1
              (drop_over count (exchanges_in (rows_by code rewrite stretch.front)) rest exchanges here)
              (λ g h start. let e : at + (a + g) ≡ at + a + g = omega arith in
              let f : at' + (b + h) ≡ at' + b + h = omega arith in
              subst (λ k. Start k (at' + b + h)) e
              (subst (λ k. Start (at + (a + g)) k) f (within (a + g) (b + h) (Behind start)))),
        )

    pub ended_runs : GoalsWithin code.code → IsInUnits code
        → AllByRecursion (λ stretch. AllByRecursion IsFit (units_of code stretch.front)) ended
        → (a : ℕ) (s : Await) → IsGood s
        → Keeps (runs act (code.code ++ instr.End ∷ []) a 0 s) (runs new_act new_code a 0 s)
    ended_runs within units fit a s good =
        let rows = code.code ++ instr.End ∷ [] in
        let same : all_rows ended ≡ rows = cut_rows ends_stretch (is_goal code.code) 0 rows in
        let found : AllByRecursion (IsOf code.code) rows =
        goals_found code.code code.code (λ at e. e) within in
        subst (λ r. Keeps (runs act r a 0 s) (runs new_act new_code a 0 s)) (olds_are 0 ended ∙ same)
        (subst (λ r. Keeps (runs act (olds (numbered 0 ended)) a 0 s) (runs new_act r a 0 s))
        (all_numbered 0 ended)
        (keeps_runs act new_act IsLike (numbered 0 ended)
        (all_alike 0 0 0 ended (all_cut ends_stretch (is_goal code.code) 0 rows)
        (fronts_ended AreUnits NoUnits (stretches_of code.code) ended
        (cut_ended (is_goal code.code) 0 code.code) units) fit
        (lasts_have (IsOf code.code) ended
        (subst (AllByRecursion (IsOf code.code)) (sym same) found)) refl
        (λ g h start. let e : g ≡ 0 + g = omega arith in let f : h ≡ 0 + h = omega arith in
        subst (λ k. Start k (0 + h)) e (subst (λ k. Start g k) f start)))
        a 0 0 s s Here (refl, good)))
