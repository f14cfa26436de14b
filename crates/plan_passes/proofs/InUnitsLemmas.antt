-- Passes over units leave plans in units.
use Rattle.std.proofs.Common.{◌≡◌, ◌≢◌, refl, sym, ◌∙◌, ap, subst, arith, ℕ, zero, suc, ◌+◌, ◌-◌, Bool}
use Rattle.std.proofs.Common.{true, false, List, [], ◌∷◌, ◌++◌, length, append_assoc, eqb-true, true≢false}
use Rattle.std.specs.Prelude.{◌||◌, flat_map, Option, Some, None}
use Rattle.std.specs.List.{AllByRecursion, list_any}
use Rattle.std.specs.Option.{option_map}
use Rattle.node_form.specs.declared.arrays.Item.{Item}
use Rattle.node_form.specs.declared.instructions.Instr.{Instr}
use Rattle.node_form.specs.declared.instructions.Instr.TheVariants as instr
use Rattle.node_form.specs.declared.tables.Tables.{Tables}
use Rattle.code_parts.specs.Exchanged.{is_exchange_row}
use Rattle.code_parts.specs.Stretch.{ends_stretch, is_goal, leads_to}
use Rattle.comm_combine.specs.of_flat_passes.Kept.{GoalsWithin, goal_of}
use Rattle.comm_combine.specs.of_flat_passes.Rewritten.{has_goal, stretches_of, with_moved_goal}
use Rattle.comm_combine.proofs.of_flat_passes.StretchLemmas.{IsCut, all_cut}
use Rattle.comm_combine.specs.of_plan_form.Rewrite.{ended_by, rows_by, with_units}
use Rattle.comm_combine.specs.of_plan_form.Units.{Exchange, FinishOf, Other, PlanRow, PlanUnit, Single, StartOf}
use Rattle.comm_combine.specs.of_plan_form.Units.{numbered_from, unit_rows, units_of}
use Rattle.row_runs.specs.Cut as cut
use Rattle.row_runs.specs.Cut.{Stretch, as_list, cut_row, joined_to, moved_by, segments_by}
use Rattle.row_runs.specs.Segments.{Behind, Here, IsStart, Segment, news}
use Rattle.row_runs.proofs.CutLemmas.{cut_rows, goals_are_starts}
use Rattle.plan_passes.specs.Units.{AreUnits, IsInUnits, MoreExchange, MoreRow, NoUnits}
use Rattle.plan_passes.proofs.LiftLemmas.{LastHas, goals_found, lasts_have}
use Rattle.plan_passes.proofs.UnitLemmas.{IsPlain}
use Rattle.plan_passes.proofs.UnitRunLemmas.{units_plain}
use Rattle.plan_passes.proofs.WithUnitsLemmas.{IsGoalOf, goals_of_code}

-- ---- rows of units, of which no other row is an exchange's
data AreLaid (P : Instr → Type 0) : List PlanRow → Type 0 where
  NoRows : AreLaid P []
  LaidPair : {one other : List Item} {rows : List PlanRow} → AreLaid P rows
      → AreLaid P (StartOf one ∷ FinishOf other ∷ rows)
  LaidRow : {row : Instr} {rows : List PlanRow} → is_exchange_row row ≡ false → P row
      → AreLaid P rows → AreLaid P (Other row ∷ rows)

laid_units : (P : Instr → Type 0) (units : List PlanUnit) → AllByRecursion IsPlain units
    → ((row : Instr) → ends_stretch row ≡ false → P row) → (rest : List PlanRow) → AreLaid P rest
    → AreLaid P (flat_map unit_rows units ++ rest)
laid_units P [] plain each rest laid = laid
laid_units P (Exchange items ∷ units) plain each rest laid =
    LaidPair (laid_units P units plain.1 each rest laid)
laid_units P (Single row ∷ units) plain each rest laid =
    LaidRow plain.0.1 (each row plain.0.0) (laid_units P units plain.1 each rest laid)

-- whether a finish stands there
finish_at : List PlanRow → ℕ → Bool
finish_at [] k = false
finish_at (FinishOf items ∷ rows) zero = true
finish_at (StartOf items ∷ rows) zero = false
finish_at (Other row ∷ rows) zero = false
finish_at (row ∷ rows) (suc k) = finish_at rows k

laid_head : (P : Instr → Type 0) (rows : List PlanRow) → AreLaid P rows → finish_at rows 0 ≡ false
unfolding finish_at
laid_head P rows NoRows = refl
laid_head P rows (LaidPair laid) = refl
laid_head P rows (LaidRow other is laid) = refl

finish_behind : (xs ys : List PlanRow) (k : ℕ) → finish_at (xs ++ ys) (length xs + k) ≡ finish_at ys k
unfolding finish_at
finish_behind [] ys k = let none : length {A = PlanRow} [] + k ≡ k = omega arith in ap (finish_at ys) none
finish_behind (x ∷ xs) ys k =
    (let one : length (x ∷ xs) + k ≡ suc (length xs + k) = omega arith in
    ap (finish_at (x ∷ (xs ++ ys))) one)
    ∙ (later x (xs ++ ys) (length xs + k) ∙ finish_behind xs ys k)
  where
    later : (x : PlanRow) (rows : List PlanRow) (k : ℕ) → finish_at (x ∷ rows) (suc k) ≡ finish_at rows k
    later (StartOf items) rows k = refl
    later (FinishOf items) rows k = refl
    later (Other row) rows k = refl

-- ---- rows by numbers, cut into stretches
data ArePairs (goal : ℕ → Bool) : ℕ → List Instr → Type 0 where
  NoPairs : {at : ℕ} → ArePairs goal at []
  OnePair : {at exchange : ℕ} {rows : List Instr} → goal (at + 1) ≡ false
      → ArePairs goal (at + 1 + 1) rows
      → ArePairs goal at (instr.Start exchange ∷ instr.Finish exchange ∷ rows)
  OneRow : {at : ℕ} {row : Instr} {rows : List Instr} → is_exchange_row row ≡ false
      → ArePairs goal (at + 1) rows → ArePairs goal at (row ∷ rows)

abbrev InUnits : List (Stretch Instr) → Type 0
InUnits stretches = AllByRecursion (λ stretch. AreUnits stretch.front) stretches

joined_row : (row : Instr) (stretches : List (Stretch Instr)) → is_exchange_row row ≡ false
    → InUnits stretches → InUnits (joined_to row stretches)
joined_row row [] other all = (MoreRow other NoUnits, tt)
joined_row row (stretch ∷ stretches) other all = (MoreRow other all.0, all.1)

joined_pair : (exchange : ℕ) (stretches : List (Stretch Instr)) → InUnits stretches
    → InUnits (joined_to (instr.Start exchange) (joined_to (instr.Finish exchange) stretches))
joined_pair exchange [] all = (MoreExchange NoUnits, tt)
joined_pair exchange (stretch ∷ stretches) all = (MoreExchange all.0, all.1)

cut_pairs : (goal : ℕ → Bool) (at : ℕ) (rows : List Instr) → ArePairs goal at rows
    → InUnits (cut.cut ends_stretch goal at rows)
cut_pairs goal at rows NoPairs = tt
cut_pairs goal at rows (OnePair {exchange = exchange} {rows = rest} inside more) =
    subst (λ b. InUnits (cut_row false b (instr.Start exchange)
    (cut_row false (goal (at + 1 + 1)) (instr.Finish exchange)
    (cut.cut ends_stretch goal (at + 1 + 1) rest)))) (sym inside)
    (by (goal (at + 1 + 1)) (cut.cut ends_stretch goal (at + 1 + 1) rest)
    (cut_pairs goal (at + 1 + 1) rest more))
  where
    by : (b : Bool) (stretches : List (Stretch Instr)) → InUnits stretches
        → InUnits (cut_row false false (instr.Start exchange)
        (cut_row false b (instr.Finish exchange) stretches))
    by true stretches all = (MoreExchange NoUnits, all)
    by false stretches all = joined_pair exchange stretches all
cut_pairs goal at rows (OneRow {row = row} {rows = rest} other more) =
    by (ends_stretch row) (goal (at + 1)) (cut.cut ends_stretch goal (at + 1) rest)
    (cut_pairs goal (at + 1) rest more)
  where
    by : (ends b : Bool) (stretches : List (Stretch Instr)) → InUnits stretches
        → InUnits (cut_row ends b row stretches)
    by true b stretches all = (NoUnits, all)
    by false true stretches all = (MoreRow other NoUnits, all)
    by false false stretches all = joined_row row stretches other all

-- where no goal is a finish
laid_pairs : (P : Instr → Type 0) (goal : ℕ → Bool) (at count : ℕ) (rows : List PlanRow)
    → AreLaid P rows → ((k : ℕ) → finish_at rows k ≡ true → goal (at + k) ≡ false)
    → ArePairs goal at (numbered_from count rows)
unfolding finish_at
laid_pairs P goal at count rows NoRows none = NoPairs
laid_pairs P goal at count rows (LaidPair {rows = rest} laid) none =
    let back : count + 1 - 1 ≡ count = omega arith in
    subst (λ k. ArePairs goal at (instr.Start count ∷ instr.Finish k ∷ numbered_from (count + 1) rest))
    (sym back)
    (OnePair (none 1 refl)
    (laid_pairs P goal (at + 1 + 1) (count + 1) rest laid
    (λ k e. (let one : at + 1 + 1 + k ≡ at + suc (suc k) = omega arith in ap goal one)
    ∙ none (suc (suc k)) e)))
laid_pairs P goal at count rows (LaidRow {row = row} {rows = rest} other is laid) none =
    OneRow other
    (laid_pairs P goal (at + 1) count rest laid
    (λ k e. (let one : at + 1 + k ≡ at + suc k = omega arith in ap goal one) ∙ none (suc k) e))

leads_here : (k : ℕ) (row : Instr) → leads_to k row ≡ true → (has_goal row ≡ true) × (goal_of row ≡ k)
leads_here k (instr.Jump goal) e = (refl, eqb-true goal k e)
leads_here k (instr.Unless expr goal line) e = (refl, eqb-true goal k e)
leads_here k row e = absurd (true≢false (sym e))

-- ---- the pass
module _ (code : Tables) (rewrite : List PlanUnit → List PlanUnit)
    (plain : (units : List PlanUnit) → AllByRecursion IsPlain units
    → AllByRecursion IsPlain (rewrite units)) where
  abbrev whole : List (Stretch Instr)
  whole = stretches_of code.code

  abbrev moved : ℕ → ℕ
  moved = moved_by (rows_by code rewrite) ended_by whole

  abbrev segments : List (Stretch Instr) → List (Segment Instr PlanRow)
  segments stretches = segments_by (rows_by code rewrite) ended_by moved stretches

  abbrev made : List PlanRow
  made = news (segments whole)

  moved_other : (row : Instr) → ends_stretch row ≡ true
      → is_exchange_row (with_moved_goal moved row) ≡ false
  moved_other (instr.Jump goal) e = refl
  moved_other (instr.Unless expr goal line) e = refl
  moved_other (instr.Start exchange) e = absurd (true≢false (sym e))
  moved_other (instr.Finish exchange) e = absurd (true≢false (sym e))
  moved_other row e = refl

  all_laid : (P : Instr → Type 0) → ((row : Instr) → ends_stretch row ≡ false → P row)
      → (stretches : List (Stretch Instr))
      → AllByRecursion (λ stretch. AreUnits stretch.front) stretches
      → AllByRecursion (IsCut ends_stretch (is_goal code.code)) stretches
      → AllByRecursion (λ stretch. (row : Instr) → stretch.last ≡ Some row → P (with_moved_goal moved row)) stretches
      → AreLaid P (news (segments stretches))
  all_laid P each [] units are lasts = NoRows
  all_laid P each (stretch ∷ stretches) units are lasts =
      subst (AreLaid P)
      (sym (append_assoc (rows_by code rewrite stretch.front)
      (as_list (option_map (ended_by moved) stretch.last)) (news (segments stretches))))
      (laid_units P (rewrite (units_of code stretch.front))
      (plain (units_of code stretch.front) (units_plain code None 0 (λ s. Unit {0}) (λ unit. Unit {0}) rewrite stretch.front units.0
      are.0.straight)) each _
      (by stretch.last (are.0.last) lasts.0 (all_laid P each stretches units.1 are.1 lasts.1)))
    where
      by : (last : Option Instr) → ((row : Instr) → last ≡ Some row → ends_stretch row ≡ true)
          → ((row : Instr) → last ≡ Some row → P (with_moved_goal moved row))
          → AreLaid P (news (segments stretches))
          → AreLaid P (as_list (option_map (ended_by moved) last) ++ news (segments stretches))
      by None ends is laid = laid
      by (Some row) ends is laid = LaidRow (moved_other row (ends row refl)) (is row refl) laid

  abbrev Any : Instr → Type 0
  Any row = Unit {0}

  LaidBehind : List (Segment Instr PlanRow) → Type 0
  LaidBehind [] = Unit {0}
  LaidBehind (segment ∷ rest) = AreLaid Any (news (segment ∷ rest)) × LaidBehind rest

  laid_behind : (stretches : List (Stretch Instr))
      → AllByRecursion (λ stretch. AreUnits stretch.front) stretches
      → AllByRecursion (IsCut ends_stretch (is_goal code.code)) stretches
      → LaidBehind (segments stretches)
  unfolding LaidBehind
  laid_behind [] units are = tt
  laid_behind (stretch ∷ stretches) units are = (
    all_laid Any (λ row e. tt) (stretch ∷ stretches) units are (any (stretch ∷ stretches)),
    laid_behind stretches units.1 are.1,
  )
    where
      any : (stretches : List (Stretch Instr))
          → AllByRecursion (λ stretch. (row : Instr) → stretch.last ≡ Some row → Unit {0}) stretches
      any [] = tt
      any (stretch ∷ stretches) = ((λ row e. tt), any stretches)

  first_no_finish : (some : List (Segment Instr PlanRow)) → LaidBehind some
      → finish_at (news some) 0 ≡ false
  unfolding LaidBehind finish_at
  first_no_finish [] laid = refl
  first_no_finish (segment ∷ rest) laid = laid_head Any (news (segment ∷ rest)) laid.0

  no_finish : (some : List (Segment Instr PlanRow)) → LaidBehind some → (g h : ℕ)
      → IsStart some g h → finish_at (news some) h ≡ false
  unfolding LaidBehind
  no_finish some laid g h Here = first_no_finish some laid
  no_finish some laid g h (Behind {segment = segment} {segments = rest} {g = i} {h = j} start) =
      finish_behind segment.new (news rest) j ∙ no_finish rest laid.1 i j start

  abbrev IsFree : Instr → Type 0
  IsFree row = has_goal row ≡ true → finish_at made (goal_of row) ≡ false

  straight_free : (row : Instr) → ends_stretch row ≡ false → IsFree row
  straight_free (instr.Jump goal) e has = absurd (true≢false e)
  straight_free (instr.Unless expr goal line) e has = absurd (true≢false e)
  straight_free row e has = absurd (true≢false (sym has))

  never_goal : (k count : ℕ) (rows : List PlanRow) → AreLaid IsFree rows
      → list_any (leads_to k) (numbered_from count rows) ≡ true → finish_at made k ≡ false
  never_goal k count rows NoRows e = absurd (true≢false (sym e))
  never_goal k count rows (LaidPair {rows = rest} laid) e = never_goal k (count + 1) rest laid e
  never_goal k count rows (LaidRow {row = row} {rows = rest} other is laid) e =
      by (leads_to k row) refl e (never_goal k count rest laid)
    where
      by : (b : Bool) → leads_to k row ≡ b → (b || list_any (leads_to k) (numbered_from count rest)) ≡ true
          → (list_any (leads_to k) (numbered_from count rest) ≡ true → finish_at made k ≡ false)
          → finish_at made k ≡ false
      by true leads e more =
          let here = leads_here k row leads in
          subst (λ j. finish_at made j ≡ false) here.1 (is here.0)
      by false leads e more = more e

  pub units_kept : GoalsWithin code.code → IsInUnits code → IsInUnits (with_units rewrite code)
  units_kept within units =
      cut_pairs (is_goal (numbered_from 0 made)) 0 (numbered_from 0 made)
      (laid_pairs IsFree (is_goal (numbered_from 0 made)) 0 0 made laid (λ k e.
      (let same : 0 + k ≡ k = omega arith in ap (is_goal (numbered_from 0 made)) same)
      ∙ never k e (is_goal (numbered_from 0 made) k) refl))
    where
      are : AllByRecursion (IsCut ends_stretch (is_goal code.code)) whole
      are = all_cut ends_stretch (is_goal code.code) 0 code.code

      goals : AllByRecursion (LastHas (IsGoalOf code rewrite)) whole
      goals =
          lasts_have (IsGoalOf code rewrite) whole
          (subst (AllByRecursion (IsGoalOf code rewrite))
          (sym (cut_rows ends_stretch (is_goal code.code) 0 code.code))
          (goals_of_code code rewrite code.code (goals_found code.code code.code (λ at e. e) within) within))

      free : (row : Instr) → IsGoalOf code rewrite row → IsFree (with_moved_goal moved row)
      free (instr.Jump goal) is has =
          no_finish (segments whole) (laid_behind whole units are) goal (moved goal)
          (goals_are_starts Instr PlanRow (rows_by code rewrite) ended_by ends_stretch
          (is_goal code.code) code.code goal (is refl).0 (is refl).1)
      free (instr.Unless expr goal line) is has =
          no_finish (segments whole) (laid_behind whole units are) goal (moved goal)
          (goals_are_starts Instr PlanRow (rows_by code rewrite) ended_by ends_stretch
          (is_goal code.code) code.code goal (is refl).0 (is refl).1)
      free row is has = absurd (true≢false (sym has))

      all_free : (stretches : List (Stretch Instr)) → AllByRecursion (LastHas (IsGoalOf code rewrite)) stretches
          → AllByRecursion (λ stretch. (row : Instr) → stretch.last ≡ Some row
          → IsFree (with_moved_goal moved row)) stretches
      all_free [] all = tt
      all_free (stretch ∷ stretches) all = ((λ row e. free row (all.0 row e)), all_free stretches all.1)

      laid : AreLaid IsFree made
      laid = all_laid IsFree straight_free whole units are (all_free whole goals)

      never : (k : ℕ) → finish_at made k ≡ true → (b : Bool) → is_goal (numbered_from 0 made) k ≡ b
          → b ≡ false
      never k e true goal = absurd (true≢false (sym e ∙ never_goal k 0 made laid goal))
      never k e false goal = refl
