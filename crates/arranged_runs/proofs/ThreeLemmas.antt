-- What is of three has three in the plan of a flat program, without repeats in it, with neighbours
-- merged, and with starts moved up.
use Rattle.std.proofs.Common.{◌≡◌, refl, ◌∙◌, ap, arith, eqb-true, subst, sym, ℕ, zero, suc, ◌+◌}
use Rattle.std.proofs.Common.{Bool, true, false, List, [], ◌∷◌, length, map, All}
use Rattle.std.specs.Prelude.{◌==◌, cond, count_by, flat_map, fold, not, slice_get, Option}
use Rattle.std.specs.Option.{IfSome}
use Rattle.std.specs.List.{AllByRecursion}
use Rattle.std.proofs.lemmas.Bool.Decides.{nat_tests}
use Rattle.std.proofs.lemmas.List.Elements.{All-filter, All-from_recursion, All-weaker}
use Rattle.std.proofs.lemmas.List.Elements.{recursion_from_All}
use Rattle.std.proofs.lemmas.List.Sums.{sum_by-cons}
use Rattle.node_form.specs.declared.arrays.ArrayRow.{ArrayRow}
use Rattle.node_form.specs.declared.arrays.Item.{Item}
use Rattle.node_form.specs.declared.instructions.Instr.{Instr}
use Rattle.node_form.specs.declared.instructions.Instr.TheVariants as instr
use Rattle.node_form.specs.declared.members.Member.{Member}
use Rattle.node_form.specs.declared.tables.Tables.{Tables}
use Rattle.node_form.specs.declared.words.ExprOp.{ExprOp}
use Rattle.node_form.specs.declared.words.ExprOp.TheVariants as word
use Rattle.code_parts.specs.Exchanged.{is_among}
use Rattle.code_parts.specs.Stretch.{ends_stretch, is_goal}
use Rattle.code_parts.specs.Uses.{exprs_of, group_words, member_words, members_of, rows_or_none}
use Rattle.code_parts.specs.Uses.{words_of}
use Rattle.flat_form.specs.Flat.{IsFlatRow}
use Rattle.flat_passes.specs.Rewritten.{stretches_of, with_moved_goal}
use Rattle.flat_passes.proofs.StretchLemmas.{HoldsOf, every_append, news_hold}
use Rattle.row_runs.specs.Cut.{Stretch, all_rows, as_list, moved_by, passed, rows_of}
use Rattle.row_runs.specs.Straight.{rewritten}
use Rattle.row_runs.proofs.CutLemmas.{cut_rows}
use Rattle.normal_runs.proofs.PassLemmas.{each_holds, front_holds, last_holds}
use Rattle.plan_form.specs.Rewrite.{ended_by, rows_by, with_units}
use Rattle.plan_form.specs.Units.{Exchange, FinishOf, Other, PlanRow, PlanUnit, Single, StartOf}
use Rattle.plan_form.specs.Units.{exchanges_in, numbered_from, unit_of, unit_rows, units_of, with_item}
use Rattle.comm_needs.specs.Needs.{is_voted_on, needed_alone, needed_by, needs_of, planned, vote_if}
use Rattle.comm_needs.specs.Needs.{with_needs}
use Rattle.comm_combine.specs.Merge.{joined_to, neighbours_merged, units_merged}
use Rattle.comm_combine.specs.Repeats.{exchange_if_any, fresh_after, repeats_dropped, stale_items}
use Rattle.comm_combine.specs.Repeats.{without_fresh}
use Rattle.comm_early.specs.Send.{sent_early}
use Rattle.comm_early.proofs.SumLemmas.{rows_stay}
use Rattle.grid_meaning.specs.State.{HasThree}
use Rattle.plan_passes.specs.of_needs_runs.Agree.{HasThreeOf}
use Rattle.plan_passes.specs.of_needs_runs.Sharable.{HasThreeIn}
use Rattle.pass_fits.proofs.NeedLemmas.{items_added}
use Rattle.plan_passes.specs.Threes.{HasThrees}
use Rattle.arranged_runs.specs.Plannable.{HasFlatThrees}

-- ---- items, units and rows that have three
abbrev IsThree : Item → Type 0
IsThree item = length item.shift ≡ 3

abbrev ThreeUnit : PlanUnit → Type 0
ThreeUnit (Exchange items) = AllByRecursion IsThree items
ThreeUnit (Single row) = HasThreeOf row

abbrev ThreeRow : PlanRow → Type 0
ThreeRow (StartOf items) = AllByRecursion IsThree items
ThreeRow (FinishOf items) = Unit {0}
ThreeRow (Other row) = HasThreeOf row

unit_rows_three : (units : List PlanUnit) → AllByRecursion ThreeUnit units
    → AllByRecursion ThreeRow (flat_map unit_rows units)
unit_rows_three [] all = tt
unit_rows_three (Exchange items ∷ units) all = (all.0, (tt, unit_rows_three units all.1))
unit_rows_three (Single row ∷ units) all = (all.0, unit_rows_three units all.1)

exchanges_three : (rows : List PlanRow) → AllByRecursion ThreeRow rows
    → AllByRecursion (λ items. All IsThree items) (exchanges_in rows)
exchanges_three [] all = tt
exchanges_three (StartOf items ∷ rows) all =
    (All-from_recursion IsThree items all.0, exchanges_three rows all.1)
exchanges_three (FinishOf items ∷ rows) all = exchanges_three rows all.1
exchanges_three (Other row ∷ rows) all = exchanges_three rows all.1

numbered_three : (n : ℕ) (rows : List PlanRow) → AllByRecursion ThreeRow rows
    → AllByRecursion HasThreeOf (numbered_from n rows)
numbered_three n [] all = tt
numbered_three n (StartOf items ∷ rows) all = (tt, numbered_three (n + 1) rows all.1)
numbered_three n (FinishOf items ∷ rows) all = (tt, numbered_three n rows all.1)
numbered_three n (Other row ∷ rows) all = (all.0, numbered_three n rows all.1)

moved_three : (moved : ℕ → ℕ) (row : Instr) → HasThreeOf row
    → HasThreeOf (with_moved_goal moved row)
moved_three moved (instr.Jump goal) is = tt
moved_three moved (instr.Unless expr goal line) is = tt
moved_three moved row is = is

-- the row has three, and so has its unit
abbrev HasBoth : Tables → Instr → Type 0
HasBoth code row = HasThreeOf row × AllByRecursion ThreeUnit (unit_of code row)

-- ---- a pass over units
module _ (code : Tables) (rewrite : List PlanUnit → List PlanUnit)
    (keeps : (units : List PlanUnit) → AllByRecursion ThreeUnit units
    → AllByRecursion ThreeUnit (rewrite units)) where
  units_three : (rows : List Instr) → AllByRecursion (HasBoth code) rows
      → AllByRecursion ThreeUnit (units_of code rows)
  units_three [] all = tt
  units_three (row ∷ rows) all =
      every_append ThreeUnit (unit_of code row) (units_of code rows) all.0.1
      (units_three rows all.1)

  stretches_three : (moved : ℕ → ℕ) (stretches : List (Stretch Instr))
      → AllByRecursion (λ stretch. AllByRecursion (HasBoth code) (rows_of stretch)) stretches
      → AllByRecursion (HoldsOf ThreeRow (rows_by code rewrite) ended_by moved) stretches
  stretches_three moved [] all = tt
  stretches_three moved (stretch ∷ stretches) all = (
    record {
      front =
          unit_rows_three (rewrite (units_of code stretch.front))
          (keeps (units_of code stretch.front)
          (units_three stretch.front
          (front_holds (HasBoth code) stretch.front (as_list stretch.last) all.0)));
      last = λ row is.
          moved_three moved row (last_holds (HasBoth code) stretch.front stretch.last row is all.0).0;
    },
    stretches_three moved stretches all.1,
  )

  pub kept_three : All (λ (row : ArrayRow). length row.dims ≡ 3) code.arrays
      → AllByRecursion (HasBoth code) code.code → HasThrees (with_units rewrite code)
  kept_three arrays all =
      let stretches : List (Stretch Instr) = stretches_of code.code in
      let same : all_rows stretches ≡ code.code =
      cut_rows ends_stretch (is_goal code.code) 0 code.code in
      let rows : List PlanRow = passed (rows_by code rewrite) ended_by stretches in
      let three : AllByRecursion ThreeRow rows =
      news_hold ThreeRow (rows_by code rewrite) ended_by
      (moved_by (rows_by code rewrite) ended_by stretches) stretches
      (stretches_three (moved_by (rows_by code rewrite) ended_by stretches) stretches
      (each_holds (HasBoth code) stretches (subst (AllByRecursion (HasBoth code)) (sym same) all))) in
      record {
        arrays = arrays;
        rows = All-from_recursion HasThreeOf (numbered_from 0 rows) (numbered_three 0 rows three);
        items =
            All-from_recursion (λ items. All IsThree items) (exchanges_in rows)
            (exchanges_three rows three);
      }

-- ---- plans
found_three : (exchanges : List (List Item))
    → AllByRecursion (λ items. All IsThree items) exchanges → (k : ℕ)
    → AllByRecursion IsThree (rows_or_none (slice_get exchanges k))
found_three [] all k = tt
found_three (items ∷ exchanges) all zero = recursion_from_All IsThree items all.0
found_three (items ∷ exchanges) all (suc k) = found_three exchanges all.1 k

module _ (code : Tables) (threes : HasThrees code) where
  exchange_three : (exchange : ℕ)
      → AllByRecursion IsThree (rows_or_none (slice_get code.exchanges exchange))
  exchange_three exchange =
      found_three code.exchanges
      (recursion_from_All (λ items. All IsThree items) code.exchanges threes.items) exchange

  row_three : (row : Instr) → HasThreeOf row → AllByRecursion ThreeUnit (unit_of code row)
  row_three (instr.Start exchange) is = (exchange_three exchange, tt)
  row_three (instr.Finish exchange) is = tt
  row_three row is = (is, tt)

  both_three : (rows : List Instr) → AllByRecursion HasThreeOf rows
      → AllByRecursion (HasBoth code) rows
  both_three [] all = tt
  both_three (row ∷ rows) all = ((all.0, row_three row all.0), both_three rows all.1)

-- ---- without repeats
any_three : (items : List Item) → AllByRecursion IsThree items
    → AllByRecursion ThreeUnit (exchange_if_any items)
any_three [] all = tt
any_three (item ∷ items) all = (all, tt)

stale_three : (fresh : List Item) (unit : PlanUnit) → ThreeUnit unit
    → AllByRecursion ThreeUnit (without_fresh fresh unit)
stale_three fresh (Exchange items) is =
    any_three (stale_items fresh items)
    (recursion_from_All IsThree (stale_items fresh items)
    (All-filter (λ item. not (is_among fresh item)) IsThree items
    (All-from_recursion IsThree items is)))
stale_three fresh (Single row) is = (is, tt)

all_stale_three : (code : Tables) (fresh : List Item) (units : List PlanUnit)
    → AllByRecursion ThreeUnit units
    → AllByRecursion ThreeUnit (rewritten without_fresh (fresh_after code) fresh units)
all_stale_three code fresh [] all = tt
all_stale_three code fresh (unit ∷ units) all =
    every_append ThreeUnit (without_fresh fresh unit)
    (rewritten without_fresh (fresh_after code) (fresh_after code fresh unit) units)
    (stale_three fresh unit all.0)
    (all_stale_three code (fresh_after code fresh unit) units all.1)

pub dropped_three : (code : Tables) → HasThrees code → HasThrees (repeats_dropped code)
dropped_three code threes =
    kept_three code (rewritten without_fresh (fresh_after code) []) (all_stale_three code [])
    threes.arrays
    (both_three code threes code.code (recursion_from_All HasThreeOf code.code threes.rows))

-- ---- with neighbours merged
joined_three : (items : List Item) (units : List PlanUnit) → AllByRecursion IsThree items
    → AllByRecursion ThreeUnit units → AllByRecursion ThreeUnit (joined_to items units)
joined_three items [] is all = (is, tt)
joined_three items (Exchange others ∷ units) is all =
    (items_added IsThree items others is all.0, all.1)
joined_three items (Single row ∷ units) is all = (is, all)

all_merged_three : (units : List PlanUnit) → AllByRecursion ThreeUnit units
    → AllByRecursion ThreeUnit (units_merged units)
all_merged_three [] all = tt
all_merged_three (Exchange items ∷ units) all =
    joined_three (fold with_item [] items) (units_merged units)
    (items_added IsThree [] items tt all.0) (all_merged_three units all.1)
all_merged_three (Single row ∷ units) all = (all.0, all_merged_three units all.1)

pub merged_three : (code : Tables) → HasThrees code → HasThrees (neighbours_merged code)
merged_three code threes =
    kept_three code units_merged all_merged_three threes.arrays
    (both_three code threes code.code (recursion_from_All HasThreeOf code.code threes.rows))

-- ---- the plan of a flat program
every_part : {X Y : Type 0} (P : Y → Type 0) (f : X → List Y)
    → ((x : X) → AllByRecursion P (f x)) → (xs : List X) → AllByRecursion P (flat_map f xs)
every_part P f each [] = tt
every_part P f each (x ∷ xs) =
    every_append P (f x) (flat_map f xs) (each x) (every_part P f each xs)

every_item : {X Y : Type 0} (Q : X → Type 0) (P : Y → Type 0) (f : X → List Y)
    → ((x : X) → Q x → AllByRecursion P (f x)) → (xs : List X) → AllByRecursion Q xs
    → AllByRecursion P (flat_map f xs)
every_item Q P f each [] all = tt
every_item Q P f each (x ∷ xs) all =
    every_append P (f x) (flat_map f xs) (each x all.0) (every_item Q P f each xs all.1)

found_words : (exprs : List (List ExprOp))
    → AllByRecursion (λ words. All HasThreeIn words) exprs → (k : ℕ)
    → AllByRecursion HasThreeIn (rows_or_none (slice_get exprs k))
found_words [] all k = tt
found_words (words ∷ exprs) all zero = recursion_from_All HasThreeIn words all.0
found_words (words ∷ exprs) all (suc k) = found_words exprs all.1 k

needed_three : (slot : ℕ) (one : ExprOp) → HasThreeIn one
    → AllByRecursion IsThree (needed_by slot one)
needed_three slot (word.Shifted array shift) is = (is, tt)
needed_three slot other is = tt

alone_three : (items : List Item) → AllByRecursion IsThree items
    → AllByRecursion ThreeUnit (map needed_alone items)
alone_three [] all = tt
alone_three (item ∷ items) all = ((all.0, tt), alone_three items all.1)

module _ (code : Tables) (threes : HasFlatThrees code) where
  words_three : (expr : ℕ) → AllByRecursion HasThreeIn (words_of code expr)
  words_three expr =
      found_words code.exprs
      (recursion_from_All (λ words. All HasThreeIn words) code.exprs threes.words) expr

  group_three : (group : ℕ) → AllByRecursion HasThreeIn (group_words code group)
  group_three group =
      every_part HasThreeIn (member_words code)
      (λ (one : Member). every_part HasThreeIn (words_of code) words_three (exprs_of one))
      (members_of code group)

  needs_three : (slot group : ℕ) → AllByRecursion IsThree (needs_of code slot group)
  needs_three slot group =
      items_added IsThree [] (flat_map (needed_by slot) (group_words code group)) tt
      (every_item HasThreeIn IsThree (needed_by slot) (needed_three slot) (group_words code group)
      (group_three group))

  vote_three : (b : Bool) (group : ℕ) → AllByRecursion ThreeUnit (vote_if b group)
  vote_three true group = (tt, tt)
  vote_three false group = tt

  with_needs_three : (unit : PlanUnit) → ThreeUnit unit
      → AllByRecursion ThreeUnit (with_needs code unit)
  with_needs_three (Exchange items) is = (is, tt)
  with_needs_three (Single (instr.Loop slot group)) is =
      every_append ThreeUnit (map needed_alone (needs_of code slot group))
      (Single (instr.Loop slot group) ∷ vote_if (is_voted_on code group) group)
      (alone_three (needs_of code slot group) (needs_three slot group))
      (tt, vote_three (is_voted_on code group) group)
  with_needs_three (Single row) is = (is, tt)

  flat_three : (row : Instr) → IsFlatRow row → HasThreeOf row
      → AllByRecursion ThreeUnit (unit_of code row)
  flat_three (instr.Start exchange) flat is = absurd flat
  flat_three (instr.Finish exchange) flat is = absurd flat
  flat_three row flat is = (is, tt)

  both_flat : (rows : List Instr) → AllByRecursion IsFlatRow rows
      → AllByRecursion HasThreeOf rows
      → AllByRecursion (HasBoth code) rows
  both_flat [] flat all = tt
  both_flat (row ∷ rows) flat all =
      ((all.0, flat_three row flat.0 all.0), both_flat rows flat.1 all.1)

  units_with_needs : (units : List PlanUnit) → AllByRecursion ThreeUnit units
      → AllByRecursion ThreeUnit (flat_map (with_needs code) units)
  units_with_needs units all =
      every_item ThreeUnit ThreeUnit (with_needs code) with_needs_three units all

  pub planned_three : (grid : List ℕ) → All IsFlatRow code.code → HasThrees (planned grid code)
  planned_three grid flat =
      let plan : HasThrees (with_units (flat_map (with_needs code)) code) =
      kept_three code (flat_map (with_needs code)) units_with_needs threes.arrays
      (both_flat code.code (recursion_from_All IsFlatRow code.code flat)
      (recursion_from_All HasThreeOf code.code threes.rows)) in
      record { arrays = plan.arrays; rows = plan.rows; items = plan.items }

-- ---- with starts moved up: rows change places alone
has_three : Instr → Bool
has_three (instr.Fix slot region) = length region.dims == 3
has_three (instr.Dims slot parts line) = length parts == 3
has_three (instr.Formed form slot from shift line) = length shift == 3
has_three (instr.Edge kind array slot shift) = length shift == 3
has_three row = true

abbrev lacks : Instr → Bool
lacks row = not (has_three row)

three_told : (n : ℕ) → n ≡ 3 → (n == 3) ≡ true
three_told n e = let one : (n == 3) ≡ true = grind (arith, nat_tests, e) in one

told : (row : Instr) → HasThreeOf row → has_three row ≡ true
unfolding has_three
told (instr.Fix slot region) is = three_told (length region.dims) is
told (instr.Dims slot parts line) is = three_told (length parts) is
told (instr.Formed form slot from shift line) is = three_told (length shift) is
told (instr.Edge kind array slot shift) is = three_told (length shift) is
told row is = refl

told_back : (row : Instr) → has_three row ≡ true → HasThreeOf row
unfolding has_three
told_back (instr.Fix slot region) e = eqb-true (length region.dims) 3 e
told_back (instr.Dims slot parts line) e = eqb-true (length parts) 3 e
told_back (instr.Formed form slot from shift line) e = eqb-true (length shift) 3 e
told_back (instr.Edge kind array slot shift) e = eqb-true (length shift) 3 e
told_back row e = tt

one_more : (row : Instr) (rows : List Instr)
    → count_by lacks (row ∷ rows) ≡ cond (lacks row) 1 0 + count_by lacks rows
one_more row rows = sum_by-cons (λ row. cond (lacks row) 1 0) row rows

one_is_none : (n : ℕ) → 1 + n ≡ 0 → ⊥
one_is_none n e = omega (arith, e)

none_lacks : (rows : List Instr) → AllByRecursion HasThreeOf rows → count_by lacks rows ≡ 0
none_lacks [] all = refl
none_lacks (row ∷ rows) all =
    let here : ◌≡◌ {A = ℕ} (cond (lacks row) 1 0) 0 =
    ap (λ b. cond {A = ℕ} (not b) 1 0) (told row all.0) in
    omega (arith, one_more row rows, here, none_lacks rows all.1)

all_have : (rows : List Instr) → count_by lacks rows ≡ 0 → AllByRecursion HasThreeOf rows
all_have [] e = tt
all_have (row ∷ rows) e =
    by (has_three row) refl (sym (one_more row rows) ∙ e) (λ none. all_have rows none)
  where
    by : (b : Bool) → has_three row ≡ b
        → cond (not b) 1 0 + count_by lacks rows ≡ 0
        → (count_by lacks rows ≡ 0 → AllByRecursion HasThreeOf rows)
        → AllByRecursion HasThreeOf (row ∷ rows)
    by true is e more = (told_back row is, more (omega (arith, e)))
    by false is e more = absurd (one_is_none (count_by lacks rows) e)

pub early_three : (links : Option ℕ) (code : Tables) → HasThrees code
    → HasThrees (sent_early links code)
early_three links code threes =
    let new : List Instr = (sent_early links code).code in
    record {
      arrays = threes.arrays;
      rows =
          All-from_recursion HasThreeOf new
          (all_have new
          (rows_stay links code lacks
          ∙ none_lacks code.code (recursion_from_All HasThreeOf code.code threes.rows)));
      items = threes.items;
    }

-- ---- as rows of node code ask for it
found_array : (arrays : List ArrayRow)
    → AllByRecursion (λ (row : ArrayRow). length row.dims ≡ 3) arrays → (k : ℕ)
    → IfSome (slice_get arrays k) (λ row. length row.dims ≡ 3)
found_array [] all k = tt
found_array (row ∷ arrays) all zero = all.0
found_array (row ∷ arrays) all (suc k) = found_array arrays all.1 k

pub rows_have_three : (code : Tables) → HasThrees code → All (HasThree code) code.code
rows_have_three code threes = All-weaker HasThreeOf (HasThree code) each code.code threes.rows
  where
    each : (row : Instr) → HasThreeOf row → HasThree code row
    each (instr.Fix slot region) is = is
    each (instr.Dims slot parts line) is = is
    each (instr.Room array slot) is =
        found_array code.arrays
        (recursion_from_All (λ (row : ArrayRow). length row.dims ≡ 3) code.arrays threes.arrays) array
    each row is = tt
