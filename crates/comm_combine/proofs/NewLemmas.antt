-- No repeat is left.
use Rattle.std.proofs.Common.{◌≡◌, refl, sym, ap, ◌∙◌, subst, arith, ℕ, ◌+◌}
use Rattle.std.proofs.Common.{Bool, true, false, not, true≢false, List, [], ◌∷◌, ◌++◌, length}
use Rattle.last_writes.specs.of_plan_form.Rewrite.{ended_by}
use Rattle.std.specs.Prelude.{◌&&◌, ◌||◌, cond, filter, flat_map, if◌then◌else◌}
use Rattle.std.specs.List.{list_any}
use Rattle.std.proofs.lemmas.List.{append_assoc, length-append}
use Rattle.std.proofs.lemmas.List.Folds.{list_any-append}
use Rattle.std.proofs.lemmas.Map.Views.{any-filter_same}
use Rattle.last_writes.specs.of_node_form.declared.arrays.Item.{Item}
use Rattle.last_writes.specs.of_node_form.declared.instructions.Instr.{Instr}
use Rattle.last_writes.specs.of_node_form.declared.instructions.Instr.TheVariants as instr
use Rattle.last_writes.specs.of_node_form.declared.tables.Tables.{Tables}
use Rattle.last_writes.specs.of_code_parts.Exchanged.{HasNoRepeats, fresh_behind, is_among, stales}
use Rattle.last_writes.specs.of_code_parts.Exchanged.{is_exchange_row, starts_new}
use Rattle.last_writes.specs.of_code_parts.Stretch.{ends_stretch, is_goal, right_from}
use Rattle.last_writes.specs.of_code_parts.Uses.{is_item, items_of}
use Rattle.last_writes.proofs.of_code_parts.RepeatLemmas.{repeats_either_way}
use Rattle.last_writes.proofs.of_plan_form.ItemLemmas.{is_item-Decides}
use Rattle.last_writes.specs.of_plan_form.Units.{PlanRow, exchanges_in, laid_out}
use Rattle.last_writes.specs.of_plan_form.Units.{numbered_from, unit_rows}
use Rattle.last_writes.proofs.of_plan_form.PassLemmas as pass
use Rattle.last_writes.proofs.of_plan_form.WalkLemmas as walks
use Rattle.comm_combine.specs.Repeats.{exchange_if_any, repeats_dropped, stale_items}
use Rattle.comm_combine.proofs.DropLemmas.{all_rows, close, learn, rewriting, step}
use Rattle.comm_combine.proofs.ReachLemmas.{GoalsMoved, all_moved, items_there, moved, new, numbers}
use Rattle.comm_combine.proofs.ReachLemmas.{units_walked, walk}

-- ---- items that are among others
abbrev pub Within : List Item → List Item → Type 0
Within items known = (item : Item) → is_among items item ≡ true → is_among known item ≡ true

pub within_none : (known : List Item) → Within [] known
within_none known item there = absurd (true≢false (sym there))

pub kept_as : (tables : Tables) (row : Instr) (item other : Item) → is_item item other ≡ true
    → not (stales tables other row) ≡ not (stales tables item row)
kept_as tables row item other same =
    ap (λ one. not (stales tables one row)) (sym ((is_item-Decides item other).0 same))

both_left : (a b : Bool) → (a && b) ≡ true → a ≡ true
both_left true b e = refl
both_left false b e = e

both_right : (a b : Bool) → (a && b) ≡ true → b ≡ true
both_right true b e = e
both_right false b e = absurd (true≢false (sym e))

both : (a b : Bool) → a ≡ true → b ≡ true → (a && b) ≡ true
both true b one other = other
both false b one other = one

-- what a row leaves of both
pub within_left : (tables : Tables) (row : Instr) (items known : List Item) → Within items known
    → Within (filter (λ item. not (stales tables item row)) items)
    (filter (λ item. not (stales tables item row)) known)
within_left tables row items known within item there =
    let left = any-filter_same (is_item item) (λ other. not (stales tables other row))
    (not (stales tables item row)) (kept_as tables row item) in
    let was = sym (left items) ∙ there in
    left known
    ∙ both (not (stales tables item row)) (is_among known item)
    (both_left (not (stales tables item row)) (is_among items item) was)
    (within item (both_right (not (stales tables item row)) (is_among items item) was))

-- more of both
or_either : (a b c : Bool) → (b ≡ true → c ≡ true) → (a || b) ≡ true → (a || c) ≡ true
or_either true b c there is = refl
or_either false b c there is = there is

pub within_more : (more items known : List Item) → Within items known
    → Within (more ++ items) (more ++ known)
within_more more items known within item there =
    list_any-append (is_item item) more known
    ∙ or_either (is_among more item) (is_among items item) (is_among known item) (within item)
    (sym (list_any-append (is_item item) more items) ∙ there)

-- ---- those that aren't fresh aren't among what is
stale_new : (known facts items : List Item) → Within facts known
    → list_any (is_among facts) (stale_items known items) ≡ false
stale_new known facts [] within = refl
stale_new known facts (item ∷ items) within =
    by (is_among known item) refl (stale_new known facts items within)
  where
    not_among : is_among known item ≡ false → (b : Bool) → is_among facts item ≡ b → b ≡ false
    not_among none true there = sym (within item there) ∙ none
    not_among none false there = refl

    by : (b : Bool) → is_among known item ≡ b
        → list_any (is_among facts) (stale_items known items) ≡ false
        → list_any (is_among facts) (cond (not b) (item ∷ stale_items known items)
        (stale_items known items)) ≡ false
    by true there rest = rest
    by false none rest =
        ap (λ b. b || list_any (is_among facts) (stale_items known items))
        (not_among none (is_among facts item) refl) ∙ rest

module _ (tables : Tables) where
  abbrev made : List PlanRow
  made = new {F = List Item} tables [] (step tables) (learn tables) close refl

  abbrev plan : Tables
  plan = laid_out tables made

  abbrev walked : List Item → ℕ → List Instr → List PlanRow
  walked = walk {F = List Item} tables [] (step tables) (learn tables) close refl

  abbrev counted : List Item → ℕ → ℕ → List Instr → List ℕ
  counted = numbers {F = List Item} tables [] (step tables) (learn tables) close refl

  abbrev learnt : Bool → List Item → Instr → List Item
  learnt = pass.learnt {F = List Item} tables [] (step tables) (learn tables) close

  abbrev known_at : Bool → List Item → List Item
  known_at = pass.known {F = List Item} tables [] (step tables) (learn tables) close

  abbrev put : Bool → (ℕ → ℕ) → List Item → Instr → List PlanRow
  put = walks.put {F = List Item} {Old = Instr} {New = PlanRow} ends_stretch
      (is_goal tables.code) [] (pass.step_rows {F = List Item} tables [] (step tables) (learn tables) close)
      (learn tables) (pass.close_rows {F = List Item} tables [] (step tables) (learn tables) close) ended_by

  abbrev moves : ℕ → ℕ
  moves = moved {F = List Item} tables [] (step tables) (learn tables) close refl

  abbrev from : ℕ → List Item → List Instr → Bool
  from n facts rows = right_from [] (fresh_behind plan) (starts_new plan) plan.code n facts rows

  abbrev front : Bool → List Item → List PlanRow
  front = walks.in_front {F = List Item} {Old = Instr} {New = PlanRow} ends_stretch
      (is_goal tables.code) [] (pass.step_rows {F = List Item} tables [] (step tables) (learn tables) close)
      (learn tables) (pass.close_rows {F = List Item} tables [] (step tables) (learn tables) close) ended_by

  -- what is known in the new walk, with a look at whether a goal stands there
  abbrev reset : ℕ → List Item → List Item
  reset n facts = if is_goal plan.code n then [] else facts

  reset_within : (n : ℕ) (facts known : List Item) → Within facts known
      → Within (reset n facts) known
  reset_within n facts known within = by (is_goal plan.code n)
    where
      by : (b : Bool) → Within (if b then [] else facts) known
      by true = within_none known
      by false = within

  abbrev IsLater : ℕ → List Item → List Instr → Type 0
  IsLater at known rows =
      (n count : ℕ) (facts : List Item) (before : List (List Item))
      → plan.exchanges ≡ before ++ exchanges_in (walked known at rows) → length before ≡ count
      → GoalsMoved tables.code plan.code at (counted known at n rows)
      → Within (reset n facts) known
      → from n facts (numbered_from count (walked known at rows)) ≡ true

  -- ---- what is kept of a row
  pub all_fresh : (items : List Item) → filter (λ item. not false) items ≡ items
  all_fresh [] = refl
  all_fresh (item ∷ items) = ap (λ rest. item ∷ rest) (all_fresh items)

  -- an exchange of items, of which none is known
  exchange_row : (stale : List Item) (known : List Item) (at : ℕ) (rows : List Instr)
      → IsLater (at + 1) (stale ++ known) rows
      → (n count : ℕ) (facts : List Item) (before : List (List Item))
      → ((facts : List Item) → Within facts known → list_any (is_among facts) stale ≡ false)
      → plan.exchanges ≡ before ++ exchanges_in
      (flat_map unit_rows (exchange_if_any stale) ++ walked (stale ++ known) (at + 1) rows)
      → length before ≡ count
      → GoalsMoved tables.code plan.code (at + 1) (counted (stale ++ known) (at + 1)
      (n + length (flat_map unit_rows (exchange_if_any stale))) rows)
      → Within (reset n facts) known
      → from n facts (numbered_from count
      (flat_map unit_rows (exchange_if_any stale) ++ walked (stale ++ known) (at + 1) rows)) ≡ true
  exchange_row [] known at rows later n count facts before none is size goals within =
      later n count facts before is size
      (subst (λ k. GoalsMoved tables.code plan.code (at + 1) (counted known (at + 1) k rows)) same
      goals) within
    where
      same : n + 0 ≡ n
      same = omega arith
  exchange_row (one ∷ stale) known at rows later n count facts before none is size goals within =
      both (not (list_any (is_among (reset n facts)) (items_of plan count))) _
      (ap not (ap (list_any (is_among (reset n facts))) items ∙ none (reset n facts) within))
      (subst (λ k. from k (filter (λ item. not false)
      (reset (n + 1) (items_of plan count ++ reset n facts))) (numbered_from (count + 1)
      (walked (one ∷ stale ++ known) (at + 1) rows)) ≡ true) two
      (later (n + 2) (count + 1) (filter (λ item. not false)
      (reset (n + 1) (items_of plan count ++ reset n facts))) (before ++ (one ∷ stale) ∷ [])
      (is ∙ sym (append_assoc before ((one ∷ stale) ∷ []) _))
      (length-append before ((one ∷ stale) ∷ []) ∙ ap (λ k. k + 1) size) goals
      (reset_within (n + 2) (filter (λ item. not false)
      (reset (n + 1) (items_of plan count ++ reset n facts))) (one ∷ stale ++ known) known_behind)))
    where
      items : items_of plan count ≡ one ∷ stale
      items =
          items_there plan before (exchanges_in (walked (one ∷ stale ++ known) (at + 1) rows))
          (one ∷ stale) count is size

      two : n + 2 ≡ n + 1 + 1
      two = omega arith

      known_behind : Within (filter (λ item. not false)
          (reset (n + 1) (items_of plan count ++ reset n facts))) (one ∷ stale ++ known)
      known_behind =
          subst (λ l. Within l (one ∷ stale ++ known)) (sym (all_fresh _))
          (reset_within (n + 1) (items_of plan count ++ reset n facts) (one ∷ stale ++ known)
          (subst (λ l. Within (l ++ reset n facts) (one ∷ stale ++ known)) (sym items)
          (within_more (one ∷ stale) (reset n facts) known within)))

  same_kept : (row : Instr) (items : List Item) → ends_stretch row ≡ false
      → is_exchange_row row ≡ false
      → fresh_behind plan items row ≡ filter (λ item. not (stales tables item row)) items
  same_kept (instr.Start exchange) items ends none = absurd (true≢false none)
  same_kept (instr.Finish exchange) items ends none = absurd (true≢false none)
  same_kept row items ends none = refl

  same_learnt : (row : Instr) (items : List Item) → ends_stretch row ≡ false
      → is_exchange_row row ≡ false
      → learn tables items row ≡ filter (λ item. not (stales tables item row)) items
  same_learnt (instr.Start exchange) items ends none = absurd (true≢false none)
  same_learnt (instr.Finish exchange) items ends none = absurd (true≢false none)
  same_learnt row items ends none = refl

  -- a row that is no exchange's
  single_row : (row : Instr) (known : List Item) (at : ℕ) (rows : List Instr)
      → ends_stretch row ≡ false → is_exchange_row row ≡ false
      → IsLater (at + 1) (learn tables known row) rows
      → (n count : ℕ) (facts : List Item) (before : List (List Item))
      → starts_new plan (reset n facts) row ≡ true
      → plan.exchanges ≡ before ++ exchanges_in (walked (learn tables known row) (at + 1) rows)
      → length before ≡ count
      → GoalsMoved tables.code plan.code (at + 1)
      (counted (learn tables known row) (at + 1) (n + 1) rows)
      → Within (reset n facts) known
      → ((ends_stretch row || starts_new plan (reset n facts) row)
      && from (n + 1) (if ends_stretch row then [] else fresh_behind plan (reset n facts) row)
      (numbered_from count (walked (learn tables known row) (at + 1) rows))) ≡ true
  single_row row known at rows ends other later n count facts before new is size goals within =
      ap (λ b. (b || starts_new plan (reset n facts) row)
      && from (n + 1) (if b then [] else fresh_behind plan (reset n facts) row)
      (numbered_from count (walked (learn tables known row) (at + 1) rows))) ends
      ∙ both (starts_new plan (reset n facts) row) _ new
      (later (n + 1) count (fresh_behind plan (reset n facts) row) before is size goals
      (reset_within (n + 1) (fresh_behind plan (reset n facts) row) (learn tables known row)
      (subst (λ l. Within l (learn tables known row)) (sym (same_kept row (reset n facts) ends other))
      (subst (λ l. Within (filter (λ item. not (stales tables item row)) (reset n facts)) l)
      (sym (same_learnt row known ends other))
      (within_left tables row (reset n facts) known within)))))

  -- a row that ends its stretch
  end_row : (at : ℕ) (rows : List Instr) → IsLater (at + 1) [] rows
      → (n count : ℕ) (before : List (List Item))
      → plan.exchanges ≡ before ++ exchanges_in (walked [] (at + 1) rows) → length before ≡ count
      → GoalsMoved tables.code plan.code (at + 1) (counted [] (at + 1) (n + 1) rows)
      → from (n + 1) [] (numbered_from count (walked [] (at + 1) rows)) ≡ true
  end_row at rows later n count before is size goals =
      later (n + 1) count [] before is size goals
      (reset_within (n + 1) [] [] (within_none []))

  one_row : (row : Instr) (known : List Item) (at : ℕ) (rows : List Instr)
      → ((behind : List Item) → IsLater (at + 1) behind rows)
      → (n count : ℕ) (facts : List Item) (before : List (List Item))
      → plan.exchanges ≡ before ++ exchanges_in (put (ends_stretch row) moves known row
      ++ walked (learnt (ends_stretch row) known row) (at + 1) rows)
      → length before ≡ count
      → GoalsMoved tables.code plan.code (at + 1)
      (counted (learnt (ends_stretch row) known row) (at + 1)
      (n + length (put (ends_stretch row) (λ g. g) known row)) rows)
      → Within (reset n facts) known
      → from n facts (numbered_from count (put (ends_stretch row) moves known row
      ++ walked (learnt (ends_stretch row) known row) (at + 1) rows)) ≡ true
  one_row (instr.Start exchange) known at rows later n count facts before is size goals within =
      exchange_row (stale_items known (items_of tables exchange)) known at rows
      (later (stale_items known (items_of tables exchange) ++ known)) n count facts before
      (λ facts within. stale_new known facts (items_of tables exchange) within) is size goals within
  one_row (instr.Finish exchange) known at rows later n count facts before is size goals within =
      let none : n + 0 ≡ n = omega arith in
      later known n count facts before is size
      (subst (λ k. GoalsMoved tables.code plan.code (at + 1) (counted known (at + 1) k rows)) none
      goals) within
  one_row (instr.Jump goal) known at rows later n count facts before is size goals within =
      end_row at rows (later []) n count before is size goals
  one_row (instr.Unless expr goal line) known at rows later n count facts before is size goals within =
      end_row at rows (later []) n count before is size goals
  one_row (instr.Trap kind line) known at rows later n count facts before is size goals within =
      end_row at rows (later []) n count before is size goals
  one_row instr.End known at rows later n count facts before is size goals within =
      end_row at rows (later []) n count before is size goals
  one_row row known at rows later n count facts before is size goals within =
      single_row row known at rows refl refl (later (learn tables known row)) n count facts before
      refl is size goals within

  -- in front of a row, whether it is a goal
  at_row : (b : Bool) (row : Instr) (known : List Item) (at : ℕ) (rows : List Instr)
      → is_goal tables.code at ≡ b
      → ((behind : List Item) → IsLater (at + 1) behind rows)
      → (n count : ℕ) (facts : List Item) (before : List (List Item))
      → plan.exchanges ≡ before ++ exchanges_in (front b known
      ++ (put (ends_stretch row) moves (known_at b known) row
      ++ walked (learnt (ends_stretch row) (known_at b known) row) (at + 1) rows))
      → length before ≡ count
      → ((is_goal tables.code at ≡ true → is_goal plan.code (n + length (front b known)) ≡ true)
      × GoalsMoved tables.code plan.code (at + 1)
      (counted (learnt (ends_stretch row) (known_at b known) row) (at + 1)
      ((n + length (front b known))
      + length (put (ends_stretch row) (λ g. g) (known_at b known) row)) rows))
      → Within (reset n facts) known
      → from n facts (numbered_from count (front b known
      ++ (put (ends_stretch row) moves (known_at b known) row
      ++ walked (learnt (ends_stretch row) (known_at b known) row) (at + 1) rows))) ≡ true
  at_row b row known at rows goal later n count facts before is size goals within =
      by b goal is goals
    where
      none : n + 0 ≡ n
      none = omega arith

      by : (b : Bool) → is_goal tables.code at ≡ b
          → plan.exchanges ≡ before ++ exchanges_in (front b known
          ++ (put (ends_stretch row) moves (known_at b known) row
          ++ walked (learnt (ends_stretch row) (known_at b known) row) (at + 1) rows))
          → ((is_goal tables.code at ≡ true → is_goal plan.code (n + length (front b known)) ≡ true)
          × GoalsMoved tables.code plan.code (at + 1)
          (counted (learnt (ends_stretch row) (known_at b known) row) (at + 1)
          ((n + length (front b known))
          + length (put (ends_stretch row) (λ g. g) (known_at b known) row)) rows))
          → from n facts (numbered_from count (front b known
          ++ (put (ends_stretch row) moves (known_at b known) row
          ++ walked (learnt (ends_stretch row) (known_at b known) row) (at + 1) rows))) ≡ true
      by true goal is goals =
          one_row row [] at rows later n count facts before is size
          (subst (λ k. GoalsMoved tables.code plan.code (at + 1)
          (counted (learnt (ends_stretch row) [] row) (at + 1)
          (k + length (put (ends_stretch row) (λ g. g) [] row)) rows)) none goals.1)
          (subst (λ l. Within l []) (sym (ap (λ b. if b then [] else facts)
          (sym (ap (is_goal plan.code) none) ∙ goals.0 goal))) (within_none []))
      by false goal is goals =
          one_row row known at rows later n count facts before is size
          (subst (λ k. GoalsMoved tables.code plan.code (at + 1)
          (counted (learnt (ends_stretch row) known row) (at + 1)
          (k + length (put (ends_stretch row) (λ g. g) known row)) rows)) none goals.1)
          within

  all_right : (rows : List Instr) (known : List Item) (at : ℕ) → IsLater at known rows
  all_right [] known at n count facts before is size goals within = refl
  all_right (row ∷ rows) known at n count facts before is size goals within =
      at_row (is_goal tables.code at) row known at rows refl
      (λ behind. all_right rows behind (at + 1)) n count facts before is size goals within

  pub no_repeats : HasNoRepeats (repeats_dropped tables)
  no_repeats =
      subst HasNoRepeats
      (sym (units_walked {F = List Item} tables [] (step tables) (learn tables) close refl
      (rewriting tables []) (all_rows tables [])))
      ((repeats_either_way plan).0
      (all_right tables.code [] 0 0 0 [] [] refl refl
      (all_moved {F = List Item} tables [] (step tables) (learn tables) close refl)
      (reset_within 0 [] [] (within_none []))))
