-- Passes over flat programs: what loops run, and how many rows there are.
use Rattle.std.proofs.Common.{◌≡◌, refl, sym, ap, ap₂, ◌∙◌, arith, ℕ, ◌+◌, ◌≤◌, Bool, true, false}
use Rattle.std.proofs.Common.{List, [], ◌∷◌, ◌++◌, length, map, length-append, append_assoc}
use Rattle.std.specs.Prelude.{cond, count_by, flat_map, not, sum_by, Some, slice_get}
use Rattle.std.proofs.lemmas.List.Sums.{sum_by-cons}
use Rattle.node_form.specs.declared.words.ExprOp.{ExprOp}
use Rattle.node_form.specs.declared.members.Member.{Member}
use Rattle.node_form.specs.declared.instructions.Instr.{Instr}
use Rattle.node_form.specs.declared.instructions.Instr.TheVariants as instr
use Rattle.node_form.specs.declared.tables.Tables.{Tables}
use Rattle.code_parts.specs.Counts.{is_loop}
use Rattle.code_parts.specs.Stretch.{ends_stretch}
use Rattle.code_parts.specs.Uses.{exprs_of, members_of, rows_or_none, shifted_in}
use Rattle.comm_needs.specs.of_flat_passes.Grouped.{Grouped, Runs, Plain, all_numbered, ended_by, group_of}
use Rattle.comm_needs.specs.of_flat_passes.Grouped.{grouped}
use Rattle.comm_needs.specs.of_flat_passes.Grouped.{groups_of, rewritten_rows, with_grouped}
use Rattle.pass_sizes.specs.Sizes.{IsBlind, RunsOnce, all_run, expr_shifts, group_shifts}
use Rattle.pass_sizes.specs.Sizes.{member_shifts, run_by}
use Rattle.pass_sizes.proofs.SumLemmas.{flat_sum, map_sum, passed_most, passed_same, same_sum}
use Rattle.pass_sizes.proofs.SumLemmas.{zero_sum}

-- ---- rows with their groups inline are read again
-- a loop by its number stands for itself alone
abbrev pub improper : Grouped → ℕ
improper (Runs slot group) = 0
improper (Plain row) = cond (is_loop row) 1 0

stands_at : {X : Type 0} (before : List X) (x : X) (after : List X) →
    slice_get (before ++ x ∷ after) (length before) ≡ Some x
stands_at [] x after = refl
stands_at (y ∷ before) x after = stands_at before x after

as_plain : (tables : Tables) (row : Instr) → cond {A = ℕ} (is_loop row) 1 0 ≡ 0 →
    grouped tables row ≡ Plain row
as_plain tables (instr.Loop slot group) e = cc
as_plain tables row e = refl

module _ (tables : Tables) (rows : List Grouped) where
  read_from : (before : List (List Member)) (some : List Grouped) →
      groups_of rows ≡ before ++ groups_of some → sum_by improper some ≡ 0 →
      map (grouped (with_grouped tables rows)) (all_numbered (length before) some) ≡ some
  read_from before [] e proper = refl
  read_from before (Runs slot group ∷ some) e proper =
      let here : members_of (with_grouped tables rows) (length before) ≡ group =
      ap (λ l. rows_or_none (slice_get l (length before))) e
      ∙ ap rows_or_none (stands_at before group (groups_of some)) in
      let next : length (before ++ group ∷ []) ≡ length before + 1 =
      omega (arith, length-append before (group ∷ [])) in
      let more : sum_by improper some ≡ 0 =
      omega (arith, proper, sum_by-cons improper (Runs slot group) some) in
      let rest = read_from (before ++ group ∷ []) some
      (e ∙ sym (append_assoc before (group ∷ []) (groups_of some))) more in
      ap₂ (λ g l. Runs slot g ∷ l) here
      (ap (λ n. map (grouped (with_grouped tables rows)) (all_numbered n some)) (sym next) ∙ rest)
  read_from before (Plain row ∷ some) e proper =
      let next : length before + 0 ≡ length before = omega arith in
      let both = sum_by-cons improper (Plain row) some in
      let more : sum_by improper some ≡ 0 = omega (arith, proper, both) in
      let own : cond {A = ℕ} (is_loop row) 1 0 ≡ 0 = omega (arith, proper, both) in
      ap₂ (λ g l. g ∷ l) (as_plain (with_grouped tables rows) row own)
      (ap (λ n. map (grouped (with_grouped tables rows)) (all_numbered n some)) next
      ∙ read_from before some e more)

  module _ (proper : sum_by improper rows ≡ 0) where
    pub run_again : (weight : List Member → ℕ) →
        all_run weight (with_grouped tables rows) ≡ sum_by (run_by weight) rows
    run_again weight =
        sym (map_sum (run_by weight) (grouped (with_grouped tables rows)) (all_numbered 0 rows))
        ∙ ap (sum_by (run_by weight)) (read_from [] rows refl proper)

    pub once_again : RunsOnce (with_grouped tables rows)
    once_again weight =
        omega (
          arith,
          run_again weight,
          flat_sum weight group_of rows,
          same_sum (λ row. sum_by weight (group_of row)) (run_by weight) each rows,
        )
      where
        each : (row : Grouped) → sum_by weight (group_of row) ≡ run_by weight row
        each (Runs slot group) = omega arith
        each (Plain row) = refl

-- ---- rows that pass a test
abbrev pub grouped_count : (Instr → Bool) → Grouped → ℕ
grouped_count test (Runs slot group) = cond (test (instr.Loop slot 0)) 1 0
grouped_count test (Plain row) = cond (test row) 1 0

module _ (test : Instr → Bool) (blind : IsBlind test) where
  pub numbered_count : (n : ℕ) (rows : List Grouped) →
      count_by test (all_numbered n rows) ≡ sum_by (grouped_count test) rows
  numbered_count n [] = refl
  numbered_count n (Runs slot group ∷ rows) =
      omega (
        arith,
        sum_by-cons (λ row. cond (test row) 1 0) (instr.Loop slot n) (all_numbered (n + 1) rows),
        sum_by-cons (grouped_count test) (Runs slot group) rows,
        numbered_count (n + 1) rows,
        ap {B = ℕ} (λ b. cond b 1 0) (blind.loops slot n 0),
      )
  numbered_count n (Plain row ∷ rows) =
      omega (
        arith,
        sum_by-cons (λ row. cond (test row) 1 0) row (all_numbered (n + 0) rows),
        sum_by-cons (grouped_count test) (Plain row) rows,
        numbered_count (n + 0) rows,
      )

  pub grouped_same : (tables : Tables) (row : Instr) →
      grouped_count test (grouped tables row) ≡ cond (test row) 1 0
  grouped_same tables (instr.Loop slot group) =
      ap {B = ℕ} (λ b. cond b 1 0) (blind.loops slot 0 group)
  grouped_same tables row = refl

-- ---- a pass over rows with their groups inline
module _ (tables : Tables) (rewrite : List Grouped → List Grouped) (f g : Grouped → ℕ) where
  pub rewritten_most : ((rows : List Grouped) → sum_by f (rewrite rows) ≤ sum_by g rows) →
      ((moved : ℕ → ℕ) (row : Instr) → ends_stretch row ≡ true →
      f (ended_by moved row) ≤ g (grouped tables row)) →
      sum_by f (rewritten_rows tables rewrite)
      ≤ sum_by (λ row. g (grouped tables row)) tables.code
  rewritten_most few last =
      passed_most f (λ row. g (grouped tables row))
      (λ rows. rewrite (map (grouped tables) rows)) ended_by
      (λ rows straight. omega (
        arith,
        few (map (grouped tables) rows),
        map_sum g (grouped tables) rows,
      ))
      last tables.code

  pub rewritten_same : ((rows : List Grouped) → sum_by f (rewrite rows) ≡ sum_by g rows) →
      ((moved : ℕ → ℕ) (row : Instr) → ends_stretch row ≡ true →
      f (ended_by moved row) ≡ g (grouped tables row)) →
      sum_by f (rewritten_rows tables rewrite)
      ≡ sum_by (λ row. g (grouped tables row)) tables.code
  rewritten_same few last =
      passed_same f (λ row. g (grouped tables row))
      (λ rows. rewrite (map (grouped tables) rows)) ended_by
      (λ rows straight. few (map (grouped tables) rows) ∙ map_sum g (grouped tables) rows)
      last tables.code

-- rows that end stretches
pub ended_proper : (tables : Tables) (moved : ℕ → ℕ) (row : Instr) → ends_stretch row ≡ true →
    improper (ended_by moved row) ≤ improper (grouped tables row)
ended_proper tables moved (instr.Loop slot group) e = cc
ended_proper tables moved (instr.Jump goal) e = omega arith
ended_proper tables moved (instr.Unless expr goal line) e = omega arith
ended_proper tables moved row e = omega arith

pub code_proper : (tables : Tables) →
    sum_by (λ row. improper (grouped tables row)) tables.code ≡ 0
code_proper tables =
    same_sum (λ row. improper (grouped tables row)) (λ row. 0) each tables.code
    ∙ zero_sum tables.code
  where
    each : (row : Instr) → improper (grouped tables row) ≡ 0
    each (instr.Loop slot group) = refl
    each row = refl

pub ended_counted : (test : Instr → Bool) → IsBlind test → (tables : Tables) (moved : ℕ → ℕ)
    (row : Instr) → ends_stretch row ≡ true →
    grouped_count test (ended_by moved row) ≡ grouped_count test (grouped tables row)
ended_counted test blind tables moved (instr.Loop slot group) e = cc
ended_counted test blind tables moved (instr.Jump goal) e =
    ap {B = ℕ} (λ b. cond b 1 0) (blind.goals moved (instr.Jump goal))
ended_counted test blind tables moved (instr.Unless expr goal line) e =
    ap {B = ℕ} (λ b. cond b 1 0) (blind.goals moved (instr.Unless expr goal line))
ended_counted test blind tables moved row e = refl

-- ---- words that are read with a shift
abbrev pub shifts_at : List (List ExprOp) → ℕ → ℕ
shifts_at exprs expr = length (flat_map shifted_in (rows_or_none (slice_get exprs expr)))

-- the same expressions, in groups of any tables
pub same_groups : (one other : Tables) →
    ((expr : ℕ) → expr_shifts one expr ≡ expr_shifts other expr) →
    (group : List Member) → group_shifts one group ≡ group_shifts other group
same_groups one other each group =
    same_sum (member_shifts one) (member_shifts other)
    (λ m. same_sum (expr_shifts one) (expr_shifts other) each (exprs_of m)) group

-- ---- all rows that aren't such ones
pub both_counts : (test : Instr → Bool) (rows : List Instr) →
    count_by test rows + count_by (λ row. not (test row)) rows ≡ length rows
both_counts test [] = refl
both_counts test (row ∷ rows) =
    omega (
      arith,
      both_counts test rows,
      by (test row),
      sum_by-cons (λ row. cond (test row) 1 0) row rows,
      sum_by-cons (λ row. cond (not (test row)) 1 0) row rows,
    )
  where
    by : (b : Bool) → cond b 1 0 + cond (not b) 1 0 ≡ 1
    by true = refl
    by false = refl
