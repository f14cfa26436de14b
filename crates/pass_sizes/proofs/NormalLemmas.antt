-- Loops that go through a temporary.
use Rattle.std.proofs.Common.{◌≡◌, refl, ap, ◌∙◌, arith, ℕ, zero, suc, ◌+◌, ◌*◌, ◌≤◌, Bool, true}
use Rattle.std.proofs.Common.{false}
use Rattle.std.proofs.Common.{List, [], ◌∷◌, ◌++◌, length, length-append}
use Rattle.std.specs.List.{list_any}
use Rattle.row_runs.specs.Cut.{as_list as found_list}
use Rattle.std.specs.Prelude.{cond, count_by, flat_map, fold, sum_by, Option, Some, None, slice_get}
use Rattle.std.specs.Prelude.{if◌then◌else◌}
use Rattle.std.proofs.lemmas.List.Sums.{sum_by-cons, sum_by-le-sum_by}
use Rattle.node_form.specs.declared.words.ExprOp.{ExprOp}
use Rattle.node_form.specs.declared.arrays.ArrayRow.{ArrayRow}
use Rattle.node_form.specs.declared.members.Member.{Member}
use Rattle.node_form.specs.declared.members.Member.TheVariants as member
use Rattle.node_form.specs.declared.instructions.Instr.{Instr}
use Rattle.node_form.specs.declared.instructions.Instr.TheVariants as instr
use Rattle.node_form.specs.declared.tables.Tables.{Tables}
use Rattle.code_parts.specs.Counts.{count_of, is_loop}
use Rattle.code_parts.specs.Uses.{as_list, members_of}
use Rattle.comm_needs.specs.of_flat_passes.Grouped.{Grouped, Runs, Plain, grouped, rewritten_rows}
use Rattle.fuse_contract.specs.of_temp_norm.Normalised.{array_through, is_like, rows_through, temporary_like}
use Rattle.fuse_contract.specs.of_temp_norm.Normalised.{with_one_like}
use Rattle.fuse_contract.specs.of_temp_norm.Normalised.{loop_through, loops_on_itself, loops_on_themselves}
use Rattle.fuse_contract.specs.of_temp_norm.Normalised.{normalised}
use Rattle.fuse_contract.specs.of_temp_norm.Normalised.{place_among, put_alone, put_through, read_each, reads_itself}
use Rattle.fuse_contract.specs.of_temp_norm.Normalised.{row_through, temporaries, with_temporaries}
use Rattle.pass_sizes.specs.Sizes.{IsBlind, RunsOnce, expr_shifts, group_shifts}
use Rattle.pass_sizes.specs.Sizes.{loop_shifts, run_by}
use Rattle.pass_sizes.proofs.SumLemmas.{flat_sum}
use Rattle.pass_sizes.proofs.FlatLemmas.{code_proper, ended_counted, ended_proper, grouped_count}
use Rattle.pass_sizes.proofs.FlatLemmas.{grouped_same, improper, numbered_count, once_again}
use Rattle.pass_sizes.proofs.FlatLemmas.{rewritten_most, run_again, same_groups, shifts_at}

-- ---- expressions that read the temporaries have no shift
added : (exprs more : List (List ExprOp)) → ((k : ℕ) → shifts_at more k ≡ 0) → (expr : ℕ) →
    shifts_at (exprs ++ more) expr ≡ shifts_at exprs expr
added [] more none expr = none expr
added (one ∷ exprs) more none zero = refl
added (one ∷ exprs) more none (suc expr) = added exprs more none expr

read_none : (first : ℕ) (rows : List ArrayRow) (k : ℕ) → shifts_at (read_each first rows) k ≡ 0
read_none first [] k = refl
read_none first (row ∷ rows) zero = refl
read_none first (row ∷ rows) (suc k) = read_none (first + 1) rows k

past_none : (exprs : List (List ExprOp)) (k : ℕ) → length exprs ≤ k → shifts_at exprs k ≡ 0
past_none [] k past = refl
past_none (one ∷ exprs) zero past = absurd (omega arith)
past_none (one ∷ exprs) (suc k) past = past_none exprs k (omega arith)

-- a list that is flat mapped weighs no more where each of its elements doesn't
flat_most : {X Y : Type 0} (f : Y → ℕ) (g : X → ℕ) (h : X → List Y) →
    ((x : X) → sum_by f (h x) ≤ g x) → (xs : List X) → sum_by f (flat_map h xs) ≤ sum_by g xs
flat_most f g h each xs =
    omega (arith, flat_sum f h xs, sum_by-le-sum_by (λ x. sum_by f (h x)) g xs each)

module _ (tables : Tables) where
  abbrev extra : List ArrayRow
  extra = temporaries tables

  abbrev rewrite : List Grouped → List Grouped
  rewrite rows = flat_map (row_through tables extra) rows

  abbrev new_rows : List Grouped
  new_rows = rewritten_rows tables rewrite

  -- ---- proper rows
  through_proper : (temporary read slot : ℕ) (group : List Member) →
      sum_by improper (put_through temporary read slot group) ≤ 0
  through_proper temporary read slot (member.Put array expr mask line ∷ []) = omega arith
  through_proper temporary read slot group = omega arith

  loop_proper : (slot : ℕ) (group : List Member) (arrays : List ℕ) →
      sum_by improper (loop_through tables extra slot group arrays) ≤ 0
  loop_proper slot group [] = omega arith
  loop_proper slot group (array ∷ arrays) =
      let place = place_among extra (slice_get tables.arrays array) in
      through_proper (length tables.arrays + place) (length tables.exprs + place) slot group

  row_proper : (row : Grouped) → sum_by improper (row_through tables extra row) ≤ improper row
  row_proper (Runs slot group) = by (reads_itself tables group)
    where
      by : (b : Bool) →
          sum_by improper (loop_through tables extra slot group (if b then put_alone group else []))
          ≤ 0
      by true = loop_proper slot group (put_alone group)
      by false = omega arith
  row_proper (Plain row) = omega arith

  pub new_proper : sum_by improper new_rows ≡ 0
  new_proper =
      omega (
        arith,
        rewritten_most tables rewrite improper improper
            (flat_most improper improper (row_through tables extra) row_proper)
            (ended_proper tables),
        code_proper tables,
      )

  pub normal_once : RunsOnce (normalised tables)
  normal_once = once_again (with_temporaries tables extra) new_rows new_proper

  -- ---- shifts
  abbrev new : Tables
  new = normalised tables

  same_expr : (expr : ℕ) → expr_shifts new expr ≡ expr_shifts tables expr
  same_expr expr =
      added tables.exprs (read_each (length tables.arrays) extra)
      (read_none (length tables.arrays) extra) expr

  same_group : (group : List Member) → group_shifts new group ≡ group_shifts tables group
  same_group = same_groups new tables same_expr

  read_shifts : (place : ℕ) → expr_shifts new (length tables.exprs + place) ≡ 0
  read_shifts place =
      same_expr (length tables.exprs + place)
      ∙ past_none tables.exprs (length tables.exprs + place) (omega arith)

  abbrev masked : Option ℕ → ℕ
  masked mask = sum_by (expr_shifts new) (as_list mask)

  through_shifts : (temporary place slot : ℕ) (group : List Member) →
      sum_by (run_by (group_shifts new))
      (put_through temporary (length tables.exprs + place) slot group)
      ≤ 2 * group_shifts new group
  through_shifts temporary place slot (member.Put array expr mask line ∷ []) =
      omega (
        arith,
        read_shifts place,
        sum_by-cons (expr_shifts new) expr (as_list mask),
        sum_by-cons (expr_shifts new) (length tables.exprs + place) (as_list mask),
      )
  through_shifts temporary place slot group = omega arith

  loop_adds : (slot : ℕ) (group : List Member) (arrays : List ℕ) →
      sum_by (run_by (group_shifts new)) (loop_through tables extra slot group arrays)
      ≤ 2 * group_shifts new group
  loop_adds slot group [] = omega arith
  loop_adds slot group (array ∷ arrays) =
      let place = place_among extra (slice_get tables.arrays array) in
      through_shifts (length tables.arrays + place) place slot group

  abbrev twice : Grouped → ℕ
  twice row = 2 * run_by (group_shifts tables) row

  row_adds : (row : Grouped) →
      sum_by (run_by (group_shifts new)) (row_through tables extra row) ≤ twice row
  row_adds (Runs slot group) = by (reads_itself tables group)
    where
      by : (b : Bool) →
          sum_by (run_by (group_shifts new))
          (loop_through tables extra slot group (if b then put_alone group else []))
          ≤ twice (Runs slot group)
      by true = omega (arith, loop_adds slot group (put_alone group), same_group group)
      by false = omega (arith, same_group group)
  row_adds (Plain row) = omega arith

  twice_sum : (rows : List Instr) →
      sum_by (λ row. twice (grouped tables row)) rows
      ≡ 2 * sum_by (λ row. run_by (group_shifts tables) (grouped tables row)) rows
  twice_sum [] = refl
  twice_sum (row ∷ rows) =
      omega (
        arith,
        twice_sum rows,
        sum_by-cons (λ row. twice (grouped tables row)) row rows,
        sum_by-cons (λ row. run_by (group_shifts tables) (grouped tables row)) row rows,
      )

  pub normal_shifts : loop_shifts new ≤ 2 * loop_shifts tables
  normal_shifts =
      omega (
        arith,
        run_again (with_temporaries tables extra) new_rows new_proper (group_shifts new),
        rewritten_most tables rewrite (run_by (group_shifts new)) twice
            (flat_most (run_by (group_shifts new)) twice (row_through tables extra) row_adds)
            (λ moved row ends. omega arith),
        twice_sum tables.code,
      )

  -- ---- counts: those of a `room` and of a loop more for each loop that is split
  module _ (test : Instr → Bool) (blind : IsBlind test) (room loop : ℕ)
      (rooms : (array slot : ℕ) → cond {A = ℕ} (test (instr.Room array slot)) 1 0 ≤ room)
      (loops : (slot : ℕ) → cond {A = ℕ} (test (instr.Loop slot 0)) 1 0 ≤ loop) where
    through_count : (temporary read slot : ℕ) (group : List Member) →
        sum_by (grouped_count test) (put_through temporary read slot group)
        ≤ grouped_count test (Runs slot group) + (room + loop)
    through_count temporary read slot (member.Put array expr mask line ∷ []) =
        omega (arith, rooms temporary slot, loops slot)
    through_count temporary read slot group = omega arith

    loop_count : (slot : ℕ) (group : List Member) (arrays : List ℕ) →
        sum_by (grouped_count test) (loop_through tables extra slot group arrays)
        ≤ grouped_count test (Runs slot group) + (room + loop)
    loop_count slot group [] = omega arith
    loop_count slot group (array ∷ arrays) =
        let place = place_among extra (slice_get tables.arrays array) in
        through_count (length tables.arrays + place) (length tables.exprs + place) slot group

    abbrev allowed : Grouped → ℕ
    allowed row = grouped_count test row + cond (loops_on_itself tables row) (room + loop) 0

    row_count : (row : Grouped) →
        sum_by (grouped_count test) (row_through tables extra row) ≤ allowed row
    row_count (Runs slot group) = by (reads_itself tables group)
      where
        by : (b : Bool) →
            sum_by (grouped_count test)
            (loop_through tables extra slot group (if b then put_alone group else []))
            ≤ grouped_count test (Runs slot group) + cond b (room + loop) 0
        by true = loop_count slot group (put_alone group)
        by false = omega arith
    row_count (Plain row) = omega arith

    abbrev splits : Instr → Bool
    splits row = loops_on_itself tables (grouped tables row)

    allowed_sum : (rows : List Instr) →
        sum_by (λ row. allowed (grouped tables row)) rows
        ≡ count_by test rows + (room + loop) * count_by splits rows
    allowed_sum [] = omega arith
    allowed_sum (row ∷ rows) =
        let more : (room + loop) * count_by splits (row ∷ rows)
        ≡ (room + loop) * cond (splits row) 1 0 + (room + loop) * count_by splits rows =
        ap (λ n. (room + loop) * n) (sum_by-cons (λ row. cond (splits row) 1 0) row rows)
        ∙ spread (cond (splits row) 1 0) (count_by splits rows) in
        omega (
          arith,
          allowed_sum rows,
          grouped_same test blind tables row,
          by (splits row),
          more,
          sum_by-cons (λ row. allowed (grouped tables row)) row rows,
          sum_by-cons (λ row. cond (test row) 1 0) row rows,
        )
      where
        spread : (a b : ℕ) → (room + loop) * (a + b) ≡ (room + loop) * a + (room + loop) * b
        spread a b = omega arith

        by : (b : Bool) → cond b (room + loop) 0 ≡ (room + loop) * cond b 1 0
        by true = omega arith
        by false = omega arith

    pub normal_count :
        count_of test new ≤ count_of test tables + (room + loop) * loops_on_themselves tables
    normal_count =
        omega (
          arith,
          numbered_count test blind 0 new_rows,
          rewritten_most tables rewrite (grouped_count test) allowed
              (flat_most (grouped_count test) allowed (row_through tables extra) row_count)
              (λ moved row ends. omega (arith, ended_counted test blind tables moved row ends)),
          allowed_sum tables.code,
        )

-- ---- temporaries: at most one for each loop that is split
one_more : (rows : List ArrayRow) (row : ArrayRow) →
    length (with_one_like rows row) ≤ length rows + 1
one_more rows row = by (list_any (is_like row) rows)
  where
    by : (b : Bool) → length (cond b rows (rows ++ temporary_like row ∷ [])) ≤ length rows + 1
    by true = omega arith
    by false = omega (arith, length-append rows (temporary_like row ∷ []))

few_kinds : (rows more : List ArrayRow) →
    length (fold with_one_like rows more) ≤ length rows + length more
few_kinds rows [] = omega arith
few_kinds rows (row ∷ more) =
    omega (arith, few_kinds (with_one_like rows row) more, one_more rows row)

module _ (tables : Tables) where
  one_kind : (found : Option ArrayRow) → length (found_list found) ≤ 1
  one_kind None = omega arith
  one_kind (Some row) = omega arith

  kinds_of : (arrays : List ℕ) →
      length (flat_map (λ array. found_list (slice_get tables.arrays array)) arrays) ≤ length arrays
  kinds_of [] = omega arith
  kinds_of (array ∷ arrays) =
      omega (
        arith,
        length-append (found_list (slice_get tables.arrays array))
            (flat_map (λ array. found_list (slice_get tables.arrays array)) arrays),
        one_kind (slice_get tables.arrays array),
        kinds_of arrays,
      )

  one_array : (group : List Member) → length (put_alone group) ≤ 1
  one_array (member.Put array expr mask line ∷ []) = omega arith
  one_array group = omega arith

  one_through : (row : Grouped) →
      length (array_through tables row) ≤ cond (loops_on_itself tables row) 1 0
  one_through (Runs slot group) = by (reads_itself tables group)
    where
      by : (b : Bool) → length (if b then put_alone group else []) ≤ cond b 1 0
      by true = one_array group
      by false = omega arith
  one_through (Plain row) = omega arith

  all_through : (rows : List Instr) →
      length (flat_map (rows_through tables) rows)
      ≤ count_by (λ row. loops_on_itself tables (grouped tables row)) rows
  all_through [] = omega arith
  all_through (row ∷ rows) =
      omega (
        arith,
        length-append (rows_through tables row) (flat_map (rows_through tables) rows),
        kinds_of (array_through tables (grouped tables row)),
        one_through (grouped tables row),
        all_through rows,
        sum_by-cons (λ row. cond (loops_on_itself tables (grouped tables row)) 1 0) row rows,
      )

  pub few_temporaries : length (temporaries tables) ≤ loops_on_themselves tables
  few_temporaries =
      omega (
        arith,
        few_kinds [] (flat_map (rows_through tables) tables.code),
        all_through tables.code,
      )

  -- and each is a loop
  pub splits_are_loops : loops_on_themselves tables ≤ count_of is_loop tables
  splits_are_loops =
      sum_by-le-sum_by (λ row. cond (loops_on_itself tables (grouped tables row)) 1 0)
      (λ row. cond (is_loop row) 1 0) tables.code each
    where
      one_most : (b : Bool) → cond {A = ℕ} b 1 0 ≤ 1
      one_most true = omega arith
      one_most false = omega arith

      each : (row : Instr) →
          cond {A = ℕ} (loops_on_itself tables (grouped tables row)) 1 0 ≤ cond (is_loop row) 1 0
      each (instr.Loop slot group) = one_most (reads_itself tables (members_of tables group))
      each row = omega arith
