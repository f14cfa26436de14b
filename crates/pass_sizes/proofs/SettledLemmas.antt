-- Checks that are left out, loops that are joined, and arrays that become cells.
use Rattle.std.proofs.Common.{◌≡◌, refl, ap, ◌∙◌, arith, ℕ, zero, suc, ◌+◌, ◌≤◌, Bool, true, false}
use Rattle.std.proofs.Common.{List, [], ◌∷◌, ◌++◌, length, map}
use Rattle.std.specs.Prelude.{cond, filter, flat_map, not, sum_by, Option, Some, None, slice_get}
use Rattle.std.proofs.lemmas.List.Sums.{sum_by-append}
use Rattle.node_form.specs.declared.words.ExprOp.{ExprOp}
use Rattle.node_form.specs.declared.words.ExprOp.TheVariants as word
use Rattle.node_form.specs.declared.members.Member.{Member}
use Rattle.node_form.specs.declared.members.Member.TheVariants as member
use Rattle.node_form.specs.declared.instructions.Instr.{Instr}
use Rattle.node_form.specs.declared.instructions.Instr.TheVariants as instr
use Rattle.node_form.specs.declared.tables.Tables.{Tables}
use Rattle.code_parts.specs.Counts.{count_of}
use Rattle.code_parts.specs.Uses.{as_list, exprs_of, members_of, rows_or_none, shifted_in}
use Rattle.comm_needs.specs.of_flat_passes.Rewritten.{with_moved_goal}
use Rattle.comm_needs.specs.of_flat_passes.Grouped.{Grouped, Runs, grouped, rewritten_rows}
use Rattle.fuse_contract.specs.of_bound_check.Checked.{checked, stays}
use Rattle.fuse_contract.specs.Fusing.{fused, joined}
use Rattle.fuse_contract.specs.Contracting.{cell_among, contracted, contracted_arrays, here_or_cell}
use Rattle.fuse_contract.specs.Contracting.{member_contracted, put_or_cell, word_contracted}
use Rattle.fuse_contract.proofs.JoinLemmas.{few_rows, joined_weight}
use Rattle.pass_sizes.specs.Sizes.{IsBlind, RunsOnce, all_run, expr_shifts, group_shifts}
use Rattle.pass_sizes.specs.Sizes.{loop_shifts, member_shifts, run_by}
use Rattle.pass_sizes.proofs.SumLemmas.{filter_sum, map_sum, passed_most, same_sum}
use Rattle.pass_sizes.proofs.FlatLemmas.{both_counts, code_proper, ended_counted, ended_proper}
use Rattle.pass_sizes.proofs.FlatLemmas.{grouped_count, grouped_same, improper, numbered_count}
use Rattle.pass_sizes.proofs.FlatLemmas.{once_again, rewritten_most, rewritten_same, run_again}
use Rattle.pass_sizes.proofs.FlatLemmas.{shifts_at}

-- ---- checks that are left out
module _ (tables : Tables) where
  checked_sum : (f : Instr → ℕ) →
      ((moved : ℕ → ℕ) (row : Instr) → f (with_moved_goal moved row) ≤ f row) →
      sum_by f (checked tables).code ≤ sum_by f tables.code
  checked_sum f last =
      passed_most f f (filter (stays tables)) with_moved_goal
      (λ rows straight. filter_sum f (stays tables) rows)
      (λ moved row ends. last moved row) tables.code

  pub checked_count : (test : Instr → Bool) → IsBlind test →
      count_of test (checked tables) ≤ count_of test tables
  checked_count test blind =
      checked_sum (λ row. cond (test row) 1 0)
      (λ moved row. omega (arith, ap {B = ℕ} (λ b. cond b 1 0) (blind.goals moved row)))

  checked_run : (weight : List Member → ℕ) → all_run weight (checked tables) ≤ all_run weight tables
  checked_run weight = checked_sum (λ row. run_by weight (grouped tables row)) last
    where
      last : (moved : ℕ → ℕ) (row : Instr) →
          run_by weight (grouped tables (with_moved_goal moved row))
          ≤ run_by weight (grouped tables row)
      last moved (instr.Jump goal) = omega arith
      last moved (instr.Unless expr goal line) = omega arith
      last moved row = omega arith

  pub checked_once : RunsOnce tables → RunsOnce (checked tables)
  checked_once once weight = omega (arith, checked_run weight, once weight)

  pub checked_shifts : loop_shifts (checked tables) ≤ loop_shifts tables
  checked_shifts = checked_run (group_shifts tables)

-- ---- loops that are joined
module _ (tables : Tables) where
  abbrev rewrite : List Grouped → List Grouped
  rewrite rows = joined tables [] None rows

  abbrev new_rows : List Grouped
  new_rows = rewritten_rows tables rewrite

  same_weight : (weight : Grouped → ℕ) →
      ((slot other : ℕ) (group more : List Member) →
      weight (Runs slot (group ++ more)) ≡ weight (Runs slot group) + weight (Runs other more)) →
      (rows : List Grouped) → sum_by weight (rewrite rows) ≡ sum_by weight rows
  same_weight weight adds rows = omega (arith, joined_weight tables weight adds [] None rows)

  pub fused_proper : sum_by improper new_rows ≡ 0
  fused_proper =
      omega (
        arith,
        rewritten_most tables rewrite improper improper
            (λ rows. omega (
              arith,
              same_weight improper (λ slot other group more. omega arith) rows,
            ))
            (ended_proper tables),
        code_proper tables,
      )

  pub fused_once : RunsOnce (fused tables)
  fused_once = once_again tables new_rows fused_proper

  pub fused_shifts : loop_shifts (fused tables) ≤ loop_shifts tables
  fused_shifts =
      omega (
        arith,
        run_again tables new_rows fused_proper (group_shifts tables),
        rewritten_most tables rewrite (run_by (group_shifts tables)) (run_by (group_shifts tables))
            (λ rows. omega (
              arith,
              same_weight (run_by (group_shifts tables))
                  (λ slot other group more.
                  sum_by-append (member_shifts tables) group more) rows,
            ))
            (λ moved row ends. omega arith),
      )

  -- tests that no loop passes
  pub fused_count : (test : Instr → Bool) → IsBlind test →
      ((slot group : ℕ) → test (instr.Loop slot group) ≡ false) →
      count_of test (fused tables) ≡ count_of test tables
  fused_count test blind none =
      numbered_count test blind 0 new_rows
      ∙ rewritten_same tables rewrite (grouped_count test) (grouped_count test)
      (same_weight (grouped_count test)
      (λ slot other group more. omega (arith, off slot, off other)))
      (λ moved row ends. ended_counted test blind tables moved row ends)
      ∙ same_sum (λ row. grouped_count test (grouped tables row)) (λ row. cond (test row) 1 0)
      (grouped_same test blind tables) tables.code
    where
      by : (b : Bool) → b ≡ false → cond {A = ℕ} b 1 0 ≡ 0
      by true e = cc
      by false e = refl

      off : (slot : ℕ) → cond {A = ℕ} (test (instr.Loop slot 0)) 1 0 ≡ 0
      off slot = by (test (instr.Loop slot 0)) (none slot 0)

  -- tests that all loops pass
  pub fused_fewer : (test : Instr → Bool) → IsBlind (λ row. not (test row)) →
      ((slot group : ℕ) → test (instr.Loop slot group) ≡ true) →
      count_of test (fused tables) ≤ count_of test tables
  fused_fewer test blind all =
      omega (
        arith,
        few_rows tables,
        both_counts test tables.code,
        both_counts test (fused tables).code,
        fused_count (λ row. not (test row)) blind (λ slot group. ap not (all slot group)),
      )

-- ---- arrays that become cells
module _ (cell_of : ℕ → Option ℕ) where
  same_word : (one : ExprOp) → shifted_in (word_contracted cell_of one) ≡ shifted_in one
  same_word (word.Here array) = by (cell_of array)
    where
      by : (cell : Option ℕ) → shifted_in (here_or_cell cell_of array cell) ≡ []
      by (Some cell) = refl
      by None = refl
  same_word one = refl

  same_words : (words : List ExprOp) →
      flat_map shifted_in (map (word_contracted cell_of) words) ≡ flat_map shifted_in words
  same_words [] = refl
  same_words (one ∷ words) =
      ap (λ l. l ++ flat_map shifted_in (map (word_contracted cell_of) words)) (same_word one)
      ∙ ap (λ l. shifted_in one ++ l) (same_words words)

  same_at : (exprs : List (List ExprOp)) (expr : ℕ) →
      shifts_at (map (map (word_contracted cell_of)) exprs) expr ≡ shifts_at exprs expr
  same_at [] expr = refl
  same_at (words ∷ exprs) zero = ap (λ l. length l) (same_words words)
  same_at (words ∷ exprs) (suc expr) = same_at exprs expr

  same_exprs : (one : Member) → exprs_of (member_contracted cell_of one) ≡ exprs_of one
  same_exprs (member.Put array expr mask line) = by (cell_of array)
    where
      by : (cell : Option ℕ) →
          exprs_of (put_or_cell cell_of array expr mask line cell) ≡ expr ∷ as_list mask
      by (Some cell) = refl
      by None = refl
  same_exprs one = refl

  same_members : (groups : List (List Member)) (group : ℕ) →
      rows_or_none (slice_get (map (map (member_contracted cell_of)) groups) group)
      ≡ map (member_contracted cell_of) (rows_or_none (slice_get groups group))
  same_members [] group = refl
  same_members (one ∷ groups) zero = refl
  same_members (one ∷ groups) (suc group) = same_members groups group

module _ (tables : Tables) where
  abbrev cell_of : ℕ → Option ℕ
  cell_of = cell_among tables.cells (contracted_arrays tables)

  abbrev cells : Tables
  cells = contracted tables

  group_same : (group : List Member) →
      group_shifts cells (map (member_contracted cell_of) group) ≡ group_shifts tables group
  group_same group =
      map_sum (member_shifts cells) (member_contracted cell_of) group
      ∙ same_sum (λ one. member_shifts cells (member_contracted cell_of one))
      (member_shifts tables)
      (λ one. ap (sum_by (expr_shifts cells)) (same_exprs cell_of one)
      ∙ same_sum (expr_shifts cells) (expr_shifts tables) (same_at cell_of tables.exprs)
      (exprs_of one)) group

  row_same : (row : Instr) →
      run_by (group_shifts cells) (grouped cells row)
      ≡ run_by (group_shifts tables) (grouped tables row)
  row_same (instr.Loop slot group) =
      ap (group_shifts cells) (same_members cell_of tables.groups group)
      ∙ group_same (members_of tables group)
  row_same row = refl

  pub contracted_shifts : loop_shifts (contracted tables) ≡ loop_shifts tables
  contracted_shifts =
      same_sum (λ row. run_by (group_shifts cells) (grouped cells row))
      (λ row. run_by (group_shifts tables) (grouped tables row)) row_same tables.code
