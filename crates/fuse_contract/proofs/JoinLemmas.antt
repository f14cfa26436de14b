-- Joined loops: as many members and jumps, and no more rows.
use Rattle.std.proofs.Common.{◌≡◌, refl, ◌∙◌, subst, arith, ℕ, ◌+◌, ◌≤◌, Bool, true, false}
use Rattle.std.proofs.Common.{List, [], ◌∷◌, ◌++◌, length, length-append}
use Rattle.std.specs.Prelude.{cond, count_by, map, sum_by, if◌then◌else◌, Option, Some, None}
use Rattle.std.specs.Option.{option_map}
use Rattle.std.specs.List.{AllByRecursion}
use Rattle.std.proofs.lemmas.List.{length-map}
use Rattle.std.proofs.lemmas.List.Sums.{sum_by-append, sum_by-cons}
use Rattle.temp_norm.specs.of_row_runs.Cut.{Stretch, as_list, moved_by}
use Rattle.temp_norm.proofs.of_row_runs.CutLemmas.{cut_rows}
use Rattle.temp_norm.specs.of_node_form.declared.arrays.Item.{Item}
use Rattle.temp_norm.specs.of_node_form.declared.members.Member.{Member}
use Rattle.temp_norm.specs.of_node_form.declared.instructions.Instr.{Instr}
use Rattle.temp_norm.specs.of_node_form.declared.tables.Tables.{Tables}
use Rattle.temp_norm.specs.of_code_parts.Counts.{code_size, count_of}
use Rattle.temp_norm.specs.of_code_parts.Stretch.{ends_stretch, is_goal}
use Rattle.temp_norm.specs.of_flat_passes.Rewritten.{has_goal, stretches_of}
use Rattle.temp_norm.specs.of_flat_passes.Grouped.{Grouped, Runs, Plain, ended_by, grouped}
use Rattle.temp_norm.specs.of_flat_passes.Grouped.{loop_members, members_run, rewritten_rows}
use Rattle.temp_norm.proofs.of_flat_passes.GroupedLemmas.{all_ended_lead, all_grouped_lead}
use Rattle.temp_norm.proofs.of_flat_passes.GroupedLemmas.{all_grouped_members, leads}
use Rattle.temp_norm.proofs.of_flat_passes.GroupedLemmas.{members_in_groups, numbered_goals, numbered_length}
use Rattle.temp_norm.proofs.of_flat_passes.StretchLemmas.{AsMuch, AtMost, as_much, at_most, count_append}
use Rattle.fuse_contract.specs.Fusing.{Loop, both, fused, joined, joins, known_behind, last_rows}
use Rattle.fuse_contract.specs.Fusing.{references_of, with_loop}

module _ (tables : Tables) where
  -- ---- what adds up over members is the same
  module _ (weight : Grouped → ℕ)
      (adds : (slot other : ℕ) (group more : List Member)
      → weight (Runs slot (group ++ more)) ≡ weight (Runs slot group) + weight (Runs other more))
    where
      with_weight : (known : List Item) (last : Option Loop) (loop : Loop)
          (rest : Loop → List Grouped) (n : ℕ)
          → ((one : Loop) → sum_by weight (rest one) ≡ weight (Runs one.slot one.group) + n)
          → sum_by weight (with_loop tables known last loop rest)
          ≡ sum_by weight (last_rows last) + weight (Runs loop.slot loop.group) + n
      with_weight known None loop rest n e = omega (arith, e loop)
      with_weight known (Some last) loop rest n e = by (joins tables known last loop)
        where
          by : (b : Bool)
              → sum_by weight (if b then rest (both tables last loop)
              else Runs last.slot last.group ∷ rest loop)
              ≡ sum_by weight (last_rows (Some last)) + weight (Runs loop.slot loop.group) + n
          by true =
              omega (
                arith,
                e (both tables last loop),
                adds last.slot loop.slot last.group loop.group,
                sum_by-cons weight (Runs last.slot last.group) [],
              )
          by false =
              omega (
                arith,
                e loop,
                sum_by-cons weight (Runs last.slot last.group) (rest loop),
                sum_by-cons weight (Runs last.slot last.group) [],
              )

      pub joined_weight : (known : List Item) (last : Option Loop) (rows : List Grouped)
          → sum_by weight (joined tables known last rows)
          ≡ sum_by weight (last_rows last) + sum_by weight rows
      joined_weight known last [] = omega arith
      joined_weight known last (Runs slot group ∷ rows) =
          with_weight known last (record { slot = slot; group = group })
          (λ loop. joined tables (references_of tables slot group ++ known) (Some loop) rows)
          (sum_by weight rows)
          (λ one. joined_weight (references_of tables slot group ++ known) (Some one) rows
          ∙ omega (arith, sum_by-cons weight (Runs one.slot one.group) []))
          ∙ omega (arith, sum_by-cons weight (Runs slot group) rows)
      joined_weight known last (Plain row ∷ rows) =
          sum_by-append weight (last_rows last)
          (Plain row ∷ joined tables (known_behind known row) None rows)
          ∙ omega (
            arith,
            sum_by-cons weight (Plain row) (joined tables (known_behind known row) None rows),
            joined_weight (known_behind known row) None rows,
            sum_by-cons weight (Plain row) rows,
          )

  -- ---- rows only go
  with_length : (known : List Item) (last : Option Loop) (loop : Loop)
      (rest : Loop → List Grouped) (n : ℕ)
      → ((one : Loop) → length (rest one) ≤ 1 + n)
      → length (with_loop tables known last loop rest) ≤ length (last_rows last) + 1 + n
  with_length known None loop rest n e = omega (arith, e loop)
  with_length known (Some last) loop rest n e = by (joins tables known last loop)
    where
      by : (b : Bool)
          → length (if b then rest (both tables last loop)
          else Runs last.slot last.group ∷ rest loop)
          ≤ length (last_rows (Some last)) + 1 + n
      by true = omega (arith, e (both tables last loop))
      by false = omega (arith, e loop)

  pub joined_length : (known : List Item) (last : Option Loop) (rows : List Grouped)
      → length (joined tables known last rows) ≤ length (last_rows last) + length rows
  joined_length known last [] = omega arith
  joined_length known last (Runs slot group ∷ rows) =
      omega (
        arith,
        with_length known last (record { slot = slot; group = group })
            (λ loop. joined tables (references_of tables slot group ++ known) (Some loop) rows)
            (length rows)
            (λ one. joined_length (references_of tables slot group ++ known) (Some one) rows),
      )
  joined_length known last (Plain row ∷ rows) =
      omega (
        arith,
        length-append (last_rows last)
            (Plain row ∷ joined tables (known_behind known row) None rows),
        joined_length (known_behind known row) None rows,
      )

  -- ---- all stretches
  abbrev rewrite : List Instr → List Grouped
  rewrite rows = joined tables [] None (map (grouped tables) rows)

  abbrev moved : ℕ → ℕ
  moved = moved_by rewrite ended_by (stretches_of tables.code)

  abbrev rows : List Grouped
  rows = rewritten_rows tables (joined tables [] None)

  abbrev old_members : List Instr → ℕ
  old_members old = sum_by (λ row. members_run (grouped tables row)) old

  add_up : (slot other : ℕ) (group more : List Member)
      → members_run (Runs slot (group ++ more))
      ≡ members_run (Runs slot group) + members_run (Runs other more)
  add_up slot other group more = length-append group more

  ended_members : (last : Option Instr)
      → sum_by members_run (as_list (option_map (ended_by moved) last))
      ≤ old_members (as_list last)
  ended_members None = omega arith
  ended_members (Some row) =
      omega (arith, sum_by-cons members_run (ended_by moved row) [])

  all_members : (stretches : List (Stretch Instr))
      → AllByRecursion (AtMost old_members (sum_by members_run)
      (sum_by-append (λ row. members_run (grouped tables row))) (sum_by-append members_run) refl
      rewrite ended_by moved) stretches
  all_members [] = tt
  all_members (stretch ∷ stretches) = (
    record {
      front =
          omega (
            arith,
            joined_weight members_run add_up [] None (map (grouped tables) stretch.front),
            all_grouped_members tables stretch.front,
          );
      last = ended_members stretch.last;
    },
    all_members stretches,
  )

  pub few_members : sum_by (λ group. length group) (fused tables).groups ≤ loop_members tables
  few_members =
      subst (λ old. sum_by (λ group. length group) (fused tables).groups ≤ old_members old)
      (cut_rows ends_stretch (is_goal tables.code) 0 tables.code)
      (omega (
        arith,
        members_in_groups rows,
        at_most old_members (sum_by members_run)
            (sum_by-append (λ row. members_run (grouped tables row))) (sum_by-append members_run)
            refl rewrite ended_by moved (stretches_of tables.code)
            (all_members (stretches_of tables.code)),
      ))

  ended_length : (last : Option Instr)
      → length (as_list (option_map (ended_by moved) last)) ≤ length (as_list last)
  ended_length None = omega arith
  ended_length (Some row) = omega arith

  all_lengths : (stretches : List (Stretch Instr))
      → AllByRecursion (AtMost (λ old. length old) (λ new. length new)
      (λ xs ys. length-append xs ys) (λ xs ys. length-append xs ys) refl
      rewrite ended_by moved) stretches
  all_lengths [] = tt
  all_lengths (stretch ∷ stretches) = (
    record {
      front =
          omega (
            arith,
            joined_length [] None (map (grouped tables) stretch.front),
            length-map stretch.front (grouped tables),
          );
      last = ended_length stretch.last;
    },
    all_lengths stretches,
  )

  pub few_rows : length (fused tables).code ≤ length tables.code
  few_rows =
      subst (λ old. length (fused tables).code ≤ length old)
      (cut_rows ends_stretch (is_goal tables.code) 0 tables.code)
      (omega (
        arith,
        numbered_length 0 rows,
        at_most (λ old. length old) (λ new. length new)
            (λ xs ys. length-append xs ys) (λ xs ys. length-append xs ys) refl
            rewrite ended_by moved (stretches_of tables.code)
            (all_lengths (stretches_of tables.code)),
      ))

  pub size_of_fused : loop_members tables ≤ sum_by (λ group. length group) tables.groups
      → code_size (fused tables) ≤ code_size tables
  size_of_fused once = omega (arith, once, few_rows, few_members)

  -- ---- jumps and tests
  none_add_up : (slot other : ℕ) (group more : List Member)
      → (let counted : Grouped → ℕ = (λ row. cond (leads row) 1 0) in
      counted (Runs slot (group ++ more)) ≡ counted (Runs slot group) + counted (Runs other more))
  none_add_up slot other group more = omega arith

  all_goals : (stretches : List (Stretch Instr))
      → AllByRecursion (AsMuch (count_by has_goal) (count_by leads) (count_append has_goal)
      (count_append leads) refl rewrite ended_by moved) stretches
  all_goals [] = tt
  all_goals (stretch ∷ stretches) = (
    record {
      front =
          joined_weight (λ row. cond (leads row) 1 0) none_add_up [] None
          (map (grouped tables) stretch.front)
          ∙ omega (arith, all_grouped_lead tables stretch.front);
      last = all_ended_lead moved stretch.last;
    },
    all_goals stretches,
  )

  pub same_goals : count_of has_goal (fused tables) ≡ count_of has_goal tables
  same_goals =
      subst (λ old. count_of has_goal (fused tables) ≡ count_by has_goal old)
      (cut_rows ends_stretch (is_goal tables.code) 0 tables.code)
      (numbered_goals 0 rows
      ∙ as_much (count_by has_goal) (count_by leads) (count_append has_goal) (count_append leads)
      refl rewrite ended_by moved refl (stretches_of tables.code)
      (all_goals (stretches_of tables.code)))
