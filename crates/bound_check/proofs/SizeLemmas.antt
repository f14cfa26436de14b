-- The code gets no longer, and its jumps and tests stay.
use Rattle.std.proofs.Common.{◌≡◌, refl, ◌∙◌, subst, arith, ℕ, ◌≤◌, Bool, true, false}
use Rattle.std.proofs.Common.{List, [], ◌∷◌, length, length-append}
use Rattle.std.specs.Prelude.{cond, filter, count_by, Option, Some, None}
use Rattle.std.specs.Option.{option_map}
use Rattle.std.specs.List.{AllByRecursion}
use Rattle.flat_passes.specs.of_row_runs.Cut.{Stretch, as_list, moved_by}
use Rattle.flat_passes.proofs.of_row_runs.CutLemmas.{cut_rows}
use Rattle.flat_passes.specs.of_node_form.declared.instructions.Instr.{Instr}
use Rattle.flat_passes.specs.of_node_form.declared.tables.Tables.{Tables}
use Rattle.flat_passes.specs.of_code_parts.Counts.{code_size, count_of}
use Rattle.flat_passes.specs.of_code_parts.Stretch.{ends_stretch, is_goal}
use Rattle.flat_passes.specs.Rewritten.{has_goal, stretches_of, with_moved_goal}
use Rattle.flat_passes.proofs.StretchLemmas.{AsMuch, AtMost, IsCut, all_cut, as_much, at_most}
use Rattle.flat_passes.proofs.StretchLemmas.{count_append, same_goals, straight_count}
use Rattle.bound_check.specs.Checked.{checked, stays}

module _ (tables : Tables) where
  abbrev moved : ℕ → ℕ
  moved = moved_by (filter (stays tables)) with_moved_goal (stretches_of tables.code)

  -- ---- length
  filtered_length : (rows : List Instr) → length (filter (stays tables) rows) ≤ length rows
  filtered_length [] = omega arith
  filtered_length (row ∷ rows) = by (stays tables row) (filtered_length rows)
    where
      by : (b : Bool) → length (filter (stays tables) rows) ≤ length rows
          → length (cond b (row ∷ filter (stays tables) rows) (filter (stays tables) rows))
          ≤ length (row ∷ rows)
      by true less = omega (arith, less)
      by false less = omega (arith, less)

  one_length : (last : Option Instr)
      → length (as_list (option_map (with_moved_goal moved) last)) ≤ length (as_list last)
  one_length None = omega arith
  one_length (Some row) = omega arith

  all_shorter : (stretches : List (Stretch Instr))
      → AllByRecursion (AtMost (λ rows. length rows) (λ rows. length rows)
      (λ xs ys. length-append xs ys) (λ xs ys. length-append xs ys) refl
      (filter (stays tables)) with_moved_goal moved) stretches
  all_shorter [] = tt
  all_shorter (stretch ∷ stretches) = (
    record { front = filtered_length stretch.front; last = one_length stretch.last },
    all_shorter stretches,
  )

  pub no_longer : length (checked tables).code ≤ length tables.code
  no_longer =
      subst (λ rows. length (checked tables).code ≤ length rows)
      (cut_rows ends_stretch (is_goal tables.code) 0 tables.code)
      (at_most (λ rows. length rows) (λ rows. length rows)
      (λ xs ys. length-append xs ys) (λ xs ys. length-append xs ys) refl
      (filter (stays tables)) with_moved_goal moved (stretches_of tables.code)
      (all_shorter (stretches_of tables.code)))

  pub no_larger : code_size (checked tables) ≤ code_size tables
  no_larger = omega (arith, no_longer)

  -- ---- jumps and tests
  filtered_straight : (rows : List Instr) → AllByRecursion (λ row. ends_stretch row ≡ false) rows
      → AllByRecursion (λ row. ends_stretch row ≡ false) (filter (stays tables) rows)
  filtered_straight [] all = tt
  filtered_straight (row ∷ rows) all = by (stays tables row) (filtered_straight rows all.1)
    where
      by : (b : Bool)
          → AllByRecursion (λ row. ends_stretch row ≡ false) (filter (stays tables) rows)
          → AllByRecursion (λ row. ends_stretch row ≡ false)
          (cond b (row ∷ filter (stays tables) rows) (filter (stays tables) rows))
      by true more = (all.0, more)
      by false more = more

  all_as_many : (stretches : List (Stretch Instr))
      → AllByRecursion (IsCut ends_stretch (is_goal tables.code)) stretches
      → AllByRecursion (AsMuch (count_by has_goal) (count_by has_goal) (count_append has_goal)
      (count_append has_goal) refl (filter (stays tables)) with_moved_goal moved) stretches
  all_as_many [] all = tt
  all_as_many (stretch ∷ stretches) all = (
    record {
      front =
          straight_count (filter (stays tables) stretch.front)
          (filtered_straight stretch.front all.0.straight)
          ∙ omega (arith, straight_count stretch.front all.0.straight);
      last = same_goals moved stretch.last;
    },
    all_as_many stretches all.1,
  )

  pub as_many_goals : count_of has_goal (checked tables) ≡ count_of has_goal tables
  as_many_goals =
      subst (λ rows. count_of has_goal (checked tables) ≡ count_by has_goal rows)
      (cut_rows ends_stretch (is_goal tables.code) 0 tables.code)
      (as_much (count_by has_goal) (count_by has_goal) (count_append has_goal)
      (count_append has_goal) refl (filter (stays tables)) with_moved_goal moved refl
      (stretches_of tables.code)
      (all_as_many (stretches_of tables.code)
      (all_cut ends_stretch (is_goal tables.code) 0 tables.code)))
