-- The size: three more for each loop whose group reads itself, and two for each temporary.
use Rattle.std.proofs.Common.{◌≡◌, refl, ◌∙◌, subst, arith, ℕ, ◌+◌, ◌*◌, ◌≤◌, Bool, true}
use Rattle.std.proofs.Common.{false, List, [], ◌∷◌, ◌++◌, length, length-append}
use Rattle.std.specs.Prelude.{cond, count_by, flat_map, map, if◌then◌else◌, Option, Some, None}
use Rattle.std.specs.Prelude.{slice_get, sum_by}
use Rattle.std.specs.Option.{option_map}
use Rattle.std.specs.List.{AllByRecursion}
use Rattle.std.proofs.lemmas.List.Sums.{sum_by-append, sum_by-cons}
use Rattle.flat_passes.specs.of_row_runs.Cut.{Stretch, as_list, moved_by}
use Rattle.flat_passes.proofs.of_row_runs.CutLemmas.{cut_rows}
use Rattle.flat_passes.specs.of_node_form.declared.words.ExprOp.TheVariants as word
use Rattle.flat_passes.specs.of_node_form.declared.arrays.ArrayRow.{ArrayRow}
use Rattle.flat_passes.specs.of_node_form.declared.members.Member.{Member}
use Rattle.flat_passes.specs.of_node_form.declared.members.Member.TheVariants as member
use Rattle.flat_passes.specs.of_node_form.declared.instructions.Instr.{Instr}
use Rattle.flat_passes.specs.of_node_form.declared.tables.Tables.{Tables}
use Rattle.flat_passes.specs.of_code_parts.Counts.{code_size, count_of}
use Rattle.flat_passes.specs.of_code_parts.Stretch.{ends_stretch, is_goal}
use Rattle.flat_passes.specs.Rewritten.{stretches_of}
use Rattle.flat_passes.specs.Grouped.{Grouped, Runs, Plain, ended_by, grouped, loop_members}
use Rattle.flat_passes.specs.Grouped.{members_run, rewritten_rows}
use Rattle.flat_passes.proofs.GroupedLemmas.{members_in_groups}
use Rattle.flat_passes.proofs.StretchLemmas.{AtMost, at_most, count_append}
use Rattle.temp_norm.specs.Normalised.{loop_through, loops_on_itself, normalised}
use Rattle.temp_norm.specs.Normalised.{place_among, put_alone, put_through, read_each, reads_itself}
use Rattle.temp_norm.specs.Normalised.{row_through, temporaries}
use Rattle.temp_norm.proofs.RowLemmas.{few_rows}

-- ---- members
through_members : (temporary read slot : ℕ) (group : List Member)
    → sum_by members_run (put_through temporary read slot group) ≤ length group + 1
through_members temporary read slot (member.Put array expr mask line ∷ []) = omega arith
through_members temporary read slot group = omega arith

module _ (tables : Tables) where
  abbrev extra : List ArrayRow
  extra = temporaries tables

  loop_adds : (slot : ℕ) (group : List Member) (arrays : List ℕ)
      → sum_by members_run (loop_through tables extra slot group arrays) ≤ length group + 1
  loop_adds slot group [] = omega arith
  loop_adds slot group (array ∷ arrays) =
      let place = place_among extra (slice_get tables.arrays array) in
      through_members (length tables.arrays + place) (length tables.exprs + place) slot group

  row_adds : (row : Grouped)
      → sum_by members_run (row_through tables extra row)
      ≤ members_run row + cond (loops_on_itself tables row) 1 0
  row_adds (Runs slot group) = by (reads_itself tables group)
    where
      by : (b : Bool)
          → sum_by members_run (loop_through tables extra slot group
          (if b then put_alone group else []))
          ≤ length group + cond b 1 0
      by true = loop_adds slot group (put_alone group)
      by false = omega arith
  row_adds (Plain row) = omega arith

  abbrev splits : Instr → Bool
  splits row = loops_on_itself tables (grouped tables row)

  abbrev members_of_row : Instr → ℕ
  members_of_row row = members_run (grouped tables row)

  abbrev allowed : List Instr → ℕ
  allowed rows = sum_by members_of_row rows + count_by splits rows

  allowed_adds : (xs ys : List Instr) → allowed (xs ++ ys) ≡ allowed xs + allowed ys
  allowed_adds xs ys = omega (arith, sum_by-append members_of_row xs ys, count_append splits xs ys)

  front_adds : (rows : List Instr)
      → sum_by members_run (flat_map (row_through tables extra) (map (grouped tables) rows))
      ≤ allowed rows
  front_adds [] = omega arith
  front_adds (row ∷ rows) =
      omega (
        arith,
        sum_by-append members_run (row_through tables extra (grouped tables row))
            (flat_map (row_through tables extra) (map (grouped tables) rows)),
        row_adds (grouped tables row),
        front_adds rows,
        sum_by-cons members_of_row row rows,
        sum_by-cons (λ row. cond (splits row) 1 0) row rows,
      )

  abbrev rewrite : List Instr → List Grouped
  rewrite rows = flat_map (row_through tables extra) (map (grouped tables) rows)

  abbrev moved : ℕ → ℕ
  moved = moved_by rewrite ended_by (stretches_of tables.code)

  ended_adds : (last : Option Instr)
      → sum_by members_run (as_list (option_map (ended_by moved) last)) ≤ allowed (as_list last)
  ended_adds None = omega arith
  ended_adds (Some row) = omega (arith, sum_by-cons members_run (ended_by moved row) [])

  all_add : (stretches : List (Stretch Instr))
      → AllByRecursion (AtMost allowed (sum_by members_run) allowed_adds
      (sum_by-append members_run) refl rewrite ended_by moved) stretches
  all_add [] = tt
  all_add (stretch ∷ stretches) = (
    record { front = front_adds stretch.front; last = ended_adds stretch.last },
    all_add stretches,
  )

  few_members : sum_by (λ group. length group) (normalised tables).groups
      ≤ loop_members tables + count_of splits tables
  few_members =
      subst (λ old. sum_by (λ group. length group) (normalised tables).groups ≤ allowed old)
      (cut_rows ends_stretch (is_goal tables.code) 0 tables.code)
      (omega (
        arith,
        members_in_groups (rewritten_rows tables (flat_map (row_through tables extra))),
        at_most allowed (sum_by members_run) allowed_adds (sum_by-append members_run) refl
            rewrite ended_by moved (stretches_of tables.code) (all_add (stretches_of tables.code)),
      ))

  -- ---- words
  one_word_each : (first : ℕ) (rows : List ArrayRow)
      → sum_by (λ expr. length expr) (read_each first rows) ≡ length rows
  one_word_each first [] = refl
  one_word_each first (row ∷ rows) =
      sum_by-cons (λ expr. length expr) (word.Here first ∷ []) (read_each (first + 1) rows)
      ∙ omega (arith, one_word_each (first + 1) rows)

  pub size_of_normalised : loop_members tables ≤ sum_by (λ group. length group) tables.groups
      → code_size (normalised tables)
      ≤ code_size tables + 3 * count_of splits tables + 2 * length (temporaries tables)
  size_of_normalised once =
      omega (
        arith,
        once,
        few_members,
        few_rows tables,
        sum_by-append (λ expr. length expr) tables.exprs (read_each (length tables.arrays) extra),
        one_word_each (length tables.arrays) extra,
        length-append tables.arrays extra,
      )
