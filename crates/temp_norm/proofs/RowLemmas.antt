-- At most two rows more for each loop whose group reads itself.
use Rattle.std.proofs.Common.{◌≡◌, refl, subst, arith, ℕ, ◌+◌, ◌*◌, ◌≤◌, Bool, true}
use Rattle.std.proofs.Common.{false, List, [], ◌∷◌, ◌++◌, length, length-append}
use Rattle.std.specs.Prelude.{cond, count_by, flat_map, map, if◌then◌else◌, Option, Some, None}
use Rattle.std.specs.Prelude.{slice_get}
use Rattle.std.specs.Option.{option_map}
use Rattle.std.specs.List.{AllByRecursion}
use Rattle.std.proofs.lemmas.List.Sums.{sum_by-cons}
use Rattle.flat_passes.specs.of_row_runs.Cut.{Stretch, as_list, moved_by}
use Rattle.flat_passes.proofs.of_row_runs.CutLemmas.{cut_rows}
use Rattle.flat_passes.specs.of_node_form.declared.arrays.ArrayRow.{ArrayRow}
use Rattle.flat_passes.specs.of_node_form.declared.members.Member.{Member}
use Rattle.flat_passes.specs.of_node_form.declared.members.Member.TheVariants as member
use Rattle.flat_passes.specs.of_node_form.declared.instructions.Instr.{Instr}
use Rattle.flat_passes.specs.of_node_form.declared.tables.Tables.{Tables}
use Rattle.flat_passes.specs.of_code_parts.Counts.{count_of}
use Rattle.flat_passes.specs.of_code_parts.Stretch.{ends_stretch, is_goal}
use Rattle.flat_passes.specs.Rewritten.{stretches_of}
use Rattle.flat_passes.specs.Grouped.{Grouped, Runs, Plain, ended_by, grouped, rewritten_rows}
use Rattle.flat_passes.proofs.GroupedLemmas.{numbered_length}
use Rattle.flat_passes.proofs.StretchLemmas.{AtMost, at_most, count_append}
use Rattle.temp_norm.specs.Normalised.{loop_through, loops_on_itself, normalised}
use Rattle.temp_norm.specs.Normalised.{place_among, put_alone, put_through, reads_itself}
use Rattle.temp_norm.specs.Normalised.{row_through, temporaries}

through_length : (temporary read slot : ℕ) (group : List Member)
    → length (put_through temporary read slot group) ≤ 3
through_length temporary read slot (member.Put array expr mask line ∷ []) = omega arith
through_length temporary read slot group = omega arith

module _ (tables : Tables) where
  abbrev extra : List ArrayRow
  extra = temporaries tables

  loop_length : (slot : ℕ) (group : List Member) (arrays : List ℕ)
      → length (loop_through tables extra slot group arrays) ≤ 3
  loop_length slot group [] = omega arith
  loop_length slot group (array ∷ arrays) =
      let place = place_among extra (slice_get tables.arrays array) in
      through_length (length tables.arrays + place) (length tables.exprs + place) slot group

  row_length : (row : Grouped)
      → length (row_through tables extra row) ≤ 1 + 2 * cond (loops_on_itself tables row) 1 0
  row_length (Runs slot group) = by (reads_itself tables group)
    where
      by : (b : Bool)
          → length (loop_through tables extra slot group (if b then put_alone group else []))
          ≤ 1 + 2 * cond b 1 0
      by true = omega (arith, loop_length slot group (put_alone group))
      by false = omega arith
  row_length (Plain row) = omega arith

  abbrev splits : Instr → Bool
  splits row = loops_on_itself tables (grouped tables row)

  front_length : (rows : List Instr)
      → length (flat_map (row_through tables extra) (map (grouped tables) rows))
      ≤ length rows + 2 * count_by splits rows
  front_length [] = omega arith
  front_length (row ∷ rows) =
      omega (
        arith,
        length-append (row_through tables extra (grouped tables row))
            (flat_map (row_through tables extra) (map (grouped tables) rows)),
        row_length (grouped tables row),
        front_length rows,
        sum_by-cons (λ row. cond (splits row) 1 0) row rows,
      )

  abbrev rewrite : List Instr → List Grouped
  rewrite rows = flat_map (row_through tables extra) (map (grouped tables) rows)

  abbrev moved : ℕ → ℕ
  moved = moved_by rewrite ended_by (stretches_of tables.code)

  abbrev allowed : List Instr → ℕ
  allowed rows = length rows + 2 * count_by splits rows

  allowed_adds : (xs ys : List Instr) → allowed (xs ++ ys) ≡ allowed xs + allowed ys
  allowed_adds xs ys = omega (arith, length-append xs ys, count_append splits xs ys)

  ended_length : (last : Option Instr)
      → length (as_list (option_map (ended_by moved) last)) ≤ allowed (as_list last)
  ended_length None = omega arith
  ended_length (Some row) = omega arith

  all_lengths : (stretches : List (Stretch Instr))
      → AllByRecursion (AtMost allowed (λ new. length new) allowed_adds
      (λ xs ys. length-append xs ys) refl rewrite ended_by moved) stretches
  all_lengths [] = tt
  all_lengths (stretch ∷ stretches) = (
    record { front = front_length stretch.front; last = ended_length stretch.last },
    all_lengths stretches,
  )

  pub few_rows : length (normalised tables).code ≤ length tables.code + 2 * count_of splits tables
  few_rows =
      subst (λ old. length (normalised tables).code ≤ allowed old)
      (cut_rows ends_stretch (is_goal tables.code) 0 tables.code)
      (omega (
        arith,
        numbered_length 0 (rewritten_rows tables (flat_map (row_through tables extra))),
        at_most allowed (λ new. length new) allowed_adds (λ xs ys. length-append xs ys) refl
            rewrite ended_by moved (stretches_of tables.code)
            (all_lengths (stretches_of tables.code)),
      ))
