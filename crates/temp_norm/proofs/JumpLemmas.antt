-- Jumps and tests stay.
use Rattle.std.proofs.Common.{◌≡◌, refl, sym, ◌∙◌, subst, arith, ℕ, ◌+◌}
use Rattle.std.proofs.Common.{List, [], ◌∷◌, length}
use Rattle.std.specs.Prelude.{cond, count_by, flat_map, map}
use Rattle.std.specs.Prelude.{slice_get}
use Rattle.std.specs.List.{AllByRecursion}
use Rattle.std.proofs.lemmas.List.Sums.{sum_by-cons}
use Rattle.flat_passes.specs.of_row_runs.Cut.{Stretch, moved_by}
use Rattle.flat_passes.proofs.of_row_runs.CutLemmas.{cut_rows}
use Rattle.flat_passes.specs.of_node_form.declared.arrays.ArrayRow.{ArrayRow}
use Rattle.flat_passes.specs.of_node_form.declared.members.Member.{Member}
use Rattle.flat_passes.specs.of_node_form.declared.members.Member.TheVariants as member
use Rattle.flat_passes.specs.of_node_form.declared.instructions.Instr.{Instr}
use Rattle.flat_passes.specs.of_node_form.declared.tables.Tables.{Tables}
use Rattle.flat_passes.specs.of_code_parts.Counts.{count_of}
use Rattle.flat_passes.specs.of_code_parts.Stretch.{ends_stretch, is_goal}
use Rattle.flat_passes.specs.Rewritten.{has_goal, stretches_of}
use Rattle.flat_passes.specs.Grouped.{Grouped, Runs, Plain, ended_by, grouped, rewritten_rows}
use Rattle.flat_passes.proofs.GroupedLemmas.{all_ended_lead, all_grouped_lead, leads}
use Rattle.flat_passes.proofs.GroupedLemmas.{numbered_goals}
use Rattle.flat_passes.proofs.StretchLemmas.{AsMuch, as_much, count_append}
use Rattle.temp_norm.specs.Normalised.{array_through, loop_through, normalised, place_among}
use Rattle.temp_norm.specs.Normalised.{put_through, row_through, temporaries}

through_leads : (temporary read slot : ℕ) (group : List Member)
    → count_by leads (put_through temporary read slot group) ≡ 0
through_leads temporary read slot (member.Put array expr mask line ∷ []) = refl
through_leads temporary read slot group = refl

module _ (tables : Tables) where
  abbrev extra : List ArrayRow
  extra = temporaries tables

  loop_leads : (slot : ℕ) (group : List Member) (arrays : List ℕ)
      → count_by leads (loop_through tables extra slot group arrays) ≡ 0
  loop_leads slot group [] = refl
  loop_leads slot group (array ∷ arrays) =
      let place = place_among extra (slice_get tables.arrays array) in
      through_leads (length tables.arrays + place) (length tables.exprs + place) slot group

  row_leads : (row : Grouped)
      → count_by leads (row_through tables extra row) ≡ cond (leads row) 1 0
  row_leads (Runs slot group) = loop_leads slot group (array_through tables (Runs slot group))
  row_leads (Plain row) = omega arith

  front_leads : (rows : List Grouped)
      → count_by leads (flat_map (row_through tables extra) rows) ≡ count_by leads rows
  front_leads [] = refl
  front_leads (row ∷ rows) =
      count_append leads (row_through tables extra row) (flat_map (row_through tables extra) rows)
      ∙ omega (arith, row_leads row, front_leads rows)
      ∙ sym (sum_by-cons (λ row. cond (leads row) 1 0) row rows)

  abbrev rewrite : List Instr → List Grouped
  rewrite rows = flat_map (row_through tables extra) (map (grouped tables) rows)

  abbrev moved : ℕ → ℕ
  moved = moved_by rewrite ended_by (stretches_of tables.code)

  all_goals : (stretches : List (Stretch Instr))
      → AllByRecursion (AsMuch (count_by has_goal) (count_by leads) (count_append has_goal)
      (count_append leads) refl rewrite ended_by moved) stretches
  all_goals [] = tt
  all_goals (stretch ∷ stretches) = (
    record {
      front =
          front_leads (map (grouped tables) stretch.front)
          ∙ all_grouped_lead tables stretch.front;
      last = all_ended_lead moved stretch.last;
    },
    all_goals stretches,
  )

  pub same_goals : count_of has_goal (normalised tables) ≡ count_of has_goal tables
  same_goals =
      subst (λ old. count_of has_goal (normalised tables) ≡ count_by has_goal old)
      (cut_rows ends_stretch (is_goal tables.code) 0 tables.code)
      (numbered_goals 0 (rewritten_rows tables (flat_map (row_through tables extra)))
      ∙ as_much (count_by has_goal) (count_by leads) (count_append has_goal) (count_append leads)
      refl rewrite ended_by moved refl (stretches_of tables.code)
      (all_goals (stretches_of tables.code)))
