-- Rows change places alone.
use Rattle.std.proofs.Common.{◌≡◌, refl, ap, ◌∙◌, subst, arith, ℕ, ◌+◌, Bool, true, false}
use Rattle.std.proofs.Common.{List, [], ◌∷◌, ◌++◌, length, length-append}
use Rattle.std.specs.Prelude.{count_by, fold, if◌then◌else◌, reverse, Option, Some, None}
use Rattle.std.specs.Option.{option_map}
use Rattle.std.proofs.lemmas.List.{reverse-append}
use Rattle.std.specs.List.{AllByRecursion}
use Rattle.last_writes.specs.of_row_runs.Cut.{Stretch, as_list, moved_by}
use Rattle.last_writes.proofs.of_row_runs.CutLemmas.{cut_rows}
use Rattle.last_writes.specs.of_node_form.declared.instructions.Instr.{Instr}
use Rattle.last_writes.specs.of_node_form.declared.instructions.Instr.TheVariants as instr
use Rattle.last_writes.specs.of_node_form.declared.tables.Tables.{Tables}
use Rattle.last_writes.specs.of_code_parts.Counts.{code_size, count_of}
use Rattle.last_writes.specs.of_code_parts.Early.{may_cross}
use Rattle.last_writes.specs.of_code_parts.Stretch.{ends_stretch, is_goal}
use Rattle.last_writes.specs.of_flat_passes.Rewritten.{stretches_of}
use Rattle.last_writes.proofs.of_flat_passes.StretchLemmas.{AsMuch, as_much, count_append}
use Rattle.comm_early.specs.Send.{open_behind_all, put_early, put_row, rows_early, sent_early}

-- ---- what adds up over rows
module _ (tables : Tables) (links : Option ℕ) (sum : List Instr → ℕ)
    (adds : (xs ys : List Instr) → sum (xs ++ ys) ≡ sum xs + sum ys) (none : sum [] ≡ 0) where
  one_more : (row : Instr) (rows : List Instr) → sum (row ∷ rows) ≡ sum (row ∷ []) + sum rows
  one_more row rows = adds (row ∷ []) rows

  put_sum : (exchange : ℕ) (before : List Instr)
      → sum (put_early tables links exchange before)
      ≡ sum (instr.Start exchange ∷ []) + sum before
  put_sum exchange [] = omega (arith, none)
  put_sum exchange (last ∷ before) =
      by (may_cross tables links (length (open_behind_all before)) last exchange)
      (put_sum exchange before)
    where
      by : (b : Bool)
          → sum (put_early tables links exchange before)
          ≡ sum (instr.Start exchange ∷ []) + sum before
          → sum (if b then last ∷ put_early tables links exchange before
          else instr.Start exchange ∷ last ∷ before)
          ≡ sum (instr.Start exchange ∷ []) + sum (last ∷ before)
      by true rest =
          omega (
            arith,
            one_more last (put_early tables links exchange before),
            one_more last before,
            rest,
          )
      by false rest = one_more (instr.Start exchange) (last ∷ before)

  row_sum : (before : List Instr) (row : Instr)
      → sum (put_row tables links before row) ≡ sum (row ∷ []) + sum before
  row_sum before (instr.Start exchange) = put_sum exchange before
  row_sum before row = one_more row before

  placed_sum : (before rows : List Instr)
      → sum (fold (put_row tables links) before rows) ≡ sum before + sum rows
  placed_sum before [] = omega (arith, none)
  placed_sum before (row ∷ rows) =
      omega (
        arith,
        placed_sum (put_row tables links before row) rows,
        row_sum before row,
        one_more row rows,
      )

  reversed_sum : (rows : List Instr) → sum (reverse rows) ≡ sum rows
  reversed_sum [] = refl
  reversed_sum (row ∷ rows) =
      ap sum (reverse-append (row ∷ []) rows)
      ∙ omega (arith, adds (reverse rows) (row ∷ []), one_more row rows, reversed_sum rows)

  early_sum : (rows : List Instr) → sum (rows_early tables links rows) ≡ sum rows
  early_sum rows =
      omega (
        arith,
        reversed_sum (fold (put_row tables links) [] rows),
        placed_sum [] rows,
        none,
      )

  same_last : (last : Option Instr)
      → sum (as_list (option_map (λ row. row) last)) ≡ sum (as_list last)
  same_last None = refl
  same_last (Some row) = refl

  all_early : (moved : ℕ → ℕ) (stretches : List (Stretch Instr))
      → AllByRecursion (AsMuch sum sum adds adds none (rows_early tables links)
      (λ moved row. row) moved) stretches
  all_early moved [] = tt
  all_early moved (stretch ∷ stretches) = (
    record { front = early_sum stretch.front; last = same_last stretch.last },
    all_early moved stretches,
  )

  same_sum : sum (sent_early links tables).code ≡ sum tables.code
  same_sum =
      subst (λ rows. sum (sent_early links tables).code ≡ sum rows)
      (cut_rows ends_stretch (is_goal tables.code) 0 tables.code)
      (as_much sum sum adds adds none (rows_early tables links) (λ moved row. row)
      (moved_by (rows_early tables links) (λ moved row. row) (stretches_of tables.code)) none
      (stretches_of tables.code)
      (all_early
      (moved_by (rows_early tables links) (λ moved row. row) (stretches_of tables.code))
      (stretches_of tables.code)))

pub rows_stay : (links : Option ℕ) (plan : Tables) (test : Instr → Bool)
    → count_of test (sent_early links plan) ≡ count_of test plan
rows_stay links plan test =
    same_sum plan links (count_by test) (count_append test) refl

pub size_stays : (links : Option ℕ) (plan : Tables)
    → code_size (sent_early links plan) ≡ code_size plan
size_stays links plan =
    omega (arith, same_sum plan links (λ rows. length rows) (λ xs ys. length-append xs ys) refl)
