-- The walk for early starts says what is said of stretches.
use Rattle.std.proofs.Common.{◌≡◌, ◌↔◌, ℕ, Bool, true, false, not, refl, sym, ap, ◌∙◌, subst}
use Rattle.std.proofs.Common.{List, [], ◌∷◌, ◌++◌, Option, Some, true≢false, append_assoc}
use Rattle.std.proofs.Common.{length}
use Rattle.std.specs.Prelude.{fold}
use Rattle.std.proofs.lemmas.List.Sums.{fold-append}
use Rattle.node_form.specs.declared.instructions.Instr.{Instr}
use Rattle.node_form.specs.declared.instructions.Instr.TheVariants as instr
use Rattle.node_form.specs.declared.tables.Tables.{Tables}
use Rattle.code_parts.specs.Early.{IsEarly, Passed, is_early, is_in_time}
use Rattle.code_parts.specs.Early.{may_cross, none_passed, open_after, open_behind, passed_by}
use Rattle.code_parts.specs.Stretch.{IsRightInStretches, IsStretch}
use Rattle.code_parts.proofs.WalkLemmas.{in_stretches, stretch_front, throughout}

-- what is known behind rows, of which one is the last
open_known : (rows : List Instr) (passed : Passed)
    → (fold passed_by passed rows).open_now ≡ fold open_behind passed.open_now rows
open_known [] passed = refl
open_known (row ∷ rows) passed = open_known rows (passed_by passed row)

behind_last : (before : List Instr) (row : Instr)
    → fold passed_by none_passed (before ++ row ∷ []) ≡ record {
      last = Some row;
      open_before = open_after before;
      open_now = open_behind (open_after before) row;
    }
behind_last before row =
    fold-append passed_by none_passed before (row ∷ [])
    ∙ ap (λ numbers. record {
      last = Some row;
      open_before = numbers;
      open_now = open_behind numbers row;
    }) (open_known before none_passed)

-- rows are none, or have a last one
data Rows : List Instr → Type 0 where
  no_rows : Rows []
  some_rows : (before : List Instr) (last : Instr) → Rows (before ++ last ∷ [])

rows_are : (rows : List Instr) → Rows rows
rows_are [] = no_rows
rows_are (row ∷ rows) = from rows (rows_are rows)
  where
    from : (rows : List Instr) → Rows rows → Rows (row ∷ rows)
    from rows no_rows = some_rows [] row
    from rows (some_rows before last) = some_rows (row ∷ before) last

module _ (links : Option ℕ) (tables : Tables) where
  early_stretches : IsRightInStretches none_passed passed_by (is_in_time tables links) tables.code
      → IsEarly links tables
  early_stretches right rows s h =
      let front = h.before ++ h.row ∷ [] in
      let start = instr.Start h.exchange in
      let place : rows ≡ (front ++ start ∷ []) ++ h.after =
      h.place
      ∙ sym (append_assoc h.before (h.row ∷ []) (start ∷ h.after))
      ∙ sym (append_assoc front (start ∷ []) h.after) in
      let part = stretch_front tables.code (front ++ start ∷ []) h.after
      (subst (IsStretch tables.code) place s) in
      let in_time : is_in_time tables links (fold passed_by none_passed front) start ≡ false =
      ap (λ passed. is_in_time tables links passed start) (behind_last h.before h.row)
      ∙ ap not h.crosses in
      true≢false (sym (right front start part) ∙ in_time)

  right_start : IsEarly links tables → (rows : List Instr) (exchange : ℕ) → Rows rows
      → IsStretch tables.code (rows ++ instr.Start exchange ∷ [])
      → is_in_time tables links (fold passed_by none_passed rows) (instr.Start exchange) ≡ true
  right_start early rows exchange no_rows s = refl
  right_start early rows exchange (some_rows before last) s =
      ap (λ passed. is_in_time tables links passed (instr.Start exchange))
      (behind_last before last)
      ∙ by (may_cross tables links (length (open_after before)) last exchange) refl
    where
      by : (b : Bool) → may_cross tables links (length (open_after before)) last exchange ≡ b
          → not b ≡ true
      by true crosses = absurd (early (before ++ last ∷ [] ++ instr.Start exchange ∷ []) s (record {
        exchange = exchange;
        row = last;
        before = before;
        after = [];
        place = append_assoc before (last ∷ []) (instr.Start exchange ∷ []);
        crosses = crosses;
      }))
      by false crosses = refl

  stretches_early : IsEarly links tables
      → IsRightInStretches none_passed passed_by (is_in_time tables links) tables.code
  stretches_early early before (instr.Start exchange) s =
      right_start early before exchange (rows_are before) s
  stretches_early early before _ s = refl

  pub early_either_way : (is_early links tables ≡ true) ↔ IsEarly links tables
  early_either_way = (
    λ right. early_stretches
        (in_stretches none_passed passed_by (is_in_time tables links) tables.code right),
    λ early. throughout none_passed passed_by (is_in_time tables links) tables.code
        (stretches_early early),
  )
