-- Code that is rewritten row by row.
use Rattle.std.proofs.Common.{◌≡◌, refl, sym, ap, ◌∙◌, arith, ℕ, ◌+◌, ◌≤◌}
use Rattle.std.proofs.Common.{Bool, true, false, List, [], ◌∷◌, ◌++◌, length, length-append}
use Rattle.std.proofs.Common.{append_assoc, append-nil}
use Rattle.std.specs.Prelude.{Some, drop, flat_map, if◌then◌else◌, map, slice_get}
use Rattle.std.proofs.lemmas.List.{drop_all, length-map}
use Rattle.flat_form.specs.of_node_form.declared.instructions.Instr.{Instr}
use Rattle.flat_form.specs.of_code_parts.Stretch.{ends_stretch}
use Rattle.flat_passes.specs.Numbers.{number_among, numbers_from}
use Rattle.flat_passes.specs.Rewritten.{rewritten_code, stretches_of, with_moved_goal}
use Rattle.flat_passes.proofs.DraftLemmas.{rest_at}
use Rattle.flat_passes.proofs.NumberLemmas.{becomes, by_number, counted, moved_rows, new_length}
use Rattle.flat_passes.proofs.NumberLemmas.{same_moved_goal}

-- ---- A walk over code that has come to a row: what the rest makes of the new rows and of the
-- numbers is what the whole makes of none.
module _ (step : Instr → List Instr) (code : List Instr) where
  abbrev steps : Instr → ℕ
  steps row = length (step row)

  pub record IsAt (at : ℕ) (rows : List Instr) (numbers : List ℕ) : Type 0 where
    pub all : rows ++ flat_map step (drop at code) ≡ flat_map step code
    pub places : numbers ++ numbers_from steps (length rows) (drop at code)
        ≡ numbers_from steps 0 code

  pub at_first : (rows : List Instr) (numbers : List ℕ) → rows ≡ [] → numbers ≡ []
      → IsAt 0 rows numbers
  at_first rows numbers no_rows no_numbers = record {
    all = ap (λ r. r ++ flat_map step code) no_rows;
    places =
        ap (λ n. n ++ numbers_from steps (length rows) code) no_numbers
        ∙ ap (λ r. numbers_from steps (length r) code) no_rows;
  }

  pub at_more : (at : ℕ) (row : Instr) (rows after : List Instr) (numbers noted : List ℕ)
      → slice_get code at ≡ Some row → IsAt at rows numbers
      → after ≡ rows ++ step row → noted ≡ numbers ++ length rows ∷ []
      → IsAt (at + 1) after noted
  at_more at row rows after numbers noted here is written note =
      let left : drop at code ≡ row ∷ drop (at + 1) code = rest_at code at row here in
      let all : rows ++ (step row ++ flat_map step (drop (at + 1) code)) ≡ flat_map step code =
      ap (λ rest. rows ++ flat_map step rest) (sym left) ∙ is.all in
      let places : numbers
      ++ (length rows ∷ numbers_from steps (length rows + steps row) (drop (at + 1) code))
      ≡ numbers_from steps 0 code =
      ap (λ rest. numbers ++ numbers_from steps (length rows) rest) (sym left) ∙ is.places in
      let long : length after ≡ length rows + steps row =
      ap length written ∙ length-append rows (step row) in
      record {
        all =
            ap (λ r. r ++ flat_map step (drop (at + 1) code)) written
            ∙ (append_assoc rows (step row) (flat_map step (drop (at + 1) code)) ∙ all);
        places =
            ap (λ n. n ++ numbers_from steps (length after) (drop (at + 1) code)) note
            ∙ (append_assoc numbers (length rows ∷ [])
            (numbers_from steps (length after) (drop (at + 1) code))
            ∙ (ap (λ k. numbers ++ (length rows ∷ numbers_from steps k (drop (at + 1) code))) long
            ∙ places));
      }

  pub at_rows : (at : ℕ) (rows : List Instr) (numbers : List ℕ) → IsAt at rows numbers
      → length code ≤ at → rows ≡ flat_map step code
  at_rows at rows numbers is past =
      sym (append-nil rows)
      ∙ (ap (λ rest. rows ++ flat_map step rest) (sym (drop_all at code past)) ∙ is.all)

  pub at_places : (at : ℕ) (rows : List Instr) (numbers : List ℕ) → IsAt at rows numbers
      → length code ≤ at → numbers ≡ numbers_from steps 0 code
  at_places at rows numbers is past =
      sym (append-nil numbers)
      ∙ (ap (λ rest. numbers ++ numbers_from steps (length rows) rest) (sym (drop_all at code past))
      ∙ is.places)

-- ---- The new rows, with their goals moved, are the code of the pass.
module _ (step : Instr → List Instr) (rewrite : List Instr → List Instr) (code : List Instr)
    (by_steps : (rows : List Instr) → rewrite rows ≡ flat_map step rows)
    (one_for_one : (row : Instr) → ends_stretch row ≡ true → length (step row) ≡ 1)
    (moves : (moved : ℕ → ℕ) (row : Instr) → map (with_moved_goal moved) (step row)
    ≡ (if ends_stretch row then with_moved_goal moved row ∷ [] else step row)) where
  abbrev place : ℕ → ℕ
  place = by_number step rewrite with_moved_goal by_steps one_for_one same_moved_goal code

  moves_to : (row : Instr)
      → map (with_moved_goal place) (step row)
      ≡ becomes step rewrite with_moved_goal by_steps one_for_one same_moved_goal code place
      (ends_stretch row) row
  moves_to row = moves place row ∙ by (ends_stretch row)
    where
      by : (b : Bool) → (if b then with_moved_goal place row ∷ [] else step row)
          ≡ becomes step rewrite with_moved_goal by_steps one_for_one same_moved_goal code place b
          row
      by true = refl
      by false = refl

  all_moved : map (with_moved_goal place) (flat_map step code) ≡ rewritten_code rewrite code
  all_moved =
      moved_rows step rewrite with_moved_goal by_steps one_for_one same_moved_goal code
      with_moved_goal moves_to

  long : length (flat_map step code) ≡ counted (λ row. length (step row)) code
  long =
      sym (length-map (flat_map step code) (with_moved_goal place))
      ∙ (ap length all_moved
      ∙ new_length step rewrite with_moved_goal by_steps one_for_one same_moved_goal code)

  pub recoded : map (with_moved_goal (number_among
      (numbers_from (λ row. length (step row)) 0 code) (length (flat_map step code))))
      (flat_map step code)
      ≡ rewritten_code rewrite code
  recoded =
      ap (λ end. map (with_moved_goal (number_among
      (numbers_from (λ row. length (step row)) 0 code) end)) (flat_map step code)) long
      ∙ all_moved
