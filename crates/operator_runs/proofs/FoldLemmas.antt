-- The rows of a full fold: a scalar begins with the unit, takes the values, and is joined.
use Rattle.std.proofs.Common.{◌≡◌, refl, sym, ◌∙◌, ap, subst, arith, ℕ, ◌<◌, Bool, true}
use Rattle.std.proofs.Common.{List, [], ◌∷◌, length, ℤ, Option, Some, None, ◌⊎◌, inl, inr}
use Rattle.std.specs.Prelude.{◌==◌, if◌then◌else◌, is_none, option_and_then, slice_get, slice_set}
use Rattle.std.proofs.lemmas.Bool.{cases_eq}
use Rattle.zpl_nums.specs.declared.ends.End.TheVariants.{Trap}
use Rattle.zpl_nums.specs.declared.folds.Fold.{Fold}
use Rattle.zpl_nums.specs.declared.folds.Fold.TheVariants as fold
use Rattle.zpl_nums.specs.Fold.{unit_of}
use Rattle.zpl_nums.specs.Integer.{IsInteger}
use Rattle.zpl_region.specs.declared.regions.Region.{Region}
use Rattle.zpl_arrays.specs.Array.{Array, element}
use Rattle.zpl_arrays.specs.Fold.{reduced}
use Rattle.zpl_meaning.specs.Computed as mean
use Rattle.zpl_meaning.specs.Fields.{Field, array_over}
use Rattle.row_runs.specs.Run.{Goes, Stops, Ends, Wrong}
use Rattle.row_runs.specs.Structured as code
use Rattle.row_runs.specs.Structured.{Course, Over, by_step, closes, rows_do}
use Rattle.node_form.specs.declared.tables.Tables.{Tables}
use Rattle.node_form.specs.declared.instructions.Instr.TheVariants as instr
use Rattle.node_form.specs.Expression.{Constant, words_of}
use Rattle.flat_form.specs.Act.{fold_number, folded, is_awaited}
use Rattle.flat_form.specs.Loop.{awaiting, looped}
use Rattle.flat_form.specs.Right.{is_settled}
use Rattle.flat_form.specs.Row as row
use Rattle.flat_form.specs.Row.{Row, Words}
use Rattle.flat_form.specs.Whole.{Whole}
use Rattle.print_runs.specs.of_lowering_runs.Run.{decide, step, straight}
use Rattle.print_runs.specs.of_lowering_runs.Seen.{scalar_in}
use Rattle.print_runs.specs.of_lowering_runs.Stands.{IsSound}
use Rattle.print_runs.proofs.of_lowering_runs.NumberLemmas.{get_same, get_other, get_set_same, get_set_other, length_set}
use Rattle.print_runs.proofs.of_lowering_runs.RowLemmas.{set_step, settled_act}
use Rattle.operator_runs.proofs.JoinLemmas.{acc_group, with_total, IsJoining, totalled, join_totals}

-- ---- the state behind them

abbrev pub with_fold : Whole → ℕ → Fold → ℤ → Whole
with_fold whole scalar operator value = record whole {
  scalars = slice_set whole.scalars scalar value;
  awaited = slice_set (slice_set whole.awaited scalar (Some operator)) scalar None;
}

same_number : (operator : Fold) → (fold_number operator == fold_number operator) ≡ true
same_number fold.Sum = refl
same_number fold.Prod = refl
same_number fold.Max = refl
same_number fold.Min = refl
same_number fold.All = refl
same_number fold.Any = refl

fold_comes : (whole : Whole) (scalar : ℕ) (operator : Fold) (value : ℤ)
    → scalar < length whole.awaited
    → folded (awaiting (with_total whole scalar value)
    (record { scalar = scalar; operator = operator })) scalar operator
    ≡ Goes [] (with_fold whole scalar operator value)
fold_comes whole scalar operator value lt =
    ap (λ o. if is_awaited operator o then Goes [] (with_fold whole scalar operator value)
    else Stops Wrong) (get_same whole.awaited scalar (Some operator) lt)
    ∙ ap (λ (b : Bool). if b then Goes [] (with_fold whole scalar operator value)
    else Stops Wrong) (same_number operator)

-- ---- it is sound

fold_settled : (whole : Whole) (k : ℕ) (operator : Fold) (value : ℤ) → k < length whole.awaited
    → ((j : ℕ) → is_settled whole j ≡ true)
    → (j : ℕ) → is_settled (with_fold whole k operator value) j ≡ true
fold_settled whole k operator value lt h j = by (cases_eq j k)
  where
    by : (j ≡ k) ⊎ (j ≡ k → ⊥) → is_settled (with_fold whole k operator value) j ≡ true
    by (inl e) =
        ap (λ (i : ℕ). is_settled (with_fold whole k operator value) i) e
        ∙ ap (λ o. is_none (option_and_then (λ (x : Option Fold). x) o))
        (get_same (slice_set whole.awaited k (Some operator)) k None
        (omega (arith, lt, length_set whole.awaited k (Some operator))))
    by (inr ne) =
        ap (λ o. is_none (option_and_then (λ (x : Option Fold). x) o))
        (get_other (slice_set whole.awaited k (Some operator)) k j None ne
        ∙ get_other whole.awaited k j (Some operator) ne)
        ∙ h j

pub fold_sound : (tables : Tables) (whole : Whole) (k : ℕ) (operator : Fold) (value : ℤ)
    → k < tables.scalars → IsInteger value → IsSound tables whole
    → IsSound tables (with_fold whole k operator value)
fold_sound tables whole k operator value lt f h = record {
  filled = record {
    scalars = length_set whole.scalars k value ∙ h.filled.scalars;
    awaited = length_set (slice_set whole.awaited k (Some operator)) k None
        ∙ length_set whole.awaited k (Some operator) ∙ h.filled.awaited;
    slots = h.filled.slots;
    stores = h.filled.stores;
  };
  settled = fold_settled whole k operator value (omega (arith, lt, h.filled.awaited)) h.settled;
  integers = λ j. by j (cases_eq j k);
  elements = h.elements;
}
  where
    inside : k < length whole.scalars
    inside = omega (arith, lt, h.filled.scalars)

    by : (j : ℕ) → (j ≡ k) ⊎ (j ≡ k → ⊥)
        → IsInteger (scalar_in (with_fold whole k operator value) j)
    by j (inl e) =
        subst (λ (i : ℕ). IsInteger (scalar_in (with_fold whole k operator value) i)) (sym e)
        (subst (λ (v : ℤ). IsInteger v) (sym (get_set_same whole.scalars k value inside)) f)
    by j (inr ne) =
        subst (λ (v : ℤ). IsInteger v) (sym (get_set_other whole.scalars k j value ne))
        (h.integers j)

-- ---- the rows

-- where the values of the operand are an array, or one of them has a trap
abbrev pub fold_course : Whole → ℕ → Fold → Region → (List ℤ → Bool) → ℕ → mean.Computed Array
    → Course Whole
fold_course whole scalar operator region is_in line (mean.Gives array) =
    code.goes_on (with_fold whole scalar operator (reduced operator region is_in (element array)))
fold_course whole scalar operator region is_in line (mean.Traps kind) =
    closes (Over (Ends (Trap kind line))) (with_total whole scalar (unit_of operator))

module _ (tables : Tables) (n : ℕ) (now : Whole) (sound : IsSound tables now) (scalar : ℕ)
    (lt : scalar < tables.scalars) (operator : Fold) (slot : ℕ) (region : Region)
    (found : slice_get now.slots slot ≡ Some region) (is_in : List ℤ → Bool) (field : Field)
    (expr : Words) (mask : Option Words) (line : ℕ) where
  abbrev pub begun : Whole
  begun = with_total now scalar (unit_of operator)

  abbrev rows : List Row → Whole → Course Whole
  rows = rows_do (step tables n) (decide tables n)

  abbrev last : List Row
  last = row.Plain (instr.Fold scalar operator) ∷ []

  begun_settled : (k : ℕ) → is_settled begun k ≡ true
  begun_settled = sound.settled

  pub there : (v : ℤ) → slice_get (slice_set now.scalars scalar v) scalar ≡ Some v
  there v = get_same now.scalars scalar v (omega (arith, lt, sound.filled.scalars))

  last_does : (value : ℤ)
      → rows last (awaiting (with_total now scalar value)
      (record { scalar = scalar; operator = operator }))
      ≡ code.goes_on (with_fold now scalar operator value)
  last_does value =
      ap (λ s. by_step (awaiting (with_total now scalar value)
      (record { scalar = scalar; operator = operator })) s code.goes_on)
      (fold_comes now scalar operator value (omega (arith, lt, sound.filled.awaited)))

  loop_does : (values : mean.Computed Array)
      → by_step begun (totalled now scalar operator region is_in line values) (rows last)
      ≡ fold_course now scalar operator region is_in line values
  loop_does (mean.Gives array) = last_does (reduced operator region is_in (element array))
  loop_does (mean.Traps kind) = refl

  pub fold_does : IsJoining tables begun scalar operator region is_in field expr mask line
      → rows (row.Set scalar (words_of (Constant (unit_of operator))) line
      ∷ row.Loop slot (acc_group scalar operator expr mask line) ∷ last) now
      ≡ fold_course now scalar operator region is_in line (array_over region is_in field)
  fold_does h =
      ap (λ s. by_step now s (rows (row.Loop slot (acc_group scalar operator expr mask line) ∷ last)))
      (set_step tables n now sound.settled scalar line (words_of (Constant (unit_of operator))))
      ∙ ap (λ s. by_step begun s (rows last))
      (ap straight (settled_act tables n begun begun_settled
      (row.Loop slot (acc_group scalar operator expr mask line)))
      ∙ ap (looped tables n (acc_group scalar operator expr mask line) begun) found
      ∙ join_totals tables n now scalar operator region is_in field expr mask line there h)
      ∙ loop_does (array_over region is_in field)
