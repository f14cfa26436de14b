-- What rows of scalars do, and what they leave.
use Rattle.std.proofs.Common.{◌≡◌, ◌≢◌, ℕ, zero, suc, ◌≤◌, ◌<◌, Bool, true, false, ◌&&◌, ℤ}
use Rattle.std.proofs.Common.{List, [], ◌∷◌, length, Some, refl, sym, ap, ◌∙◌}
use Rattle.std.proofs.Common.{subst, arith}
use Rattle.std.proofs.Common.{◌⊎◌, inl, inr}
use Rattle.std.proofs.lemmas.Bool.{cases_eq}
use Rattle.std.specs.Prelude.{slice_get, slice_set, if◌then◌else◌}
use Rattle.std.specs.List.{list_all}
use Rattle.std.specs.Fmt.{signed_decimal}
use Rattle.zpl_nums.specs.declared.ends.End.TheVariants.{Trap}
use Rattle.zpl_nums.specs.declared.ends.TrapKind.TheVariants.{DivideByZero}
use Rattle.zpl_nums.specs.Integer.{IsInteger, is_true}
use Rattle.zpl_arrays.specs.ArrayText.{truth_text}
use Rattle.lowering_fits.specs.of_zpl_meaning.Computed as mean
use Rattle.lowering_fits.specs.of_zpl_meaning.Store as mean_store
use Rattle.lowering_fits.specs.of_zpl_meaning.Store.{Store}
use Rattle.node_form.specs.declared.tables.Tables.{Tables}
use Rattle.node_form.specs.Value as flat
use Rattle.node_form.specs.Value.{scalar_operands, value_of}
use Rattle.node_form.specs.Control.{with_computed, branched, with_scalar}
use Rattle.row_runs.specs.Run.{Ends, Wrong, Step, Goes, Stops, Does}
use Rattle.row_runs.specs.Code.{Says}
use Rattle.lowering_fits.specs.of_flat_form.Row as row
use Rattle.lowering_fits.specs.of_flat_form.Row.{Row, Words}
use Rattle.lowering_fits.specs.of_flat_form.Names.{row_scalars}
use Rattle.lowering_fits.specs.of_flat_form.Right.{is_settled}
use Rattle.lowering_fits.specs.of_flat_form.Whole.{Whole, registers_of}
use Rattle.lowering_fits.specs.of_flat_form.Act.{act, row_does, controlled, tested, value_printed}
use Rattle.lowering_fits.specs.of_zpl_lowering.Check.{Check}
use Rattle.lowering_fits.specs.of_zpl_lowering.Where.{Where, Next}
use Rattle.lowering_runs.specs.Seen.{scalar_in, Spot, seen_store, numbered, place_of}
use Rattle.lowering_runs.specs.Run.{straight, decision, step, decide}
use Rattle.lowering_runs.specs.Heads.{says_of}
use Rattle.lowering_runs.specs.Scalars.{IsSameValue, BothGive, BothDivide}
use Rattle.lowering_runs.specs.Stands.{Rises, Misses, IsSound, IsLike}
use Rattle.lowering_runs.proofs.NumberLemmas.{same_spots, set_spot, get_set_same, get_set_other}
use Rattle.lowering_runs.proofs.NumberLemmas.{length_set}

-- ---- rows that name settled scalars

all_true : (test : ℕ → Bool) → ((k : ℕ) → test k ≡ true) → (ks : List ℕ) → list_all test ks ≡ true
all_true test h [] = refl
all_true test h (k ∷ ks) = ap (λ b. b && list_all test ks) (h k) ∙ all_true test h ks

module _ (tables : Tables) (n : ℕ) where
  pub settled_act : (whole : Whole) → ((k : ℕ) → is_settled whole k ≡ true) → (one : Row)
      → act tables n one whole ≡ row_does tables n one whole
  settled_act whole h one =
      ap (λ (b : Bool). if b then row_does tables n one whole else Does (Stops Wrong))
      (all_true (is_settled whole) h (row_scalars one))

  -- ---- `set`

  abbrev pub set : Whole → ℕ → ℤ → Whole
  set whole k value = record whole { scalars = slice_set whole.scalars k value }

  abbrev pub set_to : Whole → ℕ → ℕ → flat.Computed ℤ → Step Whole
  set_to whole k line (flat.Gives value) = Goes [] (set whole k value)
  set_to whole k line flat.Divides = Stops (Ends (Trap DivideByZero line))
  set_to whole k line flat.Lacks = Stops Wrong

  pub set_step : (whole : Whole) → ((k : ℕ) → is_settled whole k ≡ true) → (k line : ℕ)
      (expr : Words) → step tables n (row.Set k expr line) whole
      ≡ set_to whole k line (value_of (scalar_operands whole.scalars) expr)
  set_step whole h k line expr =
      ap straight (settled_act whole h (row.Set k expr line))
      ∙ by (value_of (scalar_operands whole.scalars) expr)
    where
      by : (value : flat.Computed ℤ)
          → straight (controlled whole
          (with_computed value line (with_scalar (registers_of whole) k)))
          ≡ set_to whole k line value
      by (flat.Gives value) = refl
      by flat.Divides = refl
      by flat.Lacks = refl

  -- ---- tests

  pub check_says : (whole : Whole) → ((k : ℕ) → is_settled whole k ≡ true) → (check : Check)
      (value : mean.Computed ℤ)
      → IsSameValue value (value_of (scalar_operands whole.scalars) check.expr)
      → decide tables n check whole ≡ says_of check.line value
  check_says whole h check value same =
      ap decision (settled_act whole h (row.Unless check.expr 0 check.line))
      ∙ by value (value_of (scalar_operands whole.scalars) check.expr) same
    where
      either : (b : Bool) → decision (tested whole (branched (registers_of whole) b 0)) ≡ Says b
      either true = refl
      either false = refl

      by : (value : mean.Computed ℤ) (one : flat.Computed ℤ) → IsSameValue value one
          → decision (tested whole
          (with_computed one check.line (λ v. branched (registers_of whole) (is_true v) 0)))
          ≡ says_of check.line value
      by value one (BothGive {value = v} f) = either (is_true v)
      by value one BothDivide = refl

  -- ---- prints

  pub print_step : (whole : Whole) → ((k : ℕ) → is_settled whole k ≡ true) → (text : List ℕ)
      → step tables n (row.Print text) whole ≡ Goes text whole
  print_step whole h text = ap straight (settled_act whole h (row.Print text))

  pub number_step : (whole : Whole) → ((k : ℕ) → is_settled whole k ≡ true) → (expr : Words)
      (value : ℤ) → value_of (scalar_operands whole.scalars) expr ≡ flat.Gives value
      → step tables n (row.Number expr) whole ≡ Goes (signed_decimal value) whole
  number_step whole h expr value e =
      ap straight (settled_act whole h (row.Number expr))
      ∙ ap (λ (c : flat.Computed ℤ). straight (Does (value_printed whole signed_decimal c))) e

  pub truth_step : (whole : Whole) → ((k : ℕ) → is_settled whole k ≡ true) → (expr : Words)
      (value : ℤ) → value_of (scalar_operands whole.scalars) expr ≡ flat.Gives value
      → step tables n (row.Truth expr) whole ≡ Goes (truth_text value) whole
  truth_step whole h expr value e =
      ap straight (settled_act whole h (row.Truth expr))
      ∙ ap (λ (c : flat.Computed ℤ). straight (Does (value_printed whole truth_text c))) e

-- ---- states with another value in one scalar

module _ (tables : Tables) where
  pub set_sound : (n : ℕ) (whole : Whole) (k : ℕ) (value : ℤ) → k < tables.scalars
      → IsInteger value → IsSound tables whole → IsSound tables (set tables n whole k value)
  set_sound n whole k value lt f h = record {
    filled = record {
      scalars = length_set whole.scalars k value ∙ h.filled.scalars;
      awaited = h.filled.awaited;
      slots = h.filled.slots;
      stores = h.filled.stores;
    };
    settled = h.settled;
    integers = λ j. by j (cases_eq j k);
    elements = h.elements;
  }
    where
      inside : k < length whole.scalars
      inside = omega (arith, lt, h.filled.scalars)

      by : (j : ℕ) → (j ≡ k) ⊎ (j ≡ k → ⊥)
          → IsInteger (scalar_in (set tables n whole k value) j)
      by j (inl e) =
          subst (λ (i : ℕ). IsInteger (scalar_in (set tables n whole k value) i)) (sym e)
          (subst (λ (v : ℤ). IsInteger v) (sym (get_set_same whole.scalars k value inside)) f)
      by j (inr ne) =
          subst (λ (v : ℤ). IsInteger v) (sym (get_set_other whole.scalars k j value ne))
          (h.integers j)

  -- a number that is a variable's isn't missed
  found_misses : (numbers : List ℕ) (p k j : ℕ) → slice_get numbers p ≡ Some k → Misses numbers j
      → j ≢ k
  found_misses [] p k j e m q = cc
  found_misses (number ∷ numbers) zero k j e m q =
      let same : number ≡ k = cc in m.0 (same ∙ sym q)
  found_misses (number ∷ numbers) (suc p) k j e m q = found_misses numbers p k j e m.1 q

  module _ (n : ℕ) (spots : List Spot) (w : Where) (next : Next) (start : Whole) (store : Store)
      (now : Whole) (like : IsLike tables spots w next start store now)
      (rises : Rises 0 (numbered spots) next.scalars) (value : ℤ) (is : IsInteger value) where
    abbrev after : ℕ → Whole
    after k = set tables n now k value

    -- a variable is set
    pub like_variable : (p k : ℕ) → slice_get (numbered spots) p ≡ Some k → k < tables.scalars
        → IsLike tables spots w next start
        (mean_store.with_scalar store (place_of spots p) value) (after k)
    like_variable p k e lt =
        let inside : k < length now.scalars = omega (arith, lt, like.sound.filled.scalars) in
        record {
          seen = ap (λ (s : Store). mean_store.with_scalar s (place_of spots p) value) like.seen
              ∙ ap (λ (xs : List ℤ). record (seen_store spots w.numbers.arrays now) { scalars = xs })
              (sym (set_spot now (after k) value 0 spots next.scalars p k rises e
              (get_set_same now.scalars k value inside)
              (λ j ne. get_set_other now.scalars k j value ne)));
          sound = set_sound n now k value lt is like.sound;
          kept = record {
            hidden = λ j below misses. get_set_other now.scalars k j value
                (found_misses (numbered spots) p k j e misses)
                ∙ like.kept.hidden j below misses;
            slots = like.kept.slots;
          };
          held = like.held;
        }

    -- a scalar that is free is set
    pub like_hidden : (k : ℕ) → next.scalars ≤ k → k < tables.scalars
        → IsLike tables spots w next start store (after k)
    like_hidden k free lt = record {
      seen = like.seen
          ∙ ap (λ (xs : List ℤ). record (seen_store spots w.numbers.arrays now) { scalars = xs })
          (sym (same_spots now (after k) 0 spots next.scalars rises (λ j a b.
          get_set_other now.scalars k j value (λ q. absurd (omega (arith, b, q, free))))));
      sound = set_sound n now k value lt is like.sound;
      kept = record {
        hidden = λ j below misses. get_set_other now.scalars k j value
            (λ q. absurd (omega (arith, below, q, free)))
            ∙ like.kept.hidden j below misses;
        slots = like.kept.slots;
      };
      held = like.held;
    }
