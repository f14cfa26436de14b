-- A state in which an array of the store has other values.
use Rattle.std.proofs.Common.{◌≡◌, ◌≢◌, ◌⊎◌, inl, inr, refl, sym, ◌∙◌, ap, subst, arith, ℕ, zero, suc, ◌≤◌, true}
use Rattle.std.proofs.Common.{List, [], ◌∷◌, length, map, Option, Some, None}
use Rattle.std.specs.Prelude.{slice_get, slice_index_or, slice_set}
use Rattle.std.specs.List.{AllZip}
use Rattle.std.proofs.lemmas.Bool.{cases_eq}
use Rattle.zpl_nums.specs.Integer.{IsInteger}
use Rattle.zpl_arrays.specs.Array.{Array}
use Rattle.array_puts.specs.of_zpl_meaning.Store.{Store, no_array, with_array}
use Rattle.node_form.specs.declared.arrays.ArrayRow.{ArrayRow}
use Rattle.node_form.specs.declared.tables.Tables.{Tables}
use Rattle.row_runs.specs.Straight.{Every}
use Rattle.lowering_runs.specs.of_flat_form.States.{IsStoreOf}
use Rattle.lowering_runs.specs.of_flat_form.Whole.{Whole}
use Rattle.array_puts.proofs.of_normal_runs.PlaceLemmas.{set_apart, set_there}
use Rattle.lowering_runs.specs.of_zpl_lowering.Where.{Stored, Where, Next}
use Rattle.lowering_runs.specs.Seen.{Spot, array_in, seen_store}
use Rattle.lowering_runs.specs.Stands.{Rises, array_numbers, IsLike}
use Rattle.array_puts.specs.Put.{with_array_in}
use Rattle.array_runs.proofs.StoredLemmas.{index_of_found}

-- ---- lists

abbrev pub index_if : {X : Type 0} → X → Option X → X
index_if d None = d
index_if d (Some x) = x

pub index_is : {X : Type 0} (xs : List X) (k : ℕ) (d : X)
    → slice_index_or xs k d ≡ index_if d (slice_get xs k)
index_is [] zero d = refl
index_is [] (suc k) d = refl
index_is (x ∷ xs) zero d = refl
index_is (x ∷ xs) (suc k) d = index_is xs k d

pub zip_new : (rows : List ArrayRow) (stores : List Array) (k : ℕ) (row : ArrayRow) (new : Array)
    → slice_get rows k ≡ Some row → IsStoreOf row new → AllZip IsStoreOf rows stores
    → AllZip IsStoreOf rows (slice_set stores k new)
zip_new [] [] k row new e h all = tt
zip_new [] (store ∷ stores) k row new e h all = absurd all
zip_new (one ∷ rows) [] k row new e h all = absurd all
zip_new (one ∷ rows) (store ∷ stores) zero row new e h all =
    let same : one ≡ row = cc in
    (subst (λ (r : ArrayRow). IsStoreOf r new) (sym same) h, all.1)
zip_new (one ∷ rows) (store ∷ stores) (suc k) row new e h all =
    (all.0, zip_new rows stores k row new e h all.1)

-- ---- arrays by their numbers

module _ (before after : Whole) where
  abbrev seen_before : List Stored → List Array
  seen_before arrays = map (λ (one : Stored). array_in before one.array) arrays

  abbrev seen_after : List Stored → List Array
  seen_after arrays = map (λ (one : Stored). array_in after one.array) arrays

  pub same_arrays : (from : ℕ) (arrays : List Stored) (to : ℕ) → Rises from (array_numbers arrays) to
      → ((j : ℕ) → from ≤ j → array_in after j ≡ array_in before j)
      → seen_after arrays ≡ seen_before arrays
  same_arrays from [] to h other = refl
  same_arrays from (one ∷ arrays) to h other =
      ap (λ y. y ∷ seen_after arrays) (other one.array h.0)
      ∙ ap (λ ys. array_in before one.array ∷ ys)
      (same_arrays (suc one.array) arrays to h.1 (λ j a. other j (omega (arith, a, h.0))))

  number_from : (from : ℕ) (arrays : List Stored) (to p : ℕ) (stored : Stored)
      → Rises from (array_numbers arrays) to → slice_get arrays p ≡ Some stored
      → from ≤ stored.array
  number_from from [] to zero stored h e = cc
  number_from from [] to (suc p) stored h e = cc
  number_from from (one ∷ arrays) to zero stored h e =
      let same : one ≡ stored = cc in subst (λ (s : Stored). from ≤ s.array) same h.0
  number_from from (one ∷ arrays) to (suc p) stored h e =
      let l = number_from (suc one.array) arrays to p stored h.1 e in omega (arith, l, h.0)

  set_array : (v : Array) (from : ℕ) (arrays : List Stored) (to p : ℕ) (stored : Stored)
      → Rises from (array_numbers arrays) to → slice_get arrays p ≡ Some stored
      → array_in after stored.array ≡ v
      → ((j : ℕ) → j ≢ stored.array → array_in after j ≡ array_in before j)
      → seen_after arrays ≡ slice_set (seen_before arrays) p v
  set_array v from [] to zero stored h e here other = cc
  set_array v from [] to (suc p) stored h e here other = cc
  set_array v from (one ∷ arrays) to zero stored h e here other =
      let same : one ≡ stored = cc in
      let number : one.array ≡ stored.array = ap (λ (s : Stored). s.array) same in
      ap (λ y. y ∷ seen_after arrays) (ap (array_in after) number ∙ here)
      ∙ ap (λ ys. v ∷ ys) (same_arrays (suc one.array) arrays to h.1
      (λ j a. other j (λ q. absurd (omega (arith, a, q, number)))))
  set_array v from (one ∷ arrays) to (suc p) stored h e here other =
      let l = number_from (suc one.array) arrays to p stored h.1 e in
      ap (λ y. y ∷ seen_after arrays) (other one.array (λ q. absurd (omega (arith, q, l))))
      ∙ ap (λ ys. array_in before one.array ∷ ys)
      (set_array v (suc one.array) arrays to p stored h.1 e here other)

-- ---- the state

pub like_array : (tables : Tables) (spots : List Spot) (w : Where) (next : Next) (start : Whole)
    (store : Store) (now : Whole) (target : ℕ) (stored : Stored) (row : ArrayRow) (old new : Array)
    → IsLike tables spots w next start store now
    → slice_get w.numbers.arrays target ≡ Some stored
    → slice_get tables.arrays stored.array ≡ Some row
    → slice_get now.stores stored.array ≡ Some old → IsStoreOf row new
    → Every IsInteger new.values → IsLike tables spots w next start (with_array store target new)
    (with_array_in now stored.array new)
like_array tables spots w next start store now target stored row old new like found in_tables there
    of integers =
    let after = with_array_in now stored.array new in
    let k = stored.array in
    let here : array_in after k ≡ new =
    index_of_found after.stores k new no_array (set_there now.stores k new old there) in
    let other : (j : ℕ) → j ≢ k → array_in after j ≡ array_in now j =
    λ j ne. index_is after.stores j no_array
    ∙ ap (index_if no_array) (set_apart now.stores k j new (λ q. ne (sym q)))
    ∙ sym (index_is now.stores j no_array) in
    record {
      seen = ap (λ (s : Store). with_array s target new) like.seen
          ∙ ap (λ (xs : List Array). record (seen_store spots w.numbers.arrays now) { arrays = xs })
          (sym (set_array now after new 0 w.numbers.arrays (length tables.arrays) target stored
          like.held.apart found here other));
      sound = record {
        filled = record {
          scalars = like.sound.filled.scalars;
          awaited = like.sound.filled.awaited;
          slots = like.sound.filled.slots;
          stores = zip_new tables.arrays now.stores k row new in_tables of like.sound.filled.stores;
        };
        settled = like.sound.settled;
        integers = like.sound.integers;
        elements = λ j row e kept. by j row e kept (cases_eq j k);
      };
      kept = record { hidden = like.kept.hidden; slots = like.kept.slots };
      held = like.held;
    }
  where
    by : (j : ℕ) (row : ArrayRow) → slice_get tables.arrays j ≡ Some row → row.stored ≡ true
        → (j ≡ stored.array) ⊎ (j ≡ stored.array → ⊥)
        → Every IsInteger (array_in (with_array_in now stored.array new) j).values
    by j row e kept (inl same) =
        subst (λ (a : Array). Every IsInteger a.values)
        (sym (ap (array_in (with_array_in now stored.array new)) same
        ∙ index_of_found (with_array_in now stored.array new).stores stored.array new no_array
        (set_there now.stores stored.array new old there))) integers
    by j row e kept (inr ne) =
        subst (λ (a : Array). Every IsInteger a.values)
        (sym (index_is (with_array_in now stored.array new).stores j no_array
        ∙ ap (index_if no_array) (set_apart now.stores stored.array j new (λ q. ne (sym q)))
        ∙ sym (index_is now.stores j no_array))) (like.sound.elements j row e kept)
