-- A row changes what it writes alone.
use Rattle.std.proofs.Common.{◌≡◌, refl, sym, ◌∙◌, ap, subst, ℕ, zero, suc, List, [], ◌∷◌, Option}
use Rattle.std.proofs.Common.{ℤ}
use Rattle.std.specs.Prelude.{slice_get, slice_set}
use Rattle.code_parts.specs.of_zpl_nums.declared.folds.Fold.{Fold}
use Rattle.code_parts.specs.of_zpl_region.declared.regions.Region.{Region}
use Rattle.code_parts.specs.of_zpl_arrays.Array.{Array, updated}
use Rattle.grid_meaning.specs.of_node_form.declared.tables.Tables.{Tables}
use Rattle.grid_meaning.specs.of_node_form.declared.touches.Thing.{Thing}
use Rattle.grid_meaning.specs.of_node_form.declared.touches.Thing.TheVariants as thing
use Rattle.grid_meaning.specs.of_node_form.Touch.{IsWritten}
use Rattle.grid_meaning.specs.Room.{zeros_at}
use Rattle.flat_form.specs.Touches.{HaveSame, ChangeWritten}
use Rattle.flat_form.specs.Whole.{Whole, with_store}
use Rattle.flat_form.proofs.StepLemmas.{EffectOnly, Respects, act_change, next_state}

-- ---- a list with a value set at one place
set_other : {X : Type 0} (xs : List X) (i j : ℕ) (v : X) → (j ≡ i → ⊥) → slice_get xs j
    ≡ slice_get (slice_set xs i v) j
set_other [] i j v apart = refl
set_other (x ∷ xs) zero zero v apart = absurd (apart refl)
set_other (x ∷ xs) zero (suc j) v apart = refl
set_other (x ∷ xs) (suc i) zero v apart = refl
set_other (x ∷ xs) (suc i) (suc j) v apart = set_other xs i j v (λ e. apart (ap suc e))

module _ (tables : Tables) (W : Thing → Type 0) where
  abbrev Only : Whole → Whole → Type 0
  Only whole next = (it : Thing) → (W it → ⊥) → HaveSame tables tables whole next it

  nothing : (whole : Whole) → Only whole whole
  nothing whole (thing.Scalar k) free = (refl, refl)
  nothing whole (thing.Slot k) free = (refl, refl)
  nothing whole (thing.Array k) free = (refl, refl)

  one_more : (a b c : Whole) → Only a b → Only b c → Only a c
  one_more a b c first second (thing.Scalar k) free = (
    (first (thing.Scalar k) free).0 ∙ (second (thing.Scalar k) free).0,
    (first (thing.Scalar k) free).1 ∙ (second (thing.Scalar k) free).1,
  )
  one_more a b c first second (thing.Slot k) free = (
    (first (thing.Slot k) free).0 ∙ (second (thing.Slot k) free).0,
    (first (thing.Slot k) free).1
        ∙ (second (thing.Slot k) free).1,
  )
  one_more a b c first second (thing.Array k) free = (
    (first (thing.Array k) free).0 ∙ (second (thing.Array k) free).0,
    (first (thing.Array k) free).1 ∙ (second (thing.Array k) free).1,
  )

  set_scalar : (whole : Whole) (k : ℕ) (v : ℤ) → W (thing.Scalar k)
      → Only whole (record whole { scalars = slice_set whole.scalars k v })
  set_scalar whole k v is (thing.Scalar j) free =
      (set_other whole.scalars k j v (λ e. free (subst (λ i. W (thing.Scalar i)) (sym e) is)), refl)
  set_scalar whole k v is (thing.Slot j) free = (refl, refl)
  set_scalar whole k v is (thing.Array j) free = (refl, refl)

  set_awaited : (whole : Whole) (k : ℕ) (v : Option Fold) → W (thing.Scalar k)
      → Only whole (record whole { awaited = slice_set whole.awaited k v })
  set_awaited whole k v is (thing.Scalar j) free =
      (refl, set_other whole.awaited k j v (λ e. free (subst (λ i. W (thing.Scalar i)) (sym e) is)))
  set_awaited whole k v is (thing.Slot j) free = (refl, refl)
  set_awaited whole k v is (thing.Array j) free = (refl, refl)

  set_slot : (whole : Whole) (k : ℕ) (v : Region) → W (thing.Slot k)
      → Only whole (record whole { slots = slice_set whole.slots k v })
  set_slot whole k v is (thing.Scalar j) free = (refl, refl)
  set_slot whole k v is (thing.Slot j) free =
      (refl, set_other whole.slots k j v (λ e. free (subst (λ i. W (thing.Slot i)) (sym e) is)))
  set_slot whole k v is (thing.Array j) free = (refl, refl)

  set_store : (whole : Whole) (k : ℕ) (v : Array) → W (thing.Array k)
      → Only whole (with_store whole k v)
  set_store whole k v is (thing.Scalar j) free = (refl, refl)
  set_store whole k v is (thing.Slot j) free = (refl, refl)
  set_store whole k v is (thing.Array j) free =
      (refl, set_other whole.stores k j v (λ e. free (subst (λ i. W (thing.Array i)) (sym e) is)))

  respects : Respects tables W Only
  respects = record {
    nothing = nothing;
    one_more = one_more;
    set_scalar = set_scalar;
    set_awaited = set_awaited;
    set_slot = set_slot;
    put = λ whole k t v store e is. set_store whole k (updated store t v) is;
    room = λ whole k row region e stored is. set_store whole k (zeros_at region) is;
    clear = λ whole k store e is. set_store whole k (zeros_at store.storage) is;
  }

pub change_written : ChangeWritten
change_written tables n row whole next bytes does =
    let keeps = respects tables (IsWritten tables row) in
    next_state tables (IsWritten tables row) (Only tables (IsWritten tables row)) keeps whole next
    bytes
    (subst (λ e. EffectOnly tables (IsWritten tables row)
    (Only tables (IsWritten tables row)) keeps whole e) does
    (act_change tables (IsWritten tables row) (Only tables (IsWritten tables row)) keeps n row whole
    (λ it is. is)))
