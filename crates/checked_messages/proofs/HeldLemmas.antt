-- Values that are read and put where a processor holds places: it goes on, and holds what it held.
use Rattle.std.proofs.Common.{◌≡◌, refl, sym, ◌∙◌, ap, subst, inl, inr, ℕ, zero, suc}
use Rattle.std.proofs.Common.{true, List, [], ◌∷◌, ℤ, length, Option, Some}
use Rattle.std.specs.Prelude.{option_and_then, slice_get, slice_set}
use Rattle.std.specs.List.{AllZip}
use Rattle.std.specs.Option.{option_map}
use Rattle.zpl_region.specs.declared.regions.Region.{Region}
use Rattle.zpl_region.proofs.ListLemmas.{Among}
use Rattle.zpl_arrays.specs.Array.{Array, element, has_place, updated}
use Rattle.zpl_arrays.proofs.ArrayLemmas.{updated_is_array}
use Rattle.node_form.specs.declared.arrays.ArrayRow.{ArrayRow}
use Rattle.node_form.specs.declared.tables.Tables.{Tables}
use Rattle.grid_meaning.specs.Delivery.{Delivery, combined_into, each_word}
use Rattle.grid_meaning.specs.Place.{held_value, held_with, value_at, values_at, where_held}
use Rattle.grid_meaning.specs.Place.{with_value, with_values}
use Rattle.grid_meaning.specs.State.{ArePlaces, IsStore}
use Rattle.checked_messages.specs.Going.{HasPlacesOf}

some_is : {X : Type 0} {x y : X} → Some x ≡ Some y → x ≡ y
some_is e = cc

-- ---- arrays with the same places
pub same_places : (stores : List Array) → AllZip HasPlacesOf stores stores
same_places [] = tt
same_places (store ∷ stores) = ((refl, λ is. is), same_places stores)

pub then_places : (a b c : List Array) → AllZip HasPlacesOf a b → AllZip HasPlacesOf b c
    → AllZip HasPlacesOf a c
then_places [] [] [] one two = tt
then_places [] [] (z ∷ c) one two = absurd two
then_places [] (y ∷ b) c one two = absurd one
then_places (x ∷ a) [] c one two = absurd one
then_places (x ∷ a) (y ∷ b) [] one two = absurd two
then_places (x ∷ a) (y ∷ b) (z ∷ c) one two = (
  (two.0.0 ∙ one.0.0, λ is. two.0.1 (one.0.1 is)),
  then_places a b c one.1 two.1,
)

pub set_places : (stores : List Array) (k : ℕ) (store other : Array)
    → slice_get stores k ≡ Some store → HasPlacesOf store other
    → AllZip HasPlacesOf stores (slice_set stores k other)
set_places [] k store other there has = cc
set_places (first ∷ stores) zero store other there has =
    let same : first ≡ store = some_is there in
    (subst (λ a. HasPlacesOf a other) (sym same) has, same_places stores)
set_places (first ∷ stores) (suc k) store other there has =
    ((refl, λ is. is), set_places stores k store other there has)

-- what a processor has of arrays stays so
pub stores_kept : (code : Tables) (p : ℕ) (rows : List ArrayRow) (stores next : List Array)
    → AllZip HasPlacesOf stores next → AllZip (IsStore code p) rows stores
    → AllZip (IsStore code p) rows next
stores_kept code p [] [] [] same are = tt
stores_kept code p [] [] (y ∷ next) same are = absurd same
stores_kept code p [] (x ∷ stores) next same are = absurd are
stores_kept code p (row ∷ rows) [] next same are = absurd are
stores_kept code p (row ∷ rows) (x ∷ stores) [] same are = absurd same
stores_kept code p (row ∷ rows) (x ∷ stores) (y ∷ next) same are = (
  record {
    filled = same.0.1 are.0.filled;
    places = subst (ArePlaces code p row row.stored) (sym same.0.0) are.0.places;
  },
  stores_kept code p rows stores next same.1 are.1,
)

-- ---- a place that is held
pub record IsHeld (stores : List Array) (array : ℕ) (t : List ℤ) : Type 0 where
  pub store : Array
  pub there : slice_get stores array ≡ Some store
  pub place : has_place store.storage t ≡ true

abbrev pub AreHeld : List Array → ℕ → List (List ℤ) → Type 0
AreHeld stores array ts = (t : List ℤ) → Among ts t → IsHeld stores array t

pub held_still : (stores next : List Array) (array : ℕ) (t : List ℤ)
    → AllZip HasPlacesOf stores next
    → IsHeld stores array t → IsHeld next array t
held_still stores next array t same held =
    by stores next array same held.there
  where
    by : (stores next : List Array) (k : ℕ) → AllZip HasPlacesOf stores next
        → slice_get stores k ≡ Some held.store → IsHeld next k t
    by [] next k same there = cc
    by (x ∷ stores) [] k same there = absurd same
    by (x ∷ stores) (y ∷ next) zero same there = record {
      store = y;
      there = refl;
      place =
          subst (λ (r : Region). has_place r t ≡ true)
          (sym (same.0.0 ∙ ap (λ (a : Array). a.storage) (some_is there))) held.place;
    }
    by (x ∷ stores) (y ∷ next) (suc k) same there =
        let rest = by stores next k same.1 there in
        record { store = rest.store; there = rest.there; place = rest.place }

-- ---- what is read
pub record Reads {X : Type 0} (o : Option X) : Type 0 where
  pub value : X
  pub is : o ≡ Some value

pub record ReadsAll (many : ℕ) (o : Option (List ℤ)) : Type 0 where
  pub words : List ℤ
  pub is : o ≡ Some words
  pub long : length words ≡ many

pub value_read : (stores : List Array) (array : ℕ) (t : List ℤ) → IsHeld stores array t
    → Reads (value_at stores array t)
value_read stores array t held = record {
  value = element held.store t;
  is =
      ap (option_and_then (held_value t)) held.there
      ∙ ap (λ b. where_held b (element held.store t)) held.place;
}

pub words_read : (word : List ℤ → Option ℤ) (ts : List (List ℤ))
    → ((t : List ℤ) → Among ts t → Reads (word t)) → ReadsAll (length ts) (each_word word ts)
words_read word [] each = record { words = []; is = refl; long = refl }
words_read word (t ∷ ts) each =
    let one = each t (inl refl) in
    let rest = words_read word ts (λ u later. each u (inr later)) in
    record {
      words = one.value ∷ rest.words;
      is =
          ap (option_and_then (λ v. option_map (λ rest. v ∷ rest) (each_word word ts))) one.is
          ∙ ap (option_map (λ rest. one.value ∷ rest)) rest.is;
      long = ap suc rest.long;
    }

values_each : (stores : List Array) (array : ℕ) (ts : List (List ℤ))
    → values_at stores array ts ≡ each_word (value_at stores array) ts
values_each stores array [] = refl
values_each stores array (t ∷ ts) =
    ap (λ o. option_and_then (λ v. option_map (λ rest. v ∷ rest) o) (value_at stores array t))
    (values_each stores array ts)

pub values_read : (stores : List Array) (array : ℕ) (ts : List (List ℤ)) → AreHeld stores array ts
    → ReadsAll (length ts) (values_at stores array ts)
values_read stores array ts held =
    subst (ReadsAll (length ts)) (sym (values_each stores array ts))
    (words_read (value_at stores array) ts (λ t among. value_read stores array t (held t among)))

-- ---- what is put
pub record Puts (stores : List Array) (o : Option (List Array)) : Type 0 where
  pub next : List Array
  pub is : o ≡ Some next
  pub places : AllZip HasPlacesOf stores next

pub value_put : (stores : List Array) (array : ℕ) (t : List ℤ) (value : ℤ) → IsHeld stores array t
    → Puts stores (with_value stores array t value)
value_put stores array t value held = record {
  next = slice_set stores array (updated held.store t value);
  is =
      ap (λ o. option_map (slice_set stores array) (option_and_then
      (held_with t value) o)) held.there
      ∙ ap (λ b. option_map (slice_set stores array) (where_held b (updated held.store t value)))
      held.place;
  places =
      set_places stores array held.store (updated held.store t value) held.there
      (refl, λ is. updated_is_array held.store t value is);
}

pub values_put : (array : ℕ) (ts : List (List ℤ)) (words : List ℤ) (stores : List Array)
    → AreHeld stores array ts → Puts stores (with_values array ts words stores)
values_put array [] words stores held =
    record { next = stores; is = refl; places = same_places stores }
values_put array (t ∷ ts) [] stores held =
    record { next = stores; is = refl; places = same_places stores }
values_put array (t ∷ ts) (word ∷ words) stores held =
    let one = value_put stores array t word (held t (inl refl)) in
    let rest = values_put array ts words one.next
    (λ u later. held_still stores one.next array u one.places (held u (inr later))) in
    record {
      next = rest.next;
      is = ap (option_and_then (with_values array ts words)) one.is ∙ rest.is;
      places = then_places stores one.next rest.next one.places rest.places;
    }

pub combined_put : (d : Delivery) (ts : List (List ℤ)) (words : List ℤ) (stores : List Array)
    → AreHeld stores d.array ts → Puts stores (combined_into d ts words stores)
combined_put d [] words stores held =
    record { next = stores; is = refl; places = same_places stores }
combined_put d (t ∷ ts) [] stores held =
    record { next = stores; is = refl; places = same_places stores }
combined_put d (t ∷ ts) (word ∷ words) stores held =
    let old = value_read stores d.array t (held t (inl refl)) in
    let one = value_put stores d.array t (d.combined old.value word) (held t (inl refl)) in
    let rest = combined_put d ts words one.next
    (λ u later. held_still stores one.next d.array u one.places (held u (inr later))) in
    record {
      next = rest.next;
      is =
          ap (option_and_then (λ old. option_and_then (combined_into d ts words)
          (with_value stores d.array t (d.combined old word)))) old.is
          ∙ (ap (option_and_then (combined_into d ts words)) one.is ∙ rest.is);
      places = then_places stores one.next rest.next one.places rest.places;
    }
