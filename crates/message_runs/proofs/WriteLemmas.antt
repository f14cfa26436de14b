-- Words for some places of an array written there, or combined with what is there.
use Rattle.std.proofs.Common.{◌≡◌, ◌⊎◌, refl, sym, ◌∙◌, ap, subst, inl, inr, ℕ, Bool, true, false, cond, List, [], ◌∷◌, ℤ, filter, map, Some}
use Rattle.std.specs.Prelude.{option_and_then, slice_get, slice_set}
use Rattle.std.specs.Option.{option_map}
use Rattle.zpl_region.proofs.ListLemmas.{Among}
use Rattle.zpl_arrays.specs.Array.{Array, IsArray, element, flattened, has_place, updated}
use Rattle.zpl_arrays.proofs.ArrayLemmas.{updated_elsewhere, updated_here, updated_is_array}
use Rattle.grid_meaning.specs.Delivery.{Delivery, combined_into, replaced}
use Rattle.grid_meaning.specs.Place.{held_with, value_at, where_held, with_value, with_values}
use Rattle.row_runs.specs.Straight.{Every}
use Rattle.normal_runs.proofs.PlaceLemmas.{Apart, set_same, set_there, set_twice}
use Rattle.needs_runs.proofs.BringLemmas.{element_alike, tuple_cases, value_held}
use Rattle.needs_runs.proofs.PlaceLemmas.{held_there}

-- a function of tuples combined with what an array has there, tuple after tuple
abbrev pub written : (ℤ → ℤ → ℤ) → (List ℤ → ℤ) → List (List ℤ) → Array → Array
written combined word [] a = a
written combined word (t ∷ ts) a =
    written combined word ts (updated a t (combined (element a t) (word t)))

pub written_storage : (combined : ℤ → ℤ → ℤ) (word : List ℤ → ℤ) (ts : List (List ℤ)) (a : Array)
    → (written combined word ts a).storage ≡ a.storage
written_storage combined word [] a = refl
written_storage combined word (t ∷ ts) a =
    written_storage combined word ts (updated a t (combined (element a t) (word t)))

pub written_array : (combined : ℤ → ℤ → ℤ) (word : List ℤ → ℤ) (ts : List (List ℤ)) (a : Array)
    → IsArray a → IsArray (written combined word ts a)
written_array combined word [] a is = is
written_array combined word (t ∷ ts) a is =
    written_array combined word ts (updated a t (combined (element a t) (word t)))
    (updated_is_array a t (combined (element a t) (word t)) is)

-- ---- as rows do it
module _ (array : ℕ) where
  value_there : (stores : List Array) (a : Array) (t : List ℤ) → slice_get stores array ≡ Some a
      → has_place a.storage t ≡ true → value_at stores array t ≡ Some (element a t)
  value_there stores a t there place = value_held stores array a t there ∙ held_there t a place

  put_one : (stores : List Array) (a : Array) (t : List ℤ) (value : ℤ)
      → slice_get stores array ≡ Some a → has_place a.storage t ≡ true
      → with_value stores array t value ≡ Some (slice_set stores array (updated a t value))
  put_one stores a t value there place =
      ap (λ o. option_map (slice_set stores array) (option_and_then (held_with t value) o)) there
      ∙ ap (λ b. option_map (slice_set stores array) (where_held b (updated a t value))) place

  pub put_values : (word : List ℤ → ℤ) (ts : List (List ℤ)) (stores : List Array) (a : Array)
      → slice_get stores array ≡ Some a
      → ((t : List ℤ) → Among ts t → has_place a.storage t ≡ true)
      → with_values array ts (map word ts) stores
      ≡ Some (slice_set stores array (written replaced word ts a))
  put_values word [] stores a there places = ap Some (sym (set_same stores array a there))
  put_values word (t ∷ ts) stores a there places =
      let next = updated a t (word t) in
      ap (option_and_then (with_values array ts (map word ts)))
      (put_one stores a t (word t) there (places t (inl refl)))
      ∙ (put_values word ts (slice_set stores array next) next
      (set_there stores array next a there) (λ u later. places u (inr later))
      ∙ ap Some (set_twice stores array next (written replaced word ts next)))

pub put_combined : (d : Delivery) (word : List ℤ → ℤ) (ts : List (List ℤ)) (stores : List Array)
    (a : Array) → slice_get stores d.array ≡ Some a
    → ((t : List ℤ) → Among ts t → has_place a.storage t ≡ true)
    → combined_into d ts (map word ts) stores
    ≡ Some (slice_set stores d.array (written d.combined word ts a))
put_combined d word [] stores a there places = ap Some (sym (set_same stores d.array a there))
put_combined d word (t ∷ ts) stores a there places =
    let value = d.combined (element a t) (word t) in
    let next = updated a t value in
    ap (option_and_then (λ old. option_and_then (combined_into d ts (map word ts))
    (with_value stores d.array t (d.combined old (word t)))))
    (value_there d.array stores a t there (places t (inl refl)))
    ∙ (ap (option_and_then (combined_into d ts (map word ts)))
    (put_one d.array stores a t value there (places t (inl refl)))
    ∙ (put_combined d word ts (slice_set stores d.array next) next
    (set_there stores d.array next a there) (λ u later. places u (inr later))
    ∙ ap Some (set_twice stores d.array next (written d.combined word ts next))))

-- ---- what stands there then
-- a tuple of some whose place is that of u
pub record IsAt (flat : List ℤ → List ℤ) (ts : List (List ℤ)) (u : List ℤ) : Type 0 where
  pub t : List ℤ
  pub among : Among ts t
  pub same : flat t ≡ flat u

module _ (flat : List ℤ → List ℤ) (word : List ℤ → ℤ) (u : List ℤ) (value : ℤ) where
  -- all that is written at the place is this value; and it is written, or stands there
  pub written_is : (ts : List (List ℤ)) (a : Array) → IsArray a
      → ((t : List ℤ) → flattened a.storage.dims t ≡ flat t)
      → ((t : List ℤ) → Among ts t → has_place a.storage t ≡ true) → has_place a.storage u ≡ true
      → ((t : List ℤ) → Among ts t → flat t ≡ flat u → word t ≡ value)
      → (element a u ≡ value) ⊎ IsAt flat ts u
      → element (written replaced word ts a) u ≡ value
  written_is [] a is alike places here each (inl stands) = stands
  written_is [] a is alike places here each (inr at) = absurd at.among
  written_is (t ∷ ts) a is alike places here each given =
      written_is ts (updated a t (word t)) (updated_is_array a t (word t) is) alike
      (λ v later. places v (inr later)) here (λ v later. each v (inr later))
      (by (tuple_cases (flat t) (flat u)) given)
    where
      first : has_place a.storage t ≡ true
      first = places t (inl refl)

      by : (flat t ≡ flat u) ⊎ (flat t ≡ flat u → ⊥) → (element a u ≡ value) ⊎ IsAt flat (t ∷ ts) u
          → (element (updated a t (word t)) u ≡ value) ⊎ IsAt flat ts u
      by (inl same) given =
          inl (element_alike (updated a t (word t)) u t (updated_is_array a t (word t) is) here first
          (alike u ∙ (sym same ∙ sym (alike t)))
          ∙ (updated_here a t (word t) is first ∙ each t (inl refl) same))
      by (inr apart) (inl stands) =
          inl (updated_elsewhere a t u (word t) is first here
          (λ same. apart (sym (alike t) ∙ (sym same ∙ alike u))) ∙ stands)
      by (inr apart) (inr at) = left at.among at.same
        where
          left : Among (t ∷ ts) at.t → flat at.t ≡ flat u
              → (element (updated a t (word t)) u ≡ value) ⊎ IsAt flat ts u
          left (inl same) e = absurd (apart (ap flat same ∙ e))
          left (inr later) e = inr (record { t = at.t; among = later; same = e })

-- ---- where each place is met once
every_filter : (P : List ℤ → Type 0) (test : List ℤ → Bool) (ts : List (List ℤ)) → Every P ts
    → Every P (filter test ts)
every_filter P test [] all = tt
every_filter P test (t ∷ ts) all = by (test t) (every_filter P test ts all.1)
  where
    by : (b : Bool) → Every P (filter test ts)
        → Every P (cond b (t ∷ filter test ts) (filter test ts))
    by true rest = (all.0, rest)
    by false rest = rest

pub apart_filter : (test : List ℤ → Bool) (ts : List (List ℤ)) → Apart ts
    → Apart (filter test ts)
apart_filter test [] apart = tt
apart_filter test (t ∷ ts) apart = by (test t) (apart_filter test ts apart.1)
  where
    by : (b : Bool) → Apart (filter test ts) → Apart (cond b (t ∷ filter test ts) (filter test ts))
    by true rest = (every_filter (λ u. u ≡ t → ⊥) test ts apart.0, rest)
    by false rest = rest

every_at : (P : List ℤ → Type 0) (ts : List (List ℤ)) (u : List ℤ) → Every P ts → Among ts u → P u
every_at P [] u all among = absurd among
every_at P (t ∷ ts) u all (inl same) = subst P same all.0
every_at P (t ∷ ts) u all (inr later) = every_at P ts u all.1 later

module _ (flat : List ℤ → List ℤ) (combined : ℤ → ℤ → ℤ) (word : List ℤ → ℤ) (u : List ℤ) where
  -- nothing is written at the place
  pub written_apart : (ts : List (List ℤ)) (a : Array) → IsArray a
      → ((t : List ℤ) → flattened a.storage.dims t ≡ flat t)
      → ((t : List ℤ) → Among ts t → has_place a.storage t ≡ true) → has_place a.storage u ≡ true
      → ((t : List ℤ) → Among ts t → flat t ≡ flat u → ⊥)
      → element (written combined word ts a) u ≡ element a u
  written_apart [] a is alike places here none = refl
  written_apart (t ∷ ts) a is alike places here none =
      let value = combined (element a t) (word t) in
      written_apart ts (updated a t value) (updated_is_array a t value is) alike
      (λ v later. places v (inr later)) here (λ v later. none v (inr later))
      ∙ updated_elsewhere a t u value is (places t (inl refl)) here
      (λ same. none t (inl refl) (sym (alike t) ∙ (sym same ∙ alike u)))

  pub written_once : (ts : List (List ℤ)) (a : Array) → IsArray a
      → ((t : List ℤ) → flattened a.storage.dims t ≡ flat t)
      → ((t : List ℤ) → Among ts t → has_place a.storage t ≡ true) → has_place a.storage u ≡ true
      → Apart ts → ((t : List ℤ) → Among ts t → flat t ≡ flat u → t ≡ u) → Among ts u
      → element (written combined word ts a) u ≡ combined (element a u) (word u)
  written_once [] a is alike places here apart only among = absurd among
  written_once (t ∷ ts) a is alike places here apart only (inl same) =
      let value = combined (element a t) (word t) in
      written_apart ts (updated a t value) (updated_is_array a t value is) alike
      (λ v later. places v (inr later)) here
      (λ v later e. every_at (λ w. w ≡ t → ⊥) ts v apart.0 later (only v (inr later) e ∙ sym same))
      ∙ (ap (element (updated a t value)) (sym same)
      ∙ (updated_here a t value is (places t (inl refl))
      ∙ ap (λ v. combined (element a v) (word v)) same))
  written_once (t ∷ ts) a is alike places here apart only (inr later) =
      let value = combined (element a t) (word t) in
      written_once ts (updated a t value) (updated_is_array a t value is) alike
      (λ v among. places v (inr among)) here apart.1 (λ v among. only v (inr among)) later
      ∙ ap (λ x. combined x (word u)) (updated_elsewhere a t u value is (places t (inl refl)) here
      (λ same. every_at (λ w. w ≡ t → ⊥) ts u apart.0 later
      (sym (only t (inl refl) (sym (alike t) ∙ (sym same ∙ alike u))))))
