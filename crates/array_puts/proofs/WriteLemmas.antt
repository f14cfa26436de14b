-- An array with values put at the tuples of a region, one after another, is the one that an
-- assignment writes.
use Rattle.std.proofs.Common.{◌≡◌, refl, sym, ◌∙◌, ap, subst, ℕ, Bool, true, false, ◌&&◌}
use Rattle.std.proofs.Common.{List, [], ◌∷◌, map, ℤ, All, Option, Some, None, inl, inr}
use Rattle.std.specs.Prelude.{option_and_then, slice_get, slice_set, if◌then◌else◌}
use Rattle.std.specs.Option.{option_map}
use Rattle.std.proofs.lemmas.Bool.{false≢true}
use Rattle.zpl_region.specs.declared.regions.Region.{Region}
use Rattle.zpl_region.specs.Dim.{HasStep}
use Rattle.zpl_region.specs.Region.{IsMember, members}
use Rattle.zpl_region.specs.Tests.{is_member}
use Rattle.zpl_region.proofs.LawLemmas.{members_iff}
use Rattle.zpl_region.proofs.ListLemmas.{Among, Contains-from_among, among_from_Contains}
use Rattle.zpl_region.proofs.TestLemmas.{is_member_iff}
use Rattle.zpl_arrays.specs.Array.{Array, IsArray, element, flattened, has_place, updated}
use Rattle.zpl_arrays.proofs.ArrayLemmas.{array_of_is_array, element_of_member, same_elements}
use Rattle.zpl_arrays.proofs.ArrayLemmas.{updated_elsewhere, updated_here, updated_is_array}
use Rattle.zpl_arrays.proofs.ArrayLemmas.{flattened_is, place_of_member}
use Rattle.zpl_meaning.specs.Statement.{written}
use Rattle.row_runs.specs.Straight.{Every}
use Rattle.normal_runs.specs.of_grid_meaning.Place.{held_with, where_held}
use Rattle.normal_runs.specs.of_flat_form.Loop as loop
use Rattle.normal_runs.specs.of_flat_form.Loop.{Puts}
use Rattle.normal_runs.specs.of_flat_form.Whole.{Whole}
use Rattle.normal_runs.proofs.PlaceLemmas.{Apart, members_apart}
use Rattle.normal_runs.proofs.PlaceLemmas.{set_same, set_there, set_twice}
use Rattle.normal_runs.proofs.PutLemmas.{puts}
use Rattle.array_puts.specs.Put.{with_array_in}

-- ---- lists

pub every_among : {X : Type 0} (P : X → Type 0) (xs : List X) → ((x : X) → Among xs x → P x)
    → Every P xs
every_among P [] all = tt
every_among P (x ∷ xs) all = (all x (inl refl), every_among P xs (λ y k. all y (inr k)))

-- ---- values put one after another

abbrev pub put_one : Array → List ℤ → Option ℤ → Array
put_one a t None = a
put_one a t (Some v) = updated a t v

abbrev pub put_all : Array → List (List ℤ) → List (Option ℤ) → Array
put_all a (t ∷ ts) (o ∷ os) = put_all (put_one a t o) ts os
put_all a ts os = a

-- ---- among the stores

abbrev Placed : Array → List (List ℤ) → Type 0
Placed a ts = Every (λ t. has_place a.storage t ≡ true) ts

written_once : (whole : Whole) (k : ℕ) (a : Array) (t : List ℤ) (v : ℤ)
    → slice_get whole.stores k ≡ Some a → has_place a.storage t ≡ true
    → loop.written t (Puts k v) whole ≡ Some (with_array_in whole k (updated a t v))
written_once whole k a t v e h =
    ap (λ o. option_map (λ stores. record whole { stores = stores })
    (option_map (slice_set whole.stores k) (option_and_then (held_with t v) o))) e
    ∙ ap (λ b. option_map (λ stores. record whole { stores = stores })
    (option_map (slice_set whole.stores k) (where_held b (updated a t v)))) h

same_stores : (whole : Whole) (k : ℕ) (a : Array) → slice_get whole.stores k ≡ Some a
    → Some whole ≡ Some (with_array_in whole k a)
same_stores whole k a e =
    ap (λ (xs : List Array). Some (record whole { stores = xs })) (sym (set_same whole.stores k a e))

pub puts_store : (k : ℕ) (a : Array) (ts : List (List ℤ)) (os : List (Option ℤ)) (whole : Whole)
    → slice_get whole.stores k ≡ Some a → Placed a ts
    → puts k ts os whole ≡ Some (with_array_in whole k (put_all a ts os))
puts_store k a [] os whole e h = same_stores whole k a e
puts_store k a (t ∷ ts) [] whole e h = same_stores whole k a e
puts_store k a (t ∷ ts) (None ∷ os) whole e h = puts_store k a ts os whole e h.1
puts_store k a (t ∷ ts) (Some v ∷ os) whole e h =
    let b = updated a t v in
    let next = with_array_in whole k b in
    ap (option_and_then (puts k ts os)) (written_once whole k a t v e h.0)
    ∙ puts_store k b ts os next (set_there whole.stores k b a e) h.1
    ∙ ap (λ (xs : List Array). Some (record whole { stores = xs }))
    (set_twice whole.stores k b (put_all b ts os))

-- ---- the elements

-- tuples that have places, each a place of its own
abbrev Flat : Array → List (List ℤ) → Type 0
Flat a ts = Every (λ t. flattened a.storage.dims t ≡ t) ts

one_array : (a : Array) (t : List ℤ) (o : Option ℤ) → IsArray a → IsArray (put_one a t o)
one_array a t None is = is
one_array a t (Some v) is = updated_is_array a t v is

one_storage : (a : Array) (t : List ℤ) (o : Option ℤ) → (put_one a t o).storage ≡ a.storage
one_storage a t None = refl
one_storage a t (Some v) = refl

pub all_array : (a : Array) (ts : List (List ℤ)) (os : List (Option ℤ)) → IsArray a
    → IsArray (put_all a ts os)
all_array a [] os is = is
all_array a (t ∷ ts) [] is = is
all_array a (t ∷ ts) (o ∷ os) is = all_array (put_one a t o) ts os (one_array a t o is)

pub all_storage : (a : Array) (ts : List (List ℤ)) (os : List (Option ℤ))
    → (put_all a ts os).storage ≡ a.storage
all_storage a [] os = refl
all_storage a (t ∷ ts) [] = refl
all_storage a (t ∷ ts) (o ∷ os) = all_storage (put_one a t o) ts os ∙ one_storage a t o

on_one : (P : Region → Type 0) (a : Array) (t : List ℤ) (o : Option ℤ) → P a.storage
    → P (put_one a t o).storage
on_one P a t o h = subst P (sym (one_storage a t o)) h

one_stays : (a : Array) (t u : List ℤ) (o : Option ℤ) → IsArray a → has_place a.storage t ≡ true
    → has_place a.storage u ≡ true → flattened a.storage.dims t ≡ t
    → flattened a.storage.dims u ≡ u → (t ≡ u → ⊥) → element (put_one a t o) u ≡ element a u
one_stays a t u None is h k f g apart = refl
one_stays a t u (Some v) is h k f g apart =
    updated_elsewhere a t u v is h k (λ same. apart (sym (sym g ∙ same ∙ f)))

module _ (f : List ℤ → Option ℤ) where
  all_stay : (a : Array) (ts : List (List ℤ)) (u : List ℤ) → IsArray a → Placed a ts → Flat a ts
      → has_place a.storage u ≡ true → flattened a.storage.dims u ≡ u
      → Every (λ t. t ≡ u → ⊥) ts → element (put_all a ts (map f ts)) u ≡ element a u
  all_stay a [] u is h g k l apart = refl
  all_stay a (t ∷ ts) u is h g k l apart =
      all_stay (put_one a t (f t)) ts u (one_array a t (f t) is)
      (on_one (λ s. Every (λ t. has_place s t ≡ true) ts) a t (f t) h.1)
      (on_one (λ s. Every (λ t. flattened s.dims t ≡ t) ts) a t (f t) g.1)
      (on_one (λ s. has_place s u ≡ true) a t (f t) k)
      (on_one (λ s. flattened s.dims u ≡ u) a t (f t) l) apart.1
      ∙ one_stays a t u (f t) is h.0 k g.0 l apart.0

  abbrev pub or_else : Option ℤ → ℤ → ℤ
  or_else None old = old
  or_else (Some v) old = v

  one_here : (a : Array) (t : List ℤ) (o : Option ℤ) → IsArray a → has_place a.storage t ≡ true
      → element (put_one a t o) t ≡ or_else o (element a t)
  one_here a t None is h = refl
  one_here a t (Some v) is h = updated_here a t v is h

  every_at : (P : List ℤ → Type 0) (ts : List (List ℤ)) (u : List ℤ) → Every P ts → Among ts u
      → P u
  every_at P [] u h k = absurd k
  every_at P (t ∷ ts) u h (inl e) = subst P e h.0
  every_at P (t ∷ ts) u h (inr k) = every_at P ts u h.1 k

  all_here : (a : Array) (ts : List (List ℤ)) (u : List ℤ) → IsArray a → Placed a ts → Flat a ts
      → Apart ts → Among ts u
      → element (put_all a ts (map f ts)) u ≡ or_else (f u) (element a u)
  all_here a [] u is h g apart k = absurd k
  all_here a (t ∷ ts) u is h g apart (inl e) =
      subst (λ (v : List ℤ). element (put_all (put_one a t (f t)) ts (map f ts)) v
      ≡ or_else (f v) (element a v)) e
      (all_stay (put_one a t (f t)) ts t (one_array a t (f t) is)
      (on_one (λ s. Every (λ t. has_place s t ≡ true) ts) a t (f t) h.1)
      (on_one (λ s. Every (λ t. flattened s.dims t ≡ t) ts) a t (f t) g.1)
      (on_one (λ s. has_place s t ≡ true) a t (f t) h.0)
      (on_one (λ s. flattened s.dims t ≡ t) a t (f t) g.0) apart.0
      ∙ one_here a t (f t) is h.0)
  all_here a (t ∷ ts) u is h g apart (inr k) =
      let b = put_one a t (f t) in
      all_here b ts u (one_array a t (f t) is)
      (on_one (λ s. Every (λ t. has_place s t ≡ true) ts) a t (f t) h.1)
      (on_one (λ s. Every (λ t. flattened s.dims t ≡ t) ts) a t (f t) g.1) apart.1 k
      ∙ ap (or_else (f u)) (one_stays a t u (f t) is h.0
      (every_at (λ t. has_place a.storage t ≡ true) ts u h.1 k) g.0
      (every_at (λ t. flattened a.storage.dims t ≡ t) ts u g.1 k)
      (λ same. every_at (λ v. v ≡ t → ⊥) ts u apart.0 k (sym same)))

-- ---- the assignment

abbrev pub value_put : Bool → ℤ → Option ℤ
value_put true v = Some v
value_put false v = None

module _ (a : Array) (region : Region) (is_in : List ℤ → Bool) (value : List ℤ → ℤ)
    (is : IsArray a) (steps : All HasStep region.dims)
    (places : (t : List ℤ) → IsMember region t → has_place a.storage t ≡ true)
    (flat : (t : List ℤ) → IsMember region t → flattened a.storage.dims t ≡ t) where
  abbrev new : List ℤ → Option ℤ
  new t = value_put (is_in t) (value t)

  abbrev ts : List (List ℤ)
  ts = members region

  abbrev pub all : Array
  all = put_all a ts (map new ts)

  among_member : (t : List ℤ) → Among ts t → IsMember region t
  among_member t k = (members_iff region t steps).0 (Contains-from_among ts t k)

  placed : Every (λ t. has_place a.storage t ≡ true) ts
  placed = every_among (λ t. has_place a.storage t ≡ true) ts (λ t k. places t (among_member t k))

  flats : Every (λ t. flattened a.storage.dims t ≡ t) ts
  flats = every_among (λ t. flattened a.storage.dims t ≡ t) ts (λ t k. flat t (among_member t k))

  chosen : (b : Bool) (v old : ℤ) → or_else new (value_put b v) old
      ≡ (if true && b then v else old)
  chosen true v old = refl
  chosen false v old = refl

  at_member : (u : List ℤ) → IsMember region u
      → element all u ≡ (if is_member region u && is_in u then value u else element a u)
  at_member u m =
      all_here new a ts u is placed flats (members_apart region)
      (among_from_Contains ts u ((members_iff region u steps).1 m))
      ∙ chosen (is_in u) (value u) (element a u)
      ∙ ap (λ b. if b && is_in u then value u else element a u)
      (sym ((is_member_iff region u steps).1 m))

  elsewhere : (u : List ℤ) → IsMember a.storage u → is_member region u ≡ false
      → element all u ≡ (if is_member region u && is_in u then value u else element a u)
  elsewhere u m e =
      all_stay new a ts u is placed flats (place_of_member a.storage.dims u is.steps m)
      (flattened_is a.storage.dims u m)
      (every_among (λ t. t ≡ u → ⊥) ts (λ t k same.
      false≢true (sym e ∙ (is_member_iff region u steps).1
      (subst (λ (v : List ℤ). IsMember region v) same (among_member t k)))))
      ∙ ap (λ b. if b && is_in u then value u else element a u) (sym e)

  pub all_written : all ≡ written a region is_in value
  all_written =
      same_elements all (written a region is_in value) (all_array a ts (map new ts) is)
      (array_of_is_array a.storage _ is.steps) (all_storage a ts (map new ts))
      (λ u m.
      let own : IsMember a.storage u =
      subst (λ (s : Region). IsMember s u) (all_storage a ts (map new ts)) m in
      by u own (is_member region u) refl ∙ sym (element_of_member a.storage _ u is.steps own))
    where
      by : (u : List ℤ) → IsMember a.storage u → (b : Bool) → is_member region u ≡ b
          → element all u ≡ (if is_member region u && is_in u then value u else element a u)
      by u own true e = at_member u ((is_member_iff region u steps).0 e)
      by u own false e = elsewhere u own e
