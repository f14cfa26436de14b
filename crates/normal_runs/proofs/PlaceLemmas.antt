-- An array over a region, with values put at the tuples of the region, one after another.
use Rattle.std.proofs.Common.{◌≡◌, refl, sym, ◌∙◌, ap, subst, arith, ℕ, zero, suc, true}
use Rattle.std.proofs.Common.{List, [], ◌∷◌, length, map, ℤ, pos, ◌+ℤ◌, All, Option, Some, None}
use Rattle.std.proofs.Common.{inl, inr}
use Rattle.std.specs.Prelude.{option_and_then, slice_get, slice_set, ⊤, IsTrue}
use Rattle.std.specs.Option.{option_map}
use Rattle.std.proofs.lemmas.Bool.{false≢true}
use Rattle.std.proofs.lemmas.Int.{ints}
use Rattle.zpl_region.specs.declared.dims.Dim.{Dim}
use Rattle.zpl_region.specs.declared.regions.Region.{Region}
use Rattle.zpl_region.specs.Dim.{HasStep, coordinates}
use Rattle.zpl_region.specs.Region.{IsMember, is_before, members}
use Rattle.zpl_region.proofs.DimLemmas.{Rises-coordinates}
use Rattle.zpl_region.proofs.LawLemmas.{members_iff}
use Rattle.zpl_region.proofs.ListLemmas.{Among, Contains-from_among, Rises}
use Rattle.zpl_region.proofs.TupleLemmas.{AllRise, IsBefore, Rises-tuples}
use Rattle.temp_norm.specs.of_zpl_arrays.Array.{Array, IsArray, element, has_place, updated}
use Rattle.temp_norm.proofs.of_zpl_arrays.ArrayLemmas.{array_of_is_array, flattened_is, place_of_member}
use Rattle.temp_norm.proofs.of_zpl_arrays.ArrayLemmas.{updated_elsewhere, updated_here, updated_is_array}
use Rattle.temp_norm.proofs.of_zpl_arrays.FoldLemmas.{not_before_itself}
use Rattle.temp_norm.specs.of_node_form.Value.{unmoved}
use Rattle.temp_norm.specs.of_row_runs.Straight.{Every}
use Rattle.temp_norm.specs.of_grid_meaning.Place.{held_value, held_with, moved_by, value_at, where_held}
use Rattle.temp_norm.specs.of_grid_meaning.Place.{with_value}
use Rattle.temp_norm.specs.of_grid_meaning.Room.{zeros_at}

-- ---- the vector that moves nothing
add_none : (x : ℤ) → x +ℤ pos 0 ≡ x
add_none x = omega (arith, ints)

pub moved_none : (t : List ℤ) → moved_by unmoved t ≡ t
moved_none [] = refl
moved_none (x ∷ []) = ap (λ a. a ∷ []) (add_none x)
moved_none (x ∷ y ∷ []) =
    ap (λ a. a ∷ (y +ℤ pos 0) ∷ []) (add_none x) ∙ ap (λ b. x ∷ b ∷ []) (add_none y)
moved_none (x ∷ y ∷ z ∷ t) =
    ap (λ a. a ∷ (y +ℤ pos 0) ∷ (z +ℤ pos 0) ∷ t) (add_none x)
    ∙ (ap (λ b. x ∷ b ∷ (z +ℤ pos 0) ∷ t) (add_none y) ∙ ap (λ c. x ∷ y ∷ c ∷ t) (add_none z))

-- ---- tuples that are apart
abbrev pub Apart : List (List ℤ) → Type 0
Apart [] = ⊤
Apart (t ∷ ts) = Every (λ u. u ≡ t → ⊥) ts × Apart ts

every_among : {X : Type 0} (P : X → Type 0) (xs : List X) → ((x : X) → Among xs x → P x)
    → Every P xs
every_among P [] all = tt
every_among P (x ∷ xs) all = (all x (inl refl), every_among P xs (λ y k. all y (inr k)))

apart_before : (t u : List ℤ) → IsTrue (is_before t u) → u ≡ t → ⊥
apart_before t u before same =
    false≢true (sym (not_before_itself t) ∙ subst (λ v. is_before t v ≡ true) same before)

rising_apart : (ts : List (List ℤ)) → Rises IsBefore ts → Apart ts
rising_apart [] rises = tt
rising_apart (t ∷ ts) rises = (
  every_among (λ u. u ≡ t → ⊥) ts (λ u k. apart_before t u (rises.0 u k)),
  rising_apart ts rises.1,
)

each_rises : (dims : List Dim) → AllRise (map coordinates dims)
each_rises [] = tt
each_rises (d ∷ dims) = (Rises-coordinates d, each_rises dims)

pub members_apart : (region : Region) → Apart (members region)
members_apart region =
    rising_apart (members region)
    (Rises-tuples (map coordinates region.dims) (each_rises region.dims))

-- ---- lists with a value set
pub set_there : {X : Type 0} (xs : List X) (k : ℕ) (x old : X) → slice_get xs k ≡ Some old
    → slice_get (slice_set xs k x) k ≡ Some x
set_there [] zero x old e = cc
set_there [] (suc k) x old e = cc
set_there (y ∷ xs) zero x old e = refl
set_there (y ∷ xs) (suc k) x old e = set_there xs k x old e

pub set_same : {X : Type 0} (xs : List X) (k : ℕ) (x : X) → slice_get xs k ≡ Some x
    → slice_set xs k x ≡ xs
set_same [] k x e = refl
set_same (y ∷ xs) zero x e = let same : y ≡ x = cc in ap (λ z. z ∷ xs) (sym same)
set_same (y ∷ xs) (suc k) x e = ap (λ ys. y ∷ ys) (set_same xs k x e)

pub set_twice : {X : Type 0} (xs : List X) (k : ℕ) (x z : X)
    → slice_set (slice_set xs k x) k z ≡ slice_set xs k z
set_twice [] k x z = refl
set_twice (y ∷ xs) zero x z = refl
set_twice (y ∷ xs) (suc k) x z = ap (λ ys. y ∷ ys) (set_twice xs k x z)

pub set_length : {X : Type 0} (xs : List X) (k : ℕ) (x : X)
    → length (slice_set xs k x) ≡ length xs
set_length [] k x = refl
set_length (y ∷ xs) zero x = refl
set_length (y ∷ xs) (suc k) x = ap suc (set_length xs k x)

pub set_apart : {X : Type 0} (xs : List X) (k j : ℕ) (x : X) → (k ≡ j → ⊥)
    → slice_get (slice_set xs k x) j ≡ slice_get xs j
set_apart [] k j x e = refl
set_apart (y ∷ xs) zero zero x e = absurd (e refl)
set_apart (y ∷ xs) zero (suc j) x e = refl
set_apart (y ∷ xs) (suc k) zero x e = refl
set_apart (y ∷ xs) (suc k) (suc j) x e = set_apart xs k j x (λ same. e (ap suc same))

-- ---- an array over a region with steps
module _ (region : Region) (steps : All HasStep region.dims) where
  abbrev pub over : List ℤ → Array
  over values = record { storage = region; values = values }

  -- the values of the array with a value put at a tuple, or with none put
  abbrev pub one_put : List ℤ → List ℤ → Option ℤ → List ℤ
  one_put values t None = values
  one_put values t (Some v) = (updated (over values) t v).values

  abbrev pub all_put : List ℤ → List (List ℤ) → List (Option ℤ) → List ℤ
  all_put values (t ∷ ts) (o ∷ os) = all_put (one_put values t o) ts os
  all_put values ts os = values

  pub one_array : (values : List ℤ) (t : List ℤ) (o : Option ℤ) → IsArray (over values)
      → IsArray (over (one_put values t o))
  one_array values t None is = is
  one_array values t (Some v) is = updated_is_array (over values) t v is

  pub has : (t : List ℤ) → IsMember region t → has_place region t ≡ true
  has t inside = place_of_member region.dims t steps inside

  -- what is put at other tuples leaves the value at one
  one_stays : (values : List ℤ) (t u : List ℤ) (o : Option ℤ) → IsArray (over values)
      → IsMember region t → IsMember region u → (t ≡ u → ⊥)
      → element (over (one_put values t o)) u ≡ element (over values) u
  one_stays values t u None is inside also apart = refl
  one_stays values t u (Some v) is inside also apart =
      updated_elsewhere (over values) t u v is (has t inside) (has u also)
      (λ same. apart (sym (sym (flattened_is region.dims u also)
      ∙ (same ∙ flattened_is region.dims t inside))))

  all_stay : (values : List ℤ) (ts : List (List ℤ)) (os : List (Option ℤ)) (u : List ℤ)
      → IsArray (over values) → Every (IsMember region) ts → IsMember region u
      → Every (λ t. t ≡ u → ⊥) ts
      → element (over (all_put values ts os)) u ≡ element (over values) u
  all_stay values [] os u is inside also apart = refl
  all_stay values (t ∷ ts) [] u is inside also apart = refl
  all_stay values (t ∷ ts) (o ∷ os) u is inside also apart =
      all_stay (one_put values t o) ts os u (one_array values t o is) inside.1 also apart.1
      ∙ one_stays values t u o is inside.0 also apart.0

  -- the values that are put are read again
  abbrev pub AreRead : List ℤ → List (List ℤ) → List (Option ℤ) → Type 0
  AreRead values (t ∷ ts) (Some v ∷ os) =
      (element (over values) t ≡ v) × AreRead values ts os
  AreRead values (t ∷ ts) (None ∷ os) = AreRead values ts os
  AreRead values [] os = ⊤
  AreRead values (t ∷ ts) [] = ⊤

  pub all_read : (values : List ℤ) (ts : List (List ℤ)) (os : List (Option ℤ))
      → IsArray (over values) → Every (IsMember region) ts → Apart ts
      → AreRead (all_put values ts os) ts os
  all_read values [] os is inside apart = tt
  all_read values (t ∷ ts) [] is inside apart = tt
  all_read values (t ∷ ts) (None ∷ os) is inside apart =
      all_read values ts os is inside.1 apart.1
  all_read values (t ∷ ts) (Some v ∷ os) is inside apart = (
    all_stay (one_put values t (Some v)) ts os t (one_array values t (Some v) is) inside.1
        inside.0 apart.0
        ∙ updated_here (over values) t v is (has t inside.0),
    all_read (one_put values t (Some v)) ts os (one_array values t (Some v) is) inside.1 apart.1,
  )

  -- ---- among the stores
  pub put_held : (stores : List Array) (k : ℕ) (values : List ℤ) (t : List ℤ) (v : ℤ)
      → slice_get stores k ≡ Some (over values) → IsMember region t
      → with_value stores k t v
      ≡ Some (slice_set stores k (over (one_put values t (Some v))))
  put_held stores k values t v there inside =
      ap (λ o. option_map (slice_set stores k) (option_and_then (held_with t v) o)) there
      ∙ ap (λ b. option_map (slice_set stores k) (where_held b (updated (over values) t v)))
      (has t inside)

  pub read_held : (stores : List Array) (k : ℕ) (values : List ℤ) (t : List ℤ)
      → slice_get stores k ≡ Some (over values) → IsMember region t
      → value_at stores k (moved_by unmoved t) ≡ Some (element (over values) t)
  read_held stores k values t there inside =
      ap (value_at stores k) (moved_none t)
      ∙ (ap (λ o. option_and_then (held_value t) o) there
      ∙ ap (λ b. where_held b (element (over values) t)) (has t inside))

  pub zeros_are : IsArray (zeros_at region)
  zeros_are = array_of_is_array region (λ t. pos 0) steps

  pub are_members : Every (IsMember region) (members region)
  are_members =
      every_among (IsMember region) (members region)
      (λ t k. (members_iff region t steps).0 (Contains-from_among (members region) t k))
