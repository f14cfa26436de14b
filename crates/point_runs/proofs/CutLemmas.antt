-- Arrays that are cut to a tuple, and the store of a tuple.
use Rattle.std.proofs.Common.{◌≡◌, ◌≢◌, refl, sym, ◌∙◌, ap, subst, arith, ℕ, zero, suc, ◌+◌, ◌*◌, ◌/◌, ◌≤◌, Bool, true, false}
use Rattle.std.proofs.Common.{List, [], ◌∷◌, map, ℤ, pos, ◌-ℤ◌, ◌+ℤ◌, All, Some}
use Rattle.std.specs.Prelude.{◌==◌, if◌then◌else◌, slice_get, slice_set, slice_index_or, set, unsigned_abs}
use Rattle.std.specs.List.{AllZip}
use Rattle.std.specs.Int.{int_rem_euclid}
use Rattle.std.proofs.lemmas.Int.{ints}
use Rattle.std.proofs.lemmas.Bool.Decides.{Decides-eqb}
use Rattle.std.proofs.lemmas.List.Elements.{All-cons, All-nil}
use Rattle.zpl_region.specs.Dim.{HasStep, IsCoordinate}
use Rattle.zpl_region.specs.Ends.{tuple_count}
use Rattle.zpl_region.specs.Hull.{all_from}
use Rattle.zpl_arrays.specs.Array.{Array, element, each_has_place, place_along, place_among, updated}
use Rattle.zpl_arrays.proofs.ArrayLemmas.{place_of_member}
use Rattle.zpl_meaning.specs.Store.{array_at, with_array}
use Rattle.zpl_meaning.specs.Points.{cut, at_tuple}
use Rattle.flat_form.specs.Loop.{Log, Puts}
use Rattle.flat_form.specs.Whole.{Whole}
use Rattle.array_runs.specs.of_zpl_lowering.Where.{Stored}
use Rattle.array_runs.specs.of_lowering_runs.Seen.{Spot, array_in, seen_store}
use Rattle.array_runs.specs.of_lowering_runs.Stands.{Rises, array_numbers}
use Rattle.point_runs.specs.Own.{value_behind, own_array, own_store}

-- ---- one value

steps : (t : List ℤ) → All HasStep (map (λ x. all_from x x) t)
steps [] = All-nil HasStep
steps (x ∷ t) =
    All-cons HasStep (all_from x x) (map (λ y. all_from y y) t) (omega (arith, ints)) (steps t)

inside : (t : List ℤ) → AllZip IsCoordinate (map (λ x. all_from x x) t) t
inside [] = tt
inside (x ∷ t) =
    ((omega (arith, ints), omega (arith, ints), (pos 0, omega (arith, ints))), inside t)

has_own : (t : List ℤ) → each_has_place (map (λ x. all_from x x) t) t ≡ true
has_own t = place_of_member (map (λ x. all_from x x) t) t (steps t) (inside t)

along_own : (x : ℤ) → place_along (all_from x x) x ≡ 0
along_own x =
    let none : x -ℤ x ≡ pos 0 = omega (arith, ints) in
    let same : x +ℤ pos 0 ≡ x = omega (arith, ints) in
    ap (λ (y : ℤ). unsigned_abs (x -ℤ (x +ℤ int_rem_euclid y (pos 1))) / 1) none
    ∙ ap (λ (y : ℤ). unsigned_abs (x -ℤ y) / 1) same
    ∙ ap (λ (y : ℤ). unsigned_abs y / 1) none

place_own : (t : List ℤ) → place_among (map (λ x. all_from x x) t) t ≡ 0
place_own [] = refl
place_own (x ∷ t) =
    ap (λ (k : ℕ). k * tuple_count (map (λ y. all_from y y) t)
    + place_among (map (λ y. all_from y y) t) t) (along_own x)
    ∙ none_more (tuple_count (map (λ y. all_from y y) t)) (place_among (map (λ y. all_from y y) t) t)
    ∙ place_own t
  where
    none_more : (k m : ℕ) → 0 * k + m ≡ m
    none_more k m = omega arith

abbrev pub one_value : List ℤ → Array → ℤ → Array
one_value t array value = record (cut t array) { values = value ∷ [] }

pub one_element : (t : List ℤ) (array : Array) (value : ℤ) → element (one_value t array value) t ≡ value
one_element t array value =
    ap (λ b. if b then slice_index_or (value ∷ [])
    (place_among (map (λ x. all_from x x) t) t) (pos 0) else pos 0) (has_own t)
    ∙ ap (λ (k : ℕ). slice_index_or (value ∷ []) k (pos 0)) (place_own t)

pub one_updated : (t : List ℤ) (array : Array) (old new : ℤ)
    → updated (one_value t array old) t new ≡ one_value t array new
one_updated t array old new =
    ap (λ (k : ℕ). record (cut t array) { values = set (old ∷ []) k new }) (place_own t)

-- ---- the store of a tuple

module _ (spots : List Spot) (before : Whole) (t : List ℤ) where
  each_start : (arrays : List Stored)
      → map (cut t) (map (λ (stored : Stored). array_in before stored.array) arrays)
      ≡ map (own_array spots arrays before t []) arrays
  each_start [] = refl
  each_start (stored ∷ arrays) =
      ap (λ rest. cut t (array_in before stored.array) ∷ rest) (each_start arrays)

  -- at first it is what the meaning cuts from the whole store
  pub own_start : (arrays : List Stored)
      → at_tuple t (seen_store spots arrays before) ≡ own_store spots arrays before t []
  own_start arrays =
      ap (λ (xs : List Array). record (seen_store spots arrays before) { arrays = xs })
      (each_start arrays)

  module _ (all : List Stored) where
    abbrev own : Log → Stored → Array
    own log stored = own_array spots all before t log stored

    own_at : (log : Log) (arrays : List Stored) (place : ℕ) (stored : Stored)
        → slice_get arrays place ≡ Some stored
        → (d : Array) → slice_index_or (map (own log) arrays) place d ≡ own log stored
    own_at log [] zero stored e d = cc
    own_at log [] (suc place) stored e d = cc
    own_at log (one ∷ arrays) zero stored e d =
        let same : one ≡ stored = cc in ap (own log) same
    own_at log (one ∷ arrays) (suc place) stored e d = own_at log arrays place stored e d

    choice : (k j : ℕ) (b : Bool) → (k == j) ≡ b → k ≢ j → b ≡ false
    choice k j true e ne = absurd (ne ((Decides-eqb k j).0 e))
    choice k j false e ne = refl

    -- a put of another array leaves it
    left_behind : (k j : ℕ) (value : ℤ) (log : Log) (old : ℤ) → k ≢ j
        → value_behind (Puts k value ∷ log) j old ≡ value_behind log j old
    left_behind k j value log old ne =
        ap (λ (b : Bool). if b then value else value_behind log j old) (choice k j (k == j) refl ne)

    put_behind : (k : ℕ) (value : ℤ) (log : Log) (old : ℤ)
        → value_behind (Puts k value ∷ log) k old ≡ value
    put_behind k value log old =
        ap (λ (b : Bool). if b then value else value_behind log k old) ((Decides-eqb k k).1 refl)

    own_left : (k : ℕ) (value : ℤ) (log : Log) (from : ℕ) (arrays : List Stored) (to : ℕ)
        → Rises from (array_numbers arrays) to → suc k ≤ from
        → map (own (Puts k value ∷ log)) arrays ≡ map (own log) arrays
    own_left k value log from [] to h le = refl
    own_left k value log from (one ∷ arrays) to h le =
        let apart : k ≢ one.array = (λ same. absurd (omega (arith, same, h.0, le))) in
        ap (λ (v : ℤ). one_value t (array_in before one.array) v
        ∷ map (own (Puts k value ∷ log)) arrays)
        (left_behind k one.array value log (element (array_in before one.array) t) apart)
        ∙ ap (λ rest. own log one ∷ rest)
        (own_left k value log (suc one.array) arrays to h.1 (omega (arith, h.0, le)))

    number_from : (from : ℕ) (arrays : List Stored) (to place : ℕ) (stored : Stored)
        → Rises from (array_numbers arrays) to → slice_get arrays place ≡ Some stored
        → from ≤ stored.array
    number_from from [] to zero stored h e = cc
    number_from from [] to (suc place) stored h e = cc
    number_from from (one ∷ arrays) to zero stored h e =
        let same : one ≡ stored = cc in subst (λ (s : Stored). from ≤ s.array) same h.0
    number_from from (one ∷ arrays) to (suc place) stored h e =
        let l = number_from (suc one.array) arrays to place stored h.1 e in omega (arith, l, h.0)

    own_set : (value : ℤ) (log : Log) (from : ℕ) (arrays : List Stored) (to place : ℕ)
        (stored : Stored) → Rises from (array_numbers arrays) to
        → slice_get arrays place ≡ Some stored
        → slice_set (map (own log) arrays) place (one_value t (array_in before stored.array) value)
        ≡ map (own (Puts stored.array value ∷ log)) arrays
    own_set value log from [] to zero stored h e = cc
    own_set value log from [] to (suc place) stored h e = cc
    own_set value log from (one ∷ arrays) to zero stored h e =
        let same : one ≡ stored = cc in
        let number : one.array ≡ stored.array = ap (λ (s : Stored). s.array) same in
        ap (λ (s : Stored). one_value t (array_in before s.array) value ∷ map (own log) arrays)
        (sym same)
        ∙ ap (λ rest. one_value t (array_in before one.array) value ∷ rest)
        (sym (own_left stored.array value log (suc one.array) arrays to h.1
        (omega (arith, number))))
        ∙ ap (λ (v : ℤ). one_value t (array_in before one.array) v
        ∷ map (own (Puts stored.array value ∷ log)) arrays)
        (sym (put_behind stored.array value log (element (array_in before one.array) t))
        ∙ ap (λ (k : ℕ). value_behind (Puts stored.array value ∷ log) k
        (element (array_in before one.array) t)) (sym number))
    own_set value log from (one ∷ arrays) to (suc place) stored h e =
        let l = number_from (suc one.array) arrays to place stored h.1 e in
        ap (λ rest. own log one ∷ rest) (own_set value log (suc one.array) arrays to place stored h.1 e)
        ∙ ap (λ (v : ℤ). one_value t (array_in before one.array) v
        ∷ map (own (Puts stored.array value ∷ log)) arrays)
        (sym (left_behind stored.array one.array value log (element (array_in before one.array) t)
        (λ same. absurd (omega (arith, same, l)))))

  module _ (arrays : List Stored) (place : ℕ) (stored : Stored)
      (found : slice_get arrays place ≡ Some stored) where
    -- what an array is there
    pub own_array_at : (log : Log) → array_at (own_store spots arrays before t log) place
        ≡ own_array spots arrays before t log stored
    own_array_at log = own_at arrays log arrays place stored found _

    pub own_element : (log : Log)
        → element (array_at (own_store spots arrays before t log) place) t
        ≡ value_behind log stored.array (element (array_in before stored.array) t)
    own_element log =
        ap (λ (a : Array). element a t) (own_array_at log)
        ∙ one_element t (array_in before stored.array)
        (value_behind log stored.array (element (array_in before stored.array) t))

    -- a value that is put into its array there
    pub own_put : (to : ℕ) → Rises 0 (array_numbers arrays) to → (log : Log) (value : ℤ)
        → with_array (own_store spots arrays before t log) place
        (updated (array_at (own_store spots arrays before t log) place) t value)
        ≡ own_store spots arrays before t (Puts stored.array value ∷ log)
    own_put to rises log value =
        ap (λ (a : Array). with_array (own_store spots arrays before t log) place
        (updated a t value)) (own_array_at log)
        ∙ ap (with_array (own_store spots arrays before t log) place)
        (one_updated t (array_in before stored.array)
        (value_behind log stored.array (element (array_in before stored.array) t)) value)
        ∙ ap (λ (xs : List Array). record (own_store spots arrays before t log) { arrays = xs })
        (own_set arrays value log 0 arrays to place stored rises found)
