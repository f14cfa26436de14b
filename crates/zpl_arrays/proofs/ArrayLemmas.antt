-- Lemmas on arrays.
use Rattle.std.proofs.Common.{◌≡◌, ◌≢◌, ℕ, suc, ◌+◌, ◌*◌, ◌/◌, ◌<◌, ◌≤◌, ◌⊎◌, inl, inr, true, false, cond, All, Some, List, [], ◌∷◌, map, length, length-set, get_or, get_or-set_same, get_or-set_other, ℤ, pos, ◌+ℤ◌, ◌-ℤ◌, unsigned_abs, slice_get, refl, sym, ◌∙◌, ap, subst, arith}
use Rattle.std.specs.List.{AllZip}
use Rattle.std.specs.Option.{option_and_then, option_map}
use Rattle.std.proofs.Math.Nat.{mul-div_cancel}
use Rattle.std.proofs.lemmas.Int.{ints}
use Rattle.std.proofs.lemmas.Bool.{and_from, and_parts, cases_lt}
use Rattle.std.proofs.lemmas.List.{length-map}
use Rattle.std.proofs.lemmas.List.Elements.{All-head, All-tail}
use Rattle.std.proofs.lemmas.Option.{get_or_from_slice_get, slice_get-map, slice_get_within}
use Rattle.zpl_region.specs.declared.dims.Dim.{Dim}
use Rattle.zpl_region.specs.declared.dims.Dim.TheVariants.{Range, Flood}
use Rattle.zpl_region.specs.declared.regions.Region.{Region}
use Rattle.zpl_region.specs.Dim.{HasStep, IsCoordinate, coordinates}
use Rattle.zpl_region.specs.Ends.{coordinate_count, first_of, tuple_count}
use Rattle.zpl_region.specs.Progression.{progression}
use Rattle.zpl_region.specs.Region.{IsMember, members, tuples}
use Rattle.zpl_region.specs.Tests.{is_coordinate}
use Rattle.zpl_region.proofs.DimLemmas.{Among-coordinates}
use Rattle.zpl_region.proofs.EndLemmas.{coordinates_by_count, length-tuple_count}
use Rattle.zpl_region.proofs.LawLemmas.{members_distinct, members_iff}
use Rattle.zpl_region.proofs.ListLemmas.{Among, Contains-from_among, cons_same}
use Rattle.zpl_region.proofs.ProgressionLemmas.{place_in_progression, slice_get-progression}
use Rattle.zpl_region.proofs.TestLemmas.{is_coordinate_iff}
use Rattle.zpl_region.proofs.TupleLemmas.{joined, slice_get-tuples}
use Rattle.zpl_arrays.specs.Array.{Array, IsArray, array_of, each_has_place, element, flattened, has_place, place_among, place_along, updated}

-- ---- the place of a tuple
natural-abs : (n : ℕ) (z f : ℤ) → z ≡ f +ℤ pos n → unsigned_abs (z -ℤ f) ≡ n
natural-abs n z f e = let is : z -ℤ f ≡ pos n = omega (arith, ints) in ap unsigned_abs is

place_of_coordinate : (d : Dim) (x : ℤ) → HasStep d → IsCoordinate d x → slice_get (coordinates d) (place_along d x) ≡ Some x
place_of_coordinate (Range lo hi step align) x h is =
    let d = Range lo hi step align in
    let f = first_of d in
    let s = unsigned_abs step in
    let n = coordinate_count d in
    let list = coordinates_by_count lo hi step align h in
    let w = place_in_progression f s n x (Contains-from_among (progression f s n) x (subst (λ l. Among l x) list (Among-coordinates d x h is))) in
    let rising : 0 < s = omega (arith, ints) in
    let place : place_along d x ≡ w.0 = ap (λ k. k / s) (natural-abs (w.0 * s) x f w.2) ∙ mul-div_cancel w.0 rising in
    ap (λ l. slice_get l (place_along d x)) list
    ∙ (ap (slice_get (progression f s n)) place ∙ (slice_get-progression f s n w.0 w.1 ∙ ap Some (sym w.2)))
place_of_coordinate Flood x h is = ap Some (sym is)

pub place_of_tuple : (dims : List Dim) (t : List ℤ) → All HasStep dims → AllZip IsCoordinate dims t → slice_get (tuples (map coordinates dims)) (place_among dims t) ≡ Some t
place_of_tuple [] [] h z = refl
place_of_tuple [] (x ∷ t) h z = absurd z
place_of_tuple (d ∷ dims) [] h z = absurd z
place_of_tuple (d ∷ dims) (x ∷ t) h z =
    let rest = tuples (map coordinates dims) in
    let here = place_of_tuple dims t (All-tail HasStep d dims h) z.1 in
    let count : length rest ≡ tuple_count dims = length-tuple_count dims (All-tail HasStep d dims h) in
    ap (λ n. slice_get (tuples (map coordinates (d ∷ dims))) (place_along d x * n + place_among dims t)) (sym count)
    ∙ (slice_get-tuples (coordinates d) (map coordinates dims) (place_along d x) (place_among dims t) (slice_get_within rest (place_among dims t) t here)
    ∙ (ap (option_and_then (joined rest (place_among dims t))) (place_of_coordinate d x (All-head HasStep d dims h) z.0)
    ∙ ap (option_map (λ u. x ∷ u)) here))

-- a tuple stands at one place
pub only_place : (r : Region) (t : List ℤ) (k : ℕ) → All HasStep r.dims → slice_get (members r) k ≡ Some t → place_among r.dims t ≡ k
only_place r t k h e = by_order (cases_lt (place_among r.dims t) k) (cases_lt k (place_among r.dims t))
  where
    is_member : IsMember r t
    is_member = (members_iff r t h).0 (k, slice_get_within (members r) k t e, get_or_from_slice_get (members r) k t t e)

    at_place : slice_get (members r) (place_among r.dims t) ≡ Some t
    at_place = place_of_tuple r.dims t h is_member

    apart : (i j : ℕ) → i < j → slice_get (members r) i ≡ Some t → slice_get (members r) j ≡ Some t → ⊥
    apart i j below f g =
        members_distinct r i j t below (slice_get_within (members r) j t g) (get_or_from_slice_get (members r) i t t f ∙ sym (get_or_from_slice_get (members r) j t t g))

    by_order : (place_among r.dims t < k) ⊎ (k ≤ place_among r.dims t) → (k < place_among r.dims t) ⊎ (place_among r.dims t ≤ k) → place_among r.dims t ≡ k
    by_order (inl below) other = absurd (apart (place_among r.dims t) k below at_place e)
    by_order (inr least) (inl below) = absurd (apart k (place_among r.dims t) below e at_place)
    by_order (inr least) (inr most) = omega arith

-- ---- flood dimensions
pub place_of_member : (dims : List Dim) (t : List ℤ) → All HasStep dims → AllZip IsCoordinate dims t → each_has_place dims t ≡ true
place_of_member [] [] h z = refl
place_of_member [] (x ∷ t) h z = absurd z
place_of_member (d ∷ dims) [] h z = absurd z
place_of_member (Flood ∷ dims) (x ∷ t) h z = place_of_member dims t (All-tail HasStep Flood dims h) z.1
place_of_member (Range lo hi step align ∷ dims) (x ∷ t) h z =
    let d = Range lo hi step align in
    and_from (is_coordinate d x) (each_has_place dims t) ((is_coordinate_iff d x (All-head HasStep d dims h)).1 z.0) (place_of_member dims t (All-tail HasStep d dims h) z.1)

pub flattened_member : (dims : List Dim) (t : List ℤ) → All HasStep dims → each_has_place dims t ≡ true → AllZip IsCoordinate dims (flattened dims t)
flattened_member [] [] h e = tt
flattened_member [] (x ∷ t) h e = absurd (cc)
flattened_member (Flood ∷ dims) [] h e = absurd (cc)
flattened_member (Range lo hi step align ∷ dims) [] h e = absurd (cc)
flattened_member (Flood ∷ dims) (x ∷ t) h e = (refl, flattened_member dims t (All-tail HasStep Flood dims h) e)
flattened_member (Range lo hi step align ∷ dims) (x ∷ t) h e =
    let d = Range lo hi step align in
    let p = and_parts (is_coordinate d x) (each_has_place dims t) e in
    ((is_coordinate_iff d x (All-head HasStep d dims h)).0 p.0, flattened_member dims t (All-tail HasStep d dims h) p.1)

place-flattened : (dims : List Dim) (t : List ℤ) → place_among dims (flattened dims t) ≡ place_among dims t
place-flattened [] t = refl
place-flattened (Flood ∷ dims) [] = refl
place-flattened (Range lo hi step align ∷ dims) [] = refl
place-flattened (Flood ∷ dims) (x ∷ t) = ap (λ n. 0 * tuple_count dims + n) (place-flattened dims t)
place-flattened (Range lo hi step align ∷ dims) (x ∷ t) = ap (λ n. place_along (Range lo hi step align) x * tuple_count dims + n) (place-flattened dims t)

-- a tuple of the storage is as it is flattened
pub flattened_is : (dims : List Dim) (t : List ℤ) → AllZip IsCoordinate dims t → flattened dims t ≡ t
flattened_is [] t z = refl
flattened_is (Flood ∷ dims) [] z = absurd z
flattened_is (Range lo hi step align ∷ dims) [] z = absurd z
flattened_is (Flood ∷ dims) (x ∷ t) z = cons_same (sym z.0) (flattened_is dims t z.1)
flattened_is (Range lo hi step align ∷ dims) (x ∷ t) z = cons_same refl (flattened_is dims t z.1)

-- ---- elements
element_at : (a : Array) (t : List ℤ) → has_place a.storage t ≡ true → element a t ≡ get_or a.values (place_among a.storage.dims t) (pos 0)
element_at a t e = ap (λ b. cond b (get_or a.values (place_among a.storage.dims t) (pos 0)) (pos 0)) e

pub element_outside : (a : Array) (t : List ℤ) → has_place a.storage t ≡ false → element a t ≡ pos 0
element_outside a t e = ap (λ b. cond b (get_or a.values (place_among a.storage.dims t) (pos 0)) (pos 0)) e

pub element-array_of : (r : Region) (f : List ℤ → ℤ) (t : List ℤ) → All HasStep r.dims → has_place r t ≡ true → element (array_of r f) t ≡ f (flattened r.dims t)
element-array_of r f t h e =
    let u = flattened r.dims t in
    let place : slice_get (members r) (place_among r.dims t) ≡ Some u =
    ap (slice_get (members r)) (sym (place-flattened r.dims t)) ∙ place_of_tuple r.dims u h (flattened_member r.dims t h e) in
    element_at (array_of r f) t e
    ∙ get_or_from_slice_get (map f (members r)) (place_among r.dims t) (f u) (pos 0) (slice_get-map f (members r) (place_among r.dims t) ∙ ap (option_map f) place)

pub element_of_member : (r : Region) (f : List ℤ → ℤ) (t : List ℤ) → All HasStep r.dims → IsMember r t → element (array_of r f) t ≡ f t
element_of_member r f t h z = element-array_of r f t h (place_of_member r.dims t h z) ∙ ap f (flattened_is r.dims t z)

-- the value at the k-th tuple
pub value_at_place : (a : Array) (k : ℕ) (t : List ℤ) → IsArray a → slice_get (members a.storage) k ≡ Some t → element a t ≡ get_or a.values k (pos 0)
value_at_place a k t is e =
    let h = is.steps in
    let z = (members_iff a.storage t h).0 (k, slice_get_within (members a.storage) k t e, get_or_from_slice_get (members a.storage) k t t e) in
    element_at a t (place_of_member a.storage.dims t h z) ∙ ap (λ n. get_or a.values n (pos 0)) (only_place a.storage t k h e)

-- values that are those of a function at each place are its list
values_of : (f : List ℤ → ℤ) (ms : List (List ℤ)) (vs : List ℤ) → length vs ≡ length ms → ((k : ℕ) (t : List ℤ) → slice_get ms k ≡ Some t → f t ≡ get_or vs k (pos 0)) → vs ≡ map f ms
values_of f [] [] e each = refl
values_of f [] (v ∷ vs) e each = absurd (omega arith)
values_of f (m ∷ ms) [] e each = absurd (omega arith)
values_of f (m ∷ ms) (v ∷ vs) e each = cons_same (sym (each 0 m refl)) (values_of f ms vs (omega arith) (λ k t g. each (suc k) t g))

pub array_of-element : (a : Array) → IsArray a → a ≡ array_of a.storage (element a)
array_of-element a is =
    let made : List ℤ → Array = λ vs. record { storage = a.storage; values = vs } in
    ap made (values_of (element a) (members a.storage) a.values is.filled (λ k t e. value_at_place a k t is e))

map_agree : (f g : List ℤ → ℤ) (ms : List (List ℤ)) → ((t : List ℤ) → Among ms t → f t ≡ g t) → map f ms ≡ map g ms
map_agree f g [] same = refl
map_agree f g (m ∷ ms) same = cons_same (same m (inl refl)) (map_agree f g ms (λ t k. same t (inr k)))

pub same_elements : (a b : Array) → IsArray a → IsArray b → a.storage ≡ b.storage → ((t : List ℤ) → IsMember a.storage t → element a t ≡ element b t) → a ≡ b
same_elements a b is also same each =
    let values : map (element a) (members a.storage) ≡ map (element b) (members a.storage) =
    map_agree (element a) (element b) (members a.storage) (λ t m. each t ((members_iff a.storage t is.steps).0 (Contains-from_among (members a.storage) t m))) in
    let made : List ℤ → Array = λ vs. record { storage = a.storage; values = vs } in
    array_of-element a is ∙ (ap made values ∙ (ap (λ r. array_of r (element b)) same ∙ sym (array_of-element b also)))

pub array_of_is_array : (r : Region) (f : List ℤ → ℤ) → All HasStep r.dims → IsArray (array_of r f)
array_of_is_array r f h = record { filled = length-map (members r) f; steps = h }

-- ---- one value more
pub updated_is_array : (a : Array) (t : List ℤ) (value : ℤ) → IsArray a → IsArray (updated a t value)
updated_is_array a t value is = record { filled = length-set a.values (place_among a.storage.dims t) value ∙ is.filled; steps = is.steps }

place_below : (a : Array) (t : List ℤ) → IsArray a → has_place a.storage t ≡ true → place_among a.storage.dims t < length a.values
place_below a t is e =
    let u = flattened a.storage.dims t in
    let place = place_of_tuple a.storage.dims u is.steps (flattened_member a.storage.dims t is.steps e) in
    let below = slice_get_within (members a.storage) (place_among a.storage.dims u) u place in
    omega (arith, below, is.filled, place-flattened a.storage.dims t)

pub updated_here : (a : Array) (t : List ℤ) (value : ℤ) → IsArray a → has_place a.storage t ≡ true → element (updated a t value) t ≡ value
updated_here a t value is e =
    element_at (updated a t value) t e ∙ get_or-set_same a.values (place_among a.storage.dims t) value (pos 0) (place_below a t is e)

pub updated_elsewhere : (a : Array) (t u : List ℤ) (value : ℤ) → IsArray a → has_place a.storage t ≡ true → has_place a.storage u ≡ true
    → flattened a.storage.dims u ≢ flattened a.storage.dims t → element (updated a t value) u ≡ element a u
updated_elsewhere a t u value is e f other =
    element_at (updated a t value) u f
    ∙ (get_or-set_other a.values (place_among a.storage.dims t) (place_among a.storage.dims u) value (pos 0) apart ∙ sym (element_at a u f))
  where
    some_equal : {x y : List ℤ} → Some x ≡ Some y → x ≡ y
    some_equal e = cc

    stands : (v : List ℤ) → has_place a.storage v ≡ true → slice_get (members a.storage) (place_among a.storage.dims v) ≡ Some (flattened a.storage.dims v)
    stands v g =
        ap (slice_get (members a.storage)) (sym (place-flattened a.storage.dims v))
        ∙ place_of_tuple a.storage.dims (flattened a.storage.dims v) is.steps (flattened_member a.storage.dims v is.steps g)

    apart : place_among a.storage.dims u ≢ place_among a.storage.dims t
    apart same = other (some_equal (sym (stands u f) ∙ (ap (slice_get (members a.storage)) same ∙ stands t e)))
