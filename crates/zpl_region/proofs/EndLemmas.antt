-- Lemmas on how many coordinates a dimension has, and on the first and last of them.
use Rattle.std.proofs.Common.{◌≢◌, Bool, true, cond, false, ◌≡◌, ◌↔◌, ℕ, zero, suc, ◌+◌, ◌-◌, ◌*◌, ◌/◌, ◌<◌, ◌≤◌, All, List, [], ◌∷◌, map, length, ℤ, pos, negsuc, ◌+ℤ◌, ◌-ℤ◌, ◌≤ℤ◌, ◌<ℤ◌, ◌⊎◌, inl, inr, unsigned_abs, refl, sym, ◌∙◌, ap, subst, arith, Option, Some, None, slice_get}
use Rattle.std.specs.Int.{int_rem_euclid}
use Rattle.std.proofs.lemmas.Int.{ints, clamps}
use Rattle.std.specs.Prelude.{◌==◌, if◌then◌else◌}
use Rattle.std.specs.Option.{option_and_then, option_map}
use Rattle.std.proofs.lemmas.Bool.{cases_lt, eq-eqb, eqb-true}
use Rattle.std.proofs.lemmas.Bool.Decides.{nat_tests}
use Rattle.std.proofs.lemmas.Nat.{mul-le}
use Rattle.std.proofs.lemmas.List.Elements.{All-head, All-tail}
use Rattle.zpl_region.specs.declared.dims.Dim.{Dim}
use Rattle.zpl_region.specs.declared.dims.Dim.TheVariants.{Range, Flood}
use Rattle.zpl_region.specs.Dim.{coordinates, extent, HasStep}
use Rattle.zpl_region.specs.Progression.{progression, terms}
use Rattle.zpl_region.specs.declared.progressions.Progression.{Progression}
use Rattle.zpl_region.specs.declared.regions.Region.{Region}
use Rattle.zpl_region.specs.Region.{members, tuples}
use Rattle.zpl_region.specs.Ends.{coordinate_count, first_from, first_of, greatest_member, last_of, least_member, single_of, tuple_count}
use Rattle.zpl_region.proofs.ListLemmas.{Among, Contains-from_among}
use Rattle.zpl_region.proofs.DimLemmas.{Reaches, pos-extent, pos-unsigned_abs, range_coordinates, skip_from}
use Rattle.zpl_region.proofs.ProgressionLemmas.{greatest_is, length-progression, place_in_progression, slice_get-progression}
use Rattle.zpl_region.proofs.TupleLemmas.{joined, length-tuples, slice_get-tuples, slice_get-tuples_first}

pub rem_euclid-above : (z : ℤ) (s : ℕ) → 0 < s → (pos 0 ≤ℤ int_rem_euclid z (pos s)) × (int_rem_euclid z (pos s) <ℤ pos s)
rem_euclid-above (pos a) s h = (omega (arith, ints), omega (arith, ints))
rem_euclid-above (negsuc a) s h = (omega (arith, ints), omega (arith, ints))

reaches_count : (k e s : ℕ) → 0 < s → Reaches k e s (((e - k) + (s - 1)) / s)
reaches_count k e s h = by_count (((e - k) + (s - 1)) / s) refl
  where
    by_count : (n : ℕ) → n ≡ ((e - k) + (s - 1)) / s → Reaches k e s n
    by_count zero is = omega (arith, ap (λ m. s * m) is)
    by_count (suc j) is = (omega (arith, ap (λ m. s * m) is), omega (arith, ap (λ m. s * m) is))

extent_later : (lo hi f : ℤ) (k : ℕ) → f ≡ lo +ℤ pos k → extent f hi ≡ extent lo hi - k
extent_later lo hi f k e = omega (arith, ints, clamps, pos-extent lo hi, pos-extent f hi)

pub positive_left : (m n : ℕ) → 0 < m * n → 0 < m
positive_left zero n h = absurd (omega arith)
positive_left (suc m) n h = omega arith

pub positive_right : (m n : ℕ) → 0 < m * n → 0 < n
positive_right m zero h = absurd (omega arith)
positive_right m (suc n) h = omega arith

last_place : (m n l : ℕ) → l ≡ m * n → 0 < m → 0 < n → l - 1 ≡ (m - 1) * n + (n - 1)
last_place zero n l e h k = absurd (omega arith)
last_place (suc m) n l e h k = let less : suc m - 1 ≡ m = omega arith in rw less (omega arith)

-- the coordinates of a range as numbers with one step between them
pub coordinates_by_count : (lo hi step align : ℤ) → pos 1 ≤ℤ step
    → coordinates (Range lo hi step align) ≡ progression (first_from lo step align) (unsigned_abs step) (coordinate_count (Range lo hi step align))
coordinates_by_count lo hi (negsuc s) align h = absurd (omega (arith, ints))
coordinates_by_count lo hi (pos s) align h =
    let rising : 0 < s = omega (arith, ints) in
    let r = int_rem_euclid (align -ℤ lo) (pos s) in
    let k = unsigned_abs r in
    let k_is : pos k ≡ r = pos-unsigned_abs r (rem_euclid-above (align -ℤ lo) s rising).0 in
    let skip = skip_from lo align (pos s) (align -ℤ lo) (pos s) r k s h refl refl refl k_is refl in
    let first_is : first_from lo (pos s) align ≡ lo +ℤ pos k = ap (λ z. lo +ℤ z) (sym k_is) in
    sym (range_coordinates lo hi (pos s) align k s skip (first_from lo (pos s) align) (coordinate_count (Range lo hi (pos s) align)) first_is
    (subst (λ n. Reaches k (extent lo hi) s ((n + (s - 1)) / s)) (sym (extent_later lo hi (first_from lo (pos s) align) k first_is)) (reaches_count k (extent lo hi) s rising)))

pub length-coordinates : (d : Dim) → HasStep d → length (coordinates d) ≡ coordinate_count d
length-coordinates (Range lo hi step align) h =
    ap length (coordinates_by_count lo hi step align h) ∙ length-progression (first_from lo step align) (unsigned_abs step) (coordinate_count (Range lo hi step align))
length-coordinates Flood h = refl

pub length-tuple_count : (dims : List Dim) → All HasStep dims → length (tuples (map coordinates dims)) ≡ tuple_count dims
length-tuple_count [] h = refl
length-tuple_count (d ∷ dims) h =
    length-tuples (coordinates d) (map coordinates dims)
    ∙ (ap (λ n. n * length (tuples (map coordinates dims))) (length-coordinates d (All-head HasStep d dims h))
    ∙ ap (λ n. coordinate_count d * n) (length-tuple_count dims (All-tail HasStep d dims h)))

-- ---- the first and the last coordinate
pub first_coordinate : (d : Dim) → HasStep d → 0 < coordinate_count d → slice_get (coordinates d) 0 ≡ Some (first_of d)
first_coordinate (Range lo hi step align) h some =
    let n = coordinate_count (Range lo hi step align) in
    let s = unsigned_abs step in
    let here : first_from lo step align +ℤ pos (0 * s) ≡ first_from lo step align = omega (arith, ints) in
    ap (λ l. slice_get l 0) (coordinates_by_count lo hi step align h)
    ∙ (slice_get-progression (first_from lo step align) s n 0 some ∙ ap Some here)
first_coordinate Flood h some = refl

pub last_coordinate : (d : Dim) → HasStep d → 0 < coordinate_count d → slice_get (coordinates d) (length (coordinates d) - 1) ≡ Some (last_of d)
last_coordinate (Range lo hi step align) h some =
    ap (λ l. slice_get l (length l - 1)) (coordinates_by_count lo hi step align h)
    ∙ greatest_is (first_from lo step align) (unsigned_abs step) (coordinate_count (Range lo hi step align)) some
last_coordinate Flood h some = refl

-- each coordinate lies from the first to the last
pub between_ends : (d : Dim) (x : ℤ) → HasStep d → Among (coordinates d) x → (first_of d ≤ℤ x) × (x ≤ℤ last_of d)
between_ends (Range lo hi step align) x h m =
    let n = coordinate_count (Range lo hi step align) in
    let s = unsigned_abs step in
    let f = first_from lo step align in
    let list = coordinates_by_count lo hi step align h in
    let w = place_in_progression f s n x (Contains-from_among (progression f s n) x (subst (λ l. Among l x) list m)) in
    let most : w.0 * s ≤ (n - 1) * s = mul-le w.0 s (n - 1) s (omega (arith, w.1)) (omega arith) in
    (omega (arith, ints, w.2), omega (arith, ints, w.2))
between_ends Flood x h (inl e) = (omega (arith, ints), omega (arith, ints))
between_ends Flood x h (inr m) = absurd m

pub among_at : {X : Type 0} (xs : List X) (i : ℕ) (x : X) → slice_get xs i ≡ Some x → Among xs x
among_at [] i x e = absurd (cc)
among_at (y ∷ xs) zero x e = inl (cc)
among_at (y ∷ xs) (suc i) x e = inr (among_at xs i x e)

pub Among-first : (d : Dim) → HasStep d → 0 < coordinate_count d → Among (coordinates d) (first_of d)
Among-first d h some = among_at (coordinates d) 0 (first_of d) (first_coordinate d h some)

pub Among-last : (d : Dim) → HasStep d → 0 < coordinate_count d → Among (coordinates d) (last_of d)
Among-last d h some = among_at (coordinates d) (length (coordinates d) - 1) (last_of d) (last_coordinate d h some)

pub some_coordinate : (d : Dim) (x : ℤ) → HasStep d → Among (coordinates d) x → 0 < coordinate_count d
some_coordinate d x h m = let some = Contains-from_among (coordinates d) x m in omega (arith, some.1, length-coordinates d h)

-- ---- the first and the last tuple
abbrev some_if : {X : Type 0} → ℕ → X → Option X
some_if n x = if n == 0 then None else Some x

some_if_none : {X : Type 0} (n : ℕ) (x : X) → n ≡ 0 → some_if n x ≡ None
some_if_none n x e = rw (eq-eqb n 0 e) refl

some_if_some : {X : Type 0} (n : ℕ) (x : X) → 0 < n → some_if n x ≡ Some x
some_if_some n x h = let other : (n == 0) ≡ false = grind (arith, nat_tests) in rw other refl

-- a list with no element has none at any place
nothing_at : {X : Type 0} (xs : List X) (i : ℕ) → length xs ≡ 0 → slice_get xs i ≡ None
nothing_at [] i e = refl
nothing_at (x ∷ xs) i e = absurd (omega arith)

pub first_tuple : (dims : List Dim) → All HasStep dims → 0 < tuple_count dims → slice_get (tuples (map coordinates dims)) 0 ≡ Some (map first_of dims)
first_tuple [] h some = refl
first_tuple (d ∷ dims) h some =
    let here : 0 < coordinate_count d = positive_left (coordinate_count d) (tuple_count dims) some in
    let there : 0 < tuple_count dims = positive_right (coordinate_count d) (tuple_count dims) some in
    slice_get-tuples_first (coordinates d) (map coordinates dims)
    ∙ (ap (option_and_then (joined (tuples (map coordinates dims)) 0)) (first_coordinate d (All-head HasStep d dims h) here)
    ∙ ap (option_map (λ t. first_of d ∷ t)) (first_tuple dims (All-tail HasStep d dims h) there))

last_tuple : (dims : List Dim) → All HasStep dims → 0 < tuple_count dims → slice_get (tuples (map coordinates dims)) (length (tuples (map coordinates dims)) - 1) ≡ Some (map last_of dims)
last_tuple [] h some = refl
last_tuple (d ∷ dims) h some =
    let here : 0 < coordinate_count d = positive_left (coordinate_count d) (tuple_count dims) some in
    let there : 0 < tuple_count dims = positive_right (coordinate_count d) (tuple_count dims) some in
    let xs = coordinates d in
    let ms = tuples (map coordinates dims) in
    let long : length ms ≡ tuple_count dims = length-tuple_count dims (All-tail HasStep d dims h) in
    let wide : length xs ≡ coordinate_count d = length-coordinates d (All-head HasStep d dims h) in
    let place : length (tuples (xs ∷ map coordinates dims)) - 1 ≡ (length xs - 1) * length ms + (length ms - 1) =
    last_place (length xs) (length ms) _ (length-tuples xs (map coordinates dims)) (omega arith) (omega arith) in
    ap (slice_get (tuples (xs ∷ map coordinates dims))) place
    ∙ (slice_get-tuples xs (map coordinates dims) (length xs - 1) (length ms - 1) (omega arith)
    ∙ (ap (option_and_then (joined ms (length ms - 1))) (last_coordinate d (All-head HasStep d dims h) here)
    ∙ ap (option_map (λ t. last_of d ∷ t)) (last_tuple dims (All-tail HasStep d dims h) there)))

pub first_member : (r : Region) → All HasStep r.dims → slice_get (members r) 0 ≡ least_member r
first_member r h = by_count (cases_lt 0 (tuple_count r.dims))
  where
    by_count : (0 < tuple_count r.dims) ⊎ (tuple_count r.dims ≤ 0) → slice_get (members r) 0 ≡ least_member r
    by_count (inl some) = first_tuple r.dims h some ∙ sym (some_if_some (tuple_count r.dims) (map first_of r.dims) some)
    by_count (inr none) =
        nothing_at (members r) 0 (omega (arith, length-tuple_count r.dims h)) ∙ sym (some_if_none (tuple_count r.dims) (map first_of r.dims) (omega arith))

pub last_member : (r : Region) → All HasStep r.dims → slice_get (members r) (length (members r) - 1) ≡ greatest_member r
last_member r h = by_count (cases_lt 0 (tuple_count r.dims))
  where
    by_count : (0 < tuple_count r.dims) ⊎ (tuple_count r.dims ≤ 0) → slice_get (members r) (length (members r) - 1) ≡ greatest_member r
    by_count (inl some) = last_tuple r.dims h some ∙ sym (some_if_some (tuple_count r.dims) (map last_of r.dims) some)
    by_count (inr none) =
        nothing_at (members r) (length (members r) - 1) (omega (arith, length-tuple_count r.dims h)) ∙ sym (some_if_none (tuple_count r.dims) (map last_of r.dims) (omega arith))

-- ---- the single coordinate
one_term : (f : ℤ) (s n : ℕ) → n ≡ 1 → progression f s n ≡ f ∷ []
one_term f s n e = subst (λ k. progression f s k ≡ f ∷ []) (sym e) refl

first_same : {x y : ℤ} → x ∷ [] ≡ y ∷ [] → x ≡ y
first_same e = cc

pub single_iff : (d : Dim) (x : ℤ) → HasStep d → (single_of d ≡ Some x) ↔ ((d ≢ Flood) × (coordinates d ≡ x ∷ []))
single_iff Flood x h = ((λ e. absurd (cc)), (λ w. absurd (w.0 refl)))
single_iff (Range lo hi step align) x h = (there (coordinate_count (Range lo hi step align) == 1) refl, back)
  where
    d : Dim
    d = Range lo hi step align

    list : coordinates (Range lo hi step align) ≡ progression (first_from lo step align) (unsigned_abs step) (coordinate_count (Range lo hi step align))
    list = coordinates_by_count lo hi step align h

    there : (b : Bool) → (coordinate_count (Range lo hi step align) == 1) ≡ b → cond b (Some (first_from lo step align)) None ≡ Some x → (Range lo hi step align ≢ Flood) × (coordinates (Range lo hi step align) ≡ x ∷ [])
    there true one e =
        let first : first_from lo step align ≡ x = cc in
        ((λ same. absurd (cc)), list ∙ (one_term (first_from lo step align) (unsigned_abs step) (coordinate_count (Range lo hi step align)) (eqb-true (coordinate_count (Range lo hi step align)) 1 one) ∙ ap (λ y. y ∷ []) first))
    there false one e = absurd (cc)

    back : (Range lo hi step align ≢ Flood) × (coordinates (Range lo hi step align) ≡ x ∷ []) → single_of (Range lo hi step align) ≡ Some x
    back w =
        let one : coordinate_count (Range lo hi step align) ≡ 1 = sym (length-coordinates (Range lo hi step align) h) ∙ ap length w.1 in
        let first : first_from lo step align ≡ x = first_same (sym (one_term (first_from lo step align) (unsigned_abs step) (coordinate_count (Range lo hi step align)) one) ∙ (sym list ∙ w.1)) in
        ap (λ b. cond b (Some (first_from lo step align)) None) (eq-eqb (coordinate_count (Range lo hi step align)) 1 one) ∙ ap Some first

-- ---- for the code: the ends of a dimension's coordinates
some_equal : {x y : ℤ} → Some x ≡ Some y → x ≡ y
some_equal e = cc

pub record HasEnds (p : Progression) (d : Dim) : Type 0 where
  pub count : p.count ≡ coordinate_count d
  pub some : 0 < p.count
  pub first : p.first ≡ first_of d
  pub last : (p.first +ℤ pos ((p.count - 1) * p.step)) ≡ last_of d

pub count_of_terms : (p : Progression) (d : Dim) → HasStep d → terms p ≡ coordinates d → p.count ≡ coordinate_count d
count_of_terms p d h e = sym (length-progression p.first p.step p.count) ∙ (ap length e ∙ length-coordinates d h)

pub ends_of_terms : (p : Progression) (d : Dim) → HasStep d → terms p ≡ coordinates d → 0 < coordinate_count d → HasEnds p d
ends_of_terms p d h e some =
    let count = count_of_terms p d h e in
    let filled : 0 < p.count = omega arith in
    let here : p.first +ℤ pos (0 * p.step) ≡ p.first = omega (arith, ints) in
    record {
      count = count;
      some = filled;
      first = some_equal (ap Some (sym here) ∙ (sym (slice_get-progression p.first p.step p.count 0 filled) ∙ (ap (λ l. slice_get l 0) e ∙ first_coordinate d h some)));
      last = some_equal (sym (greatest_is p.first p.step p.count filled) ∙ (ap (λ l. slice_get l (length l - 1)) e ∙ last_coordinate d h some));
    }
