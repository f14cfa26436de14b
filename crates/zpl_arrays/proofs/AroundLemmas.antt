-- Lemmas on the copy from which a read that wraps round is made by an ordinary shift.
use Rattle.std.proofs.Common.{◌≡◌, ℕ, zero, suc, ◌+◌, ◌-◌, ◌*◌, ◌/◌, ◌%◌, ◌<◌, ◌≤◌, ◌⊎◌, inl, inr, Bool, true, false, cond, ◌&&◌, ◌||◌, All, List, [], ◌∷◌, drop, replicate, length, ℤ, pos, negsuc, ◌+ℤ◌, ◌-ℤ◌, ◌*ℤ◌, ◌≤ℤ◌, ◌<ℤ◌, unsigned_abs, refl, sym, ◌∙◌, ap, subst, arith}
use Rattle.std.specs.List.{AllZip}
use Rattle.std.specs.Int.RustNames.{int_div, int_le, int_lt}
use Rattle.std.specs.Int.{int_max, int_min, int_rem_euclid}
use Rattle.std.proofs.lemmas.Int.{ints, clamps, int_rem_euclid_is, quot-rem}
use borrow.Author.Differences.{up, down, product_is}
use Rattle.std.proofs.lemmas.Bool.{and_from, and_parts, cases_lt, eqb-true}
use Rattle.std.proofs.lemmas.Nat.{mod-mul-add}
use Rattle.std.proofs.lemmas.List.Elements.{All-cons, All-head, All-nil, All-tail}
use Rattle.zpl_nums.specs.declared.ends.Border.TheVariants.{Wrap}
use Rattle.zpl_region.specs.declared.dims.Dim.{Dim}
use Rattle.zpl_region.specs.declared.dims.Dim.TheVariants.{Range, Flood}
use Rattle.zpl_region.specs.declared.regions.Region.{Region}
use Rattle.zpl_region.specs.Dim.{HasStep, IsCoordinate, coordinate_moved, dim_moved, dim_outside_of, extent}
use Rattle.zpl_region.specs.Ends.{coordinate_count, first_of, has_none, last_of, tuple_count}
use Rattle.zpl_region.specs.Hull.{IsBoxed, all_from, dim_emptied, dim_hull_with, each_hull_with, emptied}
use Rattle.zpl_region.specs.Region.{IsMember, IsRegion, components, each, each_coordinate_moved, moved, outside_of, padding, tuple_moved}
use Rattle.zpl_region.specs.Tests.{is_dim_in_box}
use Rattle.zpl_region.proofs.DimLemmas.{Among-coordinates, pos-extent, pos-unsigned_abs}
use Rattle.zpl_region.proofs.EndLemmas.{between_ends, positive_left, positive_right}
use Rattle.zpl_region.proofs.HullLemmas.{count-all_from, ends_in_bounds, first-all_from, has_steps, hull_by, last-all_from, no_count, some_from, some_tuple}
use Rattle.zpl_region.proofs.HullWithLemmas.{with_by}
use Rattle.zpl_region.proofs.ListLemmas.{cons_same, int_lt-false, int_lt-true, le_from_test, test_from_le}
use Rattle.zpl_arrays.specs.Around.{around_source, copy_shift, copy_storage, dim_around, dim_rest, each_around, each_rest, zeros}
use Rattle.zpl_arrays.specs.AroundCopy.{around_copy, copied_from}
use Rattle.zpl_arrays.specs.Array.{Array, element}
use Rattle.zpl_arrays.specs.Border.{border_conforms, border_source, dim_border_conforms, dim_border_source, each_border_conforms, each_border_source}
use Rattle.zpl_arrays.specs.Reference.{dim_lies_in, each_lies_in, is_reference, lies_in}
use Rattle.zpl_arrays.proofs.ArrayLemmas.{element_of_member}
use Rattle.zpl_arrays.proofs.CheckLemmas.{by_ends, count-moved, first-moved, has_none-moved, last-moved, reference_of_none, same_tests}
use Rattle.zpl_arrays.proofs.ReferenceLemmas.{length-components, moved_member}
use Rattle.zpl_arrays.proofs.ScanLemmas.{as_long}
use Rattle.zpl_arrays.proofs.SourceLemmas.{by_sign, wide_enough}

-- ---- remainders
add_times : (a b : ℤ) (s : ℕ) → (a +ℤ b) *ℤ pos s ≡ (a *ℤ pos s) +ℤ (b *ℤ pos s)
add_times a b s =
    let sum : up (a +ℤ b) + down a + down b ≡ down (a +ℤ b) + up a + up b = omega (arith, ints) in
    omega (arith, ints, product_is (a +ℤ b) (pos s), product_is a (pos s), product_is b (pos s), ap (λ n. n * s) sum)

-- the remainder is the number below n that differs by a multiple of n
remainder_is : (z q : ℤ) (n r : ℕ) → r < n → z ≡ (q *ℤ pos n) +ℤ pos r → int_rem_euclid z (pos n) ≡ pos r
remainder_is z (pos a) n r h e =
    int_rem_euclid_is z (pos n) n 0 (a * n + r) (omega arith) refl (omega (arith, ints, product_is (pos a) (pos n))) ∙ ap pos (mod-mul-add a n r h)
remainder_is z (negsuc a) n r h e =
    let whole : z +ℤ pos (suc a * n) ≡ pos (0 * n + r) = omega (arith, ints, product_is (negsuc a) (pos n)) in
    int_rem_euclid_is z (pos n) n (suc a) (0 * n + r) (omega arith) refl whole ∙ ap pos (mod-mul-add 0 n r h)

pub record Parts (z : ℤ) (n : ℕ) : Type 0 where
  pub quotient : ℤ
  pub rest : ℕ
  pub below : rest < n
  pub whole : z ≡ (quotient *ℤ pos n) +ℤ pos rest

parts_of : (z : ℤ) (n : ℕ) → 0 < n → Parts z n
parts_of (pos a) n h =
    record { quotient = pos (a / n); rest = a % n; below = omega (arith, h); whole = omega (arith, ints, product_is (pos (a / n)) (pos n)) }
parts_of (negsuc a) n h =
    record { quotient = negsuc (a / n); rest = (n - 1) - a % n; below = omega (arith, h); whole = omega (arith, ints, product_is (negsuc (a / n)) (pos n)) }

same_remainder : (z q : ℤ) (n : ℕ) → 0 < n → int_rem_euclid (z +ℤ (q *ℤ pos n)) (pos n) ≡ int_rem_euclid z (pos n)
same_remainder z q n h =
    let p = parts_of z n h in
    let both : z +ℤ (q *ℤ pos n) ≡ ((p.quotient +ℤ q) *ℤ pos n) +ℤ pos p.rest = omega (arith, ints, p.whole, add_times p.quotient q n) in
    remainder_is (z +ℤ (q *ℤ pos n)) (p.quotient +ℤ q) n p.rest p.below both ∙ sym (remainder_is z p.quotient n p.rest p.below p.whole)

-- ---- one dimension
-- c differs from d by a number of extents
abbrev SameRest : ℤ → ℤ → Dim → Type 0
SameRest d c (Range lo hi step align) = (q : ℤ) × (d ≡ (q *ℤ pos (extent lo hi)) +ℤ c)
SameRest d c Flood = Unit {0}

rest_is : (d : ℤ) (dim : Dim) → SameRest d (dim_rest d dim) dim
rest_is d (Range lo hi step align) = (int_div d (pos (extent lo hi)), sym (quot-rem d (pos (extent lo hi))))
rest_is d Flood = tt

some_extent : (lo hi step align : ℤ) → IsBoxed (Range lo hi step align) → 0 < coordinate_count (Range lo hi step align) → (lo ≤ℤ hi) × (pos (extent lo hi) ≡ (hi -ℤ lo) +ℤ pos 1)
some_extent lo hi step align b some =
    let e = ends_in_bounds lo hi step align (omega (arith, ints, b.0)) some in
    (omega (arith, ints, e.0, e.1, e.2), omega (arith, ints, clamps, e.0, e.1, e.2, pos-extent lo hi))

copied_coordinate : (d c : ℤ) (dim : Dim) (x : ℤ) → IsBoxed dim → 0 < coordinate_count dim → SameRest d c dim → dim_around (pos 0) dim (coordinate_moved c dim x) ≡ dim_around d dim x
copied_coordinate d c (Range lo hi step align) x b some same =
    let n = extent lo hi in
    let wide = some_extent lo hi step align b some in
    let apart : (x +ℤ d) -ℤ lo ≡ ((((x +ℤ c) +ℤ pos 0)) -ℤ lo) +ℤ (same.0 *ℤ pos n) = omega (arith, ints, same.1) in
    ap (λ z. lo +ℤ z) (sym (ap (λ z. int_rem_euclid z (pos n)) apart ∙ same_remainder (((x +ℤ c) +ℤ pos 0) -ℤ lo) same.0 n (omega (arith, ints, wide.0, wide.1))))
copied_coordinate d c Flood x b some same = refl

still_coordinate : (dim : Dim) (x : ℤ) → IsBoxed dim → IsCoordinate dim x → dim_around (pos 0) dim x ≡ x
still_coordinate (Range lo hi step align) x b is =
    let n = extent lo hi in
    let wide : pos n ≡ (hi -ℤ lo) +ℤ pos 1 = omega (arith, ints, clamps, is.0, is.1, pos-extent lo hi) in
    let rest : pos (unsigned_abs (x -ℤ lo)) ≡ x -ℤ lo = pos-unsigned_abs (x -ℤ lo) (omega (arith, ints, is.0)) in
    let e = remainder_is ((x +ℤ pos 0) -ℤ lo) (pos 0) n (unsigned_abs (x -ℤ lo)) (omega (arith, ints, is.1, wide, rest)) (omega (arith, ints, rest)) in
    omega (arith, ints, e, rest)
still_coordinate Flood x b is = refl

-- ---- tuples
all_copied : (n rank : ℕ) (v : List ℤ) (dims : List Dim) (t : List ℤ) → drop rank dims ≡ replicate n padding → All IsBoxed dims → 0 < tuple_count dims → length v ≡ length dims → length t ≡ length dims
    → each_around (zeros (each_coordinate_moved (components rank (each_rest v dims)) dims t)) dims (each_coordinate_moved (components rank (each_rest v dims)) dims t) ≡ each_around v dims t
all_copied n rank [] [] [] e b some l m = refl
all_copied n rank [] [] (x ∷ t) e b some l m = absurd (omega arith)
all_copied n rank [] (a ∷ dims) t e b some l m = absurd (omega arith)
all_copied n rank (d ∷ v) [] t e b some l m = absurd (omega arith)
all_copied n rank (d ∷ v) (a ∷ dims) [] e b some l m = absurd (omega arith)
all_copied n (suc rank) (d ∷ v) (a ∷ dims) (x ∷ t) e b some l m =
    cons_same (copied_coordinate d (dim_rest d a) a x (All-head IsBoxed a dims b) (positive_left (coordinate_count a) (tuple_count dims) some) (rest_is d a))
    (all_copied n rank v dims t e (All-tail IsBoxed a dims b) (positive_right (coordinate_count a) (tuple_count dims) some) (omega arith) (omega arith))
all_copied zero zero (d ∷ v) (a ∷ dims) (x ∷ t) e b some l m = absurd (cc)
all_copied (suc n) zero (d ∷ v) (a ∷ dims) (x ∷ t) e b some l m =
    let same : padding ≡ a = cc in
    let further : dims ≡ replicate n padding = cc in
    let whole : d ≡ (d *ℤ pos 1) +ℤ pos 0 = omega (arith, ints) in
    cons_same (copied_coordinate d (pos 0) a x (All-head IsBoxed a dims b) (positive_left (coordinate_count a) (tuple_count dims) some) (subst (SameRest d (pos 0)) same (d, whole)))
    (all_copied n zero v dims t further (All-tail IsBoxed a dims b) (positive_right (coordinate_count a) (tuple_count dims) some) (omega arith) (omega arith))

all_still : (dims : List Dim) (t : List ℤ) → All IsBoxed dims → AllZip IsCoordinate dims t → each_around (zeros t) dims t ≡ t
all_still [] [] b z = refl
all_still [] (x ∷ t) b z = absurd z
all_still (a ∷ dims) [] b z = absurd z
all_still (a ∷ dims) (x ∷ t) b z = cons_same (still_coordinate a x (All-head IsBoxed a dims b) z.0) (all_still dims t (All-tail IsBoxed a dims b) z.1)

-- ---- the copy's storage
-- where the home box has tuples
shift_of_some : (home : Region) (d : List ℤ) → has_none home ≡ false → copy_shift home d ≡ each_rest d home.dims
shift_of_some home d some = ap (λ b. cond b (zeros d) (each_rest d home.dims)) some

abbrev storage_of : Region → List ℤ → Region
storage_of home s = record { rank = home.rank; dims = each_hull_with home.dims (moved s home).dims }

storage_of_some : (home : Region) (d : List ℤ) → has_none home ≡ false → copy_storage home d ≡ storage_of home (copy_shift home d)
storage_of_some home d some =
    let s = copy_shift home d in
    ap (λ b. with_by b (has_none home) home (moved s home)) (has_none-moved s home ∙ some) ∙ ap (λ b. with_by false b home (moved s home)) some

left_coordinate : (d : Dim) (c x : ℤ) → HasStep d → IsCoordinate d x → IsCoordinate (dim_hull_with d (dim_moved c d)) x
left_coordinate Flood c x h is = is
left_coordinate (Range lo hi step align) c x h is =
    let d = Range lo hi step align in
    let low = int_min (first_of d) (first_of (dim_moved c d)) in
    let b = between_ends d x h (Among-coordinates d x h is) in
    let whole : x -ℤ low ≡ (x -ℤ low) *ℤ pos 1 = omega (arith, ints) in
    (omega (arith, ints, clamps, b.0), omega (arith, ints, clamps, b.1), (x -ℤ low, whole))

right_coordinate : (d : Dim) (c x : ℤ) → HasStep d → IsCoordinate (dim_moved c d) x → IsCoordinate (dim_hull_with d (dim_moved c d)) x
right_coordinate Flood c x h is = is
right_coordinate (Range lo hi step align) c x h is =
    let d = Range lo hi step align in
    let low = int_min (first_of d) (first_of (dim_moved c d)) in
    let b = between_ends (dim_moved c d) x h (Among-coordinates (dim_moved c d) x h is) in
    let whole : x -ℤ low ≡ (x -ℤ low) *ℤ pos 1 = omega (arith, ints) in
    (omega (arith, ints, clamps, b.0), omega (arith, ints, clamps, b.1), (x -ℤ low, whole))

left_tuple : (v : List ℤ) (dims : List Dim) (t : List ℤ) → length v ≡ length dims → All HasStep dims → AllZip IsCoordinate dims t → AllZip IsCoordinate (each_hull_with dims (each dim_moved v dims)) t
left_tuple [] [] t l h z = z
left_tuple [] (a ∷ dims) t l h z = absurd (omega arith)
left_tuple (c ∷ v) [] t l h z = z
left_tuple (c ∷ v) (a ∷ dims) [] l h z = absurd z
left_tuple (c ∷ v) (a ∷ dims) (x ∷ t) l h z = (left_coordinate a c x (All-head HasStep a dims h) z.0, left_tuple v dims t (omega arith) (All-tail HasStep a dims h) z.1)

right_tuple : (v : List ℤ) (dims : List Dim) (t : List ℤ) → length v ≡ length dims → All HasStep dims → AllZip IsCoordinate (each dim_moved v dims) t → AllZip IsCoordinate (each_hull_with dims (each dim_moved v dims)) t
right_tuple [] [] t l h z = z
right_tuple [] (a ∷ dims) t l h z = absurd (omega arith)
right_tuple (c ∷ v) [] t l h z = z
right_tuple (c ∷ v) (a ∷ dims) [] l h z = absurd z
right_tuple (c ∷ v) (a ∷ dims) (x ∷ t) l h z = (right_coordinate a c x (All-head HasStep a dims h) z.0, right_tuple v dims t (omega arith) (All-tail HasStep a dims h) z.1)

wide_step : (d e : Dim) → HasStep (dim_hull_with d e)
wide_step Flood e = tt
wide_step (Range lo hi step align) Flood = tt
wide_step (Range lo hi step align) (Range lo' hi' step' align') = omega (arith, ints)

wide_steps : (ds es : List Dim) → All HasStep (each_hull_with ds es)
wide_steps [] es = All-nil HasStep
wide_steps (d ∷ ds) [] = All-nil HasStep
wide_steps (d ∷ ds) (e ∷ es) = All-cons HasStep (dim_hull_with d e) (each_hull_with ds es) (wide_step d e) (wide_steps ds es)

some_of_member : (home : Region) (t : List ℤ) → All HasStep home.dims → IsMember home t → has_none home ≡ false
some_of_member home t h z = no_count (tuple_count home.dims) (some_tuple home.dims t h z)

length-rest : (d : List ℤ) (dims : List Dim) → length d ≡ length dims → length (each_rest d dims) ≡ length dims
length-rest [] [] l = refl
length-rest [] (a ∷ dims) l = absurd (omega arith)
length-rest (x ∷ d) [] l = absurd (omega arith)
length-rest (x ∷ d) (a ∷ dims) l = ap suc (length-rest d dims (omega arith))

length-zeros : (d : List ℤ) → length (zeros d) ≡ length d
length-zeros [] = refl
length-zeros (x ∷ d) = ap suc (length-zeros d)

length-shift : (home : Region) (d : List ℤ) → length d ≡ length home.dims → length (copy_shift home d) ≡ length home.dims
length-shift home d l = by_count (has_none home)
  where
    by_count : (b : Bool) → length (cond b (zeros d) (each_rest d home.dims)) ≡ length home.dims
    by_count true = length-zeros d ∙ l
    by_count false = length-rest d home.dims l

-- ---- the copy's values
-- at a tuple of the copy's storage
value_of_copy : (home : Region) (a : Array) (d u : List ℤ) → has_none home ≡ false → IsMember (storage_of home (copy_shift home d)) u → element (around_copy home d a) u ≡ element a (copied_from home u)
value_of_copy home a d u some z =
    let storage = sym (storage_of_some home d some) in
    element_of_member (copy_storage home d) (λ t. element a (copied_from home t)) u
    (subst (λ (s : Region). All HasStep s.dims) storage (wide_steps home.dims (moved (copy_shift home d) home).dims)) (subst (λ s. IsMember s u) storage z)

pub read_of_copy : (home : Region) (a : Array) (d t : List ℤ) → IsRegion home → All IsBoxed home.dims → length home.dims ≡ 3 → length d ≡ 3 → IsMember home t
    → element (around_copy home d a) (tuple_moved (copy_shift home d) home t) ≡ element a (around_source home d t)
read_of_copy home a d t is b k l z =
    let h = has_steps home.dims is.dims in
    let some = some_of_member home t h z in
    let s = copy_shift home d in
    let long = length-shift home d (l ∙ sym k) in
    let there = right_tuple (components home.rank s) home.dims (tuple_moved s home t) (length-components home.rank s ∙ long) h (moved_member home s t h z) in
    let copied = all_copied (3 - home.rank) home.rank d home.dims t is.padded b (some_from home some) (l ∙ sym k) (as_long home.dims t z) in
    value_of_copy home a d (tuple_moved s home t) some there
    ∙ ap (element a) (ap (λ v. copied_from home (tuple_moved v home t)) (shift_of_some home d some) ∙ copied)

pub copy_over_home : (home : Region) (a : Array) (d t : List ℤ) → IsRegion home → All IsBoxed home.dims → length home.dims ≡ 3 → length d ≡ 3 → IsMember home t → element (around_copy home d a) t ≡ element a t
copy_over_home home a d t is b k l z =
    let h = has_steps home.dims is.dims in
    let s = copy_shift home d in
    let there = left_tuple (components home.rank s) home.dims t (length-components home.rank s ∙ length-shift home d (l ∙ sym k)) h z in
    value_of_copy home a d t (some_of_member home t h z) there ∙ ap (element a) (all_still home.dims t b z)

-- ---- what lies in the home box
boxed_is : (lo hi step align : ℤ) → IsBoxed (Range lo hi step align) → Range lo hi step align ≡ all_from lo hi
boxed_is lo hi step align b = ap (λ s. Range lo hi s align) b.0 ∙ ap (Range lo hi (pos 1)) b.1

-- f and l lie from lo to hi where they lie in the range widened by c, both unmoved and moved by c
module _ (lo hi f l c low high : ℤ) (lows : low ≡ int_min lo (lo +ℤ c)) (highs : high ≡ int_max hi (hi +ℤ c)) where
  still_in : (int_le lo f && int_le l hi) ≡ true → ((int_le low f && int_le l high) && (int_le low (f +ℤ c) && int_le (l +ℤ c) high)) ≡ true
  still_in e =
      let p = and_parts (int_le lo f) (int_le l hi) e in
      let a = le_from_test lo f p.0 in
      let b = le_from_test l hi p.1 in
      and_from (int_le low f && int_le l high) (int_le low (f +ℤ c) && int_le (l +ℤ c) high)
      (and_from (int_le low f) (int_le l high) (test_from_le low f (omega (arith, ints, clamps, a, lows, highs))) (test_from_le l high (omega (arith, ints, clamps, b, lows, highs))))
      (and_from (int_le low (f +ℤ c)) (int_le (l +ℤ c) high) (test_from_le low (f +ℤ c) (omega (arith, ints, clamps, a, lows, highs))) (test_from_le (l +ℤ c) high (omega (arith, ints, clamps, b, lows, highs))))

  both_in : ((int_le low f && int_le l high) && (int_le low (f +ℤ c) && int_le (l +ℤ c) high)) ≡ true → (int_le lo f && int_le l hi) ≡ true
  both_in e =
      let p = and_parts (int_le low f && int_le l high) (int_le low (f +ℤ c) && int_le (l +ℤ c) high) e in
      let q = and_parts (int_le low f) (int_le l high) p.0 in
      let w = and_parts (int_le low (f +ℤ c)) (int_le (l +ℤ c) high) p.1 in
      let a = le_from_test low f q.0 in
      let b = le_from_test l high q.1 in
      let g = le_from_test low (f +ℤ c) w.0 in
      let h = le_from_test (l +ℤ c) high w.1 in
      and_from (int_le lo f) (int_le l hi) (test_from_le lo f (omega (arith, ints, clamps, a, g, lows, highs))) (test_from_le l hi (omega (arith, ints, clamps, b, h, lows, highs)))

in_both : (lo hi f l c : ℤ) → (int_le lo f && int_le l hi)
    ≡ ((int_le (int_min lo (lo +ℤ c)) f && int_le l (int_max hi (hi +ℤ c))) && (int_le (int_min lo (lo +ℤ c)) (f +ℤ c) && int_le (l +ℤ c) (int_max hi (hi +ℤ c))))
in_both lo hi f l c =
    let low = int_min lo (lo +ℤ c) in
    let high = int_max hi (hi +ℤ c) in
    same_tests (int_le lo f && int_le l hi) ((int_le low f && int_le l high) && (int_le low (f +ℤ c) && int_le (l +ℤ c) high)) (still_in lo hi f l c low high refl refl) (both_in lo hi f l c low high refl refl)

-- in one dimension
abbrev InBoth : Dim → Dim → ℤ → Type 0
InBoth dim home c = dim_lies_in dim home ≡ (dim_lies_in dim (dim_hull_with home (dim_moved c home)) && dim_lies_in (dim_moved c dim) (dim_hull_with home (dim_moved c home)))

range_in_both : (from to every base lo hi c : ℤ) → 0 < coordinate_count (Range from to every base) → lo ≤ℤ hi → InBoth (Range from to every base) (all_from lo hi) c
range_in_both from to every base lo hi c some order =
    let d = Range from to every base in
    let home = all_from lo hi in
    let f = first_of d in
    let l = last_of d in
    let low : int_min (first_of home) (first_of (dim_moved c home)) ≡ int_min lo (lo +ℤ c) =
    ap (λ z. int_min z (first_of (dim_moved c home))) (first-all_from lo hi) ∙ ap (int_min lo) (first-moved c home ∙ ap (λ z. z +ℤ c) (first-all_from lo hi)) in
    let high : int_max (last_of home) (last_of (dim_moved c home)) ≡ int_max hi (hi +ℤ c) =
    ap (λ z. int_max z (last_of (dim_moved c home))) (last-all_from lo hi order) ∙ ap (int_max hi) (last-moved c home ∙ ap (λ z. z +ℤ c) (last-all_from lo hi order)) in
    let there : 0 < coordinate_count (dim_moved c d) = omega (arith, count-moved c d) in
    let unmoved : is_dim_in_box (int_min (first_of home) (first_of (dim_moved c home))) (int_max (last_of home) (last_of (dim_moved c home))) d ≡ (int_le (int_min lo (lo +ℤ c)) f && int_le l (int_max hi (hi +ℤ c))) =
    by_ends (int_min (first_of home) (first_of (dim_moved c home))) (int_max (last_of home) (last_of (dim_moved c home))) from to every base some
    ∙ (ap (λ z. int_le z f && int_le l (int_max (last_of home) (last_of (dim_moved c home)))) low ∙ ap (λ z. int_le (int_min lo (lo +ℤ c)) f && int_le l z) high) in
    let moved_too : is_dim_in_box (int_min (first_of home) (first_of (dim_moved c home))) (int_max (last_of home) (last_of (dim_moved c home))) (dim_moved c d)
    ≡ (int_le (int_min lo (lo +ℤ c)) (f +ℤ c) && int_le (l +ℤ c) (int_max hi (hi +ℤ c))) =
    by_ends (int_min (first_of home) (first_of (dim_moved c home))) (int_max (last_of home) (last_of (dim_moved c home))) (from +ℤ c) (to +ℤ c) every (base +ℤ c) there
    ∙ (ap (λ z. int_le z (first_of (dim_moved c d)) && int_le (last_of (dim_moved c d)) (int_max (last_of home) (last_of (dim_moved c home)))) low
    ∙ (ap (λ z. int_le (int_min lo (lo +ℤ c)) (first_of (dim_moved c d)) && int_le (last_of (dim_moved c d)) z) high
    ∙ (ap (λ z. int_le (int_min lo (lo +ℤ c)) z && int_le (last_of (dim_moved c d)) (int_max hi (hi +ℤ c))) (first-moved c d)
    ∙ ap (λ z. int_le (int_min lo (lo +ℤ c)) (f +ℤ c) && int_le z (int_max hi (hi +ℤ c))) (last-moved c d)))) in
    by_ends lo hi from to every base some
    ∙ (in_both lo hi f l c
    ∙ sym (ap (λ b. b && is_dim_in_box (int_min (first_of home) (first_of (dim_moved c home))) (int_max (last_of home) (last_of (dim_moved c home))) (dim_moved c d)) unmoved
    ∙ ap (λ b. (int_le (int_min lo (lo +ℤ c)) f && int_le l (int_max hi (hi +ℤ c))) && b) moved_too))

dim_in_both : (dim home : Dim) (c : ℤ) → 0 < coordinate_count dim → IsBoxed home → 0 < coordinate_count home → InBoth dim home c
dim_in_both dim Flood c some b room = refl
dim_in_both Flood (Range lo hi step align) c some b room = refl
dim_in_both (Range from to every base) (Range lo hi step align) c some b room =
    subst (λ home. InBoth (Range from to every base) home c) (sym (boxed_is lo hi step align b)) (range_in_both from to every base lo hi c some (some_extent lo hi step align b room).0)

interchanged : (a b c d : Bool) → ((a && b) && (c && d)) ≡ ((a && c) && (b && d))
interchanged true true c d = refl
interchanged true false true d = refl
interchanged true false false d = refl
interchanged false b c d = refl

dims_in_both : (v : List ℤ) (dims homes : List Dim) → length v ≡ length homes → length dims ≡ length homes → 0 < tuple_count dims → All IsBoxed homes → 0 < tuple_count homes
    → each_lies_in dims homes ≡ (each_lies_in dims (each_hull_with homes (each dim_moved v homes)) && each_lies_in (each dim_moved v dims) (each_hull_with homes (each dim_moved v homes)))
dims_in_both [] [] [] l m some b room = refl
dims_in_both [] [] (h ∷ homes) l m some b room = absurd (omega arith)
dims_in_both [] (a ∷ dims) [] l m some b room = absurd (omega arith)
dims_in_both [] (a ∷ dims) (h ∷ homes) l m some b room = absurd (omega arith)
dims_in_both (c ∷ v) [] homes l m some b room = absurd (omega arith)
dims_in_both (c ∷ v) (a ∷ dims) [] l m some b room = absurd (omega arith)
dims_in_both (c ∷ v) (a ∷ dims) (h ∷ homes) l m some b room =
    let w = dim_hull_with h (dim_moved c h) in
    let ws = each_hull_with homes (each dim_moved v homes) in
    ap (λ t. t && each_lies_in dims homes) (dim_in_both a h c (positive_left (coordinate_count a) (tuple_count dims) some) (All-head IsBoxed h homes b) (positive_left (coordinate_count h) (tuple_count homes) room))
    ∙ (ap (λ t. (dim_lies_in a w && dim_lies_in (dim_moved c a) w) && t)
    (dims_in_both v dims homes (omega arith) (omega arith) (positive_right (coordinate_count a) (tuple_count dims) some) (All-tail IsBoxed h homes b) (positive_right (coordinate_count h) (tuple_count homes) room))
    ∙ interchanged (dim_lies_in a w) (dim_lies_in (dim_moved c a) w) (each_lies_in dims ws) (each_lies_in (each dim_moved v dims) ws))

-- ---- where the home box has no tuple: nothing but a region without tuples lies in it
dim_no_room : (dim home : Dim) → HasStep dim → 0 < coordinate_count dim → IsBoxed home → coordinate_count home ≡ 0 → dim_lies_in dim home ≡ false
dim_no_room dim Flood h some b none = absurd (omega arith)
dim_no_room Flood (Range lo hi step align) h some b none = refl
dim_no_room (Range from to every base) (Range lo hi step align) h some b none =
    let d = Range from to every base in
    let ends = ends_in_bounds from to every base h some in
    let empty : hi <ℤ lo = omega (arith, ints, clamps, none, ap coordinate_count (boxed_is lo hi step align b), count-all_from lo hi, pos-extent lo hi) in
    by_ends lo hi from to every base some ∙ same_tests (int_le lo (first_of d) && int_le (last_of d) hi) false (λ e. absurd (let p = and_parts (int_le lo (first_of d)) (int_le (last_of d) hi) e in
    let a = le_from_test lo (first_of d) p.0 in let z = le_from_test (last_of d) hi p.1 in omega (arith, ints, a, z, ends.1, empty))) (λ e. absurd (cc))

no_room : (dims homes : List Dim) → length dims ≡ length homes → All HasStep dims → 0 < tuple_count dims → All IsBoxed homes → tuple_count homes ≡ 0 → each_lies_in dims homes ≡ false
no_room [] [] l h some b none = absurd (omega arith)
no_room [] (p ∷ homes) l h some b none = absurd (omega arith)
no_room (a ∷ dims) [] l h some b none = absurd (omega arith)
no_room (a ∷ dims) (p ∷ homes) l h some b none =
    by_count (cases_lt 0 (coordinate_count p)) (λ rest. no_room dims homes (omega arith) (All-tail HasStep a dims h) (positive_right (coordinate_count a) (tuple_count dims) some) (All-tail IsBoxed p homes b) rest)
  where
    and_none : (t : Bool) → (t && false) ≡ false
    and_none true = refl
    and_none false = refl

    zero_right : (m n : ℕ) → 0 < m → m * n ≡ 0 → n ≡ 0
    zero_right zero n some e = absurd (omega arith)
    zero_right (suc m) zero some e = refl
    zero_right (suc m) (suc n) some e = absurd (omega arith)

    by_count : (0 < coordinate_count p) ⊎ (coordinate_count p ≤ 0) → (tuple_count homes ≡ 0 → each_lies_in dims homes ≡ false) → (dim_lies_in a p && each_lies_in dims homes) ≡ false
    by_count (inl room) further = ap (λ t. dim_lies_in a p && t) (further (zero_right (coordinate_count p) (tuple_count homes) room none)) ∙ and_none (dim_lies_in a p)
    by_count (inr bare) further =
        ap (λ t. t && each_lies_in dims homes) (dim_no_room a p (All-head HasStep a dims h) (positive_left (coordinate_count a) (tuple_count dims) some) (All-head IsBoxed p homes b) (omega arith))

-- the home box with each range emptied has none either
emptied_boxed : (rank : ℕ) (homes : List Dim) → All IsBoxed homes → All IsBoxed (emptied rank homes)
emptied_boxed zero homes b = b
emptied_boxed (suc rank) [] b = b
emptied_boxed (suc rank) (Range lo hi step align ∷ homes) b =
    All-cons IsBoxed (dim_emptied (Range lo hi step align)) (emptied rank homes) (refl, refl) (emptied_boxed rank homes (All-tail IsBoxed (Range lo hi step align) homes b))
emptied_boxed (suc rank) (Flood ∷ homes) b = All-cons IsBoxed Flood (emptied rank homes) tt (emptied_boxed rank homes (All-tail IsBoxed Flood homes b))

emptied_none : (rank : ℕ) (homes : List Dim) → tuple_count homes ≡ 0 → tuple_count (emptied rank homes) ≡ 0
emptied_none zero homes e = e
emptied_none (suc rank) [] e = e
emptied_none (suc rank) (Range lo hi step align ∷ homes) e =
    let none : coordinate_count (all_from (pos 1) (pos 0)) ≡ 0 = refl in ap (λ n. n * tuple_count (emptied rank homes)) none ∙ omega arith
emptied_none (suc rank) (Flood ∷ homes) e = let rest = emptied_none rank homes (omega (arith, e)) in ap (λ n. 1 * n) rest

length-emptied : (rank : ℕ) (homes : List Dim) → length (emptied rank homes) ≡ length homes
length-emptied zero homes = refl
length-emptied (suc rank) [] = refl
length-emptied (suc rank) (h ∷ homes) = ap suc (length-emptied rank homes)

-- ---- a region lies in the home box where it lies in the copy's storage, unmoved and moved
pub home_by_copy : (home r : Region) (d : List ℤ) → IsRegion home → IsRegion r → All IsBoxed home.dims → r.rank ≡ home.rank → length home.dims ≡ 3 → length r.dims ≡ 3 → length d ≡ 3
    → lies_in r home ≡ (lies_in r (copy_storage home d) && is_reference (copy_shift home d) r (copy_storage home d))
home_by_copy home r d is mine b ranks k l m = by_counts (has_none r) (has_none home) refl refl
  where
    everywhere : (box : Region) → has_none r ≡ true → lies_in r box ≡ true
    everywhere box none = ap (λ t. t || each_lies_in r.dims box.dims) none

    only_each : (box : Region) → has_none r ≡ false → lies_in r box ≡ each_lies_in r.dims box.dims
    only_each box some = ap (λ t. t || each_lies_in r.dims box.dims) some

    moved_each : (v : List ℤ) (box : Region) → has_none r ≡ false → is_reference v r box ≡ each_lies_in (moved v r).dims box.dims
    moved_each v box some = ap (λ t. t || each_lies_in (moved v r).dims box.dims) (has_none-moved v r ∙ some)

    by_counts : (e f : Bool) → has_none r ≡ e → has_none home ≡ f → lies_in r home ≡ (lies_in r (copy_storage home d) && is_reference (copy_shift home d) r (copy_storage home d))
    by_counts true f none room =
        everywhere home none
        ∙ sym (ap (λ t. t && is_reference (copy_shift home d) r (copy_storage home d)) (everywhere (copy_storage home d) none) ∙ reference_of_none (copy_shift home d) r (copy_storage home d) none)
    by_counts false true some room =
        let s = copy_shift home d in
        let boxes : copy_storage home d ≡ record { rank = home.rank; dims = emptied home.rank home.dims } =
        ap (λ t. with_by t (has_none home) home (moved s home)) (has_none-moved s home ∙ room) ∙ ap (λ t. hull_by t home) room in
        let none = eqb-true (tuple_count home.dims) 0 room in
        let here = no_room r.dims home.dims (l ∙ sym k) (has_steps r.dims mine.dims) (some_from r some) b none in
        let there = no_room r.dims (emptied home.rank home.dims) (l ∙ sym (length-emptied home.rank home.dims ∙ k)) (has_steps r.dims mine.dims) (some_from r some) (emptied_boxed home.rank home.dims b) (emptied_none home.rank home.dims none) in
        let copied : lies_in r (copy_storage home d) ≡ false = ap (lies_in r) boxes ∙ (only_each (record { rank = home.rank; dims = emptied home.rank home.dims }) some ∙ there) in
        only_each home some ∙ (here ∙ sym (ap (λ t. t && is_reference s r (copy_storage home d)) copied))
    by_counts false false some room =
        let s = copy_shift home d in
        let w = storage_of home s in
        let long = length-components home.rank s ∙ length-shift home d (m ∙ sym k) in
        let both = dims_in_both (components home.rank s) r.dims home.dims long (l ∙ sym k) (some_from r some) b (some_from home room) in
        let third : is_reference s r w ≡ each_lies_in (each dim_moved (components home.rank s) r.dims) w.dims =
        moved_each s w some ∙ ap (λ n. each_lies_in (each dim_moved (components n s) r.dims) w.dims) ranks in
        only_each home some
        ∙ (both
        ∙ sym (ap (λ q. lies_in r q && is_reference s r q) (storage_of_some home d room)
        ∙ (ap (λ t. t && is_reference s r w) (only_each w some) ∙ ap (λ t. each_lies_in r.dims w.dims && t) third)))

-- ---- a wrap sets the copy's border to what the copy holds there
wrapped_coordinate : (v lo hi step align x : ℤ) → IsBoxed (Range lo hi step align) → (v ≡ pos 0) ⊎ ((pos 0 <ℤ v) ⊎ (v <ℤ pos 0)) → dim_border_conforms v (Range lo hi step align) ≡ true
    → IsCoordinate (dim_outside_of v (Range lo hi step align)) x → dim_border_source Wrap v (Range lo hi step align) x ≡ dim_around (pos 0) (Range lo hi step align) x
wrapped_coordinate v lo hi step align x b (inl same) e is =
    subst (λ c. IsCoordinate (dim_outside_of c (Range lo hi step align)) x → dim_border_source Wrap c (Range lo hi step align) x ≡ dim_around (pos 0) (Range lo hi step align) x) (sym same)
    (λ at. sym (still_coordinate (Range lo hi step align) x b at)) is
wrapped_coordinate v lo hi step align x b (inr (inl above)) e is =
    let n = extent lo hi in
    let up : int_lt (pos 0) v ≡ true = int_lt-true (pos 0) v above in
    let at = rw up at is in
    let size = wide_enough v lo hi step align e (λ z. omega (arith, ints, above, z)) in
    let wide : pos n ≡ (hi -ℤ lo) +ℤ pos 1 = omega (arith, ints, clamps, above, size, pos-extent lo hi) in
    let rest : pos (unsigned_abs ((x -ℤ lo) -ℤ pos n)) ≡ (x -ℤ lo) -ℤ pos n = pos-unsigned_abs ((x -ℤ lo) -ℤ pos n) (omega (arith, ints, at.0, wide)) in
    let r = remainder_is ((x +ℤ pos 0) -ℤ lo) (pos 1) n (unsigned_abs ((x -ℤ lo) -ℤ pos n)) (omega (arith, ints, at.1, wide, rest, size, above)) (omega (arith, ints, rest)) in
    rw up (omega (arith, ints, r, rest))
wrapped_coordinate v lo hi step align x b (inr (inr below)) e is =
    let n = extent lo hi in
    let off : int_lt (pos 0) v ≡ false = int_lt-false (pos 0) v (omega (arith, ints, below)) in
    let low : int_lt v (pos 0) ≡ true = int_lt-true v (pos 0) below in
    let at = rw (off, low) at is in
    let size = wide_enough v lo hi step align e (λ z. omega (arith, ints, below, z)) in
    let wide : pos n ≡ (hi -ℤ lo) +ℤ pos 1 = omega (arith, ints, clamps, below, size, pos-extent lo hi) in
    let rest : pos (unsigned_abs ((x -ℤ lo) +ℤ pos n)) ≡ (x -ℤ lo) +ℤ pos n = pos-unsigned_abs ((x -ℤ lo) +ℤ pos n) (omega (arith, ints, at.0, wide, size, below)) in
    let r = remainder_is ((x +ℤ pos 0) -ℤ lo) (negsuc 0) n (unsigned_abs ((x -ℤ lo) +ℤ pos n)) (omega (arith, ints, at.1, wide, rest)) (omega (arith, ints, rest)) in
    rw (off, low) (omega (arith, ints, r, rest))

wrapped_dim : (v : ℤ) (dim : Dim) (x : ℤ) → IsBoxed dim → dim_border_conforms v dim ≡ true → IsCoordinate (dim_outside_of v dim) x → dim_border_source Wrap v dim x ≡ dim_around (pos 0) dim x
wrapped_dim v Flood x b e is = refl
wrapped_dim v (Range lo hi step align) x b e is = wrapped_coordinate v lo hi step align x b (by_sign v) e is

all_wrapped : (v : List ℤ) (dims : List Dim) (t : List ℤ) → length v ≡ length dims → All IsBoxed dims → each_border_conforms v dims ≡ true → AllZip IsCoordinate (each dim_outside_of v dims) t
    → each_border_source Wrap v dims t ≡ each_around (zeros t) dims t
all_wrapped [] [] [] l b e z = refl
all_wrapped [] [] (x ∷ t) l b e z = absurd z
all_wrapped [] (a ∷ dims) t l b e z = absurd (omega arith)
all_wrapped (d ∷ v) [] t l b e z = absurd (omega arith)
all_wrapped (d ∷ v) (a ∷ dims) [] l b e z = absurd z
all_wrapped (d ∷ v) (a ∷ dims) (x ∷ t) l b e z =
    let p = and_parts (dim_border_conforms d a) (each_border_conforms v dims) e in
    cons_same (wrapped_dim d a x (All-head IsBoxed a dims b) p.0 z.0) (all_wrapped v dims t (omega arith) (All-tail IsBoxed a dims b) p.1 z.1)

pub wraps_fill_copy : (home : Region) (v t : List ℤ) → All IsBoxed home.dims → length home.dims ≡ 3 → length v ≡ 3 → border_conforms v home ≡ true → IsMember (outside_of v home) t
    → border_source Wrap home v t ≡ copied_from home t
wraps_fill_copy home v t b k l e z = all_wrapped (components home.rank v) home.dims t (length-components home.rank v ∙ (l ∙ sym k)) b e z
