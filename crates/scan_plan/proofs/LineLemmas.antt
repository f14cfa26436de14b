-- Lemmas on the lines of a region, their first tuples and their numbers.
use Rattle.std.proofs.Common.{◌≡◌, ℕ, zero, suc, ◌+◌, ◌-◌, ◌*◌, ◌/◌, ◌%◌, ◌<◌, ◌≤◌, Bool, true, false, ◌&&◌, Option, Some, None, List, [], ◌∷◌, All, map, drop, replicate, length, get_or, ℤ, pos, ◌≤ℤ◌, ◌-ℤ◌, unsigned_abs, refl, sym, ◌∙◌, ap, subst, arith}
use Rattle.std.specs.Prelude.{◌==◌, if◌then◌else◌}
use Rattle.std.specs.List.{AllZip}
use Rattle.std.specs.Ordering.{int_eq}
use Rattle.std.proofs.lemmas.Bool.{and_parts}
use Rattle.std.proofs.lemmas.Bool.Decides.{Decides-int_eq, nat_tests}
use Rattle.std.proofs.lemmas.Int.{clamps, ints}
use Rattle.std.proofs.lemmas.Nat.{div-add-mod', div-mul-add, mod-mul-add, mod_below, le-div, div_below}
use Rattle.std.proofs.Math.Nat.{div-mul-le_self, mul-le-mul_right}
use Rattle.std.proofs.lemmas.List.Elements.{All-cons, All-head, All-tail}
use Rattle.std.proofs.lemmas.Option.{slice_get_within}
use Rattle.zpl_region.specs.declared.dims.Dim.{Dim}
use Rattle.zpl_region.specs.declared.dims.Dim.TheVariants.{Range, Flood}
use Rattle.zpl_region.specs.declared.regions.Region.{Region}
use Rattle.zpl_region.specs.Dim.{HasStep, IsCoordinate, IsDim, IsUpTo}
use Rattle.zpl_region.specs.Ends.{coordinate_count, first_of, least_member, tuple_count}
use Rattle.zpl_region.specs.Hull.{all_from}
use Rattle.zpl_region.specs.Region.{IsMember, IsRegion, members, padding}
use Rattle.zpl_region.proofs.DimLemmas.{Among-coordinates, among_coordinates, pos-extent}
use Rattle.zpl_region.proofs.EndLemmas.{Among-first, length-tuple_count, positive_left, positive_right, some_coordinate}
use Rattle.zpl_region.proofs.HullLemmas.{count-all_from, first-all_from, has_steps}
use Rattle.zpl_region.proofs.ListLemmas.{cons_same, int_eq-true}
use Rattle.zpl_arrays.specs.Array.{place_along, place_among}
use Rattle.zpl_arrays.specs.Scan.{is_same_tuple}
use Rattle.zpl_arrays.proofs.ArrayLemmas.{place_of_tuple}
use Rattle.region_places.proofs.PlaceLemmas.{first_is, place_below, single}
use Rattle.scan_plan.specs.Line.{changed_at, first_alone, head_of, heads, is_along, line_dim, line_number}

-- ---- numbers of lines
pub number_small : (n m i : ℕ) → 0 < n → 0 < m → i / (n * m) * m + i % m ≤ i
number_small n m i some more =
    let parts = div-add-mod' i m in
    let low : i / (n * m) * (n * m) ≤ i = div-mul-le_self i (n * m) in
    let grown : i / (n * m) * m ≤ i / (n * m) * (n * m) = wider (i / (n * m)) in
    let quotient : i / (n * m) ≤ i / m = le-div (i / (n * m)) i m more (omega (arith, low, grown)) in
    let lines : i / (n * m) * m ≤ i / m * m = mul-le-mul_right m quotient in
    omega (arith, parts, lines)
  where
    wider : (q : ℕ) → q * m ≤ q * (n * m)
    wider q =
        let one : m ≤ n * m = one_more n some in
        let flip : q * m ≡ m * q = omega arith in
        let flip' : q * (n * m) ≡ (n * m) * q = omega arith in
        omega (arith, mul-le-mul_right q one, flip, flip')
      where
        one_more : (n : ℕ) → 0 < n → m ≤ n * m
        one_more zero some = absurd (omega (arith, some))
        one_more (suc n) some = omega arith

div-more : (a m b : ℕ) → 0 < m → (a * m + b) / m ≡ a + b / m
div-more a m b some =
    let parts = div-add-mod' b m in
    let rest = mod_below b m some in
    let same : a * m + b ≡ (a + b / m) * m + b % m = omega (arith, parts) in
    ap (λ k. k / m) same ∙ div-mul-add (a + b / m) m (b % m) rest

mod-more : (a m b : ℕ) → 0 < m → (a * m + b) % m ≡ b % m
mod-more a m b some =
    let parts = div-add-mod' b m in
    let rest = mod_below b m some in
    let same : a * m + b ≡ (a + b / m) * m + b % m = omega (arith, parts) in
    ap (λ k. k % m) same ∙ mod-mul-add (a + b / m) m (b % m) rest

-- ---- how a region is cut into lines
abbrev pub along_of : ℕ → List Dim → ℕ
along_of k dims = coordinate_count (get_or dims k Flood)

abbrev pub inner_of : ℕ → List Dim → ℕ
inner_of k dims = tuple_count (drop (suc k) dims)

pub record IsCut (k : ℕ) (dims : List Dim) : Type 0 where
  pub outer : ℕ
  pub whole : tuple_count dims ≡ outer * (along_of k dims * inner_of k dims)
  pub heads_are : tuple_count (changed_at k first_alone dims) ≡ outer * inner_of k dims

count-first_alone : (d : Dim) → 0 < coordinate_count d → coordinate_count (first_alone d) ≡ 1
count-first_alone (Range lo hi step align) some =
    let f = first_of (Range lo hi step align) in
    let other : (coordinate_count (Range lo hi step align) == 0) ≡ false = grind (arith, nat_tests) in
    ap (λ b. coordinate_count (if b then Range lo hi step align else all_from f f)) other ∙ count_alone f
  where
    count_alone : (f : ℤ) → coordinate_count (all_from f f) ≡ 1
    count_alone f = let wide = pos-extent f f in omega (arith, ints, clamps, wide, count-all_from f f)
count-first_alone Flood some = refl

pub is_cut : (k : ℕ) (dims : List Dim) → k < length dims → 0 < along_of k dims → IsCut k dims
is_cut k [] h some = absurd (omega arith)
is_cut zero (d ∷ dims) h some = record {
  outer = 1;
  whole = omega arith;
  heads_are = ap (λ n. n * tuple_count dims) (count-first_alone d some);
}
is_cut (suc k) (d ∷ dims) h some =
    let c = is_cut k dims (omega arith) some in record {
      outer = coordinate_count d * c.outer;
      whole = ap (λ n. coordinate_count d * n) c.whole ∙ times_assoc (coordinate_count d) c.outer (along_of k dims * inner_of k dims);
      heads_are = ap (λ n. coordinate_count d * n) c.heads_are ∙ times_assoc (coordinate_count d) c.outer (inner_of k dims);
    }
  where
    times_assoc : (a b c : ℕ) → a * (b * c) ≡ a * b * c
    times_assoc a b c = omega arith

pub record HasLines (k : ℕ) (r : Region) : Type 0 where
  pub along : 0 < along_of k r.dims
  pub inner : 0 < inner_of k r.dims
  pub some_heads : 0 < length (members (heads k r))
  pub few : along_of k r.dims * inner_of k r.dims ≤ length (members r)
  pub count : length (members r) / along_of k r.dims ≡ length (members (heads k r))

some_along : (k : ℕ) (dims : List Dim) → k < length dims → 0 < tuple_count dims → 0 < along_of k dims
some_along k [] h some = absurd (omega arith)
some_along zero (d ∷ dims) h some = positive_left (coordinate_count d) (tuple_count dims) some
some_along (suc k) (d ∷ dims) h some = some_along k dims (omega arith) (positive_right (coordinate_count d) (tuple_count dims) some)

some_inner : (k : ℕ) (dims : List Dim) → 0 < tuple_count dims → 0 < tuple_count (drop k dims)
some_inner zero dims some = some
some_inner (suc k) [] some = some
some_inner (suc k) (d ∷ dims) some = some_inner k dims (positive_right (coordinate_count d) (tuple_count dims) some)

-- ---- the first tuples
head_step : (d : Dim) → HasStep d → HasStep (first_alone d)
head_step (Range lo hi step align) h = by_test (coordinate_count (Range lo hi step align) == 0)
  where
    by_test : (b : Bool) → HasStep (if b then Range lo hi step align else all_from (first_of (Range lo hi step align)) (first_of (Range lo hi step align)))
    by_test true = h
    by_test false = omega (arith, ints)
head_step Flood h = tt

pub head_steps : (k : ℕ) (dims : List Dim) → All HasStep dims → All HasStep (changed_at k first_alone dims)
head_steps k [] h = h
head_steps zero (d ∷ dims) h = All-cons HasStep (first_alone d) dims (head_step d (All-head HasStep d dims h)) (All-tail HasStep d dims h)
head_steps (suc k) (d ∷ dims) h = All-cons HasStep d (changed_at k first_alone dims) (All-head HasStep d dims h) (head_steps k dims (All-tail HasStep d dims h))

pub has_lines : (k : ℕ) (r : Region) → IsRegion r → k < length r.dims → 0 < length (members r) → HasLines k r
has_lines k r is h some =
    let steps = has_steps r.dims is.dims in
    let total = length-tuple_count r.dims steps in
    let n = along_of k r.dims in
    let m = inner_of k r.dims in
    let along = some_along k r.dims h (omega (arith, some, total)) in
    let inner = some_inner (suc k) r.dims (omega (arith, some, total)) in
    let c = is_cut k r.dims h along in
    let head_total = length-tuple_count (changed_at k first_alone r.dims) (head_steps k r.dims steps) in
    let whole : length (members r) ≡ c.outer * m * n = total ∙ (c.whole ∙ turned c.outer n m) in
    let outer : 0 < c.outer = positive_left c.outer (n * m) (omega (arith, some, total, c.whole)) in
    record {
      along = along;
      inner = inner;
      some_heads = omega (arith, head_total, c.heads_are, both_some c.outer m outer inner);
      few = omega (arith, total, c.whole, at_least c.outer (n * m) outer);
      count = ap (λ k. k / n) (whole ∙ nothing_more (c.outer * m * n)) ∙ (div-mul-add (c.outer * m) n 0 along ∙ sym (head_total ∙ c.heads_are));
    }
  where
    turned : (a n m : ℕ) → a * (n * m) ≡ a * m * n
    turned a n m = omega arith

    nothing_more : (a : ℕ) → a ≡ a + 0
    nothing_more a = omega arith

    both_some : (a b : ℕ) → 0 < a → 0 < b → 0 < a * b
    both_some zero b p q = absurd (omega (arith, p))
    both_some (suc a) b p q = omega (arith, q)

    at_least : (a b : ℕ) → 0 < a → b ≤ a * b
    at_least zero b p = absurd (omega (arith, p))
    at_least (suc a) b p = omega arith

-- the place of a tuple is that of the head of its line, by the number of the line
place_first : (d : Dim) → 0 < coordinate_count d → place_along (first_alone d) (first_of d) ≡ 0
place_first (Range lo hi step align) some =
    let f = first_of (Range lo hi step align) in
    let other : (coordinate_count (Range lo hi step align) == 0) ≡ false = grind (arith, nat_tests) in
    ap (λ b. place_along (if b then Range lo hi step align else all_from f f) f) other ∙ place_alone f
  where
    none : (f : ℤ) → unsigned_abs (f -ℤ f) ≡ 0
    none f = let e : f -ℤ f ≡ pos 0 = omega (arith, ints) in ap unsigned_abs e

    place_alone : (f : ℤ) → place_along (all_from f f) f ≡ 0
    place_alone f = ap (λ n. n / 1) (same_first f ∙ none f)
      where
        same_first : (f : ℤ) → unsigned_abs (f -ℤ first_of (all_from f f)) ≡ unsigned_abs (f -ℤ f)
        same_first f = ap (λ z. unsigned_abs (f -ℤ z)) (first-all_from f f)
place_first Flood some = refl

member_below : (dims : List Dim) (t : List ℤ) → All HasStep dims → AllZip IsCoordinate dims t → place_among dims t < tuple_count dims
member_below dims t h z =
    let r : Region = record { rank = 1; dims = dims } in
    let inside = slice_get_within (members r) (place_among dims t) t (place_of_tuple dims t h z) in
    omega (arith, inside, length-tuple_count dims h)

pub line_place : (k : ℕ) (dims : List Dim) (t : List ℤ) → k < length dims → All HasStep dims → AllZip IsCoordinate dims t
    → line_number (along_of k dims) (inner_of k dims) (place_among dims t) ≡ place_among (changed_at k first_alone dims) (head_of k dims t)
line_place k [] t h steps z = absurd (omega arith)
line_place k (d ∷ dims) [] h steps z = absurd z
line_place zero (d ∷ dims) (x ∷ t) h steps z =
    let n = coordinate_count d in
    let m = tuple_count dims in
    let p = place_along d x in
    let b = place_among dims t in
    let low : b < m = member_below dims t (All-tail HasStep d dims steps) z.1 in
    let high : p < n = place_below d x (All-head HasStep d dims steps) z.0 in
    let inside : p * m + b < n * m = omega (arith, low, mul-le-mul_right m high) in
    let none : (p * m + b) / (n * m) ≡ 0 = smaller (p * m + b) (n * m) inside in
    let first = place_first d (omega (arith, high)) in
    ap (λ q. q * m + (p * m + b) % m) none ∙ (ap (λ q. 0 * m + q) (mod-mul-add p m b low) ∙ sym (ap (λ q. q * m + b) first))
  where
    smaller : (a b : ℕ) → a < b → a / b ≡ 0
    smaller a b h = let below : a / b < 1 = div_below a b 1 (omega (arith, h)) (omega (arith, h)) in omega (arith, below)
line_place (suc k) (d ∷ dims) (x ∷ t) h steps z =
    let n = along_of k dims in
    let m = inner_of k dims in
    let a = place_along d x in
    let b = place_among dims t in
    let rest = All-tail HasStep d dims steps in
    let low : b < tuple_count dims = member_below dims t rest z.1 in
    let some = some_along k dims (omega arith) (omega (arith, low)) in
    let more = some_inner (suc k) dims (omega (arith, low)) in
    let c = is_cut k dims (omega arith) some in
    let further = line_place k dims t (omega arith) rest z.1 in
    ap (λ w. line_number n m (a * w + b)) c.whole ∙ (cut a c.outer n m b some more ∙ (ap (λ q. a * (c.outer * m) + q) further ∙ ap (λ w. a * w + place_among (changed_at k first_alone dims) (head_of k dims t)) (sym c.heads_are)))
  where
    cut : (a o n m b : ℕ) → 0 < n → 0 < m → line_number n m (a * (o * (n * m)) + b) ≡ a * (o * m) + line_number n m b
    cut a o n m b some more =
        let lines : a * (o * (n * m)) + b ≡ (a * o) * (n * m) + b = omega arith in
        let places : a * (o * (n * m)) + b ≡ (a * o * n) * m + b = omega arith in
        let q : (a * (o * (n * m)) + b) / (n * m) ≡ a * o + b / (n * m) = ap (λ i. i / (n * m)) lines ∙ div-more (a * o) (n * m) b (both n m some more) in
        let r : (a * (o * (n * m)) + b) % m ≡ b % m = ap (λ i. i % m) places ∙ mod-more (a * o * n) m b more in
        ap (λ i. i * m + (a * (o * (n * m)) + b) % m) q ∙ (ap (λ i. (a * o + b / (n * m)) * m + i) r ∙ joined_up (a * o) (b / (n * m)) m (b % m) a o refl)
      where
        both : (n m : ℕ) → 0 < n → 0 < m → 0 < n * m
        both zero m p q = absurd (omega (arith, p))
        both (suc n) m p q = omega (arith, q)

        regrouped : (a o q m r : ℕ) → (a * o + q) * m + r ≡ a * (o * m) + (q * m + r)
        regrouped a o q m r = omega arith

        joined_up : (p q m r a o : ℕ) → p ≡ a * o → (p + q) * m + r ≡ a * (o * m) + (q * m + r)
        joined_up p q m r a o e = ap (λ s. (s + q) * m + r) e ∙ regrouped a o q m r

-- ---- which tuples are on a line
pub same_tuple : (t : List ℤ) → is_same_tuple t t ≡ true
same_tuple [] = refl
same_tuple (x ∷ t) = ap (λ b. b && is_same_tuple t t) (int_eq-true x) ∙ same_tuple t

pub along_itself : (k : ℕ) (dims : List Dim) (t : List ℤ) → k < length dims → length t ≡ length dims → is_along k (head_of k dims t) t ≡ true
along_itself k [] t h l = absurd (omega arith)
along_itself k (d ∷ dims) [] h l = absurd (omega (arith, l))
along_itself zero (d ∷ dims) (x ∷ t) h l = same_tuple t
along_itself (suc k) (d ∷ dims) (x ∷ t) h l = ap (λ b. b && is_along k (head_of k dims t) t) (int_eq-true x) ∙ along_itself k dims t (omega arith) (omega (arith, l))

pub same_from_test : (x t : List ℤ) → is_same_tuple x t ≡ true → t ≡ x
same_from_test [] [] e = refl
same_from_test [] (y ∷ t) e = absurd (let both : false ≡ true = e in cc)
same_from_test (x ∷ xs) [] e = absurd (let both : false ≡ true = e in cc)
same_from_test (x ∷ xs) (y ∷ t) e =
    let w = and_parts (int_eq y x) (is_same_tuple xs t) e in
    cons_same ((Decides-int_eq y x).0 w.0) (same_from_test xs t w.1)

-- a head on whose line t is, is the head of t's line
alone_is : (d : Dim) (y : ℤ) → HasStep d → 0 < coordinate_count d → IsCoordinate (first_alone d) y → y ≡ first_of d
alone_is (Range lo hi step align) y h some is =
    let f = first_of (Range lo hi step align) in
    let other : (coordinate_count (Range lo hi step align) == 0) ≡ false = grind (arith, nat_tests) in
    let here : IsCoordinate (all_from f f) y = subst (λ b. IsCoordinate (if b then Range lo hi step align else all_from f f) y) other is in
    between f here
  where
    between : (f : ℤ) → IsCoordinate (all_from f f) y → y ≡ f
    between f here = let low : f ≤ℤ y = here.0 in let high : y ≤ℤ f = here.1 in omega (arith, ints, low, high)
alone_is Flood y h some is = is

head_is : (k : ℕ) (dims : List Dim) (h t : List ℤ) → k < length dims → All HasStep dims → AllZip IsCoordinate (changed_at k first_alone dims) h → AllZip IsCoordinate dims t → is_along k h t ≡ true
    → head_of k dims t ≡ h
head_is k [] h t l steps z w e = absurd (omega arith)
head_is zero (d ∷ dims) [] t l steps z w e = absurd z
head_is (suc k) (d ∷ dims) [] t l steps z w e = absurd z
head_is zero (d ∷ dims) (x ∷ h) [] l steps z w e = absurd w
head_is (suc k) (d ∷ dims) (x ∷ h) [] l steps z w e = absurd w
head_is zero (d ∷ dims) (x ∷ h) (y ∷ t) l steps z w e =
    let some = some_coordinate d y (All-head HasStep d dims steps) (Among-coordinates d y (All-head HasStep d dims steps) w.0) in
    cons_same (sym (alone_is d x (All-head HasStep d dims steps) some z.0)) (same_from_test h t e)
head_is (suc k) (d ∷ dims) (x ∷ h) (y ∷ t) l steps z w e =
    let both = and_parts (int_eq y x) (is_along k h t) e in
    cons_same ((Decides-int_eq y x).0 both.0) (head_is k dims h t (omega arith) (All-tail HasStep d dims steps) z.1 w.1 both.1)

first_coordinate_alone : (d : Dim) → HasStep d → 0 < coordinate_count d → IsCoordinate (first_alone d) (first_of d)
first_coordinate_alone (Range lo hi step align) h some =
    let f = first_of (Range lo hi step align) in
    let other : (coordinate_count (Range lo hi step align) == 0) ≡ false = grind (arith, nat_tests) in
    subst (λ b. IsCoordinate (if b then Range lo hi step align else all_from f f) f) (sym other) (itself f)
  where
    itself : (f : ℤ) → IsCoordinate (all_from f f) f
    itself f = (omega (arith, ints), omega (arith, ints), (pos 0, omega (arith, ints)))
first_coordinate_alone Flood h some = refl

head_member : (k : ℕ) (dims : List Dim) (t : List ℤ) → k < length dims → All HasStep dims → AllZip IsCoordinate dims t → AllZip IsCoordinate (changed_at k first_alone dims) (head_of k dims t)
head_member k [] t l steps z = absurd (omega arith)
head_member k (d ∷ dims) [] l steps z = absurd z
head_member zero (d ∷ dims) (x ∷ t) l steps z =
    let step = All-head HasStep d dims steps in
    (first_coordinate_alone d step (some_coordinate d x step (Among-coordinates d x step z.0)), z.1)
head_member (suc k) (d ∷ dims) (x ∷ t) l steps z = (z.0, head_member k dims t (omega arith) (All-tail HasStep d dims steps) z.1)

pub as_long : (dims : List Dim) (t : List ℤ) → AllZip IsCoordinate dims t → length t ≡ length dims
as_long [] [] z = refl
as_long [] (x ∷ t) z = absurd z
as_long (d ∷ dims) [] z = absurd z
as_long (d ∷ dims) (x ∷ t) z = ap suc (as_long dims t z.1)

-- for members, as the laws of regions say it
pub member_head : (k : ℕ) (r : Region) (t : List ℤ) → k < length r.dims → All HasStep r.dims → IsMember r t → IsMember (heads k r) (head_of k r.dims t)
member_head k r t l steps z = head_member k r.dims t l steps z

pub is_along_head : (k : ℕ) (r : Region) (t : List ℤ) → k < length r.dims → IsMember r t → is_along k (head_of k r.dims t) t ≡ true
is_along_head k r t l z = along_itself k r.dims t l (as_long r.dims t z)

pub head_along : (k : ℕ) (r : Region) (h t : List ℤ) → k < length r.dims → All HasStep r.dims → IsMember (heads k r) h → IsMember r t → is_along k h t ≡ true → head_of k r.dims t ≡ h
head_along k r h t l steps z w e = head_is k r.dims h t l steps z w e

-- ---- for the code
padded_again : (n k : ℕ) → changed_at k first_alone (replicate n padding) ≡ replicate n padding
padded_again zero k = refl
padded_again (suc n) zero = refl
padded_again (suc n) (suc k) = ap (λ ds. padding ∷ ds) (padded_again n k)

pub still_padded : (n rank k : ℕ) (dims : List Dim) → drop rank dims ≡ replicate n padding → drop rank (changed_at k first_alone dims) ≡ replicate n padding
still_padded n zero k dims e = ap (changed_at k first_alone) e ∙ padded_again n k
still_padded n (suc rank) k [] e = e
still_padded n (suc rank) zero (d ∷ dims) e = e
still_padded n (suc rank) (suc k) (d ∷ dims) e = still_padded n rank k dims e

pub some_if_least : {r : Option (List ℤ)} (d : Dim) (t : List ℤ) → r ≡ least_member (single d) → r ≡ Some t → 0 < coordinate_count d
some_if_least d t told e = by_count (coordinate_count d) refl
  where
    by_count : (n : ℕ) → coordinate_count d ≡ n → 0 < coordinate_count d
    by_count zero none =
        let nothing : (tuple_count (d ∷ padding ∷ padding ∷ []) == 0) ≡ true = ap (λ n. n * 1 == 0) none in
        let missing : least_member (single d) ≡ None = ap (λ b. if b then None else Some (map first_of (d ∷ padding ∷ padding ∷ []))) nothing in
        absurd (let both : Some t ≡ None = sym e ∙ (told ∙ missing) in cc)
    by_count (suc n) e = omega (arith, e)

pub told_first : {r : Option (List ℤ)} (d : Dim) (t : List ℤ) (lo hi step align : ℤ) → IsDim d → d ≡ Range lo hi step align → r ≡ least_member (single d) → r ≡ Some t
    → all_from (get_or t 0 (pos 0)) (get_or t 0 (pos 0)) ≡ first_alone d
told_first d t lo hi step align is range told e =
    let some = some_if_least d t told e in
    let first = first_is d t is some told e in
    let other : (coordinate_count d == 0) ≡ false = grind (arith, nat_tests) in
    ap (λ z. all_from z z) first
    ∙ (sym (ap (λ b. if b then d else all_from (first_of d) (first_of d)) other) ∙ unfolded d range)
  where
    unfolded : (d : Dim) → d ≡ Range lo hi step align → (if coordinate_count d == 0 then d else all_from (first_of d) (first_of d)) ≡ first_alone d
    unfolded (Range a b c e) f = refl
    unfolded Flood f = absurd (cc)

pub first_alone_is_dim : (d : Dim) → IsDim d → IsDim (first_alone d)
first_alone_is_dim (Range lo hi step align) is = by_count (coordinate_count (Range lo hi step align)) refl
  where
    d : Dim
    d = Range lo hi step align

    bounded : (x : ℤ) → IsCoordinate d x → IsDim (all_from x x)
    bounded x h =
        let low : IsUpTo 40 lo = is.1.0 in
        let high : IsUpTo 40 hi = is.1.1 in
        let from : lo ≤ℤ x = h.0 in
        let to : x ≤ℤ hi = h.1 in
        (omega (arith, ints), ((omega (arith, ints, low, from), omega (arith, ints, high, to)), (omega (arith, ints, low, from), omega (arith, ints, high, to))), (omega (arith, ints, low, from), omega (arith, ints, high, to)))

    by_count : (n : ℕ) → coordinate_count d ≡ n → IsDim (if coordinate_count d == 0 then d else all_from (first_of d) (first_of d))
    by_count zero e = subst (λ n. IsDim (if n == 0 then d else all_from (first_of d) (first_of d))) (sym e) is
    by_count (suc n) e =
        let here : IsCoordinate d (first_of d) = among_coordinates d (first_of d) is.0 (Among-first d is.0 (omega (arith, e))) in
        let other : (coordinate_count d == 0) ≡ false = grind (arith, nat_tests) in
        subst (λ b. IsDim (if b then d else all_from (first_of d) (first_of d))) (sym other) (bounded (first_of d) here)
first_alone_is_dim Flood is = is

pub heads_are_dims : (k : ℕ) (dims : List Dim) → All IsDim dims → All IsDim (changed_at k first_alone dims)
heads_are_dims k [] h = h
heads_are_dims zero (d ∷ dims) h = All-cons IsDim (first_alone d) dims (first_alone_is_dim d (All-head IsDim d dims h)) (All-tail IsDim d dims h)
heads_are_dims (suc k) (d ∷ dims) h = All-cons IsDim d (changed_at k first_alone dims) (All-head IsDim d dims h) (heads_are_dims k dims (All-tail IsDim d dims h))

pub heads_region : (k : ℕ) (r : Region) → IsRegion r → IsRegion (heads k r)
heads_region k r is = record {
  rank_above = is.rank_above;
  rank_below = is.rank_below;
  dims = heads_are_dims k r.dims is.dims;
  padded = still_padded (3 - r.rank) r.rank k r.dims is.padded;
}

pub heads_0 : (dims : List Dim) (e x : Dim) → length dims ≡ 3 → x ≡ first_alone (get_or dims 0 e) → x ∷ get_or dims 1 e ∷ get_or dims 2 e ∷ [] ≡ changed_at 0 first_alone dims
heads_0 [] e x l f = absurd (omega (arith, l))
heads_0 (a ∷ []) e x l f = absurd (omega (arith, l))
heads_0 (a ∷ b ∷ []) e x l f = absurd (omega (arith, l))
heads_0 (a ∷ b ∷ c ∷ []) e x l f = ap (λ y. y ∷ b ∷ c ∷ []) f
heads_0 (a ∷ b ∷ c ∷ d ∷ dims) e x l f = absurd (omega (arith, l))

pub heads_1 : (dims : List Dim) (e x : Dim) → length dims ≡ 3 → x ≡ first_alone (get_or dims 1 e) → get_or dims 0 e ∷ x ∷ get_or dims 2 e ∷ [] ≡ changed_at 1 first_alone dims
heads_1 [] e x l f = absurd (omega (arith, l))
heads_1 (a ∷ []) e x l f = absurd (omega (arith, l))
heads_1 (a ∷ b ∷ []) e x l f = absurd (omega (arith, l))
heads_1 (a ∷ b ∷ c ∷ []) e x l f = ap (λ y. a ∷ y ∷ c ∷ []) f
heads_1 (a ∷ b ∷ c ∷ d ∷ dims) e x l f = absurd (omega (arith, l))

pub heads_2 : (dims : List Dim) (e x : Dim) → length dims ≡ 3 → x ≡ first_alone (get_or dims 2 e) → get_or dims 0 e ∷ get_or dims 1 e ∷ x ∷ [] ≡ changed_at 2 first_alone dims
heads_2 [] e x l f = absurd (omega (arith, l))
heads_2 (a ∷ []) e x l f = absurd (omega (arith, l))
heads_2 (a ∷ b ∷ []) e x l f = absurd (omega (arith, l))
heads_2 (a ∷ b ∷ c ∷ []) e x l f = ap (λ y. a ∷ b ∷ y ∷ []) f
heads_2 (a ∷ b ∷ c ∷ d ∷ dims) e x l f = absurd (omega (arith, l))

pub inner_0 : (dims : List Dim) (e : Dim) (m n : ℕ) → length dims ≡ 3 → m ≡ coordinate_count (get_or dims 1 e) → n ≡ coordinate_count (get_or dims 2 e) → m * n ≡ inner_of 0 dims
inner_0 [] e m n l f g = absurd (omega (arith, l))
inner_0 (a ∷ []) e m n l f g = absurd (omega (arith, l))
inner_0 (a ∷ b ∷ []) e m n l f g = absurd (omega (arith, l))
inner_0 (a ∷ b ∷ c ∷ []) e m n l f g = ap (λ k. k * n) f ∙ (ap (λ k. coordinate_count b * k) g ∙ last (coordinate_count b) (coordinate_count c))
  where
    last : (i j : ℕ) → i * j ≡ i * (j * 1)
    last i j = omega arith
inner_0 (a ∷ b ∷ c ∷ d ∷ dims) e m n l f g = absurd (omega (arith, l))

pub inner_within : (k : ℕ) (r : Region) → HasLines k r → inner_of k r.dims ≤ length (members r)
inner_within k r h = omega (arith, h.few, at_least (along_of k r.dims) (inner_of k r.dims) h.along)
  where
    at_least : (a b : ℕ) → 0 < a → b ≤ a * b
    at_least zero b p = absurd (omega (arith, p))
    at_least (suc a) b p = omega arith

pub none_alone : (d : Dim) → coordinate_count d ≡ 0 → coordinate_count (first_alone d) ≡ 0
none_alone (Range lo hi step align) e =
    ap (λ n. coordinate_count (if n == 0 then Range lo hi step align else all_from (first_of (Range lo hi step align)) (first_of (Range lo hi step align)))) e ∙ e
none_alone Flood e = e

-- the dimension of first tuples along which lines run has one coordinate at most
count_alone_at_most : (d : Dim) → coordinate_count (first_alone d) ≤ 1
count_alone_at_most d = by_count (coordinate_count d) refl
  where
    by_count : (n : ℕ) → coordinate_count d ≡ n → coordinate_count (first_alone d) ≤ 1
    by_count zero e = omega (arith, none_alone d e)
    by_count (suc n) e = omega (arith, count-first_alone d (omega (arith, e)))

pub heads_alone : (k : ℕ) (dims : List Dim) → coordinate_count (get_or (changed_at k first_alone dims) k Flood) ≤ 1
heads_alone k [] = omega arith
heads_alone zero (d ∷ dims) = count_alone_at_most d
heads_alone (suc k) (d ∷ dims) = heads_alone k dims

pub line_dim_above : (rank along : ℕ) → 1 ≤ along → line_dim rank along ≡ along - 1
line_dim_above rank zero h = absurd (omega arith)
line_dim_above rank (suc k) h = omega arith

pub line_dim_below : (rank along : ℕ) → 1 ≤ rank → rank ≤ 3 → along ≤ rank → line_dim rank along < 3
line_dim_below rank zero low high h = omega arith
line_dim_below rank (suc k) low high h = omega arith
