-- Lemmas on places of tuples.
use Rattle.std.proofs.Common.{◌≡◌, ℕ, zero, suc, ◌+◌, ◌*◌, ◌/◌, ◌^◌, ◌<◌, ◌≤◌, Option, Some, None, List, [], ◌∷◌, All, length, get_or, ℤ, pos, ◌≤ℤ◌, ◌-ℤ◌, ◌+ℤ◌, unsigned_abs, refl, sym, ◌∙◌, ap, subst, arith, rules, ◌-◌, ◌<ℤ◌}
use Rattle.std.specs.List.{AllZip}
use Rattle.std.proofs.lemmas.Int.{ints, clamps}
use Rattle.std.proofs.lemmas.List.Elements.{All-from_recursion}
use Rattle.std.proofs.lemmas.Option.{slice_get_within}
use Rattle.zpl_arrays.specs.of_zpl_region.declared.dims.Dim.{Dim}
use Rattle.zpl_arrays.specs.of_zpl_region.declared.dims.Dim.TheVariants.{Range, Flood}
use Rattle.zpl_arrays.specs.of_zpl_region.declared.regions.Region.{Region}
use Rattle.std.specs.Int.{int_max}
use Rattle.std.proofs.lemmas.List.Sums.{count_by-le-length, length-filter}
use Rattle.zpl_arrays.specs.of_zpl_region.Dim.{HasStep, IsCoordinate, IsDim, IsUpTo, extent, integers, is_multiple}
use Rattle.zpl_arrays.specs.of_zpl_region.Ends.{coordinate_count, first_of, least_member, tuple_count}
use Rattle.zpl_arrays.specs.of_zpl_region.Region.{IsRegion, members, padding}
use Rattle.zpl_arrays.proofs.of_zpl_region.DimLemmas.{Among-coordinates, pos-extent}
use Rattle.zpl_arrays.proofs.of_zpl_region.ProgressionLemmas.{length-progression}
use Rattle.zpl_arrays.proofs.of_zpl_region.EndLemmas.{length-coordinates, length-tuple_count, rem_euclid-above, some_coordinate}
use Rattle.zpl_arrays.proofs.of_zpl_region.HullLemmas.{has_steps}
use Rattle.zpl_arrays.proofs.of_zpl_region.HullCode.{least_some}
use Rattle.zpl_arrays.specs.Array.{place_along, place_among}
use Rattle.zpl_arrays.proofs.ArrayLemmas.{place_of_tuple}

-- ---- a region of one dimension
abbrev pub single : Dim → Region
single dim = record { rank = 1; dims = dim ∷ padding ∷ padding ∷ [] }

padding_is_dim : IsDim padding
padding_is_dim = search rules

pub single_region : (dim : Dim) → IsDim dim → IsRegion (single dim)
single_region dim is = record {
  rank_above = omega arith;
  rank_below = omega arith;
  dims = All-from_recursion IsDim (dim ∷ padding ∷ padding ∷ []) (is, (padding_is_dim, (padding_is_dim, tt)));
  padded = refl;
}

once : (n : ℕ) → n * 1 ≡ n
once n = omega arith

pub length-single : (dim : Dim) → IsDim dim → length (members (single dim)) ≡ coordinate_count dim
length-single dim is = length-tuple_count (dim ∷ padding ∷ padding ∷ []) (has_steps (dim ∷ padding ∷ padding ∷ []) (single_region dim is).dims) ∙ once (coordinate_count dim)

pub few_coordinates : (dim : Dim) → IsDim dim → coordinate_count dim ≤ 2 ^ 41 + 1
few_coordinates (Range lo hi step align) is =
    let dim = Range lo hi step align in
    let low : IsUpTo 40 lo = is.1.0 in
    let high : IsUpTo 40 hi = is.1.1 in
    let kept = length-filter (λ x. is_multiple step (x -ℤ align)) (integers lo hi) in
    let most = count_by-le-length (λ x. is_multiple step (x -ℤ align)) (integers lo hi) in
    let long = length-progression lo 1 (extent lo hi) in
    let wide : pos (extent lo hi) ≡ int_max (pos 0) ((hi -ℤ lo) +ℤ pos 1) = pos-extent lo hi in
    let far : extent lo hi ≤ 2 ^ 41 + 1 = omega (arith, ints, clamps, wide, low, high) in
    omega (arith, sym (length-coordinates dim is.0), kept, most, long, far)
few_coordinates Flood is = omega arith

-- the place of a coordinate is one of its dimension's
pub place_below : (d : Dim) (x : ℤ) → HasStep d → IsCoordinate d x → place_along d x < coordinate_count d
place_below d x h is =
    let here = place_of_tuple (d ∷ []) (x ∷ []) (All-from_recursion HasStep (d ∷ []) (h, tt)) (is, tt) in
    let inside = slice_get_within (members (record { rank = 1; dims = d ∷ [] })) (place_along d x * 1 + 0) (x ∷ []) here in
    omega (arith, inside, length-tuple_count (d ∷ []) (All-from_recursion HasStep (d ∷ []) (h, tt)))

-- the first coordinate, as a call tells it
pub first_is : {r : Option (List ℤ)} (d : Dim) (t : List ℤ) → IsDim d → 0 < coordinate_count d → r ≡ least_member (single d) → r ≡ Some t → get_or t 0 (pos 0) ≡ first_of d
first_is d t is some told e =
    let most : 0 < tuple_count (d ∷ padding ∷ padding ∷ []) = omega (arith, some, once (coordinate_count d)) in
    let all : Some (first_of d ∷ first_of padding ∷ first_of padding ∷ []) ≡ least_member (single d) = least_some (single d) _ most refl in
    let same : Some t ≡ Some (first_of d ∷ first_of padding ∷ first_of padding ∷ []) = sym e ∙ (told ∙ sym all) in
    let heads : t ≡ first_of d ∷ first_of padding ∷ first_of padding ∷ [] = cc in
    ap (λ u. get_or u 0 (pos 0)) heads

-- ---- for the code: the place of a coordinate, by the first one
pub place_of_range : {r : Option (List ℤ)} (d : Dim) (t : List ℤ) (x lo hi step align : ℤ) (m n : ℕ) → IsDim d → IsCoordinate d x → d ≡ Range lo hi step align
    → r ≡ least_member (single d) → r ≡ Some t → m ≡ unsigned_abs (x -ℤ get_or t 0 (pos 0)) → n ≡ unsigned_abs step → m / n ≡ place_along d x
place_of_range d t x lo hi step align m n is here range told e f g =
    let some : 0 < coordinate_count d = some_coordinate d x is.0 (Among-coordinates d x is.0 here) in
    let first = first_is d t is some told e in
    let m_is : m ≡ unsigned_abs (x -ℤ first_of d) = f ∙ ap (λ z. unsigned_abs (x -ℤ z)) first in
    ap (λ k. k / n) m_is ∙ (ap (λ k. unsigned_abs (x -ℤ first_of d) / k) g
    ∙ (ap (λ e. unsigned_abs (x -ℤ first_of e) / unsigned_abs step) range ∙ sym (ap (λ e. place_along e x) range)))

pub no_least : {r : Option (List ℤ)} (d : Dim) (x : ℤ) → IsDim d → IsCoordinate d x → r ≡ least_member (single d) → r ≡ None → ⊥
no_least d x is here told e =
    let some : 0 < coordinate_count d = some_coordinate d x is.0 (Among-coordinates d x is.0 here) in
    let most : 0 < tuple_count (d ∷ padding ∷ padding ∷ []) = omega (arith, some, once (coordinate_count d)) in
    let all : Some (first_of d ∷ first_of padding ∷ first_of padding ∷ []) ≡ least_member (single d) = least_some (single d) _ most refl in
    let same : None ≡ Some (first_of d ∷ first_of padding ∷ first_of padding ∷ []) = sym e ∙ (told ∙ sym all) in
    cc

pub step_above : (d : Dim) (lo hi step align : ℤ) (n : ℕ) → IsDim d → d ≡ Range lo hi step align → n ≡ unsigned_abs step → 0 < n
step_above d lo hi step align n is range g =
    let range_is : IsDim (Range lo hi step align) = subst IsDim range is in
    let above : pos 1 ≤ℤ step = range_is.0 in omega (arith, ints, above, g)

-- a coordinate of a member
pub coordinate_at : (dims : List Dim) (t : List ℤ) (k : ℕ) (e : Dim) → AllZip IsCoordinate dims t → k < length dims → IsCoordinate (get_or dims k e) (get_or t k (pos 0))
coordinate_at [] t k e z h = absurd (omega arith)
coordinate_at (d ∷ dims) [] k e z h = absurd z
coordinate_at (d ∷ dims) (x ∷ t) zero e z h = z.0
coordinate_at (d ∷ dims) (x ∷ t) (suc k) e z h = coordinate_at dims t k e z.1 (omega arith)

-- ---- the place of a tuple, by those of its coordinates
pub record ArePlaces (dims : List Dim) (x : List ℤ) (p q s m n : ℕ) : Type 0 where
  pub whole : (p * m + q) * n + s ≡ place_among dims x
  pub below : (p * m + q) * n + s < length (members (record { rank = 1; dims = dims }))
  pub line : p * m + q ≤ (p * m + q) * n

times : (a n : ℕ) → 1 ≤ n → a ≤ a * n
times a zero some = absurd (omega (arith, some))
times a (suc n) some = omega arith

pub are_places : (dims : List Dim) (x : List ℤ) (e : Dim) (p q s m n : ℕ) → length dims ≡ 3 → length x ≡ 3 → All HasStep dims → AllZip IsCoordinate dims x
    → p ≡ place_along (get_or dims 0 e) (get_or x 0 (pos 0)) → q ≡ place_along (get_or dims 1 e) (get_or x 1 (pos 0)) → s ≡ place_along (get_or dims 2 e) (get_or x 2 (pos 0))
    → m ≡ coordinate_count (get_or dims 1 e) → n ≡ coordinate_count (get_or dims 2 e) → s < n → ArePlaces dims x p q s m n
are_places [] x e p q s m n l k h z f g i j o b = absurd (omega arith)
are_places (a ∷ []) x e p q s m n l k h z f g i j o b = absurd (omega arith)
are_places (a ∷ b ∷ []) x e p q s m n l k h z f g i j o below = absurd (omega arith)
are_places (a ∷ b ∷ c ∷ d ∷ dims) x e p q s m n l k h z f g i j o below = absurd (omega arith)
are_places (a ∷ b ∷ c ∷ []) [] e p q s m n l k h z f g i j o below = absurd z
are_places (a ∷ b ∷ c ∷ []) (x ∷ []) e p q s m n l k h z f g i j o below = absurd z.1
are_places (a ∷ b ∷ c ∷ []) (x ∷ y ∷ []) e p q s m n l k h z f g i j o below = absurd z.1.1
are_places (a ∷ b ∷ c ∷ []) (x ∷ y ∷ w ∷ v ∷ t) e p q s m n l k h z f g i j o below = absurd z.1.1.1
are_places (a ∷ b ∷ c ∷ []) (x ∷ y ∷ w ∷ []) e p q s m n l k h z f g i j o below =
    let dims : List Dim = a ∷ b ∷ c ∷ [] in
    let t : List ℤ = x ∷ y ∷ w ∷ [] in
    let given : place_among dims t ≡ p * (m * (n * 1)) + (q * (n * 1) + (s * 1 + 0)) =
    ap (λ r. r * (coordinate_count b * (coordinate_count c * 1)) + (place_along b y * (coordinate_count c * 1) + (place_along c w * 1 + 0))) (sym f)
    ∙ (ap (λ r. p * (r * (coordinate_count c * 1)) + (place_along b y * (coordinate_count c * 1) + (place_along c w * 1 + 0))) (sym j)
    ∙ (ap (λ r. p * (m * (r * 1)) + (place_along b y * (r * 1) + (place_along c w * 1 + 0))) (sym o)
    ∙ (ap (λ r. p * (m * (n * 1)) + (r * (n * 1) + (place_along c w * 1 + 0))) (sym g)
    ∙ ap (λ r. p * (m * (n * 1)) + (q * (n * 1) + (r * 1 + 0))) (sym i)))) in
    let same : (p * m + q) * n + s ≡ p * (m * (n * 1)) + (q * (n * 1) + (s * 1 + 0)) = omega arith in
    let inside = slice_get_within (members (record { rank = 1; dims = dims })) (place_among dims t) t (place_of_tuple dims t h z) in
    record {
      whole = same ∙ sym given;
      below = omega (arith, same, sym given, inside);
      line = times (p * m + q) n (omega arith);
    }

pub places_of : (dims : List Dim) (x : List ℤ) (e : Dim) (p q s m n : ℕ) → length dims ≡ 3 → length x ≡ 3 → All HasStep dims → AllZip IsCoordinate dims x
    → p ≡ place_along (get_or dims 0 e) (get_or x 0 (pos 0)) → q ≡ place_along (get_or dims 1 e) (get_or x 1 (pos 0)) → s ≡ place_along (get_or dims 2 e) (get_or x 2 (pos 0))
    → m ≡ coordinate_count (get_or dims 1 e) → n ≡ coordinate_count (get_or dims 2 e) → ArePlaces dims x p q s m n
places_of dims x e p q s m n l k h z f g i j o =
    let last = place_below (get_or dims 2 e) (get_or x 2 (pos 0)) (h 2 e (omega arith)) (coordinate_at dims x 2 e z (omega arith)) in
    are_places dims x e p q s m n l k h z f g i j o (omega (arith, last, i, o))

-- ---- a range of step 1
count_of_ones : (lo hi align : ℤ) → coordinate_count (Range lo hi (pos 1) align) ≡ extent lo hi
count_of_ones lo hi align =
    let r = rem_euclid-above (align -ℤ lo) 1 (omega arith) in
    let first : first_of (Range lo hi (pos 1) align) ≡ lo = omega (arith, ints, r) in
    let whole : (extent (first_of (Range lo hi (pos 1) align)) hi + (1 - 1)) / 1 ≡ extent (first_of (Range lo hi (pos 1) align)) hi = omega arith in
    whole ∙ ap (λ f. extent f hi) first

size_of_ones : (n : ℕ) (dim : Dim) (lo hi step align : ℤ) → dim ≡ Range lo hi step align → step ≡ pos 1 → n ≡ extent lo hi → n ≡ coordinate_count dim
size_of_ones n dim lo hi step align is one e =
    subst (λ d. n ≡ coordinate_count d) (sym is)
    (subst (λ s. n ≡ coordinate_count (Range lo hi s align)) (sym one) (e ∙ sym (count_of_ones lo hi align)))

pub no_ones : (dim : Dim) (lo hi step align : ℤ) → dim ≡ Range lo hi step align → step ≡ pos 1 → hi <ℤ lo → 0 ≡ coordinate_count dim
no_ones dim lo hi step align is one below =
    size_of_ones 0 dim lo hi step align is one (let wide = pos-extent lo hi in omega (arith, ints, clamps, wide, below))

pub some_ones : (n : ℕ) (dim : Dim) (lo hi step align : ℤ) → dim ≡ Range lo hi step align → step ≡ pos 1 → lo ≤ℤ hi → pos n ≡ hi -ℤ lo → n + 1 ≡ coordinate_count dim
some_ones n dim lo hi step align is one le wide =
    size_of_ones (n + 1) dim lo hi step align is one (let e = pos-extent lo hi in omega (arith, ints, clamps, e, le, wide))
