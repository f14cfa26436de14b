-- Lemmas on where sources lie.
use Rattle.std.specs.Prelude.{FitsSigned}
use Rattle.std.proofs.Common.{◌^◌, w64, ◌≡◌, ℕ, zero, suc, ◌<◌, ◌≤◌, ◌⊎◌, inl, inr, true, false, ◌&&◌, ◌||◌, All, Some, None, Option, List, [], ◌∷◌, map, length, ℤ, pos, negsuc, neg_ℤ, ◌+ℤ◌, ◌-ℤ◌, ◌*ℤ◌, ◌≤ℤ◌, ◌<ℤ◌, unsigned_abs, refl, sym, ◌∙◌, ap, subst, arith}
use Rattle.std.specs.Prelude.{is_some, nat_le, unwrap_or}
use Rattle.std.specs.List.{AllZip}
use Rattle.std.specs.Int.RustNames.{int_lt}
use Rattle.std.specs.Int.{int_rem_euclid}
use Rattle.std.specs.Ordering.{int_eq}
use Rattle.std.proofs.lemmas.Int.{ints, clamps}
use Rattle.std.proofs.lemmas.Bool.{and_from, and_parts, or_cases}
use Rattle.std.proofs.lemmas.Bool.Decides.{Decides-int_eq, nat_tests}
use Rattle.std.proofs.lemmas.List.Elements.{All-head, All-tail}
use Rattle.zpl_nums.specs.declared.ends.Border.{Border}
use Rattle.zpl_nums.specs.declared.ends.Border.TheVariants.{Wrap, Reflect}
use Rattle.zpl_region.specs.declared.dims.Dim.{Dim}
use Rattle.zpl_region.specs.declared.dims.Dim.TheVariants.{Range, Flood}
use Rattle.zpl_region.specs.declared.regions.Region.{Region}
use Rattle.zpl_region.specs.Dim.{HasStep, IsCoordinate, IsMultiple, coordinates, dim_inside_of, dim_outside_of, extent}
use Rattle.zpl_region.specs.Ends.{coordinate_count, has_none, single_of, tuple_count}
use Rattle.zpl_region.specs.Hull.{IsBoxed}
use Rattle.zpl_region.specs.Region.{IsMember, components, each, inside_of, outside_of}
use Rattle.zpl_region.specs.Tests.{is_coordinate, is_same_set}
use Rattle.zpl_region.proofs.DimLemmas.{among_coordinates, pos-extent}
use Rattle.zpl_region.proofs.EndLemmas.{positive_left, positive_right, rem_euclid-above, single_iff}
use Rattle.zpl_region.proofs.HullLemmas.{ends_in_bounds, some_from}
use Rattle.zpl_region.proofs.ListLemmas.{Among, int_lt-false, int_lt-true}
use Rattle.zpl_region.proofs.TestLemmas.{is_coordinate_iff, is_same_set_iff}
use Rattle.zpl_arrays.specs.Array.{each_has_place, has_place}
use Rattle.zpl_arrays.specs.Around.{around_source, dim_around, each_around}
use Rattle.zpl_arrays.specs.Border.{border_conforms, border_source, border_sources, dim_border_conforms, dim_border_source, each_border_conforms, each_border_source}
use Rattle.zpl_arrays.specs.Conformity.{dims_spread, flood_conforms, is_single}
use Rattle.zpl_arrays.specs.Flood.{dim_flood_source, each_flood_source, flood_source}

-- ---- floods
dim_flood_lies : (t s : Dim) (x : ℤ) → HasStep t → HasStep s → (is_single s || is_same_set s t) ≡ true → IsCoordinate t x → IsCoordinate s (dim_flood_source s x)
dim_flood_lies t s x h k e is = by_single (single_of s) refl (or_cases (is_single s) (is_same_set s t) e)
  where
    by_single : (o : Option ℤ) → single_of s ≡ o → (is_some (single_of s) ≡ true) ⊎ (is_same_set s t ≡ true) → IsCoordinate s (unwrap_or (single_of s) x)
    by_single (Some y) single either =
        let list : coordinates s ≡ y ∷ [] = ((single_iff s y k).0 single).1 in
        subst (λ o. IsCoordinate s (unwrap_or o x)) (sym single) (among_coordinates s y k (subst (λ l. Among l y) (sym list) (inl refl)))
    by_single None single (inl some) = absurd (let none : is_some (single_of s) ≡ false = ap is_some single in let both : true ≡ false = sym some ∙ none in cc)
    by_single None single (inr same) = subst (λ o. IsCoordinate s (unwrap_or o x)) (sym single) (moved_over t s x h k same is)
      where
        moved_over : (t s : Dim) (x : ℤ) → HasStep t → HasStep s → is_same_set s t ≡ true → IsCoordinate t x → IsCoordinate s x
        moved_over Flood Flood x h k same is = is
        moved_over Flood (Range lo hi step align) x h k same is = absurd (cc)
        moved_over (Range lo hi step align) Flood x h k same is = absurd (cc)
        moved_over (Range lo hi step align) (Range lo' hi' step' align') x h k same is =
            ((is_same_set_iff (Range lo' hi' step' align') (Range lo hi step align) k h).0 same x).1 is

dims_flood_lie : (target source : List Dim) (t : List ℤ) → All HasStep target → All HasStep source → length target ≡ length source → dims_spread target source ≡ true
    → AllZip IsCoordinate target t → AllZip IsCoordinate source (each_flood_source source t)
dims_flood_lie [] [] [] h k l e z = tt
dims_flood_lie [] [] (x ∷ t) h k l e z = absurd z
dims_flood_lie [] (s ∷ source) t h k l e z = absurd (omega arith)
dims_flood_lie (d ∷ target) [] t h k l e z = absurd (omega arith)
dims_flood_lie (d ∷ target) (s ∷ source) [] h k l e z = absurd z
dims_flood_lie (d ∷ target) (s ∷ source) (x ∷ t) h k l e z =
    let p = and_parts (is_single s || is_same_set s d) (dims_spread target source) e in
    (dim_flood_lies d s x (All-head HasStep d target h) (All-head HasStep s source k) p.0 z.0, dims_flood_lie target source t (All-tail HasStep d target h) (All-tail HasStep s source k) (omega arith) p.1 z.1)

pub flood_source_lies : (target source : Region) (t : List ℤ) → All HasStep target.dims → All HasStep source.dims → length target.dims ≡ length source.dims
    → flood_conforms target source ≡ true → IsMember target t → IsMember source (flood_source source t)
flood_source_lies target source t h k l e z = dims_flood_lie target.dims source.dims t h k l e z

-- ---- reads that wrap round
pub unit_step : (x align step : ℤ) → step ≡ pos 1 → IsMultiple step (x -ℤ align)
unit_step x align step e = let whole : x -ℤ align ≡ (x -ℤ align) *ℤ pos 1 = omega (arith, ints) in subst (λ s. IsMultiple s (x -ℤ align)) (sym e) (x -ℤ align, whole)

dim_around_lies : (d : ℤ) (h : Dim) (x : ℤ) → IsBoxed h → 0 < coordinate_count h → each_has_place (h ∷ []) (dim_around d h x ∷ []) ≡ true
dim_around_lies d Flood x b some = refl
dim_around_lies d (Range lo hi step align) x b some =
    let home = Range lo hi step align in
    let step_is : pos 1 ≤ℤ step = omega (arith, ints) in
    let e = ends_in_bounds lo hi step align step_is some in
    let wide : pos (extent lo hi) ≡ (hi -ℤ lo) +ℤ pos 1 = omega (arith, ints, clamps, e, pos-extent lo hi) in
    let r = rem_euclid-above ((x +ℤ d) -ℤ lo) (extent lo hi) (omega (arith, ints, e)) in
    let y = dim_around d home x in
    and_from (is_coordinate home y) true ((is_coordinate_iff home y step_is).1 (omega (arith, ints, r), omega (arith, ints, r), unit_step y align step b.0)) refl

pub has_both : (h : Dim) (dims : List Dim) (x : ℤ) (t : List ℤ) → each_has_place (h ∷ []) (x ∷ []) ≡ true → each_has_place dims t ≡ true → each_has_place (h ∷ dims) (x ∷ t) ≡ true
has_both Flood dims x t e f = f
has_both (Range lo hi step align) dims x t e f = and_from (is_coordinate (Range lo hi step align) x) (each_has_place dims t) (and_parts (is_coordinate (Range lo hi step align) x) true e).0 f

dims_around_lie : (v : List ℤ) (dims : List Dim) (t : List ℤ) → All IsBoxed dims → 0 < tuple_count dims → length v ≡ length dims → length t ≡ length dims
    → each_has_place dims (each_around v dims t) ≡ true
dims_around_lie [] [] [] b some k l = refl
dims_around_lie [] [] (x ∷ t) b some k l = absurd (omega arith)
dims_around_lie [] (h ∷ dims) t b some k l = absurd (omega arith)
dims_around_lie (d ∷ v) [] t b some k l = absurd (omega arith)
dims_around_lie (d ∷ v) (h ∷ dims) [] b some k l = absurd (omega arith)
dims_around_lie (d ∷ v) (h ∷ dims) (x ∷ t) b some k l =
    has_both h dims (dim_around d h x) (each_around v dims t)
    (dim_around_lies d h x (All-head IsBoxed h dims b) (positive_left (coordinate_count h) (tuple_count dims) some))
    (dims_around_lie v dims t (All-tail IsBoxed h dims b) (positive_right (coordinate_count h) (tuple_count dims) some) (omega arith) (omega arith))

pub around_source_lies : (home : Region) (d t : List ℤ) → All IsBoxed home.dims → has_none home ≡ false → length d ≡ length home.dims → length t ≡ length home.dims
    → has_place home (around_source home d t) ≡ true
around_source_lies home d t b some k l = dims_around_lie d home.dims t b (some_from home some) k l

-- ---- borders
pub zero_component : (d : ℤ) → int_eq d (pos 0) ≡ true → d ≡ pos 0
zero_component d e = (Decides-int_eq d (pos 0)).0 e

-- the component that the sources are inside of
abbrev pub side : Border → ℤ → ℤ
side Wrap d = neg_ℤ d
side Reflect d = d

-- the coordinates beside the bounds, of a positive component and of a negative one
source_above : (kind : Border) (d lo hi step align x : ℤ) → step ≡ pos 1 → pos 1 ≤ℤ d → d ≤ℤ ((hi -ℤ lo) +ℤ pos 1) → (hi +ℤ pos 1) ≤ℤ x → x ≤ℤ (hi +ℤ d)
    → IsCoordinate (dim_inside_of (side kind d) (Range lo hi step align)) (dim_border_source kind d (Range lo hi step align) x)
source_above Wrap d lo hi step align x one above wide low high =
    let e = pos-extent lo hi in
    rw (int_lt-true (pos 0) d (omega (arith, ints)), int_lt-false (pos 0) (neg_ℤ d) (omega (arith, ints)), int_lt-true (neg_ℤ d) (pos 0) (omega (arith, ints)))
    (omega (arith, ints, clamps, e), omega (arith, ints, clamps, e), unit_step (x -ℤ pos (extent lo hi)) align step one)
source_above Reflect d lo hi step align x one above wide low high =
    rw (int_lt-true (pos 0) d (omega (arith, ints)))
    (omega (arith, ints), omega (arith, ints), unit_step (((pos 2 *ℤ hi) +ℤ pos 1) -ℤ x) align step one)

source_below : (kind : Border) (d lo hi step align x : ℤ) → step ≡ pos 1 → d ≤ℤ negsuc 0 → neg_ℤ d ≤ℤ ((hi -ℤ lo) +ℤ pos 1) → (lo +ℤ d) ≤ℤ x → x ≤ℤ (lo -ℤ pos 1)
    → IsCoordinate (dim_inside_of (side kind d) (Range lo hi step align)) (dim_border_source kind d (Range lo hi step align) x)
source_below Wrap d lo hi step align x one below wide low high =
    let e = pos-extent lo hi in
    rw (int_lt-false (pos 0) d (omega (arith, ints)), int_lt-true d (pos 0) (omega (arith, ints)), int_lt-true (pos 0) (neg_ℤ d) (omega (arith, ints)))
    (omega (arith, ints, clamps, e), omega (arith, ints, clamps, e), unit_step (x +ℤ pos (extent lo hi)) align step one)
source_below Reflect d lo hi step align x one below wide low high =
    rw (int_lt-false (pos 0) d (omega (arith, ints)), int_lt-true d (pos 0) (omega (arith, ints)))
    (omega (arith, ints), omega (arith, ints), unit_step (((pos 2 *ℤ lo) -ℤ pos 1) -ℤ x) align step one)

-- of a range, where d is positive or negative
border_range_lies : (kind : Border) (d lo hi step align x : ℤ) → step ≡ pos 1 → pos (unsigned_abs d) ≤ℤ pos (extent lo hi) → (d ≡ pos 0 → ⊥) → (d ≡ pos 0) ⊎ ((pos 0 <ℤ d) ⊎ (d <ℤ pos 0))
    → IsCoordinate (dim_outside_of d (Range lo hi step align)) x → IsCoordinate (dim_inside_of (side kind d) (Range lo hi step align)) (dim_border_source kind d (Range lo hi step align) x)
border_range_lies kind d lo hi step align x one wide other (inl same) is = absurd (other same)
border_range_lies kind d lo hi step align x one wide other (inr (inl above)) is =
    let test : int_lt (pos 0) d ≡ true = int_lt-true (pos 0) d above in
    let at = rw test at is in
    source_above kind d lo hi step align x one (omega (arith, ints)) (omega (arith, ints, clamps, pos-extent lo hi)) at.0 at.1
border_range_lies kind d lo hi step align x one wide other (inr (inr below)) is =
    let test : int_lt (pos 0) d ≡ false = int_lt-false (pos 0) d (omega (arith, ints)) in
    let test' : int_lt d (pos 0) ≡ true = int_lt-true d (pos 0) below in
    let at = rw (test, test') at is in
    source_below kind d lo hi step align x one (omega (arith, ints)) (omega (arith, ints, clamps, pos-extent lo hi)) at.0 at.1

pub by_sign : (d : ℤ) → (d ≡ pos 0) ⊎ ((pos 0 <ℤ d) ⊎ (d <ℤ pos 0))
by_sign (pos zero) = inl refl
by_sign (pos (suc n)) = inr (inl (omega (arith, ints)))
by_sign (negsuc n) = inr (inr (omega (arith, ints)))

pub nat_le-true : (m n : ℕ) → nat_le m n ≡ true → m ≤ n
nat_le-true m n e = grind (arith, nat_tests)

-- where a component that isn't 0 conforms, the extent is at least its size
pub wide_enough : (d lo hi step align : ℤ) → dim_border_conforms d (Range lo hi step align) ≡ true → (d ≡ pos 0 → ⊥) → unsigned_abs d ≤ extent lo hi
wide_enough d lo hi step align e other = by_case (or_cases (int_eq d (pos 0)) (int_eq step (pos 1) && nat_le (unsigned_abs d) (extent lo hi)) e)
  where
    by_case : (int_eq d (pos 0) ≡ true) ⊎ ((int_eq step (pos 1) && nat_le (unsigned_abs d) (extent lo hi)) ≡ true) → unsigned_abs d ≤ extent lo hi
    by_case (inl same) = absurd (other (zero_component d same))
    by_case (inr both) = nat_le-true (unsigned_abs d) (extent lo hi) (and_parts (int_eq step (pos 1)) (nat_le (unsigned_abs d) (extent lo hi)) both).1

still_source : (kind : Border) (dim : Dim) (x : ℤ) → IsCoordinate (dim_outside_of (pos 0) dim) x → IsCoordinate (dim_inside_of (side kind (pos 0)) dim) (dim_border_source kind (pos 0) dim x)
still_source Wrap Flood x is = is
still_source Reflect Flood x is = is
still_source Wrap (Range lo hi step align) x is = is
still_source Reflect (Range lo hi step align) x is = is

flood_source_still : (kind : Border) (d x : ℤ) → IsCoordinate Flood x → IsCoordinate (dim_inside_of (side kind d) Flood) (dim_border_source kind d Flood x)
flood_source_still Wrap d x is = is
flood_source_still Reflect d x is = is

border_dim_lies : (kind : Border) (d : ℤ) (dim : Dim) (x : ℤ) → dim_border_conforms d dim ≡ true → IsCoordinate (dim_outside_of d dim) x
    → IsCoordinate (dim_inside_of (side kind d) dim) (dim_border_source kind d dim x)
border_dim_lies kind d Flood x e is = flood_source_still kind d x is
border_dim_lies kind d (Range lo hi step align) x e is = by_case (by_sign d) (or_cases (int_eq d (pos 0)) (int_eq step (pos 1) && nat_le (unsigned_abs d) (extent lo hi)) e)
  where
    still : d ≡ pos 0 → IsCoordinate (dim_inside_of (side kind d) (Range lo hi step align)) (dim_border_source kind d (Range lo hi step align) x)
    still zero_is =
        subst (λ c. IsCoordinate (dim_inside_of (side kind c) (Range lo hi step align)) (dim_border_source kind c (Range lo hi step align) x)) (sym zero_is)
        (still_source kind (Range lo hi step align) x (subst (λ c. IsCoordinate (dim_outside_of c (Range lo hi step align)) x) zero_is is))

    nonzero : (d ≡ pos 0) ⊎ ((pos 0 <ℤ d) ⊎ (d <ℤ pos 0)) → step ≡ pos 1 → unsigned_abs d ≤ extent lo hi → IsCoordinate (dim_inside_of (side kind d) (Range lo hi step align)) (dim_border_source kind d (Range lo hi step align) x)
    nonzero (inl zero_is) one wide = still zero_is
    nonzero (inr sign) one wide = border_range_lies kind d lo hi step align x one (omega (arith, ints)) (λ z. differs sign z) (inr sign) is
      where
        differs : (pos 0 <ℤ d) ⊎ (d <ℤ pos 0) → d ≡ pos 0 → ⊥
        differs (inl above) z = omega (arith, ints)
        differs (inr below) z = omega (arith, ints)

    by_case : (d ≡ pos 0) ⊎ ((pos 0 <ℤ d) ⊎ (d <ℤ pos 0)) → (int_eq d (pos 0) ≡ true) ⊎ ((int_eq step (pos 1) && nat_le (unsigned_abs d) (extent lo hi)) ≡ true)
        → IsCoordinate (dim_inside_of (side kind d) (Range lo hi step align)) (dim_border_source kind d (Range lo hi step align) x)
    by_case sign (inl zero_is) = still (zero_component d zero_is)
    by_case sign (inr both) =
        let p = and_parts (int_eq step (pos 1)) (nat_le (unsigned_abs d) (extent lo hi)) both in
        nonzero sign ((Decides-int_eq step (pos 1)).0 p.0) (nat_le-true (unsigned_abs d) (extent lo hi) p.1)

dims_border_lie : (kind : Border) (v : List ℤ) (dims : List Dim) (t : List ℤ) → each_border_conforms v dims ≡ true → AllZip IsCoordinate (each dim_outside_of v dims) t
    → AllZip IsCoordinate (each dim_inside_of (map (side kind) v) dims) (each_border_source kind v dims t)
dims_border_lie kind [] dims t e z = z
dims_border_lie kind (d ∷ v) [] t e z = z
dims_border_lie kind (d ∷ v) (dim ∷ dims) [] e z = absurd z
dims_border_lie kind (d ∷ v) (dim ∷ dims) (x ∷ t) e z =
    let p = and_parts (dim_border_conforms d dim) (each_border_conforms v dims) e in
    (border_dim_lies kind d dim x p.0 z.0, dims_border_lie kind v dims t p.1 z.1)

pub components-side : (kind : Border) (rank : ℕ) (d : List ℤ) → components rank (map (side kind) d) ≡ map (side kind) (components rank d)
components-side kind rank [] = refl
components-side Wrap zero (x ∷ d) = ap (λ l. pos 0 ∷ l) (components-side Wrap zero d)
components-side Reflect zero (x ∷ d) = ap (λ l. pos 0 ∷ l) (components-side Reflect zero d)
components-side kind (suc rank) (x ∷ d) = ap (λ l. side kind x ∷ l) (components-side kind rank d)

map_id : (d : List ℤ) → map (side Reflect) d ≡ d
map_id [] = refl
map_id (x ∷ d) = ap (λ l. x ∷ l) (map_id d)

pub sources_are : (kind : Border) (r : Region) (d : List ℤ) → inside_of (map (side kind) d) r ≡ border_sources kind r d
sources_are Wrap r d = refl
sources_are Reflect r d = ap (λ v. inside_of v r) (map_id d)

-- the source of a tuple of `d of R` is one of the source tuples
pub border_source_lies : (kind : Border) (r : Region) (d t : List ℤ) → border_conforms d r ≡ true → IsMember (outside_of d r) t → IsMember (border_sources kind r d) (border_source kind r d t)
border_source_lies kind r d t e z =
    subst (λ s. IsMember s (border_source kind r d t)) (sources_are kind r d)
    (subst (λ v. AllZip IsCoordinate (each dim_inside_of v r.dims) (border_source kind r d t)) (sym (components-side kind r.rank d))
    (dims_border_lie kind (components r.rank d) r.dims t e z))

-- ---- for the code
pub around_is : (lo hi step align d x a b rest sum : ℤ) → sum ≡ lo +ℤ rest → rest ≡ int_rem_euclid a b → a ≡ (x +ℤ d) -ℤ lo → b ≡ pos (extent lo hi) → sum ≡ dim_around d (Range lo hi step align) x
around_is lo hi step align d x a b rest sum e f g h = e ∙ ap (λ z. lo +ℤ z) (f ∙ (ap (λ z. int_rem_euclid z b) g ∙ ap (int_rem_euclid ((x +ℤ d) -ℤ lo)) h))

pub home_is_wide : (lo hi step align : ℤ) → pos 1 ≤ℤ step → 0 < coordinate_count (Range lo hi step align) → (lo ≤ℤ hi) × (pos (extent lo hi) ≡ (hi -ℤ lo) +ℤ pos 1)
home_is_wide lo hi step align h some =
    let e = ends_in_bounds lo hi step align h some in
    (omega (arith, ints, e), omega (arith, ints, clamps, e, pos-extent lo hi))

pub remainder_between : (z b r : ℤ) (n : ℕ) → 0 < n → b ≡ pos n → r ≡ int_rem_euclid z b → (pos 0 ≤ℤ r) × (r <ℤ pos n)
remainder_between z b r n h e f =
    let is : r ≡ int_rem_euclid z (pos n) = f ∙ ap (int_rem_euclid z) e in
    let w = rem_euclid-above z n h in
    (omega (arith, ints, w), omega (arith, ints, w))

pub near_fits : (z : ℤ) → neg_ℤ (pos (2 ^ 44)) ≤ℤ z → z ≤ℤ pos (2 ^ 44) → FitsSigned w64 z
near_fits (pos n) low high = record { sfits = omega (arith, ints) }
near_fits (negsuc n) low high = record { sfits = omega (arith, ints) }

module _ (lo hi step align d x y : ℤ) where
  pub wrapped_above : pos 0 <ℤ d → y ≡ x -ℤ pos (extent lo hi) → y ≡ dim_border_source Wrap d (Range lo hi step align) x
  wrapped_above above e = rw (int_lt-true (pos 0) d above) e

  pub wrapped_below : d <ℤ pos 0 → y ≡ x +ℤ pos (extent lo hi) → y ≡ dim_border_source Wrap d (Range lo hi step align) x
  wrapped_below below e = rw (int_lt-false (pos 0) d (omega (arith, ints)), int_lt-true d (pos 0) below) e

  pub mirrored_above : pos 0 <ℤ d → y ≡ ((pos 2 *ℤ hi) +ℤ pos 1) -ℤ x → y ≡ dim_border_source Reflect d (Range lo hi step align) x
  mirrored_above above e = rw (int_lt-true (pos 0) d above) e

  pub mirrored_below : d <ℤ pos 0 → y ≡ ((pos 2 *ℤ lo) -ℤ pos 1) -ℤ x → y ≡ dim_border_source Reflect d (Range lo hi step align) x
  mirrored_below below e = rw (int_lt-false (pos 0) d (omega (arith, ints)), int_lt-true d (pos 0) below) e
