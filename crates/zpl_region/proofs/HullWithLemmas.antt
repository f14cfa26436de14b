-- Lemmas on the hull of two regions.
use Rattle.std.proofs.Common.{◌≡◌, ℕ, zero, suc, ◌-◌, ◌*◌, ◌<◌, Bool, true, false, cond, ◌&&◌, ◌||◌, All, List, [], ◌∷◌, drop, replicate, ℤ, pos, ◌-ℤ◌, ◌*ℤ◌, ◌≤ℤ◌, refl, sym, ◌∙◌, ap, arith}
use Rattle.std.specs.List.{AllZip}
use Rattle.std.specs.Int.RustNames.{int_le}
use Rattle.std.specs.Int.{int_max, int_min}
use Rattle.std.proofs.lemmas.Int.{ints, clamps}
use Rattle.std.proofs.lemmas.Bool.{and_from, and_parts}
use Rattle.std.proofs.lemmas.List.Elements.{All-cons, All-head, All-nil, All-tail}
use Rattle.zpl_region.specs.declared.dims.Dim.{Dim}
use Rattle.zpl_region.specs.declared.dims.Dim.TheVariants.{Range, Flood}
use Rattle.zpl_region.specs.declared.regions.Region.{Region}
use Rattle.zpl_region.specs.Dim.{HasStep, IsCoordinate, IsDim}
use Rattle.zpl_region.specs.Region.{IsMember, IsRegion, components, padding}
use Rattle.zpl_region.specs.Ends.{coordinate_count, first_of, has_none, last_of, tuple_count}
use Rattle.zpl_region.specs.Hull.{AreAlike, IsBoxed, IsSameKind, all_from, dim_hull_with, each_hull_with, hull, hull_with}
use Rattle.zpl_region.specs.Tests.{each_is_in_box, is_dim_in_box, is_in_box}
use Rattle.zpl_region.proofs.ListLemmas.{cons_same, le_from_test, test_from_le}
use Rattle.zpl_region.proofs.DimLemmas.{Among-coordinates}
use Rattle.zpl_region.proofs.EndLemmas.{between_ends, positive_left, positive_right}
use Rattle.zpl_region.proofs.HullLemmas.{ends_in_bounds, first-all_from, has_steps, hull_boxed, hull_in_box, hull_region, last-all_from, member_of_hull, no_count, some-all_from, some_from, some_tuple}

-- tests that pass together are the same
same_tests : (a b : Bool) → (a ≡ true → b ≡ true) → (b ≡ true → a ≡ true) → a ≡ b
same_tests true b there back = sym (there refl)
same_tests false true there back = back refl
same_tests false false there back = refl

-- the widest of two ranges that have coordinates
wide_ordered : (d e : Dim) → HasStep d → HasStep e → 0 < coordinate_count d → 0 < coordinate_count e → IsSameKind d e → 0 < coordinate_count (dim_hull_with d e)
wide_ordered Flood Flood h k f g same = f
wide_ordered Flood (Range lo hi step align) h k f g same = absurd same
wide_ordered (Range lo hi step align) Flood h k f g same = absurd same
wide_ordered (Range lo hi step align) (Range lo' hi' step' align') h k f g same =
    let d = Range lo hi step align in
    let e = Range lo' hi' step' align' in
    let b = ends_in_bounds lo hi step align h f in
    some-all_from (int_min (first_of d) (first_of e)) (int_max (last_of d) (last_of e)) (omega (arith, ints, clamps, b.1))

widest : (lo hi f l f' l' : ℤ) → (int_le lo (int_min f f') && int_le (int_max l l') hi) ≡ ((int_le lo f && int_le l hi) && (int_le lo f' && int_le l' hi))
widest lo hi f l f' l' = same_tests (int_le lo (int_min f f') && int_le (int_max l l') hi) ((int_le lo f && int_le l hi) && (int_le lo f' && int_le l' hi)) there back
  where
    there : (int_le lo (int_min f f') && int_le (int_max l l') hi) ≡ true → ((int_le lo f && int_le l hi) && (int_le lo f' && int_le l' hi)) ≡ true
    there e =
        let p = and_parts (int_le lo (int_min f f')) (int_le (int_max l l') hi) e in
        let low = le_from_test lo (int_min f f') p.0 in
        let high = le_from_test (int_max l l') hi p.1 in
        and_from (int_le lo f && int_le l hi) (int_le lo f' && int_le l' hi)
        (and_from (int_le lo f) (int_le l hi) (test_from_le lo f (omega (arith, ints, clamps))) (test_from_le l hi (omega (arith, ints, clamps))))
        (and_from (int_le lo f') (int_le l' hi) (test_from_le lo f' (omega (arith, ints, clamps))) (test_from_le l' hi (omega (arith, ints, clamps))))

    back : ((int_le lo f && int_le l hi) && (int_le lo f' && int_le l' hi)) ≡ true → (int_le lo (int_min f f') && int_le (int_max l l') hi) ≡ true
    back e =
        let p = and_parts (int_le lo f && int_le l hi) (int_le lo f' && int_le l' hi) e in
        let q = and_parts (int_le lo f) (int_le l hi) p.0 in
        let w = and_parts (int_le lo f') (int_le l' hi) p.1 in
        let a = le_from_test lo f q.0 in
        let b = le_from_test l hi q.1 in
        let c = le_from_test lo f' w.0 in
        let d = le_from_test l' hi w.1 in
        and_from (int_le lo (int_min f f')) (int_le (int_max l l') hi) (test_from_le lo (int_min f f') (omega (arith, ints, clamps))) (test_from_le (int_max l l') hi (omega (arith, ints, clamps)))

-- the test of a range that has coordinates is one of its ends
by_ends : (lo hi : ℤ) (from to step align : ℤ) → 0 < coordinate_count (Range from to step align)
    → is_dim_in_box lo hi (Range from to step align) ≡ (int_le lo (first_of (Range from to step align)) && int_le (last_of (Range from to step align)) hi)
by_ends lo hi from to step align some =
    let d = Range from to step align in
    ap (λ b. b || (int_le lo (first_of d) && int_le (last_of d) hi)) (no_count (coordinate_count d) some)

wide_in_box : (lo hi : ℤ) (d e : Dim) → HasStep d → HasStep e → 0 < coordinate_count d → 0 < coordinate_count e → IsSameKind d e
    → is_dim_in_box lo hi (dim_hull_with d e) ≡ (is_dim_in_box lo hi d && is_dim_in_box lo hi e)
wide_in_box lo hi Flood Flood h k f g same = refl
wide_in_box lo hi Flood (Range from to step align) h k f g same = absurd same
wide_in_box lo hi (Range from to step align) Flood h k f g same = absurd same
wide_in_box lo hi (Range from to step align) (Range from' to' step' align') h k f g same =
    let d = Range from to step align in
    let e = Range from' to' step' align' in
    let low = int_min (first_of d) (first_of e) in
    let high = int_max (last_of d) (last_of e) in
    let b = ends_in_bounds from to step align h f in
    let in_order : low ≤ℤ high = omega (arith, ints, clamps, b.1) in
    by_ends lo hi low high (pos 1) low (some-all_from low high in_order)
    ∙ (ap (λ z. int_le lo z && int_le (last_of (all_from low high)) hi) (first-all_from low high)
    ∙ (ap (λ z. int_le lo low && int_le z hi) (last-all_from low high in_order)
    ∙ (widest lo hi (first_of d) (last_of d) (first_of e) (last_of e)
    ∙ sym (ap (λ t. t && is_dim_in_box lo hi e) (by_ends lo hi from to step align f) ∙ ap (λ t. (int_le lo (first_of d) && int_le (last_of d) hi) && t) (by_ends lo hi from' to' step' align' g)))))

interchanged : (a b c d : Bool) → ((a && b) && (c && d)) ≡ ((a && c) && (b && d))
interchanged true true c d = refl
interchanged true false true d = refl
interchanged true false false d = refl
interchanged false b c d = refl

wides_in_box : (lo hi : List ℤ) (ds es : List Dim) → All HasStep ds → All HasStep es → 0 < tuple_count ds → 0 < tuple_count es → AllZip IsSameKind ds es
    → each_is_in_box lo hi (each_hull_with ds es) ≡ (each_is_in_box lo hi ds && each_is_in_box lo hi es)
wides_in_box [] hi ds es h k f g same = refl
wides_in_box (l ∷ lo) [] ds es h k f g same = refl
wides_in_box (l ∷ lo) (u ∷ hi) [] [] h k f g same = refl
wides_in_box (l ∷ lo) (u ∷ hi) [] (e ∷ es) h k f g same = absurd same
wides_in_box (l ∷ lo) (u ∷ hi) (d ∷ ds) [] h k f g same = absurd same
wides_in_box (l ∷ lo) (u ∷ hi) (d ∷ ds) (e ∷ es) h k f g same =
    ap (λ b. b && each_is_in_box lo hi (each_hull_with ds es)) (wide_in_box l u d e (All-head HasStep d ds h) (All-head HasStep e es k) (positive_left (coordinate_count d) (tuple_count ds) f) (positive_left (coordinate_count e) (tuple_count es) g) same.0)
    ∙ (ap (λ b. (is_dim_in_box l u d && is_dim_in_box l u e) && b) (wides_in_box lo hi ds es (All-tail HasStep d ds h) (All-tail HasStep e es k) (positive_right (coordinate_count d) (tuple_count ds) f) (positive_right (coordinate_count e) (tuple_count es) g) same.1)
    ∙ interchanged (is_dim_in_box l u d) (is_dim_in_box l u e) (each_is_in_box lo hi ds) (each_is_in_box lo hi es))

wides_some : (ds es : List Dim) → All HasStep ds → All HasStep es → 0 < tuple_count ds → 0 < tuple_count es → AllZip IsSameKind ds es → 0 < tuple_count (each_hull_with ds es)
wides_some [] es h k f g same = omega arith
wides_some (d ∷ ds) [] h k f g same = omega arith
wides_some (d ∷ ds) (e ∷ es) h k f g same =
    positive (wide_ordered d e (All-head HasStep d ds h) (All-head HasStep e es k) (positive_left (coordinate_count d) (tuple_count ds) f) (positive_left (coordinate_count e) (tuple_count es) g) same.0)
    (wides_some ds es (All-tail HasStep d ds h) (All-tail HasStep e es k) (positive_right (coordinate_count d) (tuple_count ds) f) (positive_right (coordinate_count e) (tuple_count es) g) same.1)
  where
    positive : {m n : ℕ} → 0 < m → 0 < n → 0 < m * n
    positive {m} {n} f g = grind arith

-- ---- two regions
abbrev pub with_by : Bool → Bool → Region → Region → Region
with_by b c r s = cond b (hull r) (cond c (hull s) (record { rank = r.rank; dims = each_hull_with r.dims s.dims }))

and_true : (b : Bool) → (b && true) ≡ b
and_true true = refl
and_true false = refl

pub hull_with_in_box : (r s : Region) (lo hi : List ℤ) → AreAlike r s → is_in_box lo hi (hull_with r s) ≡ (is_in_box lo hi r && is_in_box lo hi s)
hull_with_in_box r s lo hi a = by_counts (has_none s) (has_none r) refl refl
  where
    box : List Dim → Bool
    box dims = each_is_in_box (components r.rank lo) (components r.rank hi) dims

    everywhere : (t : Region) → has_none t ≡ true → is_in_box lo hi t ≡ true
    everywhere t e = ap (λ b. b || each_is_in_box (components t.rank lo) (components t.rank hi) t.dims) e

    by_counts : (b c : Bool) → has_none s ≡ b → has_none r ≡ c → is_in_box lo hi (with_by b c r s) ≡ (is_in_box lo hi r && is_in_box lo hi s)
    by_counts true c none e =
        hull_in_box r lo hi (has_steps r.dims a.here.dims) a.here.padded
        ∙ (sym (and_true (is_in_box lo hi r)) ∙ ap (λ b. is_in_box lo hi r && b) (sym (everywhere s none)))
    by_counts false true some none =
        hull_in_box s lo hi (has_steps s.dims a.there.dims) a.there.padded ∙ ap (λ b. b && is_in_box lo hi s) (sym (everywhere r none))
    by_counts false false some more =
        let f = some_from r more in
        let g = some_from s some in
        let h = has_steps r.dims a.here.dims in
        let k = has_steps s.dims a.there.dims in
        ap (λ b. b || each_is_in_box (components r.rank lo) (components r.rank hi) (each_hull_with r.dims s.dims)) (no_count (tuple_count (each_hull_with r.dims s.dims)) (wides_some r.dims s.dims h k f g a.kinds))
        ∙ (wides_in_box (components r.rank lo) (components r.rank hi) r.dims s.dims h k f g a.kinds
        ∙ (ap (λ n. each_is_in_box (components r.rank lo) (components r.rank hi) r.dims && each_is_in_box (components n lo) (components n hi) s.dims) a.ranks
        ∙ sym (ap (λ b. (b || each_is_in_box (components r.rank lo) (components r.rank hi) r.dims) && is_in_box lo hi s) more
        ∙ ap (λ b. each_is_in_box (components r.rank lo) (components r.rank hi) r.dims && (b || each_is_in_box (components s.rank lo) (components s.rank hi) s.dims)) some)))

-- ---- its members
left_coordinate : (d e : Dim) (x : ℤ) → HasStep d → IsSameKind d e → IsCoordinate d x → IsCoordinate (dim_hull_with d e) x
left_coordinate Flood e x h same is = is
left_coordinate (Range lo hi step align) Flood x h same is = absurd same
left_coordinate (Range lo hi step align) (Range lo' hi' step' align') x h same is =
    let d = Range lo hi step align in
    let e = Range lo' hi' step' align' in
    let low = int_min (first_of d) (first_of e) in
    let b = between_ends d x h (Among-coordinates d x h is) in
    let whole : x -ℤ low ≡ (x -ℤ low) *ℤ pos 1 = omega (arith, ints) in
    (omega (arith, ints, clamps, b), omega (arith, ints, clamps, b), (x -ℤ low, whole))

right_coordinate : (d e : Dim) (x : ℤ) → HasStep e → IsSameKind d e → IsCoordinate e x → IsCoordinate (dim_hull_with d e) x
right_coordinate Flood Flood x h same is = is
right_coordinate Flood (Range lo hi step align) x h same is = absurd same
right_coordinate (Range lo hi step align) Flood x h same is = absurd same
right_coordinate (Range lo hi step align) (Range lo' hi' step' align') x h same is =
    let d = Range lo hi step align in
    let e = Range lo' hi' step' align' in
    let low = int_min (first_of d) (first_of e) in
    let b = between_ends e x h (Among-coordinates e x h is) in
    let whole : x -ℤ low ≡ (x -ℤ low) *ℤ pos 1 = omega (arith, ints) in
    (omega (arith, ints, clamps, b), omega (arith, ints, clamps, b), (x -ℤ low, whole))

left_coordinates : (ds es : List Dim) (t : List ℤ) → All HasStep ds → AllZip IsSameKind ds es → AllZip IsCoordinate ds t → AllZip IsCoordinate (each_hull_with ds es) t
left_coordinates [] es t h same z = z
left_coordinates (d ∷ ds) [] t h same z = absurd same
left_coordinates (d ∷ ds) (e ∷ es) [] h same z = absurd z
left_coordinates (d ∷ ds) (e ∷ es) (x ∷ t) h same z = (left_coordinate d e x (All-head HasStep d ds h) same.0 z.0, left_coordinates ds es t (All-tail HasStep d ds h) same.1 z.1)

right_coordinates : (ds es : List Dim) (t : List ℤ) → All HasStep es → AllZip IsSameKind ds es → AllZip IsCoordinate es t → AllZip IsCoordinate (each_hull_with ds es) t
right_coordinates [] [] t h same z = z
right_coordinates [] (e ∷ es) t h same z = absurd same
right_coordinates (d ∷ ds) [] t h same z = absurd same
right_coordinates (d ∷ ds) (e ∷ es) [] h same z = absurd z
right_coordinates (d ∷ ds) (e ∷ es) (x ∷ t) h same z = (right_coordinate d e x (All-head HasStep e es h) same.0 z.0, right_coordinates ds es t (All-tail HasStep e es h) same.1 z.1)

-- a tuple of a region that has none doesn't exist
none_is_member : {P : Type 0} (r : Region) (t : List ℤ) → All HasStep r.dims → has_none r ≡ true → IsMember r t → P
none_is_member r t h e z = absurd (let some = some_tuple r.dims t h z in let other = no_count (tuple_count r.dims) some in let both : true ≡ false = sym e ∙ other in cc)

pub left_member : (r s : Region) (t : List ℤ) → AreAlike r s → IsMember r t → IsMember (hull_with r s) t
left_member r s t a z = by_counts (has_none s) (has_none r) refl
  where
    by_counts : (b c : Bool) → has_none r ≡ c → IsMember (with_by b c r s) t
    by_counts true c e = member_of_hull r t (has_steps r.dims a.here.dims) z
    by_counts false true none = none_is_member r t (has_steps r.dims a.here.dims) none z
    by_counts false false some = left_coordinates r.dims s.dims t (has_steps r.dims a.here.dims) a.kinds z

pub right_member : (r s : Region) (t : List ℤ) → AreAlike r s → IsMember s t → IsMember (hull_with r s) t
right_member r s t a z = by_counts (has_none s) (has_none r) refl
  where
    by_counts : (b c : Bool) → has_none s ≡ b → IsMember (with_by b c r s) t
    by_counts true c none = none_is_member s t (has_steps s.dims a.there.dims) none z
    by_counts false true some = member_of_hull s t (has_steps s.dims a.there.dims) z
    by_counts false false some = right_coordinates r.dims s.dims t (has_steps s.dims a.there.dims) a.kinds z

-- ---- it is a box, and a region again
boxed_wides : (ds es : List Dim) → AllZip IsSameKind ds es → All IsBoxed (each_hull_with ds es)
boxed_wides [] es same = All-nil IsBoxed
boxed_wides (d ∷ ds) [] same = All-nil IsBoxed
boxed_wides (Flood ∷ ds) (e ∷ es) same = All-cons IsBoxed Flood (each_hull_with ds es) tt (boxed_wides ds es same.1)
boxed_wides (Range lo hi step align ∷ ds) (Flood ∷ es) same = absurd same.0
boxed_wides (Range lo hi step align ∷ ds) (Range lo' hi' step' align' ∷ es) same =
    All-cons IsBoxed (dim_hull_with (Range lo hi step align) (Range lo' hi' step' align')) (each_hull_with ds es) (refl, refl) (boxed_wides ds es same.1)

pub hull_with_boxed : (r s : Region) → AreAlike r s → All IsBoxed (hull_with r s).dims
hull_with_boxed r s a = by_counts (has_none s) (has_none r)
  where
    by_counts : (b c : Bool) → All IsBoxed (with_by b c r s).dims
    by_counts true c = hull_boxed r a.here.padded
    by_counts false true = hull_boxed s a.there.padded
    by_counts false false = boxed_wides r.dims s.dims a.kinds

wide_dim : (d e : Dim) → IsDim d → IsDim e → 0 < coordinate_count d → 0 < coordinate_count e → IsSameKind d e → IsDim (dim_hull_with d e)
wide_dim Flood e is also f g same = is
wide_dim (Range lo hi step align) Flood is also f g same = absurd same
wide_dim (Range lo hi step align) (Range lo' hi' step' align') is also f g same =
    let b = ends_in_bounds lo hi step align is.0 f in
    let c = ends_in_bounds lo' hi' step' align' also.0 g in
    (omega (arith, ints), ((omega (arith, ints, clamps, b, c), omega (arith, ints, clamps, b, c)), (omega (arith, ints, clamps, b, c), omega (arith, ints, clamps, b, c))), (omega (arith, ints, clamps, b, c), omega (arith, ints, clamps, b, c)))

wide_dims : (ds es : List Dim) → All IsDim ds → All IsDim es → 0 < tuple_count ds → 0 < tuple_count es → AllZip IsSameKind ds es → All IsDim (each_hull_with ds es)
wide_dims [] es is also f g same = All-nil IsDim
wide_dims (d ∷ ds) [] is also f g same = All-nil IsDim
wide_dims (d ∷ ds) (e ∷ es) is also f g same =
    All-cons IsDim (dim_hull_with d e) (each_hull_with ds es)
    (wide_dim d e (All-head IsDim d ds is) (All-head IsDim e es also) (positive_left (coordinate_count d) (tuple_count ds) f) (positive_left (coordinate_count e) (tuple_count es) g) same.0)
    (wide_dims ds es (All-tail IsDim d ds is) (All-tail IsDim e es also) (positive_right (coordinate_count d) (tuple_count ds) f) (positive_right (coordinate_count e) (tuple_count es) g) same.1)

wides_none : (ds : List Dim) → each_hull_with ds [] ≡ []
wides_none [] = refl
wides_none (d ∷ ds) = refl

drop_wides : (rank : ℕ) (ds es : List Dim) → drop rank (each_hull_with ds es) ≡ each_hull_with (drop rank ds) (drop rank es)
drop_wides zero ds es = refl
drop_wides (suc rank) [] es = refl
drop_wides (suc rank) (d ∷ ds) [] = sym (wides_none (drop rank ds))
drop_wides (suc rank) (d ∷ ds) (e ∷ es) = drop_wides rank ds es

wides_of_padding : (n : ℕ) → each_hull_with (replicate n padding) (replicate n padding) ≡ replicate n padding
wides_of_padding zero = refl
wides_of_padding (suc n) = cons_same refl (wides_of_padding n)

pub hull_with_region : (r s : Region) → AreAlike r s → IsRegion (hull_with r s)
hull_with_region r s a = by_counts (has_none s) (has_none r) refl refl
  where
    by_counts : (b c : Bool) → has_none s ≡ b → has_none r ≡ c → IsRegion (with_by b c r s)
    by_counts true c none e = hull_region r a.here
    by_counts false true some none = hull_region s a.there
    by_counts false false some more = record {
      rank_above = a.here.rank_above;
      rank_below = a.here.rank_below;
      dims = wide_dims r.dims s.dims a.here.dims a.there.dims (some_from r more) (some_from s some) a.kinds;
      padded = drop_wides r.rank r.dims s.dims
          ∙ (ap (λ ds. each_hull_with ds (drop r.rank s.dims)) a.here.padded
          ∙ (ap (λ es. each_hull_with (replicate (3 - r.rank) padding) es) (ap (λ n. drop n s.dims) a.ranks ∙ (a.there.padded ∙ ap (λ n. replicate (3 - n) padding) (sym a.ranks)))
          ∙ wides_of_padding (3 - r.rank)));
    }
