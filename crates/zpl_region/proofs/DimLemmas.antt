-- Lemmas on the coordinates of a dimension.
use Rattle.std.proofs.Common.{◌≡◌, ℕ, zero, suc, ◌+◌, ◌-◌, ◌*◌, ◌/◌, ◌%◌, ◌<◌, ◌≤◌, ◌↔◌, IsTrue, nat_eq, Bool, true, false, ◌&&◌, [], ℤ, pos, negsuc, neg_ℤ, ◌+ℤ◌, ◌-ℤ◌, ◌*ℤ◌, ◌≤ℤ◌, ◌<ℤ◌, inl, inr, refl, sym, ◌∙◌, ap, subst, map, add-one, arith}
use Rattle.std.specs.List.{filter}
use Rattle.std.specs.Int.RustNames.{int_div, int_rem, unsigned_abs}
use Rattle.std.specs.Int.{int_max, int_min, int_rem_euclid}
use Rattle.std.proofs.lemmas.List.Elements.{filter_agree}
use Rattle.std.specs.Ordering.{int_eq}
use Rattle.std.proofs.lemmas.Int.{ints, clamps, quot-rem}
use borrow.Author.Differences.{up, down, product_is}
use Rattle.std.proofs.lemmas.Bool.Decides.{Decides-int_eq}
use Rattle.std.proofs.lemmas.Nat.{mod-mul-add}
use Rattle.zpl_region.specs.declared.dims.Dim.{Dim}
use Rattle.zpl_region.specs.declared.dims.Dim.TheVariants.{Range, Flood}
use Rattle.zpl_region.specs.Dim.{extent, integers, IsMultiple, is_multiple, IsCoordinate, coordinates, HasStep, IsSameSet, coordinate_moved, dim_moved, dim_met, lies_within}
use Rattle.zpl_region.specs.declared.progressions.Progression.{Progression}
use Rattle.zpl_region.specs.Progression.{IsNormal, progression, terms}
use Rattle.zpl_region.proofs.ListLemmas.{no_test, cons_same, Among, among_from_Contains, Contains-from_among, Among-filter, among_filtered, Rises, Rises-filter, same_ascending, filter-map}
use Rattle.zpl_region.proofs.ProgressionLemmas.{terms_from_test, test_from_terms, between-true, true-between, Contains-progression, place_in_progression}

-- ---- products
add_times : (a b : ℤ) (s : ℕ) → (a +ℤ b) *ℤ pos s ≡ (a *ℤ pos s) +ℤ (b *ℤ pos s)
add_times a b s =
    let sum : up (a +ℤ b) + down a + down b ≡ down (a +ℤ b) + up a + up b = omega (arith, ints) in
    omega (arith, ints, product_is (a +ℤ b) (pos s), product_is a (pos s), product_is b (pos s), ap (λ n. n * s) sum)

less_times : (a b : ℤ) (s : ℕ) → (a -ℤ b) *ℤ pos s ≡ (a *ℤ pos s) -ℤ (b *ℤ pos s)
less_times a b s =
    let difference : up (a -ℤ b) + down a + up b ≡ down (a -ℤ b) + up a + down b = omega (arith, ints) in
    omega (arith, ints, product_is (a -ℤ b) (pos s), product_is a (pos s), product_is b (pos s), ap (λ n. n * s) difference)

-- ---- multiples
-- no number from 1 to s - 1 is a multiple of s
no_multiple : (s k : ℕ) (m : ℤ) → 0 < k → k < s → pos k ≡ m *ℤ pos s → ⊥
no_multiple s k (pos zero) h l e = omega (arith, ints)
no_multiple s k (pos (suc m)) h l e = omega (arith, ints)
no_multiple s k (negsuc m) h l e = omega (arith, ints)

rem_of_multiple : (s : ℕ) (z q : ℤ) → 0 < s → z ≡ q *ℤ pos s → int_rem z (pos s) ≡ pos 0
rem_of_multiple s (pos a) (pos m) h e =
    let is : a ≡ m * s + 0 = omega (arith, ints) in
    ap pos (ap (λ n. n % s) is ∙ mod-mul-add m s 0 h)
rem_of_multiple s (pos zero) (negsuc m) h e = absurd (omega (arith, ints))
rem_of_multiple s (pos (suc a)) (negsuc m) h e = absurd (omega (arith, ints))
rem_of_multiple s (negsuc a) (pos m) h e = absurd (omega (arith, ints))
rem_of_multiple s (negsuc a) (negsuc m) h e =
    let is : suc a ≡ suc m * s + 0 = omega (arith, ints) in
    ap (λ n. neg_ℤ (pos n)) (ap (λ n. n % s) is ∙ mod-mul-add (suc m) s 0 h)

pub multiple_passes : (s : ℕ) (z q : ℤ) → 0 < s → z ≡ q *ℤ pos s → is_multiple (pos s) z ≡ true
multiple_passes s z q h e = (Decides-int_eq (int_rem z (pos s)) (pos 0)).1 (rem_of_multiple s z q h e)

pub passing_is_multiple : (s : ℕ) (z : ℤ) → is_multiple (pos s) z ≡ true → IsMultiple (pos s) z
passing_is_multiple s z e =
    let none : int_rem z (pos s) ≡ pos 0 = (Decides-int_eq (int_rem z (pos s)) (pos 0)).0 e in
    (int_div z (pos s), omega (arith, ints, quot-rem z (pos s)))

-- a number strictly between two multiples is none
pub between_fails : (s k : ℕ) (z q : ℤ) → 0 < k → k < s → (z +ℤ pos k) ≡ q *ℤ pos s → is_multiple (pos s) z ≡ false
between_fails s k z q h l e = no_test (is_multiple (pos s) z) (Decides-int_eq (int_rem z (pos s)) (pos 0)) (λ none.
    let e' : z ≡ int_div z (pos s) *ℤ pos s = omega (arith, ints, quot-rem z (pos s)) in
    no_multiple s k (q -ℤ int_div z (pos s)) h l (omega (arith, ints, less_times q (int_div z (pos s)) s)))

-- ---- the multiples among integers in a row
-- among n integers in a row, m are reached by steps of s when the first k are skipped
abbrev pub Reaches : ℕ → ℕ → ℕ → ℕ → Type 0
Reaches k n s zero = n ≤ k
Reaches k n s (suc j) = (k + j * s < n) × (n ≤ k + suc j * s)

-- lo + k is the first multiple from lo on
pub filter-multiples : (s : ℕ) (align lo q : ℤ) (k n m : ℕ) → k < s → ((lo +ℤ pos k) -ℤ align) ≡ q *ℤ pos s → Reaches k n s m
    → filter (λ x. is_multiple (pos s) (x -ℤ align)) (progression lo 1 n) ≡ progression (lo +ℤ pos k) s m
filter-multiples s align lo q k zero zero h e r = refl
filter-multiples s align lo q k zero (suc j) h e r = absurd (omega arith)
filter-multiples s align lo q zero (suc n) zero h e r = absurd (omega arith)
filter-multiples s align lo q zero (suc n) (suc j) h e r =
    let passes = multiple_passes s (lo -ℤ align) q h (omega (arith, ints)) in
    let next = filter-multiples s align (lo +ℤ pos 1) (q +ℤ pos 1) (s - 1) n j (omega arith) (omega (arith, ints, add_times q (pos 1) s)) (next_reaches j r) in
    rw passes (cons_same (omega (arith, ints)) (next ∙ ap (λ f. progression f s j) (omega (arith, ints))))
  where
    next_reaches : (j : ℕ) → (0 + j * s < suc n) × (suc n ≤ 0 + suc j * s) → Reaches (s - 1) n s j
    next_reaches zero r = omega arith
    next_reaches (suc i) r = (omega arith, omega arith)
filter-multiples s align lo q (suc k) (suc n) m h e r =
    let fails = between_fails s (suc k) (lo -ℤ align) q (omega arith) h (omega (arith, ints)) in
    let next = filter-multiples s align (lo +ℤ pos 1) q k n m (omega arith) (omega (arith, ints)) (next_reaches m r) in
    rw fails (next ∙ ap (λ f. progression f s m) (omega (arith, ints)))
  where
    next_reaches : (m : ℕ) → Reaches (suc k) (suc n) s m → Reaches k n s m
    next_reaches zero r = omega arith
    next_reaches (suc i) r = (omega arith, omega arith)

-- ---- integers in a row
pub pos-unsigned_abs : (z : ℤ) → pos 0 ≤ℤ z → pos (unsigned_abs z) ≡ z
pos-unsigned_abs (pos n) h = refl
pos-unsigned_abs (negsuc n) h = absurd (omega (arith, ints))

pub pos-extent : (lo hi : ℤ) → pos (extent lo hi) ≡ int_max (pos 0) ((hi -ℤ lo) +ℤ pos 1)
pos-extent lo hi = pos-unsigned_abs (int_max (pos 0) ((hi -ℤ lo) +ℤ pos 1)) (omega (arith, ints, clamps))

pub Rises-progression : (f : ℤ) (s n : ℕ) → 0 < s → Rises ◌<ℤ◌ (progression f s n)
Rises-progression f s zero h = tt
Rises-progression f s (suc n) h =
    ((λ y m. let w = place_in_progression (f +ℤ pos s) s n y (Contains-from_among (progression (f +ℤ pos s) s n) y m) in omega (arith, ints, w.2)), Rises-progression (f +ℤ pos s) s n h)

Among-integers : (lo hi x : ℤ) → lo ≤ℤ x → x ≤ℤ hi → Among (integers lo hi) x
Among-integers lo hi x l h =
    let i = unsigned_abs (x -ℤ lo) in
    let place : pos i ≡ x -ℤ lo = pos-unsigned_abs (x -ℤ lo) (omega (arith, ints)) in
    among_from_Contains (integers lo hi) x (Contains-progression lo 1 (extent lo hi) i x (omega (arith, ints, clamps, pos-extent lo hi)) (omega (arith, ints)))

among_integers : (lo hi x : ℤ) → Among (integers lo hi) x → (lo ≤ℤ x) × (x ≤ℤ hi)
among_integers lo hi x m =
    let w = place_in_progression lo 1 (extent lo hi) x (Contains-from_among (integers lo hi) x m) in
    (omega (arith, ints, w.2), omega (arith, ints, clamps, w.1, w.2, pos-extent lo hi))

-- ---- the coordinates of a dimension
pub Rises-coordinates : (dim : Dim) → Rises ◌<ℤ◌ (coordinates dim)
Rises-coordinates (Range lo hi step align) = Rises-filter ◌<ℤ◌ (λ x. is_multiple step (x -ℤ align)) (integers lo hi) (Rises-progression lo 1 (extent lo hi) (omega arith))
Rises-coordinates Flood = ((λ y m. absurd m), tt)

pub Among-range : (lo hi step align x : ℤ) → lo ≤ℤ x → x ≤ℤ hi → is_multiple step (x -ℤ align) ≡ true → Among (coordinates (Range lo hi step align)) x
Among-range lo hi step align x l h e = Among-filter (λ y. is_multiple step (y -ℤ align)) (integers lo hi) x (Among-integers lo hi x l h) e

pub among_range : (lo hi step align x : ℤ) → Among (coordinates (Range lo hi step align)) x → ((lo ≤ℤ x) × (x ≤ℤ hi)) × (is_multiple step (x -ℤ align) ≡ true)
among_range lo hi step align x m =
    let w = among_filtered (λ y. is_multiple step (y -ℤ align)) (integers lo hi) x m in (among_integers lo hi x w.0, w.1)

-- a step of at least 1 is a natural number
pub natural_step : (step : ℤ) → pos 1 ≤ℤ step → (s : ℕ) × (0 < s) × (pos s ≡ step)
natural_step (pos s) h = (s, omega (arith, ints), refl)
natural_step (negsuc s) h = absurd (omega (arith, ints))

pub Among-coordinates : (dim : Dim) (x : ℤ) → HasStep dim → IsCoordinate dim x → Among (coordinates dim) x
Among-coordinates (Range lo hi step align) x h (l, g, q) =
    let n = natural_step step h in
    Among-range lo hi step align x l g (subst (λ s. is_multiple s (x -ℤ align) ≡ true) n.2 (multiple_passes n.0 (x -ℤ align) q.0 n.1 (q.1 ∙ ap (λ s. q.0 *ℤ s) (sym n.2))))
Among-coordinates Flood x h e = inl (sym e)

pub among_coordinates : (dim : Dim) (x : ℤ) → HasStep dim → Among (coordinates dim) x → IsCoordinate dim x
among_coordinates (Range lo hi step align) x h m =
    let n = natural_step step h in
    let w = among_range lo hi step align x m in
    (w.0.0, w.0.1, subst (λ s. IsMultiple s (x -ℤ align)) n.2 (passing_is_multiple n.0 (x -ℤ align) (subst (λ s. is_multiple s (x -ℤ align) ≡ true) (sym n.2) w.1)))
among_coordinates Flood x h (inl e) = sym e
among_coordinates Flood x h (inr m) = absurd m

-- two dimensions are the same set where they have the same list of coordinates
pub coordinates-same : (d e : Dim) → HasStep d → HasStep e → ((x : ℤ) → IsCoordinate d x → IsCoordinate e x) → ((x : ℤ) → IsCoordinate e x → IsCoordinate d x) → coordinates d ≡ coordinates e
coordinates-same d e h k there back =
    same_ascending (coordinates d) (coordinates e) (Rises-coordinates d) (Rises-coordinates e) (λ x m. Among-coordinates e x k (there x (among_coordinates d x h m))) (λ x m. Among-coordinates d x h (back x (among_coordinates e x k m)))

-- ---- a dimension moved, and its part from lo to hi
progression-moved : (f d : ℤ) (s n : ℕ) → progression (f +ℤ d) s n ≡ map (λ x. x +ℤ d) (progression f s n)
progression-moved f d s zero = refl
progression-moved f d s (suc n) =
    let next : (f +ℤ d) +ℤ pos s ≡ (f +ℤ pos s) +ℤ d = omega (arith, ints) in
    cons_same refl (ap (λ g. progression g s n) next ∙ progression-moved (f +ℤ pos s) d s n)

pub coordinates-moved : (d : ℤ) (dim : Dim) → coordinates (dim_moved d dim) ≡ map (coordinate_moved d dim) (coordinates dim)
coordinates-moved d (Range lo hi step align) =
    let width : ((hi +ℤ d) -ℤ (lo +ℤ d)) +ℤ pos 1 ≡ (hi -ℤ lo) +ℤ pos 1 = omega (arith, ints) in
    let same : extent (lo +ℤ d) (hi +ℤ d) ≡ extent lo hi = ap (λ z. unsigned_abs (int_max (pos 0) z)) width in
    let test = λ (x : ℤ). is_multiple step (x -ℤ (align +ℤ d)) in
    ap (filter test) (ap (progression (lo +ℤ d) 1) same ∙ progression-moved lo d 1 (extent lo hi))
    ∙ (filter-map test (λ x. x +ℤ d) (integers lo hi)
    ∙ ap (map (λ x. x +ℤ d)) (filter_agree (λ x. test (x +ℤ d)) (λ x. is_multiple step (x -ℤ align)) (λ x. let gap : (x +ℤ d) -ℤ (align +ℤ d) ≡ x -ℤ align = omega (arith, ints) in ap (is_multiple step) gap) (integers lo hi)))
coordinates-moved d Flood = refl

pub coordinates-met : (lo hi : ℤ) (dim : Dim) → coordinates (dim_met lo hi dim) ≡ filter (lies_within lo hi dim) (coordinates dim)
coordinates-met lo hi (Range from to step align) =
    let range = Range from to step align in
    let inner = Range (int_max from lo) (int_min to hi) step align in
    same_ascending (coordinates inner) (filter (lies_within lo hi range) (coordinates range)) (Rises-coordinates inner) (Rises-filter ◌<ℤ◌ (lies_within lo hi range) (coordinates range) (Rises-coordinates range)) there back
  where
    there : (x : ℤ) → Among (coordinates (Range (int_max from lo) (int_min to hi) step align)) x → Among (filter (lies_within lo hi (Range from to step align)) (coordinates (Range from to step align))) x
    there x m =
        let w = among_range (int_max from lo) (int_min to hi) step align x m in
        Among-filter (lies_within lo hi (Range from to step align)) (coordinates (Range from to step align)) x (Among-range from to step align x (omega (arith, ints, clamps, w.0)) (omega (arith, ints, clamps, w.0)) w.1) (between-true lo hi x (omega (arith, ints, clamps, w.0)) (omega (arith, ints, clamps, w.0)))

    back : (x : ℤ) → Among (filter (lies_within lo hi (Range from to step align)) (coordinates (Range from to step align))) x → Among (coordinates (Range (int_max from lo) (int_min to hi) step align)) x
    back x m =
        let v = among_filtered (lies_within lo hi (Range from to step align)) (coordinates (Range from to step align)) x m in
        let w = among_range from to step align x v.0 in
        let b = true-between lo hi x v.1 in
        Among-range (int_max from lo) (int_min to hi) step align x (omega (arith, ints, clamps, w.0, b)) (omega (arith, ints, clamps, w.0, b)) w.1
coordinates-met lo hi Flood = refl

-- ---- for the code: a range as a progression
-- the first number from lo on that differs from align by a multiple of step is lo + k, and s is the step as a natural
pub record Skip (lo align step : ℤ) (k s : ℕ) : Type 0 where
  pub q : ℤ
  pub rising : 0 < s
  pub step_is : pos s ≡ step
  pub below : k < s
  pub multiple : ((lo +ℤ pos k) -ℤ align) ≡ q *ℤ pos s

skip_of : (lo align : ℤ) (s k : ℕ) (z : ℤ) → 0 < s → z ≡ align -ℤ lo → pos k ≡ int_rem_euclid z (pos s) → Skip lo align (pos s) k s
skip_of lo align s k (pos a) h e f =
    let is : k ≡ a % s = omega (arith, ints) in
    record {
      q = pos 0 -ℤ pos (a / s);
      rising = h;
      step_is = refl;
      below = omega arith;
      multiple = omega (arith, ints, less_times (pos 0) (pos (a / s)) s);
    }
skip_of lo align s k (negsuc a) h e f =
    let is : k ≡ s - 1 - a % s = omega (arith, ints) in
    record {
      q = pos (suc (a / s));
      rising = h;
      step_is = refl;
      below = omega arith;
      multiple = omega (arith, ints);
    }

pub skip_from : (lo align step z d r : ℤ) (k s : ℕ) → pos 1 ≤ℤ step → z ≡ align -ℤ lo → d ≡ step → r ≡ int_rem_euclid z d → pos k ≡ r → pos s ≡ step → Skip lo align step k s
skip_from lo align step z d r k s h e g f is step_is =
    subst (λ t. Skip lo align t k s) step_is
    (skip_of lo align s k z (omega (arith, ints)) e (is ∙ (f ∙ ap (int_rem_euclid z) (g ∙ sym step_is))))

module _ (lo hi step align : ℤ) (k s : ℕ) (skip : Skip lo align step k s) where
  pub range_coordinates : (first : ℤ) (n : ℕ) → first ≡ lo +ℤ pos k → Reaches k (extent lo hi) s n → progression first s n ≡ coordinates (Range lo hi step align)
  range_coordinates first n e reaches =
      ap (λ f. progression f s n) e
      ∙ (sym (filter-multiples s align lo skip.q k (extent lo hi) n skip.below skip.multiple reaches)
      ∙ ap (λ d. filter (λ x. is_multiple d (x -ℤ align)) (integers lo hi)) skip.step_is)

  pub range_empty : hi <ℤ (lo +ℤ pos k) → [] ≡ coordinates (Range lo hi step align)
  range_empty e = range_coordinates (lo +ℤ pos k) 0 refl (omega (arith, ints, clamps, pos-extent lo hi))

  -- room is how far the first number is below hi
  pub range_filled : (first : ℤ) (room : ℕ) → first ≡ lo +ℤ pos k → first +ℤ pos room ≡ hi → progression first s (room / s + 1) ≡ coordinates (Range lo hi step align)
  range_filled first room e f =
      let rising : 0 < s = skip.rising in
      ap (progression first s) (add-one (room / s))
      ∙ range_coordinates first (suc (room / s)) e (omega (arith, ints, clamps, pos-extent lo hi), omega (arith, ints, clamps, pos-extent lo hi))

pub same_range : {lo lo' hi hi' step step' align align' : ℤ} → lo ≡ lo' → hi ≡ hi' → step ≡ step' → align ≡ align' → ◌≡◌ {A = Dim} (Range lo hi step align) (Range lo' hi' step' align')
same_range a b c d = cc

pub same_lists : (d e : Dim) → HasStep d → HasStep e → coordinates d ≡ coordinates e → (x : ℤ) → IsCoordinate d x → IsCoordinate e x
same_lists d e h k same x m = among_coordinates e x k (subst (λ l. Among l x) same (Among-coordinates d x h m))

-- two ranges are the same set where they have the same normal form
pub same_ranges_iff : (p q : Progression) (r : Bool) (lo hi step align lo' hi' step' align' : ℤ) → pos 1 ≤ℤ step → pos 1 ≤ℤ step'
    → IsNormal p → IsNormal q → terms p ≡ coordinates (Range lo hi step align) → terms q ≡ coordinates (Range lo' hi' step' align')
    → r ≡ (int_eq p.first q.first && (nat_eq p.step q.step && nat_eq p.count q.count))
    → IsTrue r ↔ IsSameSet (Range lo hi step align) (Range lo' hi' step' align')
same_ranges_iff p q r lo hi step align lo' hi' step' align' h k n m e f t = (there, back)
  where
    d : Dim
    d = Range lo hi step align

    d' : Dim
    d' = Range lo' hi' step' align'

    there : IsTrue r → IsSameSet (Range lo hi step align) (Range lo' hi' step' align')
    there is_true =
        let same : coordinates (Range lo hi step align) ≡ coordinates (Range lo' hi' step' align') = sym e ∙ (terms_from_test p q (sym t ∙ is_true) ∙ f) in
        λ x. (same_lists (Range lo hi step align) (Range lo' hi' step' align') h k same x, same_lists (Range lo' hi' step' align') (Range lo hi step align) k h (sym same) x)

    back : IsSameSet (Range lo hi step align) (Range lo' hi' step' align') → IsTrue r
    back same =
        let lists = coordinates-same (Range lo hi step align) (Range lo' hi' step' align') h k (λ x. (same x).0) (λ x. (same x).1) in
        t ∙ test_from_terms p q n m (e ∙ (lists ∙ sym f))
