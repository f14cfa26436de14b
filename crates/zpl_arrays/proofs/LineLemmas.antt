-- Lemmas on lines and on their scans.
use Rattle.std.proofs.Common.{◌≡◌, ℕ, zero, suc, ◌-◌, ◌⊎◌, inl, inr, Bool, true, false, cond, ◌&&◌, ◌||◌, not, Some, None, List, [], ◌∷◌, map, take, length, slice_get, ℤ, ◌<ℤ◌, refl, sym, ◌∙◌, ap, subst, arith}
use Rattle.std.specs.List.{filter, fold}
use Rattle.std.specs.Int.RustNames.{int_le, int_lt}
use Rattle.std.specs.Ordering.{int_eq}
use Rattle.std.proofs.lemmas.Int.{ints}
use Rattle.std.proofs.lemmas.Bool.{and_parts}
use Rattle.std.proofs.lemmas.Bool.Decides.{Decides-int_eq}
use Rattle.std.proofs.lemmas.List.Elements.{filter_agree}
use Rattle.zpl_nums.specs.declared.folds.Fold.{Fold}
use Rattle.zpl_nums.specs.Fold.{folded, joined, unit_of}
use Rattle.zpl_nums.proofs.FoldLemmas.{fold_from, settled-folded}
use Rattle.zpl_region.specs.declared.dims.Dim.{Dim}
use Rattle.zpl_region.specs.declared.regions.Region.{Region}
use Rattle.zpl_region.specs.Dim.{coordinates}
use Rattle.zpl_region.specs.Region.{IsMember, IsRegion, is_before, members}
use Rattle.zpl_region.proofs.DimLemmas.{Rises-coordinates}
use Rattle.zpl_region.proofs.EndLemmas.{among_at}
use Rattle.zpl_region.proofs.HullLemmas.{has_steps}
use Rattle.zpl_region.proofs.LawLemmas.{members_iff}
use Rattle.zpl_region.proofs.ListLemmas.{Among, Contains-from_among, Rises, Rises-filter, among_filtered, cases_order_z, cons_same, int_eq-false, int_eq-true, int_lt-false, int_lt-true, test_from_le}
use Rattle.zpl_region.proofs.TupleLemmas.{AllRise, IsBefore, Rises-tuples}
use Rattle.zpl_arrays.specs.Fold.{kept_fold}
use Rattle.zpl_arrays.specs.Line.{is_on_line, line_through, masked_value}
use Rattle.zpl_arrays.specs.Row.{joined_with, running}
use Rattle.zpl_arrays.specs.Scan.{is_earlier_line, is_same_tuple, is_up_along, scanned, scanned_along}
use Rattle.zpl_arrays.proofs.FoldLemmas.{above, not_before_itself}
use Rattle.zpl_arrays.proofs.ScanLemmas.{scanned_by_lines}

-- ---- tuples on a line
tuple_from_test : (x t : List ℤ) → is_same_tuple x t ≡ true → t ≡ x
tuple_from_test [] [] e = refl
tuple_from_test [] (y ∷ t) e = absurd (cc)
tuple_from_test (x ∷ xs) [] e = absurd (cc)
tuple_from_test (x ∷ xs) (y ∷ t) e = let p = and_parts (int_eq y x) (is_same_tuple xs t) e in cons_same ((Decides-int_eq y x).0 p.0) (tuple_from_test xs t p.1)

and_false : (b : Bool) → (b && false) ≡ false
and_false true = refl
and_false false = refl

and_true : (b : Bool) → (b && true) ≡ b
and_true true = refl
and_true false = refl

le_is_not_above : (x y : ℤ) → int_le y x ≡ not (int_lt x y)
le_is_not_above x y = by_order (cases_order_z x y)
  where
    by_order : (x <ℤ y) ⊎ ((x ≡ y) ⊎ (y <ℤ x)) → int_le y x ≡ not (int_lt x y)
    by_order (inl l) = rw (above y x l, int_lt-true x y l) refl
    by_order (inr (inl same)) = rw (test_from_le y x (omega (arith, ints)), int_lt-false x y (omega (arith, ints))) refl
    by_order (inr (inr l)) = rw (test_from_le y x (omega (arith, ints)), int_lt-false x y (omega (arith, ints))) refl

nothing_further : (p q : Bool) → not (p || (q && false)) ≡ not p
nothing_further true q = refl
nothing_further false true = refl
nothing_further false false = refl

-- t is up to x along a line where it is on the line and doesn't stand after x
up_along_is : (k : ℕ) (x t : List ℤ) → is_up_along k x t ≡ (is_on_line k x t && not (is_before x t))
up_along_is k [] t = refl
up_along_is k (x ∷ xs) [] = refl
up_along_is zero (x ∷ xs) (y ∷ t) = by_test (is_same_tuple xs t) refl
  where
    by_test : (b : Bool) → is_same_tuple xs t ≡ b → (int_le y x && b) ≡ (b && not (int_lt x y || (int_eq x y && is_before xs t)))
    by_test false e = and_false (int_le y x)
    by_test true e =
        let last : is_before xs t ≡ false = subst (λ u. is_before xs u ≡ false) (sym (tuple_from_test xs t e)) (not_before_itself xs) in
        and_true (int_le y x)
        ∙ (le_is_not_above x y ∙ sym (ap (λ b. not (int_lt x y || (int_eq x y && b))) last ∙ nothing_further (int_lt x y) (int_eq x y)))
up_along_is (suc k) (x ∷ xs) (y ∷ t) = by_order (cases_order_z x y) (up_along_is k xs t)
  where
    by_order : (x <ℤ y) ⊎ ((x ≡ y) ⊎ (y <ℤ x)) → is_up_along k xs t ≡ (is_on_line k xs t && not (is_before xs t))
        → (int_eq y x && is_up_along k xs t) ≡ ((int_eq y x && is_on_line k xs t) && not (int_lt x y || (int_eq x y && is_before xs t)))
    by_order (inl l) further = rw (int_eq-false y x (λ e. omega (arith, ints))) refl
    by_order (inr (inl same)) further =
        subst (λ z. (int_eq z x && is_up_along k xs t) ≡ ((int_eq z x && is_on_line k xs t) && not (int_lt x z || (int_eq x z && is_before xs t)))) same (rw (int_eq-true x, int_lt-false x x (omega (arith, ints))) further)
    by_order (inr (inr l)) further = rw (int_eq-false y x (λ e. omega (arith, ints))) refl

-- the line through a tuple is that through each of its tuples
same_line : (k : ℕ) (x t u : List ℤ) → is_on_line k x t ≡ true → is_on_line k t u ≡ is_on_line k x u
same_line k [] t u e = absurd (cc)
same_line k (x ∷ xs) [] u e = absurd (cc)
same_line k (x ∷ xs) (y ∷ t) [] e = refl
same_line zero (x ∷ xs) (y ∷ t) (w ∷ u) e = ap (λ r. is_same_tuple r u) (tuple_from_test xs t e)
same_line (suc k) (x ∷ xs) (y ∷ t) (w ∷ u) e =
    let p = and_parts (int_eq y x) (is_on_line k xs t) e in
    ap (λ z. int_eq w z && is_on_line k t u) ((Decides-int_eq y x).0 p.0) ∙ ap (λ b. int_eq w x && b) (same_line k xs t u p.1)

-- and so are the earlier lines
same_earlier : (k : ℕ) (x t u : List ℤ) → is_on_line k x t ≡ true → is_earlier_line k t u ≡ is_earlier_line k x u
same_earlier k [] t u e = absurd (cc)
same_earlier k (x ∷ xs) [] u e = absurd (cc)
same_earlier zero (x ∷ xs) (y ∷ t) u e = refl
same_earlier (suc k) (x ∷ xs) (y ∷ t) [] e = refl
same_earlier (suc k) (x ∷ xs) (y ∷ t) (w ∷ u) e =
    let p = and_parts (int_eq y x) (is_on_line k xs t) e in
    ap (λ z. int_lt w z || (int_eq w z && is_earlier_line k t u)) ((Decides-int_eq y x).0 p.0) ∙ ap (λ b. int_lt w x || (int_eq w x && b)) (same_earlier k xs t u p.1)

-- ---- the front of a list in order
before_once : (t u : List ℤ) → is_before t u ≡ true → is_before u t ≡ false
before_once [] u e = absurd (cc)
before_once (x ∷ t) [] e = absurd (cc)
before_once (x ∷ t) (y ∷ u) e = by_order (cases_order_z x y) (λ r. before_once t u r) e
  where
    by_order : (x <ℤ y) ⊎ ((x ≡ y) ⊎ (y <ℤ x)) → (is_before t u ≡ true → is_before u t ≡ false) → (int_lt x y || (int_eq x y && is_before t u)) ≡ true → (int_lt y x || (int_eq y x && is_before u t)) ≡ false
    by_order (inl l) once f =
        ap (λ b. b || (int_eq y x && is_before u t)) (int_lt-false y x (omega (arith, ints))) ∙ ap (λ b. b && is_before u t) (int_eq-false y x (λ s. omega (arith, ints)))
    by_order (inr (inl same)) once f =
        let further = and_parts (int_eq x y) (is_before t u) (sym (ap (λ b. b || (int_eq x y && is_before t u)) (int_lt-false x y (omega (arith, ints)))) ∙ f) in
        ap (λ b. b || (int_eq y x && is_before u t)) (int_lt-false y x (omega (arith, ints))) ∙ (ap (λ b. int_eq y x && b) (once further.1) ∙ and_false (int_eq y x))
    by_order (inr (inr l)) once f =
        absurd (let none : (int_lt x y || (int_eq x y && is_before t u)) ≡ false =
        ap (λ b. b || (int_eq x y && is_before t u)) (int_lt-false x y (omega (arith, ints))) ∙ ap (λ b. b && is_before t u) (int_eq-false x y (λ s. omega (arith, ints))) in
        let both : true ≡ false = sym f ∙ none in cc)

none_after : (t : List ℤ) (ms : List (List ℤ)) → ((u : List ℤ) → Among ms u → is_before t u ≡ true) → filter (λ u. not (is_before t u)) ms ≡ []
none_after t [] all = refl
none_after t (m ∷ ms) all = ap (λ b. cond (not b) (m ∷ filter (λ u. not (is_before t u)) ms) (filter (λ u. not (is_before t u)) ms)) (all m (inl refl)) ∙ none_after t ms (λ u h. all u (inr h))

front_is : (ms : List (List ℤ)) (i : ℕ) (t : List ℤ) → Rises IsBefore ms → slice_get ms i ≡ Some t → filter (λ u. not (is_before t u)) ms ≡ take (suc i) ms
front_is [] i t h e = absurd (cc)
front_is (m ∷ ms) zero t h e =
    let same : m ≡ t = cc in
    let kept : is_before t m ≡ false = subst (λ u. is_before t u ≡ false) (sym same) (not_before_itself t) in
    ap (λ b. cond (not b) (m ∷ filter (λ u. not (is_before t u)) ms) (filter (λ u. not (is_before t u)) ms)) kept
    ∙ ap (λ l. m ∷ l) (none_after t ms (λ u a. subst (λ s. is_before s u ≡ true) same (h.0 u a)))
front_is (m ∷ ms) (suc i) t h e =
    let kept : is_before t m ≡ false = before_once m t (h.0 t (among_at ms i t e)) in
    ap (λ b. cond (not b) (m ∷ filter (λ u. not (is_before t u)) ms) (filter (λ u. not (is_before t u)) ms)) kept
    ∙ ap (λ l. m ∷ l) (front_is ms i t h.1 e)

-- ---- filters
filter_twice : {X : Type 0} (p q : X → Bool) (xs : List X) → filter (λ x. p x && q x) xs ≡ filter q (filter p xs)
filter_twice p q [] = refl
filter_twice {X} p q (x ∷ xs) = by_test (p x) (filter_twice p q xs)
  where
    by_test : (b : Bool) → filter (λ x. p x && q x) xs ≡ filter q (filter p xs)
        → cond (b && q x) (x ∷ filter (λ x. p x && q x) xs) (filter (λ x. p x && q x) xs) ≡ filter q (cond b (x ∷ filter p xs) (filter p xs))
    by_test true further = ap (λ l. cond (q x) (x ∷ l) l) further
    by_test false further = further

and_turned : (a b : Bool) → (a && b) ≡ (b && a)
and_turned true true = refl
and_turned true false = refl
and_turned false true = refl
and_turned false false = refl

all_rise : (dims : List Dim) → AllRise (map coordinates dims)
all_rise [] = tt
all_rise (d ∷ dims) = (Rises-coordinates d, all_rise dims)

line_rises : (k : ℕ) (r : Region) (x : List ℤ) → Rises IsBefore (line_through k r x)
line_rises k r x = Rises-filter IsBefore (is_on_line (k - 1) x) (members r) (Rises-tuples (map coordinates r.dims) (all_rise r.dims))

on_line : (k : ℕ) (r : Region) (x t : List ℤ) (i : ℕ) → slice_get (line_through k r x) i ≡ Some t → Among (members r) t × (is_on_line (k - 1) x t ≡ true)
on_line k r x t i e = among_filtered (is_on_line (k - 1) x) (members r) t (among_at (line_through k r x) i t e)

-- the kept tuples up to a place of a line
kept_up_to : (k : ℕ) (r : Region) (is_kept : List ℤ → Bool) (x t : List ℤ) (i : ℕ) → slice_get (line_through k r x) i ≡ Some t
    → filter (λ u. is_kept u && is_up_along (k - 1) t u) (members r) ≡ filter is_kept (take (suc i) (line_through k r x))
kept_up_to k r is_kept x t i e =
    let there = on_line k r x t i e in
    filter_agree (λ u. is_kept u && is_up_along (k - 1) t u) (λ u. is_up_along (k - 1) t u && is_kept u) (λ u. and_turned (is_kept u) (is_up_along (k - 1) t u)) (members r)
    ∙ (filter_twice (is_up_along (k - 1) t) is_kept (members r)
    ∙ ap (filter is_kept)
    (filter_agree (is_up_along (k - 1) t) (λ u. is_on_line (k - 1) x u && not (is_before t u)) (λ u. up_along_is (k - 1) t u ∙ ap (λ b. b && not (is_before t u)) (same_line (k - 1) x t u there.1)) (members r)
    ∙ (filter_twice (is_on_line (k - 1) x) (λ u. not (is_before t u)) (members r) ∙ front_is (line_through k r x) i t (line_rises k r x) e)))

-- ---- the scan of a list
running_at : (op : Fold) (is_kept : List ℤ → Bool) (e : List ℤ → ℤ) (before : ℤ) (ms : List (List ℤ)) (i : ℕ) (t : List ℤ) → slice_get ms i ≡ Some t
    → slice_get (running op before (map (masked_value is_kept e) ms)) i ≡ Some (fold (joined op) before (map e (filter is_kept (take (suc i) ms))))
running_at op is_kept e before [] i t is = absurd (cc)
running_at op is_kept e before (m ∷ ms) zero t is = by_test (is_kept m)
  where
    by_test : (b : Bool) → Some (joined_with op before (cond b (Some (e m)) None)) ≡ Some (fold (joined op) before (map e (cond b (m ∷ []) [])))
    by_test true = refl
    by_test false = refl
running_at op is_kept e before (m ∷ ms) (suc i) t is = by_test (is_kept m) (λ onward. running_at op is_kept e onward ms i t is)
  where
    by_test : (b : Bool) → ((onward : ℤ) → slice_get (running op onward (map (masked_value is_kept e) ms)) i ≡ Some (fold (joined op) onward (map e (filter is_kept (take (suc i) ms)))))
        → slice_get (running op (joined_with op before (cond b (Some (e m)) None)) (map (masked_value is_kept e) ms)) i
        ≡ Some (fold (joined op) before (map e (cond b (m ∷ filter is_kept (take (suc i) ms)) (filter is_kept (take (suc i) ms)))))
    by_test true further = further (joined op before (e m))
    by_test false further = further before

-- the running scan of a line, from the unit, from what stands before it, and in row-major order
pub running_along : (k : ℕ) (op : Fold) (r : Region) (is_kept : List ℤ → Bool) (e : List ℤ → ℤ) (x t : List ℤ) (i : ℕ) → slice_get (line_through k r x) i ≡ Some t
    → slice_get (running op (unit_of op) (map (masked_value is_kept e) (line_through k r x))) i ≡ Some (scanned_along k op r is_kept e t)
running_along k op r is_kept e x t i is =
    running_at op is_kept e (unit_of op) (line_through k r x) i t is ∙ ap (λ l. Some (folded op (map e l))) (sym (kept_up_to k r is_kept x t i is))

pub running_onward : (k : ℕ) (op : Fold) (r : Region) (is_kept : List ℤ → Bool) (e : List ℤ → ℤ) (x t : List ℤ) (i : ℕ) (before : ℤ) → joined op (unit_of op) before ≡ before → slice_get (line_through k r x) i ≡ Some t
    → slice_get (running op before (map (masked_value is_kept e) (line_through k r x))) i ≡ Some (joined op before (scanned_along k op r is_kept e t))
running_onward k op r is_kept e x t i before settled is =
    running_at op is_kept e before (line_through k r x) i t is
    ∙ ap Some
    (ap (λ l. fold (joined op) before (map e l)) (sym (kept_up_to k r is_kept x t i is)) ∙ fold_from op before (map e (filter (λ u. is_kept u && is_up_along (k - 1) t u) (members r))) settled)

pub running_whole : (op : Fold) (r : Region) (is_kept : List ℤ → Bool) (e : List ℤ → ℤ) (x t : List ℤ) (i : ℕ) → IsRegion r → length r.dims ≡ 3 → slice_get (line_through r.rank r x) i ≡ Some t
    → slice_get (running op (kept_fold op (λ u. is_kept u && is_earlier_line (r.rank - 1) x u) e (members r)) (map (masked_value is_kept e) (line_through r.rank r x))) i ≡ Some (scanned op r is_kept e t)
running_whole op r is_kept e x t i region three is =
    let there = on_line r.rank r x t i is in
    let earlier = λ (u : List ℤ). is_kept u && is_earlier_line (r.rank - 1) x u in
    let member : IsMember r t = (members_iff r t (has_steps r.dims region.dims)).0 (Contains-from_among (members r) t there.0) in
    running_onward r.rank op r is_kept e x t i (kept_fold op earlier e (members r)) (settled-folded op (map e (filter earlier (members r)))) is
    ∙ ap Some
    (ap (λ l. joined op (folded op (map e l)) (scanned_along r.rank op r is_kept e t))
    (filter_agree earlier (λ u. is_kept u && is_earlier_line (r.rank - 1) t u) (λ u. ap (λ b. is_kept u && b) (sym (same_earlier (r.rank - 1) x t u there.1))) (members r))
    ∙ sym (scanned_by_lines op r is_kept e t region three member))
