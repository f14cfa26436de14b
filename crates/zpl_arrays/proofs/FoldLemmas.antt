-- Lemmas on folds over tuples, in parts, and on scans.
use Rattle.std.proofs.Common.{◌≡◌, ℕ, zero, suc, ◌<◌, ◌⊎◌, inl, inr, Bool, true, false, cond, ◌&&◌, ◌||◌, not, List, [], ◌∷◌, ◌++◌, map, drop, length, ℤ, ◌<ℤ◌, refl, sym, ◌∙◌, ap, subst, arith, IsPermutation}
use Rattle.std.specs.List.{filter, flat_map}
use Rattle.std.specs.Int.RustNames.{int_le, int_lt}
use Rattle.std.specs.Ordering.{int_eq}
use Rattle.std.proofs.lemmas.Int.{ints}
use Rattle.std.proofs.lemmas.List.Sorted.{IsPermutation-map}
use Rattle.zpl_nums.specs.declared.folds.Fold.{Fold}
use Rattle.zpl_nums.specs.Fold.{folded, joined, unit_of}
use Rattle.zpl_nums.proofs.FoldLemmas.{folded-IsPermutation, folded-cons, folded-flat_map, joined_assoc, joined_comm, settled-folded}
use Rattle.zpl_region.proofs.ListLemmas.{Among, cases_order_z, cons_same, int_eq-true, int_lt-false, int_lt-true, test_from_le}
use Rattle.zpl_region.specs.Region.{is_before}
use Rattle.zpl_arrays.specs.Fold.{kept_fold}
use Rattle.zpl_arrays.specs.Scan.{is_below, is_earlier_line, is_same_tuple, is_through, is_up_along}

-- ---- what is masked out counts as the unit
abbrev kept_or_unit : {X : Type 0} → Fold → (X → Bool) → (X → ℤ) → X → ℤ
kept_or_unit op is_kept e x = cond (is_kept x) (e x) (unit_of op)

pub fold_of_kept : {X : Type 0} (op : Fold) (is_kept : X → Bool) (e : X → ℤ) (xs : List X) → kept_fold op is_kept e xs ≡ folded op (map (kept_or_unit op is_kept e) xs)
fold_of_kept op is_kept e [] = refl
fold_of_kept op is_kept e (x ∷ xs) = by_test (is_kept x) (fold_of_kept op is_kept e xs)
  where
    by_test : (b : Bool) → kept_fold op is_kept e xs ≡ folded op (map (kept_or_unit op is_kept e) xs)
        → folded op (map e (cond b (x ∷ filter is_kept xs) (filter is_kept xs))) ≡ folded op (cond b (e x) (unit_of op) ∷ map (kept_or_unit op is_kept e) xs)
    by_test true further =
        folded-cons op (e x) (map e (filter is_kept xs)) ∙ (ap (joined op (e x)) further ∙ sym (folded-cons op (e x) (map (kept_or_unit op is_kept e) xs)))
    by_test false further =
        further ∙ sym (folded-cons op (unit_of op) (map (kept_or_unit op is_kept e) xs) ∙ settled-folded op (map (kept_or_unit op is_kept e) xs))

-- ---- parts
map-parts : {X Y : Type 0} (f : X → Y) (parts : List (List X)) → map f (flat_map (λ part. part) parts) ≡ flat_map (λ part. part) (map (map f) parts)
map-parts f [] = refl
map-parts {X} f (part ∷ parts) = map-appended part (flat_map (λ p. p) parts) ∙ ap (λ l. map f part ++ l) (map-parts f parts)
  where
    map-appended : (xs ys : List X) → map f (xs ++ ys) ≡ map f xs ++ map f ys
    map-appended [] ys = refl
    map-appended (x ∷ xs) ys = ap (λ l. f x ∷ l) (map-appended xs ys)

map-map : {X Y Z : Type 0} (f : X → Y) (g : Y → Z) (xs : List X) → map g (map f xs) ≡ map (λ x. g (f x)) xs
map-map f g [] = refl
map-map f g (x ∷ xs) = ap (λ l. g (f x) ∷ l) (map-map f g xs)

map-same : {X Y : Type 0} (f g : X → Y) (xs : List X) → ((x : X) → f x ≡ g x) → map f xs ≡ map g xs
map-same f g [] same = refl
map-same f g (x ∷ xs) same = cons_same (same x) (map-same f g xs same)

-- a fold is the join of the folds of the parts, however the tuples are parted
pub fold_of_parts : {X : Type 0} (op : Fold) (is_kept : X → Bool) (e : X → ℤ) (xs : List X) (parts : List (List X)) → IsPermutation xs (flat_map (λ part. part) parts)
    → kept_fold op is_kept e xs ≡ folded op (map (kept_fold op is_kept e) parts)
fold_of_parts op is_kept e xs parts h =
    let f = kept_or_unit op is_kept e in
    fold_of_kept op is_kept e xs
    ∙ (sym (folded-IsPermutation op (map f xs) (map f (flat_map (λ part. part) parts)) (IsPermutation-map f xs (flat_map (λ part. part) parts) h))
    ∙ (ap (folded op) (map-parts f parts)
    ∙ (folded-flat_map op (map (map f) parts)
    ∙ ap (folded op) (map-map (map f) (folded op) parts ∙ map-same (λ part. folded op (map f part)) (kept_fold op is_kept e) parts (λ part. sym (fold_of_kept op is_kept e part))))))

-- ---- a test in two parts
-- each element that is among the list passes p where it passes just one of q and s
pub record InTwo {X : Type 0} (p q s : X → Bool) (x : X) : Type 0 where
  pub either : p x ≡ (q x || s x)
  pub not_both : (q x && s x) ≡ false

between : (op : Fold) (a b c : ℤ) → joined op a (joined op b c) ≡ joined op b (joined op a c)
between op a b c = sym (joined_assoc op a b c) ∙ (ap (λ x. joined op x c) (joined_comm op a b) ∙ joined_assoc op b a c)

-- the fold of the elements that are kept, the first one by a test of its own
abbrev with_first : {X : Type 0} → Fold → (X → ℤ) → X → List X → Bool → (X → Bool) → ℤ
with_first op e x xs b t = folded op (map e (cond b (x ∷ filter t xs) (filter t xs)))

pub fold_in_two : {X : Type 0} (op : Fold) (p q s : X → Bool) (e : X → ℤ) (xs : List X) → ((x : X) → Among xs x → InTwo p q s x)
    → kept_fold op p e xs ≡ joined op (kept_fold op q e xs) (kept_fold op s e xs)
fold_in_two op p q s e [] two = sym (settled-folded op [])
fold_in_two op p q s e (x ∷ xs) two = by_tests (p x) (q x) (s x) (two x (inl refl)).either (two x (inl refl)).not_both (fold_in_two op p q s e xs (λ y m. two y (inr m)))
  where
    by_tests : (b c d : Bool) → b ≡ (c || d) → (c && d) ≡ false → kept_fold op p e xs ≡ joined op (kept_fold op q e xs) (kept_fold op s e xs)
        → with_first op e x xs b p ≡ joined op (with_first op e x xs c q) (with_first op e x xs d s)
    by_tests true true true f g further = absurd (cc)
    by_tests true true false f g further =
        folded-cons op (e x) (map e (filter p xs))
        ∙ (ap (joined op (e x)) further ∙ (sym (joined_assoc op (e x) (kept_fold op q e xs) (kept_fold op s e xs)) ∙ ap (λ y. joined op y (kept_fold op s e xs)) (sym (folded-cons op (e x) (map e (filter q xs))))))
    by_tests true false true f g further =
        folded-cons op (e x) (map e (filter p xs))
        ∙ (ap (joined op (e x)) further ∙ (between op (e x) (kept_fold op q e xs) (kept_fold op s e xs) ∙ ap (joined op (kept_fold op q e xs)) (sym (folded-cons op (e x) (map e (filter s xs))))))
    by_tests true false false f g further = absurd (cc)
    by_tests false true d f g further = absurd (cc)
    by_tests false false true f g further = absurd (cc)
    by_tests false false false f g further = further

-- ---- scans
pub and_two : (k b c d : Bool) → b ≡ (c || d) → (c && d) ≡ false → ((k && b) ≡ ((k && c) || (k && d))) × (((k && c) && (k && d)) ≡ false)
and_two true b c d e f = (e, f)
and_two false b c d e f = (refl, refl)

pub same_tuple : (t : List ℤ) → is_same_tuple t t ≡ true
same_tuple [] = refl
same_tuple (x ∷ t) = rw (int_eq-true x) (same_tuple t)

pub not_before_itself : (t : List ℤ) → is_before t t ≡ false
not_before_itself [] = refl
not_before_itself (x ∷ t) = rw (int_lt-false x x (omega (arith, ints))) (not_before_itself t)

pub above : (a b : ℤ) → b <ℤ a → int_le a b ≡ false
above a b l = grind (arith, ints)

-- t is up to x where it is on an earlier line, or on the same one up to x
pub through_in_two : (k : ℕ) (x t : List ℤ) → k < length x → length x ≡ length t → drop (suc k) t ≡ drop (suc k) x
    → (is_through x t ≡ (is_earlier_line k x t || is_up_along k x t)) × ((is_earlier_line k x t && is_up_along k x t) ≡ false)
through_in_two k [] t below long rest = absurd (omega arith)
through_in_two k (x ∷ xs) [] below long rest = absurd (omega arith)
through_in_two zero (x ∷ xs) (y ∷ t) below long rest = by_order (cases_order_z x y)
  where
    same : is_same_tuple xs t ≡ true
    same = subst (λ u. is_same_tuple xs u ≡ true) (sym rest) (same_tuple xs)

    last : is_before xs t ≡ false
    last = subst (λ u. is_before xs u ≡ false) (sym rest) (not_before_itself xs)

    by_order : (x <ℤ y) ⊎ ((x ≡ y) ⊎ (y <ℤ x)) → (not (int_lt x y || (int_eq x y && is_before xs t)) ≡ (int_le y x && is_same_tuple xs t)) × (false ≡ false)
    by_order (inl l) = (rw (int_lt-true x y l, above y x l) refl, refl)
    by_order (inr (inl e)) = (rw (int_lt-false x y (omega (arith, ints)), int_lt-false y x (omega (arith, ints)), last, test_from_le y x (omega (arith, ints)), same) refl, refl)
    by_order (inr (inr l)) = (rw (int_lt-false x y (omega (arith, ints)), int_lt-true y x l, test_from_le y x (omega (arith, ints)), same) refl, refl)
through_in_two (suc k) (x ∷ xs) (y ∷ t) below long rest = by_order (cases_order_z x y) (through_in_two k xs t (omega arith) (omega arith) rest)
  where
    by_order : (x <ℤ y) ⊎ ((x ≡ y) ⊎ (y <ℤ x))
        → (is_through xs t ≡ (is_earlier_line k xs t || is_up_along k xs t)) × ((is_earlier_line k xs t && is_up_along k xs t) ≡ false)
        → (is_through (x ∷ xs) (y ∷ t) ≡ (is_earlier_line (suc k) (x ∷ xs) (y ∷ t) || is_up_along (suc k) (x ∷ xs) (y ∷ t)))
        × ((is_earlier_line (suc k) (x ∷ xs) (y ∷ t) && is_up_along (suc k) (x ∷ xs) (y ∷ t)) ≡ false)
    by_order (inl l) further = (
      rw (int_lt-true x y l, int_lt-false y x (omega (arith, ints))) refl,
      rw (int_lt-true x y l, int_lt-false y x (omega (arith, ints))) refl,
    )
    by_order (inr (inl e)) further =
        subst (λ z. (is_through (x ∷ xs) (z ∷ t) ≡ (is_earlier_line (suc k) (x ∷ xs) (z ∷ t) || is_up_along (suc k) (x ∷ xs) (z ∷ t))) × ((is_earlier_line (suc k) (x ∷ xs) (z ∷ t) && is_up_along (suc k) (x ∷ xs) (z ∷ t)) ≡ false)) e
        (rw (int_lt-false x x (omega (arith, ints))) further.0, rw (int_lt-false x x (omega (arith, ints))) further.1)
    by_order (inr (inr l)) further = (
      rw (int_lt-false x y (omega (arith, ints)), int_lt-true y x l) refl,
      rw (int_lt-true y x l) refl,
    )

-- on a line, t stands below low or from low on
pub along_in_two : (p : Bool) (k : ℕ) (low : ℤ) (t : List ℤ) → (p ≡ ((p && is_below k low t) || (p && not (is_below k low t)))) × (((p && is_below k low t) && (p && not (is_below k low t))) ≡ false)
along_in_two p k low t = by_test p (is_below k low t)
  where
    by_test : (p b : Bool) → (p ≡ ((p && b) || (p && not b))) × (((p && b) && (p && not b)) ≡ false)
    by_test true true = (refl, refl)
    by_test true false = (refl, refl)
    by_test false b = (refl, refl)
