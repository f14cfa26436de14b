-- Lemmas on joining, and on folds over lists.
use Rattle.std.proofs.Common.{◌≡◌, ◌≢◌, ℕ, zero, suc, ◌<◌, Bool, true, false, ◌&&◌, ◌||◌, List, []}
use Rattle.std.proofs.Common.{◌∷◌, ◌++◌, map, length, get_or, set, length-set, eqb, w64, ℤ, pos}
use Rattle.std.proofs.Common.{◌+ℤ◌, ◌*ℤ◌, refl, sym, ◌∙◌, ap, inl, inr, arith}
use Rattle.std.proofs.Math.Bool.{and_assoc, or_assoc, and_comm, or_comm}
use Rattle.std.proofs.Math.IntN.{+ℤ_comm, *ℤ_comm, +ℤ_idl, *ℤ-one}
use Rattle.std.proofs.lemmas.Int.{ints, clamps, int_wrap_fits}
use Rattle.std.proofs.lemmas.List.{set_comm, set-get_or}
use Rattle.std.proofs.lemmas.List.Edits.{swap_is}
use Rattle.std.proofs.lemmas.Bool.Decides.{nat_tests}
use Rattle.std.proofs.lemmas.List.Sums.{fold-append}
use Rattle.std.proofs.lemmas.List.Sorted.{IsPermutation-keeps}
use Rattle.std.specs.List.{fold, swap, flat_map}
use Rattle.std.specs.List.{All as ForAll}
use Rattle.std.specs.List.Sorted.{IsPermutation}
use Rattle.std.proofs.lemmas.List.Elements.{All-head, All-tail}
use Rattle.zpl_nums.specs.declared.folds.Fold.{Fold as Operator}
use Rattle.zpl_nums.specs.declared.folds.Fold.TheVariants.{Sum, Prod, Max, Min, All, Any}
use Rattle.zpl_nums.specs.Integer.{wrapped, truth, is_true}
use Rattle.zpl_nums.specs.Fold.{joined, unit_of, IsValueOf, folded}
use Rattle.zpl_nums.proofs.IntegerLemmas.{is_true-truth, IsTruth-truth, int_max_assoc}
use Rattle.zpl_nums.proofs.IntegerLemmas.{int_min_assoc, wrapped-add_assoc, wrapped-mul_assoc}
use Rattle.zpl_nums.proofs.IntegerLemmas.{wrapped_zero, wrapped_one, IsInteger-wrapped}
use Rattle.zpl_nums.proofs.IntegerLemmas.{IsInteger-int_max, IsInteger-int_min}

-- ---- joining
pub joined_assoc : (o : Operator) (a b c : ℤ)
    → joined o (joined o a b) c ≡ joined o a (joined o b c)
joined_assoc Sum a b c = wrapped-add_assoc a b c
joined_assoc Prod a b c = wrapped-mul_assoc a b c
joined_assoc Max a b c = int_max_assoc a b c
joined_assoc Min a b c = int_min_assoc a b c
joined_assoc All a b c =
    ap truth (ap (λ p. p && is_true c) (is_true-truth (is_true a && is_true b))
    ∙ (and_assoc (is_true a) (is_true b) (is_true c)
    ∙ ap (λ p. is_true a && p) (sym (is_true-truth (is_true b && is_true c)))))
joined_assoc Any a b c =
    ap truth (ap (λ p. p || is_true c) (is_true-truth (is_true a || is_true b))
    ∙ (or_assoc (is_true a) (is_true b) (is_true c)
    ∙ ap (λ p. is_true a || p) (sym (is_true-truth (is_true b || is_true c)))))

pub joined_comm : (o : Operator) (a b : ℤ) → joined o a b ≡ joined o b a
joined_comm Sum a b = ap wrapped (+ℤ_comm a b)
joined_comm Prod a b = ap wrapped (*ℤ_comm a b)
joined_comm Max a b = omega (arith, ints, clamps)
joined_comm Min a b = omega (arith, ints, clamps)
joined_comm All a b = ap truth (and_comm (is_true a) (is_true b))
joined_comm Any a b = ap truth (or_comm (is_true a) (is_true b))

-- b moves to the front
joined_left_comm : (o : Operator) (a b c : ℤ)
    → joined o a (joined o b c) ≡ joined o b (joined o a c)
joined_left_comm o a b c =
    sym (joined_assoc o a b c) ∙ (ap (λ x. joined o x c) (joined_comm o a b) ∙ joined_assoc o b a c)

-- ---- values that the unit leaves as they are: what a fold gives is one, also over values that the
-- operator is not for
abbrev pub IsSettled : Operator → ℤ → Type 0
IsSettled o a = joined o (unit_of o) a ≡ a

unit_settled : (o : Operator) → IsSettled o (unit_of o)
unit_settled Sum = wrapped_zero
unit_settled Prod = wrapped_one
unit_settled Max = refl
unit_settled Min = refl
unit_settled All = refl
unit_settled Any = refl

settled-joined : (o : Operator) (a b : ℤ) → IsSettled o a → IsSettled o (joined o a b)
settled-joined o a b h = sym (joined_assoc o (unit_of o) a b) ∙ ap (λ x. joined o x b) h

settled-fold : (o : Operator) (a : ℤ) (xs : List ℤ) → IsSettled o a
    → IsSettled o (fold (joined o) a xs)
settled-fold o a [] h = h
settled-fold o a (x ∷ xs) h = settled-fold o (joined o a x) xs (settled-joined o a x h)

pub settled-folded : (o : Operator) (xs : List ℤ) → IsSettled o (folded o xs)
settled-folded o xs = settled-fold o (unit_of o) xs (unit_settled o)

pub settled_right : (o : Operator) (a : ℤ) → IsSettled o a → joined o a (unit_of o) ≡ a
settled_right o a h = joined_comm o a (unit_of o) ∙ h

-- a fold that begins at a joins a with the fold
pub fold_from : (o : Operator) (a : ℤ) (xs : List ℤ) → IsSettled o a
    → fold (joined o) a xs ≡ joined o a (folded o xs)
fold_from o a [] h = sym (settled_right o a h)
fold_from o a (x ∷ xs) h =
    let u = unit_of o in
    let rest = folded o xs in
    fold_from o (joined o a x) xs (settled-joined o a x h)
    ∙ (ap (λ y. joined o (joined o y x) rest) (sym (settled_right o a h))
    ∙ (ap (λ y. joined o y rest) (joined_assoc o a u x)
    ∙ (joined_assoc o a (joined o u x) rest
    ∙ ap (joined o a)
    (sym (fold_from o (joined o u x) xs (settled-joined o u x (unit_settled o)))))))

-- ---- folds over lists
pub folded-append : (o : Operator) (xs ys : List ℤ)
    → folded o (xs ++ ys) ≡ joined o (folded o xs) (folded o ys)
folded-append o xs ys =
    fold-append (joined o) (unit_of o) xs ys ∙ fold_from o (folded o xs) ys (settled-folded o xs)

pub folded-cons : (o : Operator) (x : ℤ) (xs : List ℤ)
    → folded o (x ∷ xs) ≡ joined o x (folded o xs)
folded-cons o x xs =
    let u = unit_of o in
    fold_from o (joined o u x) xs (settled-joined o u x (unit_settled o))
    ∙ (ap (λ y. joined o y (folded o xs)) (joined_comm o u x)
    ∙ (joined_assoc o x u (folded o xs)
    ∙ ap (joined o x) (settled-folded o xs)))

-- the element at i, joined with the fold of the others
folded-set : (o : Operator) (xs : List ℤ) (i : ℕ) (y : ℤ) → i < length xs
    → folded o (set xs i y) ≡ joined o y (folded o (set xs i (unit_of o)))
folded-set o [] i y h = absurd (omega arith)
folded-set o (x ∷ xs) zero y h =
    folded-cons o y xs ∙ sym (ap (joined o y) (folded-cons o (unit_of o) xs ∙ settled-folded o xs))
folded-set o (x ∷ xs) (suc i) y h =
    let u = unit_of o in
    folded-cons o x (set xs i y)
    ∙ (ap (joined o x) (folded-set o xs i y (omega arith))
    ∙ (joined_left_comm o x y (folded o (set xs i u))
    ∙ ap (joined o y) (sym (folded-cons o x (set xs i u)))))

-- two places of a list hold a and b, or b and a
folded-set_two : (o : Operator) (xs : List ℤ) (i j : ℕ) (a b : ℤ) → i ≢ j → i < length xs
    → j < length xs
    → folded o (set (set xs i a) j b) ≡ joined o b
    (joined o a (folded o (set (set xs j (unit_of o)) i (unit_of o))))
folded-set_two o xs i j a b other low high =
    let u = unit_of o in
    folded-set o (set xs i a) j b (omega (arith, length-set {A = ℤ}))
    ∙ ap (joined o b) (ap (folded o) (set_comm xs i j a u other)
    ∙ folded-set o (set xs j u) i a (omega (arith, length-set {A = ℤ})))

folded-set_swapped : (o : Operator) (xs : List ℤ) (i j : ℕ) (a b : ℤ) → i ≢ j → i < length xs
    → j < length xs
    → folded o (set (set xs i a) j b) ≡ folded o (set (set xs i b) j a)
folded-set_swapped o xs i j a b other low high =
    let rest = folded o (set (set xs j (unit_of o)) i (unit_of o)) in
    folded-set_two o xs i j a b other low high
    ∙ (joined_left_comm o b a rest
    ∙ sym (folded-set_two o xs i j b a other low high))

folded-swap : (o : Operator) (xs : List ℤ) (i j : ℕ) → i < length xs → j < length xs
    → folded o (swap xs i j) ≡ folded o xs
folded-swap o xs i j low high =
    ap (folded o) (sym (swap_is xs i j (pos 0) low high)) ∙ by_places (eqb i j) refl
  where
    a : ℤ
    a = get_or xs i (pos 0)

    b : ℤ
    b = get_or xs j (pos 0)

    unchanged : i ≢ j → set (set xs i a) j b ≡ xs
    unchanged other = ap (λ ys. set ys j b) (set-get_or xs i (pos 0)) ∙ set-get_or xs j (pos 0)

    by_places : (same : Bool) → eqb i j ≡ same → folded o (set (set xs i b) j a) ≡ folded o xs
    by_places true e =
        let same : i ≡ j = grind (arith, nat_tests) in
        ap (folded o) (ap (λ y. set (set xs i y) j a) (sym (ap (λ k. get_or xs k (pos 0)) same))
        ∙ (ap (λ ys. set ys j a) (set-get_or xs i (pos 0))
        ∙ (ap (λ k. set xs k a) (sym same) ∙ set-get_or xs i (pos 0))))
    by_places false e =
        let other : i ≢ j = grind (arith, nat_tests) in
        folded-set_swapped o xs i j b a other low high ∙ ap (folded o) (unchanged other)

pub folded-IsPermutation : (o : Operator) (xs ys : List ℤ) → IsPermutation xs ys
    → folded o ys ≡ folded o xs
folded-IsPermutation o xs ys h =
    IsPermutation-keeps xs (λ l. folded o l ≡ folded o xs) refl
    (λ l i j p q e. folded-swap o l i j p q ∙ e) ys h

-- the parts of a list, folded apart
pub folded-flat_map : (o : Operator) (parts : List (List ℤ))
    → folded o (flat_map (λ part. part) parts) ≡ folded o (map (folded o) parts)
folded-flat_map o [] = refl
folded-flat_map o (part ∷ parts) =
    folded-append o part (flat_map (λ p. p) parts)
    ∙ (ap (joined o (folded o part)) (folded-flat_map o parts)
    ∙ sym (folded-cons o (folded o part) (map (folded o) parts)))

-- ---- the values that an operator is for
pub IsValueOf-joined : (o : Operator) (a b : ℤ) → IsValueOf o a → IsValueOf o b
    → IsValueOf o (joined o a b)
IsValueOf-joined Sum a b f g = IsInteger-wrapped (a +ℤ b)
IsValueOf-joined Prod a b f g = IsInteger-wrapped (a *ℤ b)
IsValueOf-joined Max a b f g = IsInteger-int_max a b f g
IsValueOf-joined Min a b f g = IsInteger-int_min a b f g
IsValueOf-joined All a b f g = IsTruth-truth (is_true a && is_true b)
IsValueOf-joined Any a b f g = IsTruth-truth (is_true a || is_true b)

pub IsValueOf-unit_of : (o : Operator) → IsValueOf o (unit_of o)
IsValueOf-unit_of Sum = record { sfits = omega arith }
IsValueOf-unit_of Prod = record { sfits = omega arith }
IsValueOf-unit_of Max = record { sfits = omega arith }
IsValueOf-unit_of Min = record { sfits = omega arith }
IsValueOf-unit_of All = inr refl
IsValueOf-unit_of Any = inl refl

IsValueOf-fold : (o : Operator) (a : ℤ) (xs : List ℤ) → IsValueOf o a → ForAll (IsValueOf o) xs
    → IsValueOf o (fold (joined o) a xs)
IsValueOf-fold o a [] f g = f
IsValueOf-fold o a (x ∷ xs) f g =
    IsValueOf-fold o (joined o a x) xs (IsValueOf-joined o a x f (All-head (IsValueOf o) x xs g))
    (All-tail (IsValueOf o) x xs g)

pub IsValueOf-folded : (o : Operator) (xs : List ℤ) → ForAll (IsValueOf o) xs
    → IsValueOf o (folded o xs)
IsValueOf-folded o xs f = IsValueOf-fold o (unit_of o) xs (IsValueOf-unit_of o) f

-- the unit is neutral on them
pub settled_value : (o : Operator) (a : ℤ) → IsValueOf o a → IsSettled o a
unfolding lib.IntN.one
settled_value Sum a f = ap wrapped (+ℤ_idl a) ∙ int_wrap_fits w64 a f
settled_value Prod a f = ap wrapped (*ℤ_comm (pos 1) a ∙ *ℤ-one a) ∙ int_wrap_fits w64 a f
settled_value Max a f = omega (arith, ints, clamps)
settled_value Min a f = omega (arith, ints, clamps)
settled_value All a (inl e) = rw e refl
settled_value All a (inr e) = rw e refl
settled_value Any a (inl e) = rw e refl
settled_value Any a (inr e) = rw e refl

pub folded-one : (o : Operator) (x : ℤ) → IsValueOf o x → folded o (x ∷ []) ≡ x
folded-one o x f = settled_value o x f
