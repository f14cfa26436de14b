-- The greatest of what is told of the elements of a list, and 0: it is the same of two lists with the
-- same sums.
use Rattle.std.proofs.Common.{◌≡◌, refl, sym, ap, ◌∙◌, arith, ℕ, ◌+◌, Bool, true, false, ℤ, pos, List, [], ◌∷◌}
use Rattle.std.specs.Prelude.{◌≤ℤ◌, cond, int_le, sum_by}
use Rattle.std.specs.Int.{int_max}
use Rattle.std.proofs.lemmas.Int.{ints, clamps}
use Rattle.std.proofs.lemmas.List.Sums.{sum_by-cons}
use Rattle.zpl_region.proofs.ListLemmas.{le_from_test, test_from_le}

module _ {X : Type 0} (g : X → ℤ) where
  -- the greatest of a start and what is told of the elements
  abbrev pub most : ℤ → List X → ℤ
  most start [] = start
  most start (x ∷ xs) = most (int_max start (g x)) xs

  pub most_least : (start : ℤ) (xs : List X) → start ≤ℤ most start xs
  most_least start [] = omega (arith, ints)
  most_least start (x ∷ xs) =
      omega (arith, ints, clamps, most_least (int_max start (g x)) xs)

  -- how many are above a bound
  abbrev above : ℤ → X → ℕ
  above bound x = cond (int_le (g x) bound) 0 1

  none_above : (bound : ℤ) (xs : List X) (start : ℤ) → start ≤ℤ bound →
      sum_by (above bound) xs ≡ 0 → most start xs ≤ℤ bound
  none_above bound [] start below none = below
  none_above bound (x ∷ xs) start below none =
      by (int_le (g x) bound) refl (sum_by-cons (above bound) x xs) (none_above bound xs)
    where
      by : (b : Bool) → int_le (g x) bound ≡ b →
          sum_by (above bound) (x ∷ xs) ≡ cond b 0 1 + sum_by (above bound) xs →
          ((start : ℤ) → start ≤ℤ bound → sum_by (above bound) xs ≡ 0 → most start xs ≤ℤ bound) →
          most (int_max start (g x)) xs ≤ℤ bound
      by true is sums rest =
          let under = le_from_test (g x) bound is in
          rest (int_max start (g x)) (omega (arith, ints, clamps, under, below))
          (omega (arith, sums, none))
      by false is sums rest = let no : ⊥ = omega (arith, sums, none) in absurd no

  all_below : (bound : ℤ) (xs : List X) (start : ℤ) → most start xs ≤ℤ bound →
      sum_by (above bound) xs ≡ 0
  all_below bound [] start below = refl
  all_below bound (x ∷ xs) start below =
      let rest = most_least (int_max start (g x)) xs in
      let under : g x ≤ℤ bound = omega (arith, ints, clamps, rest, below) in
      omega (
        arith,
        sum_by-cons (above bound) x xs,
        ap (λ b. cond {A = ℕ} b 0 1) (test_from_le (g x) bound under),
        all_below bound xs (int_max start (g x)) below,
      )

  same_least : (xs ys : List X) → ((f : X → ℕ) → sum_by f xs ≡ sum_by f ys) →
      most (pos 0) xs ≤ℤ most (pos 0) ys
  same_least xs ys same =
      let bound = most (pos 0) ys in
      none_above bound xs (pos 0) (most_least (pos 0) ys)
      (same (above bound) ∙ all_below bound ys (pos 0) (omega (arith, ints)))

  pub same_most : (xs ys : List X) → ((f : X → ℕ) → sum_by f xs ≡ sum_by f ys) →
      most (pos 0) xs ≡ most (pos 0) ys
  same_most xs ys same =
      let one = same_least xs ys same in
      let other = same_least ys xs (λ f. sym (same f)) in
      omega (arith, ints, one, other)

-- the same of what is told otherwise, element by element
abbrev pub AllSame : {X : Type 0} → (X → ℤ) → (X → ℤ) → List X → Type 0
AllSame g h [] = Unit {0}
AllSame g h (x ∷ xs) = (g x ≡ h x) × AllSame g h xs

pub most_same : {X : Type 0} (g h : X → ℤ) (start : ℤ) (xs : List X) → AllSame g h xs →
    most g start xs ≡ most h start xs
most_same g h start [] same = refl
most_same g h start (x ∷ xs) same =
    ap (λ z. most g (int_max start z) xs) same.0 ∙ most_same g h (int_max start (h x)) xs same.1

nothing_more : (start : ℤ) → pos 0 ≤ℤ start → int_max start (pos 0) ≡ start
nothing_more start above = omega (arith, ints, clamps, above)

pub most_none : {X : Type 0} (start : ℤ) → pos 0 ≤ℤ start → (xs : List X) →
    most (λ x. pos 0) start xs ≡ start
most_none start above [] = refl
most_none {X} start above (x ∷ xs) =
    ap (λ z. most {X = X} (λ x. pos 0) z xs) (nothing_more start above) ∙ most_none start above xs
