-- Lemmas on the forms of a dimension and their limit.
use Rattle.std.proofs.Common.{◌≡◌, ℕ, ◌-◌, ◌*◌, ◌^◌, ◌<◌, ◌≤◌, ◌⊎◌, inl, inr, min, ℤ, pos, negsuc, neg_ℤ, ◌+ℤ◌, ◌-ℤ◌, ◌*ℤ◌, ◌≤ℤ◌, ◌<ℤ◌, refl, sym, ◌∙◌, ap, subst, arith, w64}
use Rattle.std.specs.Int.{saturate_signed}
use Rattle.std.proofs.lemmas.Bool.{cases_lt}
use Rattle.std.proofs.lemmas.Int.{ints}
use Rattle.std.proofs.lemmas.Nat.{mul-le}
use Rattle.zpl_region.specs.declared.dims.Dim.{Dim}
use Rattle.zpl_region.specs.declared.dims.Dim.TheVariants.{Range}
use Rattle.zpl_region.specs.Dim.{IsUpTo, IsNear, dim_outside_of, dim_inside_of, dim_strided, least_or, greatest_or}
use Rattle.zpl_region.proofs.ListLemmas.{int_lt-true, int_lt-false}
use Rattle.zpl_region.proofs.DimLemmas.{same_range}

-- what is computed is what is wanted, or both are past 2^k
abbrev pub Near : ℕ → ℤ → ℤ → Type 0
Near k z y = (IsUpTo k z → z ≡ y) × (IsUpTo k y → z ≡ y)

abbrev pub NearStep : ℤ → ℤ → Type 0
NearStep z y = (z ≤ℤ pos (2 ^ 31) → z ≡ y) × (y ≤ℤ pos (2 ^ 31) → z ≡ y)

pub near_same : (k : ℕ) (z y : ℤ) → z ≡ y → Near k z y
near_same k z y e = ((λ _. e), (λ _. e))

pub step_same : (z y : ℤ) → z ≡ y → NearStep z y
step_same z y e = ((λ _. e), (λ _. e))

small_saturated : (z m : ℤ) → m ≡ saturate_signed w64 z → IsUpTo 40 z → m ≡ z
small_saturated (pos n) m e h = omega (arith, ints)
small_saturated (negsuc n) m e h = omega (arith, ints)

saturated_small : (z m : ℤ) → m ≡ saturate_signed w64 z → IsUpTo 40 m → m ≡ z
saturated_small (pos n) m e h = omega (arith, ints)
saturated_small (negsuc n) m e h = omega (arith, ints)

pub near_saturated : (z m y r : ℤ) → r ≡ saturate_signed w64 z → m ≡ r → z ≡ y → Near 40 m y
near_saturated z m y r e f g = ((λ h. saturated_small z m (f ∙ e) h ∙ g), (λ h. small_saturated z m (f ∙ e) (subst (IsUpTo 40) (sym g) h) ∙ g))

pub near_bound : (z m y r : ℤ) → r ≡ saturate_signed w64 z → m ≡ r → z ≡ y → Near 31 m y
near_bound z m y r e f g = ((λ h. (near_saturated z m y r e f g).0 (omega (arith, ints), omega (arith, ints))), (λ h. (near_saturated z m y r e f g).1 (omega (arith, ints), omega (arith, ints))))

-- a range is the one that is wanted, or both pass the limit
pub near_range : (lo hi step align lo' hi' step' align' : ℤ) (e : Dim) → Range lo' hi' step' align' ≡ e
    → Near 31 lo lo' → Near 31 hi hi' → NearStep step step' → Near 40 align align' → IsNear (Range lo hi step align) e
near_range lo hi step align lo' hi' step' align' e is a b s g =
    subst (IsNear (Range lo hi step align)) is
    ((λ w. same_range (a.0 w.0) (b.0 w.1) (s.0 w.2) (g.0 w.3)), (λ w. same_range (a.1 w.0) (b.1 w.1) (s.1 w.2) (g.1 w.3)))

-- ---- the cases of the forms
pub outside_above : (d lo hi step align : ℤ) → pos 0 <ℤ d → Range (hi +ℤ pos 1) (hi +ℤ d) step align ≡ dim_outside_of d (Range lo hi step align)
outside_above d lo hi step align h = rw (int_lt-true (pos 0) d h) refl

pub outside_below : (d lo hi step align : ℤ) → d <ℤ pos 0 → Range (lo +ℤ d) (lo -ℤ pos 1) step align ≡ dim_outside_of d (Range lo hi step align)
outside_below d lo hi step align h = rw (int_lt-false (pos 0) d (omega (arith, ints)), int_lt-true d (pos 0) h) refl

pub inside_above : (d lo hi step align : ℤ) → pos 0 <ℤ d → Range ((hi -ℤ d) +ℤ pos 1) hi step align ≡ dim_inside_of d (Range lo hi step align)
inside_above d lo hi step align h = rw (int_lt-true (pos 0) d h) refl

pub inside_below : (d lo hi step align : ℤ) → d <ℤ pos 0 → Range lo ((lo -ℤ d) -ℤ pos 1) step align ≡ dim_inside_of d (Range lo hi step align)
inside_below d lo hi step align h = rw (int_lt-false (pos 0) d (omega (arith, ints)), int_lt-true d (pos 0) h) refl

pub strided_above : (d lo hi step align : ℤ) → pos 0 <ℤ d → Range lo hi (step *ℤ d) (least_or lo (Range lo hi step align)) ≡ dim_strided d (Range lo hi step align)
strided_above d lo hi step align h = rw (int_lt-true (pos 0) d h) refl

pub strided_below : (d lo hi step align : ℤ) → d <ℤ pos 0 → Range lo hi (step *ℤ neg_ℤ d) (greatest_or hi (Range lo hi step align)) ≡ dim_strided d (Range lo hi step align)
strided_below d lo hi step align h = rw (int_lt-false (pos 0) d (omega (arith, ints)), int_lt-true d (pos 0) h) refl

-- m is the step s times the size n of d, as the code computes it
near_strided_nat : (s n : ℕ) (m a : ℤ) → 0 < s → a ≡ saturate_signed w64 (pos n) → m ≡ saturate_signed w64 (pos s *ℤ a) → NearStep m (pos s *ℤ pos n)
near_strided_nat s n m a h e f = by_size (cases_lt n (2 ^ 63))
  where
    kept : (k : ℕ) → a ≡ pos k → m ≡ pos (min (s * k) (2 ^ 63 - 1))
    kept k g = f ∙ ap (λ z. saturate_signed w64 (pos s *ℤ z)) g

    by_size : (n < 2 ^ 63) ⊎ (2 ^ 63 ≤ n) → NearStep m (pos s *ℤ pos n)
    by_size (inl below) =
        let same : a ≡ pos n = omega (arith, ints) in
        let is = kept n same in
        ((λ w. omega (arith, ints)), (λ w. omega (arith, ints)))
    by_size (inr past) =
        let most : a ≡ pos (2 ^ 63 - 1) = omega (arith, ints) in
        let is = kept (2 ^ 63 - 1) most in
        let long : n ≤ s * n = omega (arith, mul-le 1 n s n (omega arith) (omega arith)) in
        ((λ w. absurd (omega (arith, ints))), (λ w. absurd (omega (arith, ints))))

pub near_strided : (step size : ℤ) (m a : ℤ) → pos 1 ≤ℤ step → pos 0 ≤ℤ size → a ≡ saturate_signed w64 size → m ≡ saturate_signed w64 (step *ℤ a) → NearStep m (step *ℤ size)
near_strided (pos s) (pos n) m a h k e f = near_strided_nat s n m a (omega (arith, ints)) e f
near_strided (negsuc s) size m a h k e f = absurd (omega (arith, ints))
near_strided (pos s) (negsuc n) m a h k e f = absurd (omega (arith, ints))

-- such a step is at least 1
pub strided_rises : (step size m a : ℤ) → pos 1 ≤ℤ step → pos 1 ≤ℤ size → a ≡ saturate_signed w64 size → m ≡ saturate_signed w64 (step *ℤ a) → pos 1 ≤ℤ m
strided_rises (negsuc s) size m a h k e f = absurd (omega (arith, ints))
strided_rises (pos s) (negsuc n) m a h k e f = absurd (omega (arith, ints))
strided_rises (pos s) (pos n) m a h k e f =
    let is : m ≡ pos (min (s * min n (2 ^ 63 - 1)) (2 ^ 63 - 1)) = f ∙ ap (λ z. saturate_signed w64 (pos s *ℤ z)) e in
    omega (arith, ints, mul-le 1 1 s (min n (2 ^ 63 - 1)) (omega (arith, ints)) (omega (arith, ints)))
