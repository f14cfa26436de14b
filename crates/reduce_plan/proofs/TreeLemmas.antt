-- Lemmas on the tree over the processors.
use Rattle.std.proofs.Common.{◌≡◌, ℕ, zero, suc, ◌+◌, ◌-◌, ◌*◌, ◌/◌, ◌%◌, ◌<◌, ◌⊎◌, inl, inr, Bool, true, false, Some, None, Contains, refl, sym, ◌∙◌, ap, subst, arith}
use Rattle.std.specs.Prelude.{◌==◌, nat_lt, if◌then◌else◌}
use Rattle.std.proofs.lemmas.Bool.Decides.{nat_tests}
use Rattle.grid_layout.proofs.of_zpl_region.ListLemmas.{Among, Contains-from_among, among_from_Contains}
use Rattle.reduce_plan.specs.Tree.{IsInTree, children_of, parent_of, processor_below}
use Rattle.reduce_plan.specs.Tree.IsInTree.{Root, Child}

some_is : {a b : ℕ} → Some a ≡ Some b → a ≡ b
some_is e = cc

below_told : (count k c : ℕ) → processor_below count k ≡ Some c → (c ≡ k) × (k < count)
below_told count k c = by_test (nat_lt k count) refl
  where
    by_test : (b : Bool) → nat_lt k count ≡ b → (if b then Some k else None) ≡ Some c → (c ≡ k) × (k < count)
    by_test true t e = (sym (some_is e), grind (arith, nat_tests))
    by_test false t e = absurd (let both : None ≡ Some c = e in cc)

below_is : (count k : ℕ) → k < count → processor_below count k ≡ Some k
below_is count k h = let t : nat_lt k count ≡ true = grind (arith, nat_tests) in rw t refl

parent_above : (c : ℕ) → 0 < c → parent_of c ≡ Some ((c - 1) / 2)
parent_above c some = let t : (c == 0) ≡ false = grind (arith, nat_tests) in rw t refl

half_odd : (p : ℕ) → ((2 * p + 1) - 1) / 2 ≡ p
half_odd p = omega arith

half_even : (p : ℕ) → ((2 * p + 2) - 1) / 2 ≡ p
half_even p = omega arith

pub parent_is : (count p c : ℕ) → Contains (children_of p count) (Some c) → (c < count) × (parent_of c ≡ Some p)
parent_is count p c h = by_place (among_from_Contains (children_of p count) (Some c) h)
  where
    by_place : Among (children_of p count) (Some c) → (c < count) × (parent_of c ≡ Some p)
    by_place (inl e) =
        let w = below_told count (2 * p + 1) c e in
        (omega (arith, w.0, w.1), ap parent_of w.0 ∙ (parent_above (2 * p + 1) (omega arith) ∙ ap Some (half_odd p)))
    by_place (inr (inl e)) =
        let w = below_told count (2 * p + 2) c e in
        (omega (arith, w.0, w.1), ap parent_of w.0 ∙ (parent_above (2 * p + 2) (omega arith) ∙ ap Some (half_even p)))
    by_place (inr (inr h)) = absurd h

odd_or_even : (c p : ℕ) → 0 < c → (c - 1) / 2 ≡ p → (c ≡ 2 * p + 1) ⊎ (c ≡ 2 * p + 2)
odd_or_even c p some half = by_rest ((c - 1) % 2) refl
  where
    by_rest : (r : ℕ) → (c - 1) % 2 ≡ r → (c ≡ 2 * p + 1) ⊎ (c ≡ 2 * p + 2)
    by_rest zero e = inl (omega (arith, e, half, some))
    by_rest (suc zero) e = inr (omega (arith, e, half, some))
    by_rest (suc (suc r)) e = absurd (omega (arith, e))

child_of_half : (count c : ℕ) → 0 < c → c < count → Contains (children_of ((c - 1) / 2) count) (Some c)
child_of_half count c some below = by_parity (odd_or_even c p some refl)
  where
    p : ℕ
    p = (c - 1) / 2

    by_parity : (c ≡ 2 * p + 1) ⊎ (c ≡ 2 * p + 2) → Contains (children_of p count) (Some c)
    by_parity (inl e) = Contains-from_among (children_of p count) (Some c) (inl (below_is count (2 * p + 1) (omega (arith, e, below)) ∙ ap Some (sym e)))
    by_parity (inr e) = Contains-from_among (children_of p count) (Some c) (inr (inl (below_is count (2 * p + 2) (omega (arith, e, below)) ∙ ap Some (sym e))))

pub child_is : (count p c : ℕ) → (c < count) × (parent_of c ≡ Some p) → Contains (children_of p count) (Some c)
child_is count p zero h = absurd (let both : None ≡ Some p = h.1 in cc)
child_is count p (suc d) h =
    let half : (suc d - 1) / 2 ≡ p = some_is (sym (parent_above (suc d) (omega arith)) ∙ h.1) in
    subst (λ q. Contains (children_of q count) (Some (suc d))) half (child_of_half count (suc d) (omega arith) h.0)

all_in_tree : (count most p : ℕ) → p < most → p < count → IsInTree count p
all_in_tree count zero p few below = absurd (omega arith)
all_in_tree count (suc most) zero few below = Root below
all_in_tree count (suc most) (suc d) few below =
    Child ((suc d - 1) / 2) (suc d) (all_in_tree count most ((suc d - 1) / 2) (omega arith) (omega arith)) (child_of_half count (suc d) (omega arith) below)

pub in_tree : (count p : ℕ) → p < count → IsInTree count p
in_tree count p below = all_in_tree count count p below below
