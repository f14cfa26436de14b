-- Where some processors stay in their loop: all others come to the vote behind it, and wait there.
use Rattle.std.proofs.Common.{◌≡◌, ℕ, zero, suc, ◌+◌, ◌<◌, ◌≤◌, ℤ, List, [], ◌∷◌, All, refl, ◌∙◌, ap, arith}
use Rattle.std.proofs.lemmas.List.Elements.{All-head, All-tail}
use Rattle.grid_paths.specs.Tree.{IsTree}
use Rattle.grid_meaning.specs.Collective.{Kin, joined_values, keeping}
use Rattle.grid_meaning.specs.Local.{Local}
use Rattle.row_orders.specs.Agreement.{gathered, tree_of}
use Rattle.row_orders.proofs.AgreementLemmas.{All-each}

-- ---- what is gathered goes by what those say from whom it is
gathered_same : (f g : ℕ → ℤ) (cs : List ℕ) (local : Local) → All (λ c. f c ≡ g c) cs
    → gathered f local cs ≡ gathered g local cs
gathered_same f g [] local same = refl
gathered_same f g (c ∷ cs) local same =
    ap (λ v. gathered f (keeping local c (v ∷ [])) cs) (All-head (λ c. f c ≡ g c) c cs same)
    ∙ gathered_same f g cs (keeping local c (g c ∷ [])) (All-tail (λ c. f c ≡ g c) c cs same)

-- ---- what the values at and below a processor come to
module _ (count : ℕ) (kin : ℕ → Kin) (is_tree : IsTree count (tree_of kin)) (join : ℤ → ℤ → ℤ)
    (own : Local → ℤ) (one : ℕ → Local) where
  abbrev sum_at : ℕ → ℕ → ℤ
  sum_at zero p = own (one p)
  sum_at (suc k) p =
      joined_values (kin p) join own (gathered (sum_at k) (one p) (kin p).children)

  stable : (k m p : ℕ) → p < count → count ≤ p + k → count ≤ p + m → sum_at k p ≡ sum_at m p
  stable zero m p below few more = absurd (omega (arith, below, few))
  stable (suc k) zero p below few more = absurd (omega (arith, below, more))
  stable (suc k) (suc m) p below few more =
      ap (joined_values (kin p) join own)
      (gathered_same (sum_at k) (sum_at m) (kin p).children (one p)
      (All-each (λ c. (p < c) × (c < count)) (λ c. sum_at k c ≡ sum_at m c) (kin p).children
      (λ c is. stable k m c is.1 (omega (arith, few, is.0)) (omega (arith, more, is.0)))
      (is_tree.children p below)))

  abbrev pub sum_of : ℕ → ℤ
  sum_of p = sum_at count p

  pub sum_is : (p : ℕ) → p < count
      → joined_values (kin p) join own (gathered sum_of (one p) (kin p).children) ≡ sum_of p
  sum_is p below = stable (suc count) count p below (omega arith) (omega arith)
