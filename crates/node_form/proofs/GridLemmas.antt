-- Grids of three numbers, by cases.
use Rattle.std.proofs.Common.{◌≡◌, ℕ, zero, suc, ◌*◌, ◌≤◌, ◌↔◌, ◌≢◌, ◌⊎◌, inl, inr, max, List, [], ◌∷◌, length, get_or, refl, arith}
use Rattle.std.proofs.lemmas.List.Elements.{All-nil, All-cons}
use Rattle.node_form.specs.Grid.{IsGrid}

-- what stands behind the factors
abbrev IsAbsent : ℕ → Type 0
IsAbsent factor = factor ≡ 0

-- with a factor in front, and no other one behind a 0, the number of processors tells
IsGrid-cases : (a b c : ℕ) → a ≢ 0 → ((b ≡ 0) × (c ≡ 0)) ⊎ (b ≢ 0) → IsGrid (a ∷ b ∷ c ∷ []) ↔ (a * max b 1 * max c 1 ≤ 64)
IsGrid-cases zero b c some gap = absurd (some refl)
IsGrid-cases (suc a) zero zero some gap = (
  λ grid. let few = grid.few in omega arith,
  λ few. record { some = omega arith; absent = All-cons IsAbsent 0 (0 ∷ []) refl (All-cons IsAbsent 0 [] refl (All-nil IsAbsent)); few = omega arith },
)
IsGrid-cases (suc a) zero (suc c) some (inl zeros) = let e = zeros.1 in absurd (omega arith)
IsGrid-cases (suc a) zero (suc c) some (inr positive) = absurd (positive refl)
IsGrid-cases (suc a) (suc b) zero some gap =
    let second : max (suc b) 1 ≡ suc b = omega arith in
    rw
    second (
      λ grid. let few = grid.few in omega arith,
      λ few. record { some = omega arith; absent = All-cons IsAbsent 0 [] refl (All-nil IsAbsent); few = omega arith },
    )
IsGrid-cases (suc a) (suc b) (suc c) some gap =
    let second : max (suc b) 1 ≡ suc b = omega arith in
    let third : max (suc c) 1 ≡ suc c = omega arith in
    rw
    (second, third) (
      λ grid. let few = grid.few in omega arith,
      λ few. record { some = omega arith; absent = All-nil IsAbsent; few = omega arith },
    )

-- the same of a list of three numbers, read by number
pub IsGrid-few : (grid : List ℕ) (second third : ℕ) → length grid ≡ 3 → get_or grid 0 0 ≢ 0 → ((get_or grid 1 0 ≡ 0) × (get_or grid 2 0 ≡ 0)) ⊎ (get_or grid 1 0 ≢ 0) → second ≡ max (get_or grid 1 0) 1 → third ≡ max (get_or grid 2 0) 1 → IsGrid grid ↔ (get_or grid 0 0 * second * third ≤ 64)
IsGrid-few [] second third three some gap is_second is_third = absurd (some refl)
IsGrid-few (a ∷ []) second third three some gap is_second is_third = absurd (omega arith)
IsGrid-few (a ∷ b ∷ []) second third three some gap is_second is_third = absurd (omega arith)
IsGrid-few (a ∷ b ∷ c ∷ []) second third three some gap is_second is_third = rw (is_second, is_third) (IsGrid-cases a b c some gap)
IsGrid-few (a ∷ b ∷ c ∷ d ∷ grid) second third three some gap is_second is_third = absurd (omega arith)
