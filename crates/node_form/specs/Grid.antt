-- Grids of processors, as lists of their factors with 0 for each absent one.
use Rattle.std.specs.Prelude.{◌≡◌, ℕ, zero, suc, ◌≤◌, ◌*◌, List, [], ◌∷◌, drop, length, fold, All}

-- the factors: what stands before the first 0
abbrev pub factors_of : List ℕ → List ℕ
factors_of [] = []
factors_of (zero ∷ grid) = []
factors_of (suc n ∷ grid) = suc n ∷ factors_of grid

-- how many processors the grid has
abbrev pub processors_of : List ℕ → ℕ
processors_of grid = fold (λ count factor. count * factor) 1 (factors_of grid)

-- at least one factor stands in front, each at least 1, only 0 stands behind them, and there are at
-- most 64 processors
pub record IsGrid (grid : List ℕ) : Type 0 where
  pub some : 1 ≤ length (factors_of grid)
  pub absent : All (λ factor. factor ≡ 0) (drop (length (factors_of grid)) grid)
  pub few : processors_of grid ≤ 64
