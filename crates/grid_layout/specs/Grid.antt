-- Grids of processors: their factors, and how the dimensions of a rank are cut into blocks. The
-- processors are numbered in row-major order.
use Rattle.std.specs.Prelude.{◌≡◌, ℕ, zero, suc, ◌-◌, ◌+◌, ◌*◌, ◌/◌, ◌%◌, ◌≤◌, List, [], ◌∷◌, ◌++◌, drop, length, replicate, All}

-- the factors: what stands before the first 0
abbrev pub factors_of : List ℕ → List ℕ
factors_of [] = []
factors_of (zero ∷ grid) = []
factors_of (suc n ∷ grid) = suc n ∷ factors_of grid

abbrev pub product : List ℕ → ℕ
product [] = 1
product (n ∷ numbers) = n * product numbers

-- how many processors the grid has
abbrev pub processors_of : List ℕ → ℕ
processors_of grid = product (factors_of grid)

-- at least one factor stands in front, only 0 stands behind them, and there are at most 64
-- processors
pub record IsGrid (grid : List ℕ) : Type 0 where
  pub some : 1 ≤ length (factors_of grid)
  pub absent : All (λ factor. factor ≡ 0) (drop (length (factors_of grid)) grid)
  pub few : processors_of grid ≤ 64

-- ---- the blocks of a rank

-- into how many blocks each dimension of a rank is cut. The last one has the surplus factors,
-- multiplied; a dimension without a factor is one block
abbrev pub cuts_of : ℕ → List ℕ → List ℕ
cuts_of zero factors = []
cuts_of (suc zero) factors = product factors ∷ []
cuts_of (suc (suc rank)) [] = 1 ∷ cuts_of (suc rank) []
cuts_of (suc (suc rank)) (n ∷ factors) = n ∷ cuts_of (suc rank) factors

-- and of the three that each region has: past the rank they are one block
abbrev pub cuts : List ℕ → ℕ → List ℕ
cuts grid rank = cuts_of rank (factors_of grid) ++ replicate (3 - rank) 1

-- which block of each dimension processor p has
abbrev pub blocks_at : List ℕ → ℕ → List ℕ
blocks_at [] p = []
blocks_at (n ∷ counts) p = p / product counts ∷ blocks_at counts (p % product counts)

-- the processor with these blocks
abbrev pub processor_at : List ℕ → List ℕ → ℕ
processor_at [] blocks = 0
processor_at (n ∷ counts) [] = 0
processor_at (n ∷ counts) (c ∷ blocks) = c * product counts + processor_at counts blocks
