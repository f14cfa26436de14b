-- Blocks along each dimension, and which tuples a choice of one block of each has.
use Rattle.std.specs.Prelude.{◌≡◌, Bool, true, ◌&&◌, ℤ, List, [], ◌∷◌, map, flat_map, count_by, All}
use Rattle.zpl_region.specs.declared.dims.Dim.{Dim}
use Rattle.zpl_region.specs.declared.dims.Dim.TheVariants.{Range, Flood}
use Rattle.zpl_region.specs.Dim.{coordinates}
use Rattle.zpl_region.specs.Progression.{is_between}

-- from low to high, and whether it is the block in which the receiver stands
pub record Block : Type 0 where
  pub low : ℤ
  pub high : ℤ
  pub is_own : Bool

-- whether the block has the coordinate. In a flood dimension the receiver's block has the one
-- position
abbrev pub block_has : Block → Dim → ℤ → Bool
block_has block (Range lo hi step align) x = is_between block.low block.high x
block_has block Flood x = block.is_own

-- each coordinate of the dimension is in just one of its blocks
abbrev pub InOneBlock : List Block → Dim → Type 0
InOneBlock blocks dim = All (λ x. count_by (λ block. block_has block dim x) blocks ≡ 1) (coordinates dim)

abbrev pub each_has : List Block → List Dim → List ℤ → Bool
each_has [] dims t = true
each_has (block ∷ blocks) [] t = true
each_has (block ∷ blocks) (dim ∷ dims) [] = true
each_has (block ∷ blocks) (dim ∷ dims) (x ∷ t) = block_has block dim x && each_has blocks dims t

-- the lists with one element of each list: the last element varies fastest
abbrev pub choices : {X : Type 0} → List (List X) → List (List X)
choices [] = [] ∷ []
choices (xs ∷ rest) = flat_map (λ x. map (λ choice. x ∷ choice) (choices rest)) xs
