-- The shifts that lowered code notes of reads with a vector.
use Rattle.std.specs.Prelude.{◌≡◌, if◌then◌else◌, ℕ, ℤ, pos, List, [], ◌∷◌, drop, length}
use Rattle.std.specs.List.{AllByRecursion}
use Rattle.zpl_region.specs.declared.regions.Region.{Region}
use Rattle.zpl_lowering.specs.Reference.{is_unmoved, vector_over}

-- one over a storage, where it moves the array
abbrev pub noted : Region → List ℤ → List (List ℤ)
noted storage vector =
    if is_unmoved (vector_over storage vector) then [] else vector_over storage vector ∷ []

-- each has three components, which are 0 past a rank
abbrev pub AreVectors : ℕ → List (List ℤ) → Type 0
AreVectors rank [] = Unit {0}
AreVectors rank (vector ∷ vectors) =
    ((length vector ≡ 3) × AllByRecursion (λ part. part ≡ pos 0) (drop rank vector))
    × AreVectors rank vectors
