-- Reads of arrays under a region.
use Rattle.std.specs.Prelude.{◌≡◌, ℕ, List, [], ◌∷◌, ℤ, length}
use Rattle.zpl_region.specs.declared.dims.Dim.{Dim}
use Rattle.zpl_region.specs.declared.dims.Dim.TheVariants.{Range, Flood}
use Rattle.zpl_region.specs.Region.{components}

-- An array's storage has a flood dimension wherever the region has one.
abbrev pub Covers : Dim → Dim → Type 0
Covers Flood dim = Unit {0}
Covers (Range lo hi step align) Flood = ⊥
Covers (Range lo hi step align) (Range from to every base) = Unit {0}

abbrev pub EachCovers : List Dim → List Dim → Type 0
EachCovers [] [] = Unit {0}
EachCovers [] (dim ∷ dims) = Unit {0}
EachCovers (one ∷ storage) [] = Unit {0}
EachCovers (one ∷ storage) (dim ∷ dims) = Covers one dim × EachCovers storage dims

-- a vector of a rank, or none
abbrev pub IsShift : ℕ → List ℤ → Type 0
IsShift rank [] = Unit {0}
IsShift rank (d ∷ v) = (length (d ∷ v) ≡ 3) × (components rank (d ∷ v) ≡ d ∷ v)

-- An array is written by regions with its own flood dimensions.
abbrev pub Matches : Dim → Dim → Type 0
Matches Flood Flood = Unit {0}
Matches Flood (Range from to every base) = ⊥
Matches (Range lo hi step align) Flood = ⊥
Matches (Range lo hi step align) (Range from to every base) = Unit {0}

abbrev pub EachMatches : List Dim → List Dim → Type 0
EachMatches [] [] = Unit {0}
EachMatches [] (dim ∷ dims) = Unit {0}
EachMatches (one ∷ storage) [] = Unit {0}
EachMatches (one ∷ storage) (dim ∷ dims) = Matches one dim × EachMatches storage dims
