-- The grids that a drawn program is run on, and the line of a run.
use Rattle.std.specs.Prelude.{◌≡◌, ℕ, List, [], ◌∷◌, ◌++◌, codes}
use Rattle.std.specs.Fmt.{decimal}
use Rattle.std.specs.List.{concat}
use Rattle.zpl_io.specs.CountSink.{Tally, tally_of}

-- the factors of a grid, 0 for each absent one, and its name
pub record NamedGrid : Type 0 where
  pub factors : List ℕ
  pub name : List ℕ

abbrev pub grid_named : List ℕ → List ℕ → NamedGrid
grid_named factors name = record { factors = factors; name = name }

-- ---- four grids, in this order
abbrev pub one : NamedGrid
one = grid_named (1 ∷ 0 ∷ 0 ∷ []) (codes "1")

abbrev pub two_by_two : NamedGrid
two_by_two = grid_named (2 ∷ 2 ∷ 0 ∷ []) (codes "2x2")

abbrev pub three_by_one : NamedGrid
three_by_one = grid_named (3 ∷ 1 ∷ 0 ∷ []) (codes "3x1")

abbrev pub five : NamedGrid
five = grid_named (5 ∷ 0 ∷ 0 ∷ []) (codes "5")

abbrev pub grids : List NamedGrid
grids = one ∷ two_by_two ∷ three_by_one ∷ five ∷ []

-- this one comes behind those
pub record IsNext (before : List NamedGrid) (grid : NamedGrid) : Type 0 where
  pub rest : List NamedGrid
  pub is : grids ≡ before ++ grid ∷ rest

-- ---- the line of a run that ended normally
-- for the number and the hash of what was printed
abbrev pub line_of_tally : ℕ → List ℕ → Tally → List ℕ
line_of_tally seed name tally =
    concat (codes "gen " ∷ decimal seed ∷ codes " grid " ∷ name ∷ codes " bytes "
    ∷ decimal tally.total ∷ codes " hash " ∷ decimal tally.hash ∷ codes "\n" ∷ [])

abbrev pub line_of : ℕ → List ℕ → List ℕ → List ℕ
line_of seed name printed = line_of_tally seed name (tally_of printed)
