-- Pieces of borders and floods, computed.
use Rattle.std.specs.Prelude.{◌≡◌, refl, ℕ, ℤ, pos, negsuc, List, [], ◌∷◌, map}
use Rattle.zpl_arrays.specs.of_zpl_nums.declared.ends.Border.TheVariants.{Wrap, Reflect}
use Rattle.zpl_arrays.specs.of_zpl_region.declared.dims.Dim.TheVariants.{Flood}
use Rattle.zpl_arrays.specs.of_zpl_region.declared.regions.Region.{Region}
use Rattle.zpl_arrays.specs.of_zpl_region.Region.{padding, members}
use Rattle.zpl_arrays.specs.of_zpl_region.Hull.{all_from}
use Rattle.grid_layout.specs.Layout.{Arrangement}
use Rattle.grid_layout.specs.Words.{processors}
use Rattle.move_plan.specs.BorderPiece.{border_piece_of}
use Rattle.move_plan.specs.FloodPiece.{flood_piece_of}

abbrev none : List ℤ
none = pos 0 ∷ pos 0 ∷ pos 0 ∷ []

abbrev at1 : ℤ → List ℤ
at1 x = x ∷ pos 0 ∷ pos 0 ∷ []

abbrev line : ℤ → ℤ → Region
line lo hi = record { rank = 1; dims = all_from lo hi ∷ padding ∷ padding ∷ [] }

-- a line from -2 to 6, cut over so many processors
abbrev cut_over : ℕ → Arrangement
cut_over n = record { grid = n ∷ 0 ∷ 0 ∷ []; boxes = record { shape = line (negsuc 1) (pos 6); low = none; high = none } ∷ [] }

-- the border row 3 2 1 1 2 3 1 2 3: the values 1 2 3 stand in the middle block, are mirrored into the first and wrapped into the last
wrapped : map (λ from. members (border_piece_of (cut_over 3) Wrap (line (pos 1) (pos 3)) (at1 (pos 3)) from 2)) (processors (3 ∷ []))
    ≡ [] ∷ (at1 (pos 4) ∷ at1 (pos 5) ∷ at1 (pos 6) ∷ []) ∷ [] ∷ []
wrapped = refl

mirrored : map (λ from. members (border_piece_of (cut_over 3) Reflect (line (pos 1) (pos 3)) (at1 (negsuc 2)) from 0)) (processors (3 ∷ []))
    ≡ [] ∷ (at1 (negsuc 1) ∷ at1 (negsuc 0) ∷ at1 (pos 0) ∷ []) ∷ [] ∷ []
mirrored = refl

-- over four blocks, which begin at -2, 0, 2 and 4, the middle ones have 1 and 2 3
wrapped_apart : map (λ from. members (border_piece_of (cut_over 4) Wrap (line (pos 1) (pos 3)) (at1 (pos 3)) from 3)) (processors (4 ∷ []))
    ≡ [] ∷ (at1 (pos 4) ∷ []) ∷ (at1 (pos 5) ∷ at1 (pos 6) ∷ []) ∷ [] ∷ []
wrapped_apart = refl

mirrored_apart : map (λ from. members (border_piece_of (cut_over 4) Reflect (line (pos 1) (pos 3)) (at1 (negsuc 2)) from 0)) (processors (4 ∷ []))
    ≡ [] ∷ [] ∷ (at1 (negsuc 1) ∷ at1 (negsuc 0) ∷ []) ∷ [] ∷ []
mirrored_apart = refl

mirrored_here : map (λ from. members (border_piece_of (cut_over 4) Reflect (line (pos 1) (pos 3)) (at1 (negsuc 2)) from 1)) (processors (4 ∷ []))
    ≡ [] ∷ (at1 (pos 0) ∷ []) ∷ [] ∷ [] ∷ []
mirrored_here = refl

-- a column and a row of a square from 1 to 4, cut over 2 by 2
abbrev square : Arrangement
square = record {
  grid = 2 ∷ 2 ∷ 0 ∷ [];
  boxes = record { shape = record { rank = 2; dims = all_from (pos 1) (pos 4) ∷ all_from (pos 1) (pos 4) ∷ padding ∷ [] }; low = none; high = none } ∷ [];
}

-- row 3 goes to all rows: processor 0 sets rows 1 and 2 from the processor below it
flooded : map (λ from. (flood_piece_of square (record { rank = 2; dims = all_from (pos 1) (pos 4) ∷ all_from (pos 1) (pos 4) ∷ padding ∷ [] })
    (record { rank = 2; dims = all_from (pos 3) (pos 3) ∷ all_from (pos 1) (pos 4) ∷ padding ∷ [] }) from 0).dims) (0 ∷ 2 ∷ [])
    ≡ (all_from (pos 1) (pos 0) ∷ all_from (pos 1) (pos 2) ∷ padding ∷ []) ∷ (all_from (pos 1) (pos 2) ∷ all_from (pos 1) (pos 2) ∷ padding ∷ []) ∷ []
flooded = refl

-- a flood target of that row: each processor has its one position, and takes it from the processor with row 3
into_flood : map (λ from. (flood_piece_of square (record { rank = 2; dims = Flood ∷ all_from (pos 1) (pos 4) ∷ padding ∷ [] })
    (record { rank = 2; dims = all_from (pos 3) (pos 3) ∷ all_from (pos 1) (pos 4) ∷ padding ∷ [] }) from 0).dims) (2 ∷ 3 ∷ [])
    ≡ (Flood ∷ all_from (pos 1) (pos 2) ∷ padding ∷ []) ∷ (Flood ∷ all_from (pos 1) (pos 0) ∷ padding ∷ []) ∷ []
into_flood = refl
