-- Requests and answers, computed.
use Rattle.std.specs.Prelude.{◌≡◌, refl, pos, [], ◌∷◌, map, Some, None}
use Rattle.zpl_region.specs.Region.{padding}
use Rattle.zpl_region.specs.Hull.{all_from}
use Rattle.grid_layout.specs.Layout.{Arrangement}
use Rattle.grid_layout.specs.Words.{processors}
use Rattle.remap_plan.specs.Request.{answers_of, asks_of, home_of}

-- a square from 1 to 4, cut over 2 by 2
square : Arrangement
square = record {
  grid = 2 ∷ 2 ∷ 0 ∷ [];
  boxes = record {
    shape = record { rank = 2; dims = all_from (pos 1) (pos 4) ∷ all_from (pos 1) (pos 4) ∷ padding ∷ [] };
    low = pos 0 ∷ pos 0 ∷ pos 0 ∷ [];
    high = pos 1 ∷ pos 0 ∷ pos 0 ∷ [];
  } ∷ [];
}

homes : map (home_of square 0) ((pos 1 ∷ pos 1 ∷ []) ∷ (pos 2 ∷ pos 3 ∷ []) ∷ (pos 3 ∷ pos 1 ∷ []) ∷ (pos 4 ∷ pos 4 ∷ []) ∷ (pos 0 ∷ pos 1 ∷ []) ∷ (pos 1 ∷ pos 5 ∷ []) ∷ [])
    ≡ Some 0 ∷ Some 1 ∷ Some 2 ∷ Some 3 ∷ None ∷ None ∷ []
unfolding square
homes = refl

-- in their order, those without a home aside
asked : map (λ p. asks_of square 0 p (pos 2 ∷ pos 2 ∷ pos 4 ∷ pos 1 ∷ pos 0 ∷ pos 3 ∷ pos 1 ∷ pos 2 ∷ pos 3 ∷ pos 4 ∷ [])) (processors (2 ∷ 2 ∷ []))
    ≡ (pos 2 ∷ pos 2 ∷ pos 1 ∷ pos 2 ∷ []) ∷ [] ∷ (pos 4 ∷ pos 1 ∷ []) ∷ (pos 3 ∷ pos 4 ∷ []) ∷ []
unfolding square
asked = refl

-- processor 0 holds rows 1 to 3 of columns 1 and 2
answered : answers_of square 0 0 (pos 11 ∷ pos 12 ∷ pos 21 ∷ pos 22 ∷ pos 31 ∷ pos 32 ∷ []) (pos 2 ∷ pos 2 ∷ pos 1 ∷ pos 2 ∷ [])
    ≡ pos 22 ∷ pos 12 ∷ []
unfolding square
answered = refl
