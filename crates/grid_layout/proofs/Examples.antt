-- Layouts, computed.
use Rattle.std.specs.Prelude.{◌≡◌, refl, pos, negsuc, [], ◌∷◌, map}
use Rattle.zpl_region.specs.declared.dims.Dim.TheVariants.{Range}
use Rattle.zpl_region.specs.declared.regions.Region.{Region}
use Rattle.zpl_region.specs.Region.{padding, members}
use Rattle.zpl_region.specs.Hull.{all_from}
use Rattle.grid_layout.specs.declared.boxes.ArrayBox.{ArrayBox}
use Rattle.grid_layout.specs.Block.{block_start}
use Rattle.grid_layout.specs.Grid.{cuts, blocks_at}
use Rattle.grid_layout.specs.Layout.{Arrangement, laid_out, owner_of, held_box_of}
use Rattle.grid_layout.specs.Piece.{nothing, piece_of, needed_of}
use Rattle.grid_layout.specs.Words.{processors, words_of}

-- a rank below the number of factors has the surplus ones in its last dimension; a higher one has dimensions of one block
surplus : cuts (2 ∷ 3 ∷ 2 ∷ []) 2 ≡ 2 ∷ 6 ∷ 1 ∷ []
surplus = refl

lacking : cuts (2 ∷ 3 ∷ 0 ∷ []) 3 ≡ 2 ∷ 3 ∷ 1 ∷ []
lacking = refl

fifth : blocks_at (2 ∷ 3 ∷ 1 ∷ []) 5 ≡ 1 ∷ 2 ∷ 0 ∷ []
fifth = refl

-- a square from 0 to 3, with a fringe of one position all round
square : ArrayBox
square = record {
  shape = record { rank = 2; dims = all_from (pos 0) (pos 3) ∷ all_from (pos 0) (pos 3) ∷ padding ∷ [] };
  low = pos 1 ∷ pos 1 ∷ pos 0 ∷ [];
  high = pos 1 ∷ pos 1 ∷ pos 0 ∷ [];
}

-- on five processors, of which the first owns no place of it
five : Arrangement
unfolding square
five = record { grid = 5 ∷ 0 ∷ 0 ∷ []; boxes = square ∷ [] }

owners : map (λ x. owner_of (laid_out five) 2 (x ∷ pos 1 ∷ pos 0 ∷ [])) (negsuc 0 ∷ pos 0 ∷ pos 1 ∷ pos 2 ∷ pos 3 ∷ pos 4 ∷ [])
    ≡ 0 ∷ 1 ∷ 2 ∷ 3 ∷ 4 ∷ 4 ∷ []
unfolding five square
owners = refl

first_held : held_box_of five 0 0
    ≡ record { rank = 2; dims = all_from (pos 0) (pos 0) ∷ all_from (pos 0) (pos 3) ∷ padding ∷ [] }
unfolding five square
first_held = refl

second_held : (held_box_of five 0 1).dims ≡ all_from (pos 0) (pos 1) ∷ all_from (pos 0) (pos 3) ∷ padding ∷ []
unfolding five square
second_held = refl

words : words_of five ≡ 44
unfolding five square
words = refl

-- four places on six processors: an empty block in the middle holds nothing, and the outermost ones are never empty
line : ArrayBox
line = record {
  shape = record { rank = 1; dims = all_from (pos 1) (pos 4) ∷ padding ∷ padding ∷ [] };
  low = pos 1 ∷ pos 0 ∷ pos 0 ∷ [];
  high = pos 1 ∷ pos 0 ∷ pos 0 ∷ [];
}

six : Arrangement
unfolding line
six = record { grid = 6 ∷ 0 ∷ 0 ∷ []; boxes = line ∷ [] }

starts : map (block_start (record { low = pos 1; extent = 4 }) 6) (0 ∷ 1 ∷ 2 ∷ 3 ∷ 4 ∷ 5 ∷ []) ≡ pos 1 ∷ pos 1 ∷ pos 2 ∷ pos 3 ∷ pos 3 ∷ pos 4 ∷ []
starts = refl

fourth_held : (held_box_of six 0 3).dims ≡ nothing ∷ padding ∷ padding ∷ []
unfolding six line
fourth_held = refl

-- processor 2 has 2, and reads the place after each of 1 to 3: it needs 3, which processor 4 owns
inner : Region
inner = record { rank = 1; dims = all_from (pos 1) (pos 3) ∷ padding ∷ padding ∷ [] }

needed : (needed_of six 0 2 inner (pos 1 ∷ pos 0 ∷ pos 0 ∷ [])).dims
    ≡ Range (pos 3) (pos 3) (pos 1) (pos 2) ∷ padding ∷ padding ∷ []
unfolding six line inner
needed = refl

pieces : map (λ from. members (piece_of six 0 from 2 inner (pos 1 ∷ pos 0 ∷ pos 0 ∷ []))) (processors six.grid)
    ≡ [] ∷ [] ∷ [] ∷ [] ∷ ((pos 3 ∷ pos 0 ∷ pos 0 ∷ []) ∷ []) ∷ [] ∷ []
unfolding six line inner
pieces = refl
