-- How many words the held boxes of a layout have.
use Rattle.std.specs.Prelude.{ℕ, zero, suc, List, [], ◌∷◌, length, sum_by}
use Rattle.zpl_region.specs.Region.{members}
use Rattle.grid_layout.specs.declared.boxes.ArrayBox.{ArrayBox}
use Rattle.grid_layout.specs.declared.blocks.Blocks.{Blocks}
use Rattle.grid_layout.specs.Grid.{processors_of}
use Rattle.grid_layout.specs.Layout.{Arrangement, laid_out, held_of}

-- the numbers from k on, so many
abbrev pub numbers_from : ℕ → ℕ → List ℕ
numbers_from k zero = []
numbers_from k (suc n) = k ∷ numbers_from (suc k) n

-- the processors of a grid
abbrev pub processors : List ℕ → List ℕ
processors grid = numbers_from 0 (processors_of grid)

-- the words of an array's held boxes, on all processors
abbrev pub box_words : Blocks → ArrayBox → ℕ
box_words blocks box = sum_by (λ p. length (members (held_of blocks box p))) (processors blocks.grid)

-- and those of all arrays
abbrev pub words_of : Arrangement → ℕ
words_of a = sum_by (box_words (laid_out a)) a.boxes
