use Rattle.std.proofs.Common.{◌≡◌, take}
use Rattle.std.specs.Prelude.{sum_by, min, ◌-◌, ◌^◌}
use Rattle.grid_layout.specs.Words.{box_words}
use Rattle.grid_layout.proofs.blocks.Blocks.words_of.Given as goal

-- the words of the arrays so far
abbrev pub invariant-loop-array : goal.invariant-loop-array
invariant-loop-array l = l.words ≡ min (sum_by (box_words l.self) (take l.array-index l.boxes)) (2 ^ 128 - 1)
