use Rattle.std.proofs.Common.{◌≡◌}
use Rattle.std.specs.Prelude.{sum_by, length, min, ◌-◌, ◌^◌}
use Rattle.zpl_region.specs.Region.{members}
use Rattle.grid_layout.specs.Layout.{held_of}
use Rattle.grid_layout.specs.Words.{numbers_from}
use Rattle.grid_layout.proofs.blocks.Blocks.words.Given as goal

-- the words on the processors so far
abbrev pub invariant-loop-p : goal.invariant-loop-p
invariant-loop-p l = l.words ≡ min (sum_by (λ p. length (members (held_of l.self l.array p))) (numbers_from 0 l.p)) (2 ^ 128 - 1)
