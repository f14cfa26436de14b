use Rattle.std.proofs.Common.{◌≡◌, take}
use Rattle.grid_layout.specs.Layout.{IsHull, hull_in}
use Rattle.grid_layout.proofs.blocks.hull_in.Given as goal

-- the hull so far
abbrev pub invariant-loop-array : goal.invariant-loop-array
invariant-loop-array l = record { hull : l.hull ≡ hull_in l.rank l.place (take l.array-index l.boxes); sound : IsHull l.hull }
