use Rattle.std.proofs.Common.{◌≡◌, map, take}
use Rattle.grid_save.specs.Written.{box_dim}
use Rattle.grid_save.proofs.parts.box_dims.Given as goal

abbrev pub invariant-loop-dim : goal.invariant-loop-dim
invariant-loop-dim l = l.boxes.items ≡ map box_dim (take l.dim-index l.dims)
