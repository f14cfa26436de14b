use Rattle.std.proofs.Common.{◌≡◌, ◌++◌, drop, map}
use Rattle.std.specs.List.{flat_map}
use Rattle.zpl_binding.specs.of_zpl_tree.View.{direction_of}
use Rattle.zpl_parts.specs.View.{seen}
use Rattle.zpl_parts.specs.Walk.{direction_parts}
use Rattle.zpl_parts.proofs.declarations.walk_directions.Given as goal

-- what is listed and what is left to list are the whole
abbrev pub invariant-loop-direction : goal.invariant-loop-direction
invariant-loop-direction l =
    seen l.into ++ flat_map direction_parts (map direction_of (drop l.direction-index l.directions))
    ≡ seen l.initial.into ++ flat_map direction_parts (map direction_of l.directions)
