use Rattle.std.proofs.Common.{◌≡◌, ◌++◌, drop, map}
use Rattle.std.specs.List.{flat_map}
use Rattle.zpl_binding.specs.of_zpl_tree.View.{prefix_of}
use Rattle.zpl_parts.specs.View.{seen}
use Rattle.zpl_parts.specs.Walk.{prefix_parts}
use Rattle.zpl_parts.proofs.statements.walk_prefixes.Given as goal

-- what is listed and what is left to list are the whole
abbrev pub invariant-loop-prefix : goal.invariant-loop-prefix
invariant-loop-prefix l =
    seen l.into ++ flat_map prefix_parts (map prefix_of (drop l.prefix-index l.prefixes))
    ≡ seen l.initial.into ++ flat_map prefix_parts (map prefix_of l.prefixes)
