use Rattle.std.proofs.Common.{◌≡◌, ◌++◌, drop, map}
use Rattle.std.specs.List.{flat_map}
use Rattle.zpl_binding.specs.of_zpl_tree.View.{item_of}
use Rattle.zpl_parts.specs.View.{seen}
use Rattle.zpl_parts.specs.Walk.{item_parts}
use Rattle.zpl_parts.proofs.statements.walk_items.Given as goal

-- what is listed and what is left to list are the whole
abbrev pub invariant-loop-item : goal.invariant-loop-item
invariant-loop-item l =
    seen l.into ++ flat_map item_parts (map item_of (drop l.item-index l.items))
    ≡ seen l.initial.into ++ flat_map item_parts (map item_of l.items)
