use Rattle.std.proofs.Common.{◌≡◌, ◌++◌, drop, map}
use Rattle.std.specs.List.{flat_map}
use Rattle.zpl_binding.specs.of_zpl_tree.View.{region_of}
use Rattle.zpl_parts.specs.View.{seen}
use Rattle.zpl_parts.specs.Walk.{region_def_parts}
use Rattle.zpl_parts.proofs.declarations.walk_regions.Given as goal

-- what is listed and what is left to list are the whole
abbrev pub invariant-loop-region : goal.invariant-loop-region
invariant-loop-region l =
    seen l.into ++ flat_map region_def_parts (map region_of (drop l.region-index l.regions))
    ≡ seen l.initial.into ++ flat_map region_def_parts (map region_of l.regions)
