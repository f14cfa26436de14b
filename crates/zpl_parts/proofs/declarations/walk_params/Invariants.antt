use Rattle.std.proofs.Common.{◌≡◌, ◌++◌, drop, map}
use Rattle.std.specs.List.{flat_map}
use Rattle.zpl_binding.specs.of_zpl_tree.View.{param_of}
use Rattle.zpl_parts.specs.View.{seen}
use Rattle.zpl_parts.specs.Walk.{param_parts}
use Rattle.zpl_parts.proofs.declarations.walk_params.Given as goal

-- what is listed and what is left to list are the whole
abbrev pub invariant-loop-param : goal.invariant-loop-param
invariant-loop-param l =
    seen l.into ++ flat_map param_parts (map param_of (drop l.param-index l.params))
    ≡ seen l.initial.into ++ flat_map param_parts (map param_of l.params)
