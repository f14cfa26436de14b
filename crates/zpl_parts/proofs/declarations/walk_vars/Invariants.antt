use Rattle.std.proofs.Common.{◌≡◌, ◌++◌, drop, map}
use Rattle.std.specs.List.{flat_map}
use Rattle.zpl_binding.specs.of_zpl_tree.View.{var_of}
use Rattle.zpl_parts.specs.View.{seen}
use Rattle.zpl_parts.specs.Walk.{variable_parts}
use Rattle.zpl_parts.proofs.declarations.walk_vars.Given as goal

-- what is listed and what is left to list are the whole
abbrev pub invariant-loop-var : goal.invariant-loop-var
invariant-loop-var l =
    seen l.into ++ flat_map variable_parts (map var_of (drop l.var-index l.vars))
    ≡ seen l.initial.into ++ flat_map variable_parts (map var_of l.vars)
