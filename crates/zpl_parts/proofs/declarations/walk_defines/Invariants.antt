use Rattle.std.proofs.Common.{◌≡◌, ◌++◌, drop, map}
use Rattle.std.specs.List.{flat_map}
use Rattle.zpl_binding.specs.of_zpl_tree.View.{define_of}
use Rattle.zpl_parts.specs.View.{seen}
use Rattle.zpl_parts.specs.Walk.{define_parts}
use Rattle.zpl_parts.proofs.declarations.walk_defines.Given as goal

-- what is listed and what is left to list are the whole
abbrev pub invariant-loop-define : goal.invariant-loop-define
invariant-loop-define l =
    seen l.into ++ flat_map define_parts (map define_of (drop l.define-index l.defines))
    ≡ seen l.initial.into ++ flat_map define_parts (map define_of l.defines)
