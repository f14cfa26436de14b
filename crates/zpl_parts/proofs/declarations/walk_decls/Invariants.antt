use Rattle.std.proofs.Common.{◌≡◌, ◌++◌, drop, map}
use Rattle.std.specs.List.{flat_map}
use Rattle.zpl_binding.specs.of_zpl_tree.View.{decl_of}
use Rattle.zpl_parts.specs.View.{seen}
use Rattle.zpl_parts.specs.Walk.{decl_parts}
use Rattle.zpl_parts.proofs.declarations.walk_decls.Given as goal

-- what is listed and what is left to list are the whole
abbrev pub invariant-loop-decl : goal.invariant-loop-decl
invariant-loop-decl l =
    seen l.into ++ flat_map decl_parts (map decl_of (drop l.decl-index l.decls))
    ≡ seen l.initial.into ++ flat_map decl_parts (map decl_of l.decls)
