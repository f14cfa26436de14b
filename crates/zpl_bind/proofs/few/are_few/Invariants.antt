use Rattle.std.proofs.Common.{◌≡◌, drop, map}
use Rattle.std.specs.List.{list_all}
use Rattle.zpl_tree.specs.View.{decl_of}
use Rattle.zpl_bind.specs.Few.{is_few_decl}
use Rattle.zpl_bind.proofs.few.are_few.Given as goal

-- what is left decides
abbrev pub invariant-loop-decl : goal.invariant-loop-decl
invariant-loop-decl l =
    list_all is_few_decl (map decl_of (drop l.decl-index l.decls))
    ≡ list_all is_few_decl (map decl_of l.decls)
