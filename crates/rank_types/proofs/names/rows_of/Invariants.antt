use Rattle.std.proofs.Common.{◌≡◌, ◌++◌, drop, map}
use Rattle.std.specs.List.{flat_map}
use Rattle.zpl_tree.specs.View.{decl_of}
use Rattle.rank_types.specs.Names.{decl_rows, row_of}
use Rattle.rank_types.proofs.names.rows_of.Given as goal

-- the rows so far and the rest are all
abbrev pub invariant-loop-decl : goal.invariant-loop-decl
invariant-loop-decl l =
    map row_of l.rows.items ++ flat_map decl_rows (map decl_of (drop l.decl-index l.decls)) ≡
    flat_map decl_rows (map decl_of l.decls)
