use Rattle.std.proofs.Common.{◌≡◌, ◌++◌, drop, map}
use Rattle.zpl_tree.specs.View.{name_of}
use Rattle.rank_types.specs.Names.{row_of, rows_for}
use Rattle.rank_types.proofs.names.add_names.Given as goal

-- the rows so far and the rest are all
abbrev pub invariant-loop-name : goal.invariant-loop-name
invariant-loop-name l =
    map row_of l.rows.items ++ rows_for l.kind (map name_of (drop l.name-index l.more)) ≡
    map row_of l.initial.rows.items ++ rows_for l.kind (map name_of l.more)
