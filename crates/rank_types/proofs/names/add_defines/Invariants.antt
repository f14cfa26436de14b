use Rattle.std.proofs.Common.{◌≡◌, ◌++◌, drop, map}
use Rattle.zpl_tree.specs.View.{define_of}
use Rattle.rank_types.specs.Names.{define_rows, row_of}
use Rattle.rank_types.proofs.names.add_defines.Given as goal

-- the rows so far and the rest are all
abbrev pub invariant-loop-define : goal.invariant-loop-define
invariant-loop-define l =
    map row_of l.rows.items ++ define_rows l.kind (map define_of (drop l.define-index l.defines)) ≡
    map row_of l.initial.rows.items ++ define_rows l.kind (map define_of l.defines)
