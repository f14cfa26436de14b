use Rattle.std.proofs.Common.{◌≡◌, ◌++◌, drop, map}
use Rattle.zpl_tree.specs.View.{direction_of}
use Rattle.rank_types.specs.Names.{direction_rows, row_of}
use Rattle.rank_types.proofs.names.add_directions.Given as goal

-- the rows so far and the rest are all
abbrev pub invariant-loop-direction : goal.invariant-loop-direction
invariant-loop-direction l =
    map row_of l.rows.items ++ direction_rows (map direction_of (drop l.direction-index l.directions)) ≡
    map row_of l.initial.rows.items ++ direction_rows (map direction_of l.directions)
