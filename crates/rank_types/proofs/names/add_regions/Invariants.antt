use Rattle.std.proofs.Common.{◌≡◌, ◌++◌, drop, map}
use Rattle.zpl_tree.specs.View.{region_of}
use Rattle.rank_types.specs.Names.{region_rows, row_of}
use Rattle.rank_types.proofs.names.add_regions.Given as goal

-- the rows so far and the rest are all
abbrev pub invariant-loop-region : goal.invariant-loop-region
invariant-loop-region l =
    map row_of l.rows.items ++ region_rows (map region_of (drop l.region-index l.regions)) ≡
    map row_of l.initial.rows.items ++ region_rows (map region_of l.regions)
