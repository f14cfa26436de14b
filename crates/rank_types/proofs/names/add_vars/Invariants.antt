use Rattle.std.proofs.Common.{◌≡◌, ◌++◌, drop, map}
use Rattle.zpl_tree.specs.View.{var_of}
use Rattle.rank_types.specs.Names.{row_of, var_rows}
use Rattle.rank_types.proofs.names.add_vars.Given as goal

-- the rows so far and the rest are all
abbrev pub invariant-loop-var : goal.invariant-loop-var
invariant-loop-var l =
    map row_of l.rows.items ++ var_rows (map var_of (drop l.var-index l.vars)) ≡
    map row_of l.initial.rows.items ++ var_rows (map var_of l.vars)
