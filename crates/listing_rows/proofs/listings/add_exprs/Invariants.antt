use Rattle.std.proofs.Common.{◌≡◌, ◌++◌, drop, map}
use Rattle.listing_rows.specs.Rows.{expr_line}
use Rattle.listing_rows.proofs.listings.add_exprs.Given as goal

abbrev pub invariant-loop-i : goal.invariant-loop-i
invariant-loop-i l =
    l.lines.items ++ map (expr_line l.tables) (drop l.i l.tables.exprs) ≡ l.initial.lines.items ++ map (expr_line l.tables) l.tables.exprs
