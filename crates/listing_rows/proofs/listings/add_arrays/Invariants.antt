use Rattle.std.proofs.Common.{◌≡◌, ◌++◌, drop, map}
use Rattle.listing_rows.specs.Rows.{array_line}
use Rattle.listing_rows.proofs.listings.add_arrays.Given as goal

abbrev pub invariant-loop-i : goal.invariant-loop-i
invariant-loop-i l =
    l.lines.items ++ map array_line (drop l.i l.tables.arrays) ≡ l.initial.lines.items ++ map array_line l.tables.arrays
