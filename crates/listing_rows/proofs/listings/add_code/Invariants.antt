use Rattle.std.proofs.Common.{◌≡◌, ◌++◌, drop, map}
use Rattle.listing_rows.specs.Rows.{instr_line}
use Rattle.listing_rows.proofs.listings.add_code.Given as goal

abbrev pub invariant-loop-i : goal.invariant-loop-i
invariant-loop-i l =
    l.lines.items ++ map (instr_line l.tables) (drop l.i l.tables.code) ≡ l.initial.lines.items ++ map (instr_line l.tables) l.tables.code
