use Rattle.std.proofs.Common.{◌≡◌, ◌++◌, drop, map}
use Rattle.listing_rows.specs.Rows.{text_line}
use Rattle.listing_rows.proofs.listings.add_texts.Given as goal

abbrev pub invariant-loop-i : goal.invariant-loop-i
invariant-loop-i l =
    l.lines.items ++ map text_line (drop l.i l.tables.texts) ≡ l.initial.lines.items ++ map text_line l.tables.texts
