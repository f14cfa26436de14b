use Rattle.std.proofs.Common.{◌≡◌, ◌++◌, drop, map}
use Rattle.listing_rows.specs.Rows.{item_line}
use Rattle.listing_rows.proofs.listings.add_exchange.Given as goal

abbrev pub invariant-loop-item : goal.invariant-loop-item
invariant-loop-item l =
    l.lines.items ++ map (item_line l.tables) (drop l.item-index l.items) ≡ l.initial.lines.items ++ map (item_line l.tables) l.items
