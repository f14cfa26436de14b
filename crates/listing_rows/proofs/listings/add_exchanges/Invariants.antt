use Rattle.std.proofs.Common.{◌≡◌, ◌++◌, drop}
use Rattle.std.specs.List.{flat_map}
use Rattle.listing_rows.specs.Rows.{exchange_lines}
use Rattle.listing_rows.proofs.listings.add_exchanges.Given as goal

abbrev pub invariant-loop-i : goal.invariant-loop-i
invariant-loop-i l =
    l.lines.items ++ flat_map (exchange_lines l.tables) (drop l.i l.tables.exchanges) ≡ l.initial.lines.items ++ flat_map (exchange_lines l.tables) l.tables.exchanges
