use Rattle.std.proofs.Common.{◌≡◌, ◌++◌, Some, rules}
use Rattle.std.specs.Prelude.{slice_get}
use Rattle.listing_rows.specs.Rows.{exchange_lines}
use Rattle.listing_rows.proofs.Rests.{extended}
use Rattle.listing_rows.proofs.listings.add_exchanges.Goals as goal

pub loop-i-preserved : goal.loop-i-preserved
loop-i-preserved c =
    let here : slice_get c.args.tables.now.exchanges c.loop-i.i ≡ Some c.unwrap-row.result.now = search rules in
    let grown : c.add_exchange.new.lines.items ≡ c.loop-i.lines.items ++ (exchange_lines c.args.tables.now) c.unwrap-row.result.now = search rules in
    extended (exchange_lines c.args.tables.now) c.args.tables.now.exchanges c.loop-i.i c.unwrap-row.result.now c.loop-i.lines.items c.add_exchange.new.lines.items _ here grown c.loop-i.invariant
