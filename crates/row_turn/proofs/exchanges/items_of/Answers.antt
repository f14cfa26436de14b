use Rattle.std.proofs.Common.{rules, ◌≡◌}
use Rattle.std.specs.Prelude.{Some, slice_get}
use Rattle.node_form.specs.Fits.{FitsExchange}
use Rattle.row_turn.proofs.exchanges.items_of.Goals as goal

pub returns-clause-fits : goal.returns-clause-fits
unfolding FitsExchange
returns-clause-fits c =
    let there : slice_get c.args.code.now.exchanges c.args.exchange ≡ Some c.as_slice.result.now = search rules in
    c.rows_fit.ensures.exchange c.args.code.now c.args.exchange c.as_slice.result.now c.tables.ensures.fits there
