use Rattle.std.proofs.Common.{◌≡◌, rules}
use Rattle.std.specs.Prelude.{Some, slice_get}
use Rattle.save_reading.proofs.ReadLemmas.{next_row}
use Rattle.save_reading.proofs.reads.array_row.Goals as goal

pub returns-clause-next : goal.returns-clause-next
returns-clause-next c =
    let found : slice_get c.args.code.now.arrays c.args.array ≡ Some c.unwrap.result.now = search rules in
    next_row c.args.code.now.arrays c.args.array c.unwrap.result.now found

pub returns-clause-fits : goal.returns-clause-fits
returns-clause-fits c =
    let found : slice_get c.args.code.now.arrays c.args.array ≡ Some c.unwrap.result.now = search rules in
    c.rows_fit.ensures.array c.args.code.now c.args.array c.unwrap.result.now c.requires.fits found
