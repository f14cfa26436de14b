use Rattle.lowering_fits.proofs.TableLemmas.{rows_make_flat}
use Rattle.lowering_fits.proofs.PieceLemmas.{code_makes_flat}
use Rattle.lowering_fits.proofs.laws.rows_that_fit_make_flat_programs.Goals as goal

pub returns : goal.returns
returns c = record { rows = rows_make_flat; code = code_makes_flat }
