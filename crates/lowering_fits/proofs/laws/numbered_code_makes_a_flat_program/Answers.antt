use Rattle.lowering_fits.proofs.ArrayLemmas.{whole_laid, whole_flat}
use Rattle.lowering_fits.proofs.ReadLemmas.{whole_stored}
use Rattle.lowering_fits.proofs.TypedLemmas.{whole_typed}
use Rattle.lowering_fits.proofs.WithinLemmas.{whole_within}
use Rattle.lowering_fits.proofs.laws.numbered_code_makes_a_flat_program.Goals as goal

pub returns : goal.returns
returns c = record {
  laid = whole_laid;
  flat = whole_flat;
  stored = whole_stored;
  typed = whole_typed;
  fringes = whole_within;
}
