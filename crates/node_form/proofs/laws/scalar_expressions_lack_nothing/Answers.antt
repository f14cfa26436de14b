use Rattle.node_form.proofs.ValueLemmas.{value_of-scalar}
use Rattle.node_form.proofs.laws.scalar_expressions_lack_nothing.Goals as goal

pub returns : goal.returns
returns c tables scalars words fits scalar enough e = value_of-scalar tables fits.rank scalars words fits.stack fits.fit scalar enough e
