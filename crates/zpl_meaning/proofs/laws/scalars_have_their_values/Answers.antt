use Rattle.zpl_meaning.proofs.ScalarLemmas.{scalar_is_value, scalars_are_values}
use Rattle.zpl_meaning.proofs.laws.scalars_have_their_values.Goals as goal

pub returns : goal.returns
returns c = record { one = scalar_is_value; all = scalars_are_values }
