use Rattle.lower_points.proofs.FormLemmas.{fit_else}
use Rattle.lower_points.proofs.laws.statements_of_a_fit_else_are_fit.Goals as goal

pub returns : goal.returns
returns c = fit_else
