use Rattle.lower_points.proofs.FitLemmas.{arm_body, arm_test, fit_later}
use Rattle.lower_points.proofs.laws.parts_of_fit_arms_are_fit.Goals as goal

pub returns : goal.returns
returns c = record { test = arm_test; body = arm_body; later = fit_later }
