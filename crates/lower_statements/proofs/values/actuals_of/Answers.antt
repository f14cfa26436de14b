use Rattle.std.proofs.Common.{arith}
use Rattle.lower_points.specs.of_lower_places.View.{where_of}
use Rattle.lower_statements.proofs.ValueLemmas.{actuals_end}
use Rattle.lower_statements.proofs.values.actuals_of.Goals as goal

pub returns-clause-exprs : goal.returns-clause-exprs
returns-clause-exprs c =
    actuals_end (where_of c.args.place.now) c.args.formals.now c.args.actuals.now c.loop-at.at _ _
    (omega arith) c.loop-at.invariant.exprs
