use Rattle.std.proofs.Common.{map, arith}
use Rattle.lower_frames.specs.Frames.{given_of}
use Rattle.lower_frames.specs.of_lower_places.View.{where_of}
use Rattle.zpl_lower.proofs.GivenLemmas.{givens_end}
use Rattle.zpl_lower.proofs.calls.givens_of.Goals as goal

pub returns-clause-givens : goal.returns-clause-givens
returns-clause-givens c =
    givens_end (where_of c.args.place.now) c.args.formals.now c.args.actuals.now c.loop-at.at
    c.loop-at.scalar (map given_of c.loop-at.givens.items) _
    (omega (arith, c.min-count.ensures, c.loop-at-test.false, c.loop-at.auto.at-end))
    c.loop-at.invariant.givens
