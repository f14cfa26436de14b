use Rattle.zpl_bind.specs.Known.{known_in}
use Rattle.zpl_bind.proofs.KnownLemmas.{directions-fail, told-err}
use Rattle.zpl_bind.proofs.known.Known.add_directions.Goals as goal

pub returns-in_err-vector-clause-err : goal.returns-in_err-vector-clause-err
returns-in_err-vector-clause-err c =
    told-err c.from_residual.result c.in_err-vector.field-0.0 _ c.from_residual.ensures.1
    (directions-fail (known_in c.loop-direction.self) c.args.directions.now
    c.loop-direction.direction-index _ _ c.in_err-vector.field-0.0 c.loop-direction-test.true
    c.in_err-vector.ensures.computes c.loop-direction.invariant.rest)
