use Rattle.zpl_bind.specs.Known.{known_in}
use Rattle.zpl_bind.proofs.KnownLemmas.{constants-fail, told-err}
use Rattle.zpl_bind.proofs.known.Known.add_constants.Goals as goal

pub returns-in_err-value-clause-err : goal.returns-in_err-value-clause-err
returns-in_err-value-clause-err c =
    told-err c.from_residual.result c.in_err-value.field-0.0 _ c.from_residual.ensures.1
    (constants-fail (known_in c.loop-constant.self) c.args.constants.now c.loop-constant.constant-index _ _
    c.in_err-value.field-0.0 c.loop-constant-test.true c.in_err-value.ensures
    c.loop-constant.invariant.rest)
