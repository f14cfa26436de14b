use Rattle.zpl_bind.specs.Known.{known_in}
use Rattle.zpl_bind.proofs.KnownLemmas.{regions-fail, told-err}
use Rattle.zpl_bind.proofs.known.Known.add_regions.Goals as goal

pub returns-in_err-value-clause-err : goal.returns-in_err-value-clause-err
returns-in_err-value-clause-err c =
    told-err c.from_residual.result c.in_err-value.field-0.0 _ c.from_residual.ensures.1
    (regions-fail (known_in c.loop-region.self) c.args.regions.now c.loop-region.region-index _ _
    c.in_err-value.field-0.0 c.loop-region-test.true c.in_err-value.ensures.computes
    c.loop-region.invariant.rest)
