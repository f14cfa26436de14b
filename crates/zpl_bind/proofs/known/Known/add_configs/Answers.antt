use Rattle.zpl_bind.specs.Known.{known_in, settings_in}
use Rattle.zpl_bind.proofs.KnownLemmas.{configs-fail, told-err}
use Rattle.zpl_bind.proofs.known.Known.add_configs.Goals as goal

pub returns-in_err-value-clause-err : goal.returns-in_err-value-clause-err
returns-in_err-value-clause-err c =
    told-err c.from_residual.result c.in_err-value.field-0.0 _ c.from_residual.ensures.1
    (configs-fail (settings_in c.args.texts.now) (known_in c.loop-config.self) c.args.configs.now c.loop-config.config-index _ _
    c.in_err-value.field-0.0 c.loop-config-test.true c.in_err-value.ensures
    c.loop-config.invariant.rest)
