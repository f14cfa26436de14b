use Rattle.zpl_tree.specs.View.{var_of}
use Rattle.zpl_parts.specs.of_zpl_binding.Storages.{shaped_by}
use Rattle.zpl_bind.specs.Few.{IsFewBracket}
use Rattle.zpl_bind.specs.Known.{known_in}
use Rattle.zpl_bind.specs.Storages.{borders_in}
use Rattle.zpl_bind.proofs.KnownLemmas.{told-err, all-seen}
use Rattle.zpl_bind.proofs.StorageFaults.{flat-fails}
use Rattle.zpl_bind.proofs.storages.add_vars.Goals as goal

pub add_var-requires-clause-few : goal.add_var-requires-clause-few
add_var-requires-clause-few c =
    all-seen (λ var. IsFewBracket var.shape) var_of c.args.vars.now c.requires.few
    c.loop-var.var-index _ c.loop-var-test.true

pub returns-in_err-add_var-clause-err : goal.returns-in_err-add_var-clause-err
returns-in_err-add_var-clause-err c =
    told-err c.from_residual.result c.in_err-add_var.field-0.0 _ c.from_residual.ensures.1
    (flat-fails (known_in c.args.known.now) (borders_in c.args.borders.now) shaped_by var_of
    c.args.vars.now c.loop-var.var-index _ c.in_err-add_var.field-0.0 c.loop-var-test.true
    c.in_err-add_var.ensures.err)
