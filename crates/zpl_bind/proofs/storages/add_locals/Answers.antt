use Rattle.std.proofs.Common.{subst}
use Rattle.zpl_tree.specs.View.{decl_of}
use Rattle.zpl_parts.specs.of_zpl_binding.Outcome.{failures}
use Rattle.zpl_bind.specs.Fault.{IsAmong}
use Rattle.zpl_bind.specs.Known.{known_in}
use Rattle.zpl_bind.specs.Storages.{borders_in, storages_over, shaped_locals}
use Rattle.zpl_bind.proofs.KnownLemmas.{told-err}
use Rattle.zpl_bind.proofs.StorageFaults.{flat-fails}
use Rattle.zpl_bind.proofs.storages.add_locals.Goals as goal

pub returns-in_err-add_local-clause-err : goal.returns-in_err-add_local-clause-err
returns-in_err-add_local-clause-err c =
    let known = known_in c.args.known.now in
    let borders = borders_in c.args.borders.now in
    let fault = c.in_err-add_local.field-0.0 in
    told-err c.from_residual.result fault _ c.from_residual.ensures.1
    (flat-fails known borders shaped_locals decl_of c.args.decls.now c.loop-decl.decl-index
    c.decl-item.result fault c.loop-decl-test.true
    (subst (λ decl. IsAmong fault (failures (storages_over known borders (shaped_locals (decl_of decl)))))
    c.decl-item.is c.in_err-add_local.ensures.err))
