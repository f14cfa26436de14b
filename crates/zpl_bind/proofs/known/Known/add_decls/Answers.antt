use Rattle.std.proofs.Common.{subst}
use Rattle.zpl_tree.specs.View.{decl_of}
use Rattle.zpl_parts.specs.of_zpl_binding.Declarations.{with_decl}
use Rattle.zpl_bind.specs.Fault.{IsAmong}
use Rattle.zpl_bind.specs.Known.{known_failures, known_in, settings_in}
use Rattle.zpl_bind.proofs.KnownLemmas.{decls-fail, told-err}
use Rattle.zpl_bind.proofs.known.Known.add_decls.Goals as goal

pub returns-in_err-add_decl-clause-err : goal.returns-in_err-add_decl-clause-err
returns-in_err-add_decl-clause-err c =
    let settings = settings_in c.args.texts.now in
    let known = known_in c.loop-decl.self in
    let fault = c.in_err-add_decl.field-0.0 in
    told-err c.from_residual.result fault _ c.from_residual.ensures.1
    (decls-fail settings known c.args.decls.now c.loop-decl.decl-index c.decl-item.result _ fault
    c.loop-decl-test.true
    (subst (λ decl. IsAmong fault (known_failures (with_decl settings known (decl_of decl))))
    c.decl-item.is c.in_err-add_decl.ensures.err) c.loop-decl.invariant.rest)
