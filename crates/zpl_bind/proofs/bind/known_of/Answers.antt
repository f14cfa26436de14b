use Rattle.std.proofs.Common.{subst}
use Rattle.std.proofs.lemmas.List.Elements.{Contains-append_left}
use Rattle.zpl_bind.specs.Fault.{IsAmong}
use Rattle.zpl_bind.specs.Lists.{settings_of}
use Rattle.zpl_bind.specs.Texts.{all_text_faults}
use Rattle.zpl_bind.proofs.KnownLemmas.{told-err}
use Rattle.zpl_bind.proofs.StorageFaults.{among-more}
use Rattle.zpl_bind.proofs.bind.known_of.Goals as goal

pub returns-in_err-texts-clause-err : goal.returns-in_err-texts-clause-err
returns-in_err-texts-clause-err c =
    let fault = c.in_err-texts.field-0.0 in
    told-err c.from_residual-in_err-texts.result fault _ c.from_residual-in_err-texts.ensures.1
    (among-more fault _ _ (Contains-append_left _ _)
    (subst (λ bases. IsAmong fault (all_text_faults bases (settings_of c.args.settings.now)))
    c.in_ok-bases.ensures.bases c.in_err-texts.ensures.err))
