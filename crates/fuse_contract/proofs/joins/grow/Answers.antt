use Rattle.std.proofs.Common.{◌∙◌, ap, refl}
use Rattle.std.specs.Prelude.{unwrap_or}
use Rattle.fuse_contract.proofs.StepLemmas.{grown_is}
use Rattle.fuse_contract.proofs.joins.grow.Goals as goal

pub returns : goal.returns
returns c =
    λ code loop last used.
    grown_is code c.args.slot c.args.members.now c.args.uses.now used c.unwrap_or-grown.result _
    refl c.in_ok-extend_from_slice.ensures.items c.in_ok-add.ensures c.no_members.result
    c.args.last.now loop
    (c.unwrap_or-grown.ensures
    ∙ ap (λ o. unwrap_or o c.no_members.result) c.take.ensures.value)
    c.no_members.ensures.slot c.no_members.ensures.members c.no_members.ensures.used last
