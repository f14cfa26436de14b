use Rattle.std.proofs.Common.{[], ◌++◌, ap, ◌∙◌, append_assoc}
use Rattle.lower_regions.specs.of_zpl_lowering.Reference.{all_referred}
use Rattle.lower_operators.specs.Once.{optional, with_references}
use Rattle.lower_operators.specs.View.{slates_in}
use Rattle.lower_operators.proofs.OnceLemmas.{added-both, added-once}
use Rattle.lower_operators.proofs.phasing.referred.Goals as goal

pub returns : goal.returns
returns c =
    let own = optional c.args.own in
    let rest = all_referred c.args.numbers.now (slates_in c.args.slates.now) in
    let last = optional c.args.last in
    c.in_ok-add_optional-2.ensures
    ∙ ap (λ l. with_references l last)
    (c.in_ok-refer_all.ensures
    ∙ ap (λ l. with_references l rest)
    (c.in_ok-add_optional.ensures ∙ ap (λ l. with_references l own) c.new-references.ensures)
    ∙ added-both [] own rest)
    ∙ added-both [] (own ++ rest) last
    ∙ ap (λ l. with_references [] l) (append_assoc own rest last)
    ∙ added-once (own ++ (rest ++ last))
