use Rattle.std.proofs.Common.{ap, ap₂, not, sym, ◌&&◌, ◌∙◌}
use Rattle.site_faults.proofs.FormTold.{border-last, not-not, not-some}
use Rattle.site_faults.proofs.forms.ends_in_border.Goals as goal

pub returns-in-Some : goal.returns-in-Some
returns-in-Some c =
    ap₂ (λ one two. one && two) c.is_border_region.ensures
    (sym (not-not c.is_none.result) ∙ ap not (sym c.is_none.ensures) ∙ not-some c.in-Some.last.now.mask) ∙
    border-last c.args.prefixes.now c.in-Some.last.now (sym c.in-Some.ensures.value)
