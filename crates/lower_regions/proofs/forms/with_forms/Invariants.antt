use Rattle.std.proofs.Common.{drop, map}
use Rattle.lower_places.specs.of_zpl_lowering.Bracket.{formed}
use Rattle.lower_regions.specs.Forms.{form_of}
use Rattle.lower_regions.specs.Opened.{standing_at}
use Rattle.lower_regions.proofs.FormLemmas.{Forming}
use Rattle.lower_regions.proofs.forms.with_forms.Given as goal

abbrev pub invariant-loop-form : goal.invariant-loop-form
invariant-loop-form l =
    Forming l.initial.draft l.line
    (formed l.initial.draft.next.slots l.line (map form_of l.forms) (standing_at l.initial.opened))
    l.draft l.opened (map form_of (drop l.form-index l.forms))
