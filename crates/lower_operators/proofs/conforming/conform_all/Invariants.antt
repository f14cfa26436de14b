use Rattle.std.proofs.Common.{◌≡◌, drop}
use Rattle.lower_regions.specs.of_zpl_lowering.Lowered.{rows_alone}
use Rattle.lower_regions.specs.of_zpl_lowering.Reference.{all_conforming}
use Rattle.lower_regions.specs.of_lower_draft.Drafted.{grown}
use Rattle.lower_operators.specs.View.{slates_in}
use Rattle.lower_operators.proofs.conforming.conform_all.Given as goal

abbrev pub invariant-loop-slate : goal.invariant-loop-slate
invariant-loop-slate l =
    grown l.draft (rows_alone (all_conforming l.line (slates_in (drop l.slate-index l.slates))))
    ≡ grown l.initial.draft (rows_alone (all_conforming l.line (slates_in l.slates)))
