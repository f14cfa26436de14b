use Rattle.std.proofs.Common.{◌≡◌, drop}
use Rattle.lower_regions.specs.of_zpl_lowering.Reference.{all_referred}
use Rattle.lower_operators.specs.Once.{with_references}
use Rattle.lower_operators.specs.View.{slates_in}
use Rattle.lower_operators.proofs.referring.refer_all.Given as goal

abbrev pub invariant-loop-slate : goal.invariant-loop-slate
invariant-loop-slate l =
    with_references l.references (all_referred l.numbers (slates_in (drop l.slate-index l.slates)))
    ≡ with_references l.initial.references (all_referred l.numbers (slates_in l.slates))
