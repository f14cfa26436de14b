use Rattle.std.proofs.Common.{◌≡◌, drop, map}
use Rattle.lower_regions.specs.of_zpl_lowering.Lowered.{rows_alone}
use Rattle.lower_regions.specs.of_zpl_lowering.Reference.{need_of}
use Rattle.lower_regions.specs.of_lower_draft.Drafted.{grown}
use Rattle.lower_operators.specs.Once.{reference_of}
use Rattle.lower_operators.proofs.references.References.push_needs.Given as goal

abbrev pub invariant-loop-one : goal.invariant-loop-one
invariant-loop-one l =
    grown l.draft
    (rows_alone (map (λ one. need_of l.line (reference_of one)) (drop l.one-index l.one-items)))
    ≡ grown l.initial.draft
    (rows_alone (map (λ one. need_of l.line (reference_of one)) l.one-items))
