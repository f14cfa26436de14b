use Rattle.std.proofs.Common.{◌≡◌, drop}
use Rattle.lower_regions.specs.of_zpl_lowering.Hoist.{border_rows}
use Rattle.lower_regions.specs.of_zpl_lowering.Lowered.{rows_alone}
use Rattle.lower_regions.specs.of_lower_draft.Drafted.{grown}
use Rattle.lower_operators.proofs.wrapping.push_borders.Given as goal

abbrev pub invariant-loop-shift : goal.invariant-loop-shift
invariant-loop-shift l =
    grown l.draft (rows_alone (border_rows l.line l.read.copy l.read.first l.slot
    (drop l.shift-index l.vectors)))
    ≡ grown l.initial.draft (rows_alone (border_rows l.line l.read.copy l.read.first l.initial.slot
    l.vectors))
