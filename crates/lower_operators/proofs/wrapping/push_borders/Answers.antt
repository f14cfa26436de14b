use Rattle.std.proofs.Common.{arith, ap, ◌∙◌}
use Rattle.lower_regions.specs.of_zpl_lowering.Hoist.{border_rows}
use Rattle.lower_regions.specs.of_zpl_lowering.Lowered.{rows_alone}
use Rattle.lower_regions.specs.of_lower_draft.Drafted.{grown}
use Rattle.lower_operators.proofs.WrapLemmas.{border-end, border-next}
use Rattle.lower_operators.proofs.wrapping.push_borders.Goals as goal

pub loop-shift-preserved : goal.loop-shift-preserved
loop-shift-preserved c =
    let read = c.args.read.now in
    border-next c.args.line read.copy read.first c.loop-shift.draft c.push_border.new.draft _
    c.args.vectors.now c.loop-shift.shift-index _ c.loop-shift.slot _ (omega arith)
    c.in_ok-slot-2.ensures.behind
    c.in_ok-slot-2.ensures.rows
    c.loop-shift.invariant

pub returns : goal.returns
returns c =
    let read = c.args.read.now in
    border-end c.args.line read.copy read.first c.loop-shift.draft _ c.args.vectors.now
    c.loop-shift.shift-index c.loop-shift.slot (omega arith) c.loop-shift.invariant
    ∙ ap (λ n. grown c.args.draft.now (rows_alone (border_rows c.args.line read.copy read.first n
    c.args.vectors.now))) c.in_ok-slot.ensures
