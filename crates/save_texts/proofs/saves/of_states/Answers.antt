use Rattle.std.proofs.Common.{◌+◌, ◌∙◌, ap, arith, subst}
use Rattle.save_reading.specs.Fault.{FaultAt}
use Rattle.grid_save.specs.Reads.{BreaksGrid}
use Rattle.save_texts.specs.Newlines.{newlines}
use Rattle.save_texts.proofs.CutFound.{newlines_most}
use Rattle.save_texts.proofs.Faults.{fault_of_state}
use Rattle.save_texts.proofs.saves.of_states.Goals as goal

pub overflow_add-result : goal.overflow_add-result
overflow_add-result c =
    let most = newlines_most c.args.listing.now in
    let count = c.line_count.ensures in
    let few = c.requires.few in
    omega (arith, most, count, few)

pub overflow_add-result-in-BadState : goal.overflow_add-result-in-BadState
overflow_add-result-in-BadState c =
    let most = newlines_most c.args.listing.now in
    let count = c.line_count.ensures in
    let least = c.min.ensures in
    let few = c.requires.few in
    omega (arith, most, count, least, few)

pub returns-in-BadState : goal.returns-in-BadState
returns-in-BadState c = λ code state listed saved at.
    fault_of_state c.args.listing.now state code c.args.lines.now c.in-BadState.line (2 + c.line_count.result + c.min.result) listed saved
    (subst (FaultAt (BreaksGrid code c.args.lines.now) c.args.lines.now) c.in-BadState.is at)
    (ap (λ count. 2 + count + c.min.result) c.line_count.ensures ∙ ap (λ least. 2 + newlines c.args.listing.now + least) c.min.ensures)
