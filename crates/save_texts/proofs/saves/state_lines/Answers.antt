use Rattle.std.proofs.Common.{◌+◌, ap, arith, subst}
use Rattle.save_lines.specs.Lines.{Explains}
use Rattle.save_texts.proofs.CutFound.{newlines_most}
use Rattle.save_texts.proofs.Faults.{bad_line_most, fault_of_state_line}
use Rattle.save_texts.proofs.saves.state_lines.Goals as goal

pub overflow_add-result : goal.overflow_add-result
overflow_add-result c =
    let most = newlines_most c.args.listing.now in
    let count = c.line_count.ensures in
    let few = c.requires.few in
    omega (arith, most, count, few)

pub overflow_add-result-in-Err-BadLine : goal.overflow_add-result-in-Err-BadLine
overflow_add-result-in-Err-BadLine c =
    let most = newlines_most c.args.listing.now in
    let count = c.line_count.ensures in
    let few = c.requires.few in
    let bad = subst (Explains c.args.state.now) c.in-Err-BadLine.field-0-is c.in-Err-BadLine.ensures.fault in
    let line = bad_line_most c.args.state.now c.in-Err-BadLine.line bad in
    omega (arith, most, count, few, line)

pub returns-in-Err-BadLine-clause-err : goal.returns-in-Err-BadLine-clause-err
returns-in-Err-BadLine-clause-err c =
    let bad = subst (Explains c.args.state.now) c.in-Err-BadLine.field-0-is c.in-Err-BadLine.ensures.fault in
    fault_of_state_line c.args.listing.now c.args.state.now c.requires.listed.0 c.in-Err-BadLine.line (c.in-Err-BadLine.line + (c.line_count.result + 2)) c.requires.listed.1 bad
    (ap (λ count. c.in-Err-BadLine.line + (count + 2)) c.line_count.ensures)
