use Rattle.std.proofs.Common.{[], drop, subst}
use Rattle.node_form.specs.declared.tables.Tables.{Tables}
use Rattle.node_local.specs.Standing.{standing_local}
use Rattle.save_reading.specs.of_grid_save.Reads.{BreaksState, IsMessageLine, RunBreaks, is_message}
use Rattle.save_reading.proofs.ReadLemmas.{fault_passed}
use Rattle.state_reading.proofs.LocalLemmas.{at_message}
use Rattle.state_reading.proofs.states.read_state.Goals as goal

pub returns-in_err-sent-clause-err : goal.returns-in_err-sent-clause-err
returns-in_err-sent-clause-err c =
    let lines = c.args.lines.now in
    let code = c.args.code.now in
    let p = c.args.p in
    let start = drop c.args.from lines in
    let one = drop c.in_ok-standing.behind lines in
    fault_passed (RunBreaks is_message (IsMessageLine c.tables.result.now p) [] one) (BreaksState code p start) lines _ _ c.from_residual-in_err-sent.ensures.1 c.in_err-sent.ensures.err
    (λ left breaks. at_message code p start (standing_local c.in_ok-standing.standing) one left c.in_ok-standing.ensures.ok
    (subst (λ (k : Tables). RunBreaks is_message (IsMessageLine k p) [] one left) c.tables.ensures.same breaks))
