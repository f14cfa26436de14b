use Rattle.std.proofs.Common.{List, ap, drop, map, subst}
use Rattle.std.specs.Prelude.{All}
use Rattle.node_form.specs.declared.tables.Tables.{Tables}
use Rattle.node_local.specs.Standing.{entry_of, standing_local}
use Rattle.node_local.specs.declared.standings.Kept.{Kept}
use Rattle.save_reading.specs.Three.{HasThree}
use Rattle.save_reading.specs.of_grid_save.Reads.{AtValues, BreaksState, BreaksValues, with_kept}
use Rattle.save_reading.proofs.ReadLemmas.{fault_passed}
use Rattle.state_reading.proofs.LocalLemmas.{local_read, told_local}
use Rattle.state_reading.proofs.standings.read_standing.Goals as goal

pub returns-in_err-standing-clause-err : goal.returns-in_err-standing-clause-err
returns-in_err-standing-clause-err c =
    let lines = c.args.lines.now in
    let start = drop c.args.from lines in
    fault_passed (BreaksValues c.args.code.now c.args.p start) (BreaksState c.args.code.now c.args.p start) lines _ _ c.from_residual-in_err-standing.ensures.1 c.in_err-standing.ensures.err
    (λ left breaks. AtValues left breaks)

pub returns-clause-ok : goal.returns-clause-ok
returns-clause-ok c =
    let lines = c.args.lines.now in
    let three = subst (λ (t : Tables). All HasThree t.arrays) c.tables.ensures.same c.look_at_arrays.ensures in
    local_read c.args.code.now c.args.p (drop c.args.from lines) (map entry_of c.in_ok-kept.kept.items) (drop c.in_ok-kept.behind lines) (standing_local c.in_ok-standing.standing) _ _
    three c.in_ok-kept.ensures.ok c.in_ok-standing.ensures.ok
    (ap (λ (kept : List Kept). with_kept (standing_local c.in_ok-standing.standing) (map entry_of kept)) c.of.ensures)

pub returns-clause-state : goal.returns-clause-state
returns-clause-state c =
    let lines = c.args.lines.now in
    told_local c.args.code.now c.args.p (drop c.args.from lines) _ (drop c.in_ok-kept.behind lines) c.requires.processor (returns-clause-ok c)
