-- How deep calls may go and what is lowered is, and then how far a function stands above those that
-- it passes the same; and what the rest of a loop makes of the draft.
use Rattle.std.proofs.Common.{◌≡◌, ◌+◌, ◌-◌, ◌*◌, ◌^◌, drop}
use denote.Param.Weighed.{most}
use Rattle.zpl_tree.specs.View.{stmts_of}
use Rattle.zpl_tree.specs.declared.statements.Stmt.{size-Stmt}
use Rattle.zpl_lowering.specs.Statement.{lowered_all}
use Rattle.lower_draft.specs.Drafted.{grown}
use Rattle.lower_statements.specs.of_lower_points.Fit.{AreFitStmts}
use Rattle.zpl_lower.specs.Runs.{context_of}
use Rattle.zpl_lower.proofs.DepthLemmas.{arms_room, deepest, room_for, width}
use Rattle.zpl_lower.proofs.statements.+lower.Given as goal

abbrev pub decreases-lower_call : goal.decreases-lower_call
decreases-lower_call l = l.run.now.depth * room_for l.run.now

abbrev pub decreases-lower_entered : goal.decreases-lower_entered
decreases-lower_entered l =
    (l.run.now.depth - 1) * room_for l.run.now
    + width * deepest l.run.now.text.now.routines.items + 8

abbrev pub decreases-lower_body : goal.decreases-lower_body
decreases-lower_body l =
    l.run.now.depth * room_for l.run.now
    + width * size-Stmt l.routine.now.procedure.now.body + 6

abbrev pub decreases-lower_frame : goal.decreases-lower_frame
decreases-lower_frame l =
    l.run.now.depth * room_for l.run.now
    + width * size-Stmt l.routine.now.procedure.now.body + 7

abbrev pub decreases-lower_invoke : goal.decreases-lower_invoke
decreases-lower_invoke l = l.run.now.depth * room_for l.run.now + 1

abbrev pub decreases-lower_assign : goal.decreases-lower_assign
decreases-lower_assign l = l.run.now.depth * room_for l.run.now + 2

abbrev pub decreases-lower_form : goal.decreases-lower_form
decreases-lower_form l =
    l.run.now.depth * room_for l.run.now + width * goal.size-lower_form l + 3

abbrev pub decreases-lower_behind : goal.decreases-lower_behind
decreases-lower_behind l =
    l.run.now.depth * room_for l.run.now + width * goal.size-lower_behind l + 4

abbrev pub decreases-lower_stmt : goal.decreases-lower_stmt
decreases-lower_stmt l =
    l.run.now.depth * room_for l.run.now + width * goal.size-lower_stmt l + 5

abbrev pub decreases-lower_stmts : goal.decreases-lower_stmts
decreases-lower_stmts l =
    l.run.now.depth * room_for l.run.now + width * goal.size-lower_stmts l + 6

abbrev pub decreases-lower_while : goal.decreases-lower_while
decreases-lower_while l =
    l.run.now.depth * room_for l.run.now + width * most (λ stmt. size-Stmt stmt) l.body.now + 7

abbrev pub decreases-lower_repeat : goal.decreases-lower_repeat
decreases-lower_repeat l =
    l.run.now.depth * room_for l.run.now + width * goal.size-lower_repeat l + 7

abbrev pub decreases-lower_turns : goal.decreases-lower_turns
decreases-lower_turns l =
    l.run.now.depth * room_for l.run.now + width * goal.size-lower_turns l + 7

abbrev pub decreases-lower_for : goal.decreases-lower_for
decreases-lower_for l =
    l.run.now.depth * room_for l.run.now + width * goal.size-lower_for l + 8

abbrev pub decreases-lower_arms : goal.decreases-lower_arms
decreases-lower_arms l =
    l.run.now.depth * room_for l.run.now
    + width * arms_room l.arms.now l.otherwise.now + (2 ^ 64 - l.from) + 7

-- the draft with the rest is that with all, and the rest is fit
abbrev pub invariant-lower_stmts-loop-stmt : goal.invariant-lower_stmts-loop-stmt
invariant-lower_stmts-loop-stmt l = record {
  code : grown l.draft
      (lowered_all (context_of l.run l.place) l.draft.next (stmts_of (drop l.stmt-index l.stmts))) ≡
      grown l.initial.draft
      (lowered_all (context_of l.run l.place) l.initial.draft.next (stmts_of l.stmts));
  fit : AreFitStmts (stmts_of (drop l.stmt-index l.stmts));
}
