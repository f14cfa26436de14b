-- How deep what is walked over is, and then how far a function stands above those that it passes
-- the same. Behind each slice there is room for a number within it.
use Rattle.std.proofs.Common.{◌≡◌, ◌+◌, ◌-◌, ◌*◌, ◌^◌, ◌++◌, drop, max}
use denote.Param.Weighed.{most}
use Rattle.zpl_tree.specs.declared.statements.Arm.{size-Arm}
use Rattle.zpl_tree.specs.declared.statements.Stmt.{size-Stmt}
use Rattle.zpl_tree.specs.View.{stmts_of}
use Rattle.lower_operators.specs.Once.{with_references}
use Rattle.lower_points.specs.Fit.{AreFitStmts}
use Rattle.lower_points.specs.Inside.{members_in, stmts_at}
use Rattle.lower_points.proofs.points.+points.Given as goal

abbrev pub decreases-push_form : goal.decreases-push_form
decreases-push_form l = 2 ^ 66 * goal.size-push_form l

abbrev pub decreases-push_stmts : goal.decreases-push_stmts
decreases-push_stmts l = 2 ^ 66 * goal.size-push_stmts l + 1

abbrev pub decreases-push_arms : goal.decreases-push_arms
decreases-push_arms l =
    2 ^ 66 * max (most size-Arm l.arms.now) (most size-Stmt l.otherwise.now)
    + (2 ^ 64 - l.from) + 2

-- the members so far and those of the rest are all; and the rest is fit
abbrev pub invariant-push_stmts-loop-stmt : goal.invariant-push_stmts-loop-stmt
invariant-push_stmts-loop-stmt l = record {
  members : members_in l.members.items
      ++ (stmts_at l.at (stmts_of (drop l.stmt-index l.stmts))).members ≡
      members_in l.initial.members.items ++ (stmts_at l.at (stmts_of l.stmts)).members;
  references : with_references l.references
      (stmts_at l.at (stmts_of (drop l.stmt-index l.stmts))).references ≡
      with_references l.initial.references (stmts_at l.at (stmts_of l.stmts)).references;
  fit : AreFitStmts (stmts_of (drop l.stmt-index l.stmts));
}
