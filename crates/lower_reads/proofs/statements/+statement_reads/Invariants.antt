use Rattle.std.proofs.Common.{◌≡◌, ◌+◌, ◌*◌, drop}
use Rattle.zpl_lowering.specs.of_zpl_tree.View.{arms_of, stmts_of}
use Rattle.lower_reads.specs.Reads.{arms_reads, stmts_reads}
use Rattle.lower_reads.proofs.statements.+statement_reads.Given as goal

abbrev pub decreases-count_stmt : goal.decreases-count_stmt
decreases-count_stmt l = 4 * goal.size-count_stmt l

abbrev pub decreases-count_stmts : goal.decreases-count_stmts
decreases-count_stmts l = 4 * goal.size-count_stmts l + 1

abbrev pub decreases-count_arms : goal.decreases-count_arms
decreases-count_arms l = 4 * goal.size-count_arms l + 2

abbrev pub invariant-count_stmts-loop-stmt : goal.invariant-count_stmts-loop-stmt
invariant-count_stmts-loop-stmt l =
    l.count + stmts_reads (stmts_of (drop l.stmt-index l.stmts)) ≡
    l.initial.count + stmts_reads (stmts_of l.stmts)

abbrev pub invariant-count_arms-loop-arm : goal.invariant-count_arms-loop-arm
invariant-count_arms-loop-arm l =
    l.count + arms_reads (arms_of (drop l.arm-index l.arms)) ≡
    l.initial.count + arms_reads (arms_of l.arms)
