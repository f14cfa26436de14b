use Rattle.std.proofs.Common.{◌≤◌, length}
use Rattle.zpl_text.specs.Gaps.{Skips}
use Rattle.zpl_text.proofs.gaps.past_gap.Given as goal

abbrev pub invariant-loop-rest : goal.invariant-loop-rest
invariant-loop-rest l =
    record { skipped : Skips l.bytes l.rest; shorter : length l.rest ≤ length l.bytes }

abbrev pub decreases-loop-rest : goal.decreases-loop-rest
decreases-loop-rest l = length l.rest
