use Rattle.std.proofs.Common.{◌≡◌, take, false}
use Rattle.std.specs.Prelude.{flat_map}
use Rattle.node_check.specs.Learn.{is_among}
use Rattle.code_parts.specs.Uses.{accumulated_by}
use Rattle.node_check.proofs.losses.accumulates.Given as goal

abbrev pub invariant-loop-member : goal.invariant-loop-member
invariant-loop-member l =
    is_among (flat_map accumulated_by (take l.member-index l.members)) l.number ≡ false
