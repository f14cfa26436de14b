use Rattle.std.proofs.Common.{◌≡◌, drop}
use Rattle.zpl_lowering.specs.Statement.{has_put}
use Rattle.lower_points.specs.Inside.{members_in}
use Rattle.lower_points.proofs.members.has_put.Given as goal

-- what is left puts an array just where all members do
abbrev pub invariant-loop-member : goal.invariant-loop-member
invariant-loop-member l =
    has_put (members_in (drop l.member-index l.members)) ≡ has_put (members_in l.members)
