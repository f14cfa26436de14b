use Rattle.std.proofs.Common.{◌≡◌, fold, take}
use Rattle.fuse_contract.specs.Joining.{with_member}
use Rattle.fuse_contract.proofs.uses.add_members.Given as goal

abbrev pub invariant-loop-member : goal.invariant-loop-member
invariant-loop-member l =
    l.uses ≡ fold (with_member l.slot) l.initial.uses (take l.member-index l.members)
