use Rattle.std.proofs.Common.{◌≡◌, drop}
use Rattle.fuse_contract.specs.Naming.{members_noted}
use Rattle.fuse_contract.proofs.states.note_members.Given as goal

abbrev pub invariant-loop-member : goal.invariant-loop-member
invariant-loop-member l =
    members_noted l.tables l.group l.depth l.states.items (drop l.member-index l.members)
    ≡ members_noted l.tables l.group 0 l.initial.states.items l.members
