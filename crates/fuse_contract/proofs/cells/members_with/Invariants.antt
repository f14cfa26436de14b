use Rattle.std.proofs.Common.{◌≡◌, map, take}
use Rattle.fuse_contract.specs.Contracting.{member_contracted}
use Rattle.fuse_contract.specs.Naming.{cell_at}
use Rattle.fuse_contract.proofs.cells.members_with.Given as goal

abbrev pub invariant-loop-member : goal.invariant-loop-member
invariant-loop-member l = l.made.items ≡ map (member_contracted (cell_at l.cells)) (take l.member-index l.members)
