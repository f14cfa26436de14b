use Rattle.std.proofs.Common.{◌≡◌, take, true}
use Rattle.std.specs.List.{list_all}
use Rattle.fuse_contract.specs.Fusing.{are_like}
use Rattle.fuse_contract.proofs.grown.all_like.Given as goal

abbrev pub invariant-loop-i : goal.invariant-loop-i
invariant-loop-i l = list_all (are_like l.tables l.array) (take l.i l.others) ≡ true
