use Rattle.std.proofs.Common.{◌≡◌, fold, take}
use Rattle.fuse_contract.specs.Joining.{with_number}
use Rattle.fuse_contract.proofs.grown.NumberSet.add_all.Given as goal

abbrev pub invariant-loop-i : goal.invariant-loop-i
invariant-loop-i l = l.self ≡ fold with_number l.initial.self (take l.i l.numbers)
