use Rattle.std.proofs.Common.{◌≡◌, false, take}
use Rattle.temp_norm.specs.of_code_parts.Uses.{share}
use Rattle.fuse_contract.proofs.grown.NumberSet.shares.Given as goal

abbrev pub invariant-loop-i : goal.invariant-loop-i
invariant-loop-i l = share (take l.i l.numbers) l.self ≡ false
