use Rattle.std.proofs.Common.{◌≡◌, fold, take}
use Rattle.std.specs.Prelude.{flat_map}
use Rattle.temp_norm.specs.of_code_parts.Uses.{accumulated_by}
use Rattle.fuse_contract.specs.Joining.{with_number}
use Rattle.fuse_contract.proofs.grown.NumberSet.add_totals.Given as goal

abbrev pub invariant-loop-member : goal.invariant-loop-member
invariant-loop-member l =
    l.self
    ≡ fold with_number l.initial.self (flat_map accumulated_by (take l.member-index l.members))
