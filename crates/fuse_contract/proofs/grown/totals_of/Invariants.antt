use Rattle.std.proofs.Common.{◌≡◌, [], fold, take}
use Rattle.std.specs.Prelude.{flat_map}
use Rattle.temp_norm.specs.of_code_parts.Uses.{accumulated_by}
use Rattle.fuse_contract.specs.Joining.{with_number}
use Rattle.fuse_contract.proofs.grown.totals_of.Given as goal

abbrev pub invariant-loop-group : goal.invariant-loop-group
invariant-loop-group l =
    l.totals
    ≡ fold with_number [] (flat_map (flat_map accumulated_by) (take l.group l.tables.groups))
