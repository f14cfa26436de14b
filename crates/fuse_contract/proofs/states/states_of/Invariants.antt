use Rattle.std.proofs.Common.{◌≡◌, drop}
use Rattle.fuse_contract.specs.Naming.{all_noted, groups_noted}
use Rattle.fuse_contract.proofs.states.states_of.Given as goal

abbrev pub invariant-loop-group : goal.invariant-loop-group
invariant-loop-group l =
    groups_noted l.tables l.group l.states.items (drop l.group l.tables.groups)
    ≡ all_noted l.tables
