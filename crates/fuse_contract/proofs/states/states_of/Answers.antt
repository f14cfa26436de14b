use Rattle.std.proofs.Common.{◌≡◌, ap, arith, rules, Some, length, ◌≤◌}
use Rattle.std.specs.Prelude.{slice_get}
use Rattle.fuse_contract.specs.Naming.{groups_noted}
use Rattle.fuse_contract.proofs.StateLemmas.{groups_end, groups_more}
use Rattle.fuse_contract.proofs.states.states_of.Goals as goal

pub loop-group-init : goal.loop-group-init
loop-group-init c =
    ap (λ states. groups_noted c.args.tables.now 0 states c.args.tables.now.groups)
    c.in_ok-states.ensures

pub loop-group-preserved : goal.loop-group-preserved
loop-group-preserved c =
    let there : slice_get c.args.tables.now.groups c.loop-group.group
    ≡ Some c.as_slice-members.result.now = search rules in
    groups_more c.args.tables.now c.loop-group.states.items _ c.loop-group.group
    c.as_slice-members.result.now there c.loop-group.invariant c.in_ok-note_members.ensures

pub returns : goal.returns
returns c =
    let past : length c.args.tables.now.groups ≤ c.loop-group.group = omega arith in
    groups_end c.args.tables.now c.loop-group.states.items c.loop-group.group past
    c.loop-group.invariant
