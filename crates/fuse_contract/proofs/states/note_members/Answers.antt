use Rattle.std.proofs.Common.{◌<◌, ◌≤◌, arith, length}
use Rattle.std.proofs.lemmas.List.{drop_more}
use Rattle.fuse_contract.proofs.StateLemmas.{members_end, members_more}
use Rattle.fuse_contract.proofs.states.note_members.Goals as goal

pub loop-member-preserved : goal.loop-member-preserved
loop-member-preserved c =
    let less : c.loop-member.member-index < length c.args.members.now = omega arith in
    members_more c.args.tables.now c.args.group c.loop-member.depth c.loop-member.states.items
    c.args.members.now c.loop-member.member-index _ _ _ _
    (drop_more c.args.members.now c.loop-member.member-index _ less) c.loop-member.invariant
    c.note_member.ensures c.in_ok-depth.ensures

pub returns : goal.returns
returns c =
    let past : length c.args.members.now ≤ c.loop-member.member-index = omega arith in
    members_end c.args.tables.now c.args.group c.loop-member.depth c.loop-member.states.items
    c.args.members.now c.loop-member.member-index _ past c.loop-member.invariant
