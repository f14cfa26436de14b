use Rattle.std.proofs.Common.{◌∙◌, ap}
use Rattle.name_kinds.specs.of_zpl_names.Ranks.{direction_rank}
use Rattle.site_faults.specs.Reach.{reach_of}
use Rattle.site_faults.proofs.RegionTold.{pre-end, pre-step}
use Rattle.site_faults.proofs.regions.tell_pre_clashes.Goals as goal

pub loop-one-preserved : goal.loop-one-preserved
loop-one-preserved c =
    pre-step (reach_of c.args.reach.now) c.loop-one.before c.direction_rank-before.result
    c.args.rank c.args.base c.ranks_clash.result c.args.pre.now c.loop-one.one-index _ _ _ _
    c.loop-one-test.true c.ranks_clash.ensures c.add_if.ensures.told
    (c.direction_rank-before.ensures ∙ ap direction_rank c.kind.ensures) c.loop-one.invariant

pub returns : goal.returns
returns c =
    pre-end (reach_of c.args.reach.now) c.loop-one.before c.args.rank c.args.base
    c.ranks_clash-2.result c.args.pre.now c.loop-one.one-index _ _ _ c.loop-one-test.false
    c.ranks_clash-2.ensures c.add_if-2.ensures.told c.loop-one.invariant
