use Rattle.std.proofs.Common.{ap, ◌∙◌}
use Rattle.site_faults.specs.Reach.{reach_of}
use Rattle.site_faults.proofs.NodeLemmas.{index-end, index-step}
use Rattle.site_faults.proofs.nodes.tell_indices.Goals as goal

pub loop-index-preserved : goal.loop-index-preserved
loop-index-preserved c = (
  index-step (reach_of c.args.reach.now) c.loop-index.before c.both_ranks-before.result
      c.part_of-own.result.own c.ranks_clash.result c.args.indices.now c.loop-index.index-index _ _ _ _
      c.loop-index-test.true (ap (λ part. part.own) c.part_of-own.ensures) c.ranks_clash.ensures
      c.add_if.ensures.told c.both_ranks-before.ensures c.loop-index.invariant.0,
  c.add_if.ensures.reached ∙ c.loop-index.invariant.1,
)

pub returns-clause-told : goal.returns-clause-told
returns-clause-told c =
    index-end (reach_of c.args.reach.now) c.loop-index.before c.args.indices.now
    c.loop-index.index-index _ _ c.loop-index-test.false c.loop-index.invariant.0
