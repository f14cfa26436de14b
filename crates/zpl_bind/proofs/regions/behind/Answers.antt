use Rattle.zpl_bind.specs.Known.{known_in}
use Rattle.zpl_bind.proofs.RegionLemmas.{behind-fault, passed}
use Rattle.zpl_bind.proofs.regions.behind.Goals as goal

pub returns-in_err-region-clause-computes : goal.returns-in_err-region-clause-computes
returns-in_err-region-clause-computes c =
    passed c.from_residual.result c.in_err-region.field-0.0 _ c.from_residual.ensures.1
    (behind-fault (known_in c.args.known.now) c.loop-post.region c.args.region c.args.posts.now
    c.loop-post.post-index _ c.in_err-region.field-0.0 c.loop-post-test.true
    c.in_err-region.ensures.computes c.loop-post.invariant.rest)
