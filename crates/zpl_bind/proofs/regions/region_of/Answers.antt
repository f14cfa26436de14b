use Rattle.zpl_tree.specs.View.{posts_of}
use Rattle.zpl_bind.specs.Known.{known_in}
use Rattle.zpl_bind.proofs.RegionLemmas.{behind-passes, passed}
use Rattle.zpl_bind.proofs.regions.region_of.Goals as goal

pub returns-in_err-body-clause-computes : goal.returns-in_err-body-clause-computes
returns-in_err-body-clause-computes c =
    passed c.from_residual.result c.in_err-body.field-0.0 _ c.from_residual.ensures.1
    (behind-passes (known_in c.args.known.now) (posts_of c.args.region.now.posts.now) _
    c.in_err-body.field-0.0 c.in_err-body.ensures.computes)
