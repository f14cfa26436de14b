use Rattle.std.proofs.Common.{ap, sym, ◌∙◌}
use Rattle.zpl_tree.specs.View.{inner_of, posts_of}
use Rattle.name_kinds.specs.of_zpl_names.Accepted as kind
use Rattle.name_kinds.specs.of_zpl_names.Faults.{post_clashes}
use Rattle.site_faults.specs.Findings.{tells}
use Rattle.site_faults.specs.Reach.{reach_of}
use Rattle.site_faults.specs.Walk.{state_of}
use Rattle.site_faults.proofs.RegionTold.{posts_told}
use Rattle.site_faults.proofs.regions.tell_posts.Goals as goal

pub returns : goal.returns
returns c =
    let state = state_of c.args.findings.now in
    let reach = reach_of c.args.reach.now in
    c.tell_post_clashes.ensures ∙
    ap (λ rank. tells kind.RankClash (post_clashes reach rank (posts_of c.args.posts.now)) state)
    c.inner_rank-rank.ensures ∙
    sym (posts_told state reach (inner_of c.args.region.now) (posts_of c.args.posts.now))
