use Rattle.std.proofs.Common.{refl, ap, ◌∙◌}
use Rattle.zpl_tree.specs.View.{dir_of, posts_of}
use Rattle.name_kinds.specs.of_zpl_names.Accepted as kind
use Rattle.name_kinds.specs.of_zpl_names.Faults.{dir_at, post_clashes}
use Rattle.name_kinds.specs.of_zpl_names.Ranks.{dir_rank, ranks_clash}
use Rattle.site_faults.specs.Reach.{reach_of}
use Rattle.site_faults.proofs.FindingLemmas.{loop-end, loop-step}
use Rattle.site_faults.proofs.regions.tell_post_clashes.Goals as goal

pub loop-post-preserved : goal.loop-post-preserved
loop-post-preserved c =
    let reach = reach_of c.args.reach.now in
    loop-step kind.RankClash (λ posts. post_clashes reach c.args.rank (posts_of posts))
    (λ post. ranks_clash c.args.rank (dir_rank reach.scope (dir_of post.dir)))
    (λ post. dir_at (dir_of post.dir)) (λ post rest. refl) c.args.posts.now c.loop-post.post-index _
    _ _ _ _ _ c.loop-post-test.true
    (c.ranks_clash-clashes.ensures ∙ ap (ranks_clash c.args.rank) c.dir_rank.ensures)
    c.dir_at.ensures c.add_if.ensures.told c.loop-post.invariant

pub returns : goal.returns
returns c =
    loop-end kind.RankClash
    (λ posts. post_clashes (reach_of c.args.reach.now) c.args.rank (posts_of posts))
    c.args.posts.now c.loop-post.post-index _ _ refl c.loop-post-test.false c.loop-post.invariant
