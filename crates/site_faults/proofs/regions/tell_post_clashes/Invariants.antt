use Rattle.std.proofs.Common.{◌≡◌, drop}
use Rattle.zpl_tree.specs.View.{posts_of}
use Rattle.name_kinds.specs.of_zpl_names.Accepted as kind
use Rattle.name_kinds.specs.of_zpl_names.Faults.{post_clashes}
use Rattle.site_faults.specs.Findings.{tells}
use Rattle.site_faults.specs.Reach.{reach_of}
use Rattle.site_faults.specs.Walk.{state_of}
use Rattle.site_faults.proofs.regions.tell_post_clashes.Given as goal

-- what is told and what is left to tell are the whole
abbrev pub invariant-loop-post : goal.invariant-loop-post
invariant-loop-post l =
    tells kind.RankClash (post_clashes (reach_of l.reach) l.rank (posts_of (drop l.post-index l.posts)))
    (state_of l.findings) ≡
    tells kind.RankClash (post_clashes (reach_of l.reach) l.rank (posts_of l.posts))
    (state_of l.initial.findings)
