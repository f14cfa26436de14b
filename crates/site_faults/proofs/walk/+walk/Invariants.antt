-- How deep what is walked over is, and then how far a function stands above those that it passes
-- the same.
use Rattle.std.proofs.Common.{◌≡◌, ◌+◌, ◌*◌, drop, max}
use Rattle.zpl_tree.specs.declared.expressions.Expr.{size-Expr}
use Rattle.zpl_tree.specs.View.{exprs_of, dims_of, posts_of}
use Rattle.name_kinds.specs.of_zpl_names.Sites.{actuals_sites, components_sites, dims_sites, exprs_sites, posts_sites}
use Rattle.site_faults.specs.Findings.{walked}
use Rattle.site_faults.specs.Reach.{reach_of}
use Rattle.site_faults.specs.Walk.{state_of}
use Rattle.site_faults.proofs.walk.+walk.Given as goal

abbrev pub decreases-walk_expr : goal.decreases-walk_expr
decreases-walk_expr l = 8 * goal.size-walk_expr l

abbrev pub decreases-walk_whole : goal.decreases-walk_whole
decreases-walk_whole l = 8 * goal.size-walk_whole l + 1

abbrev pub decreases-walk_exprs : goal.decreases-walk_exprs
decreases-walk_exprs l = 8 * goal.size-walk_exprs l + 1

abbrev pub decreases-walk_actual : goal.decreases-walk_actual
decreases-walk_actual l = 8 * goal.size-walk_actual l + 2

abbrev pub decreases-walk_actuals : goal.decreases-walk_actuals
decreases-walk_actuals l = 8 * goal.size-walk_actuals l + 3

abbrev pub decreases-walk_components : goal.decreases-walk_components
decreases-walk_components l = 8 * goal.size-walk_components l + 2

abbrev pub decreases-walk_dir : goal.decreases-walk_dir
decreases-walk_dir l = 8 * goal.size-walk_dir l + 3

abbrev pub decreases-walk_dim : goal.decreases-walk_dim
decreases-walk_dim l = 8 * goal.size-walk_dim l + 2

abbrev pub decreases-walk_dims : goal.decreases-walk_dims
decreases-walk_dims l = 8 * goal.size-walk_dims l + 3

abbrev pub decreases-walk_posts : goal.decreases-walk_posts
decreases-walk_posts l = 8 * goal.size-walk_posts l + 4

abbrev pub decreases-walk_region : goal.decreases-walk_region
decreases-walk_region l = 8 * goal.size-walk_region l + 5

abbrev pub decreases-walk_reduce : goal.decreases-walk_reduce
decreases-walk_reduce l = 8 * (max (goal.size-walk_reduce l) (size-Expr l.operand.now)) + 7

abbrev pub decreases-walk_over : goal.decreases-walk_over
decreases-walk_over l = 8 * (max (goal.size-walk_over l) (size-Expr l.operand.now)) + 6

-- the walk so far and that over the rest are the whole walk

abbrev pub invariant-walk_exprs-loop-expr : goal.invariant-walk_exprs-loop-expr
invariant-walk_exprs-loop-expr l =
    walked (state_of l.findings)
    (exprs_sites (reach_of l.reach) l.rank (exprs_of (drop l.expr-index l.exprs))) ≡
    walked (state_of l.initial.findings)
    (exprs_sites (reach_of l.reach) l.rank (exprs_of l.exprs))

abbrev pub invariant-walk_actuals-loop-actual : goal.invariant-walk_actuals-loop-actual
invariant-walk_actuals-loop-actual l =
    walked (state_of l.findings)
    (actuals_sites (reach_of l.reach) (exprs_of (drop l.actual-index l.actuals))) ≡
    walked (state_of l.initial.findings)
    (actuals_sites (reach_of l.reach) (exprs_of l.actuals))

abbrev pub invariant-walk_components-loop-part : goal.invariant-walk_components-loop-part
invariant-walk_components-loop-part l =
    walked (state_of l.findings)
    (components_sites (reach_of l.reach) (exprs_of (drop l.part-index l.parts))) ≡
    walked (state_of l.initial.findings)
    (components_sites (reach_of l.reach) (exprs_of l.parts))

abbrev pub invariant-walk_posts-loop-post : goal.invariant-walk_posts-loop-post
invariant-walk_posts-loop-post l =
    walked (state_of l.findings)
    (posts_sites (reach_of l.reach) (posts_of (drop l.post-index l.posts))) ≡
    walked (state_of l.initial.findings)
    (posts_sites (reach_of l.reach) (posts_of l.posts))

abbrev pub invariant-walk_dims-loop-dim : goal.invariant-walk_dims-loop-dim
invariant-walk_dims-loop-dim l =
    walked (state_of l.findings)
    (dims_sites (reach_of l.reach) (dims_of (drop l.dim-index l.dims))) ≡
    walked (state_of l.initial.findings)
    (dims_sites (reach_of l.reach) (dims_of l.dims))
