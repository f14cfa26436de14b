-- How deep what is walked is, and then how far a function stands above those that it passes the
-- same.
use Rattle.std.proofs.Common.{◌≡◌, ◌++◌, ◌+◌, ◌*◌, drop}
use Rattle.zpl_binding.specs.of_zpl_tree.View.{exprs_of, dims_of, posts_of}
use Rattle.zpl_parts.specs.View.{seen}
use Rattle.zpl_parts.specs.Walk.{exprs_parts, dims_parts, posts_parts}
use Rattle.zpl_parts.proofs.expressions.+walk_expression.Given as goal

abbrev pub decreases-walk_expr : goal.decreases-walk_expr
decreases-walk_expr l = 8 * goal.size-walk_expr l

abbrev pub decreases-walk_exprs : goal.decreases-walk_exprs
decreases-walk_exprs l = 8 * goal.size-walk_exprs l + 1

abbrev pub decreases-walk_dim : goal.decreases-walk_dim
decreases-walk_dim l = 8 * goal.size-walk_dim l + 1

abbrev pub decreases-walk_dir : goal.decreases-walk_dir
decreases-walk_dir l = 8 * goal.size-walk_dir l + 2

abbrev pub decreases-walk_dims : goal.decreases-walk_dims
decreases-walk_dims l = 8 * goal.size-walk_dims l + 2

abbrev pub decreases-walk_posts : goal.decreases-walk_posts
decreases-walk_posts l = 8 * goal.size-walk_posts l + 3

abbrev pub decreases-walk_inner : goal.decreases-walk_inner
decreases-walk_inner l = 8 * goal.size-walk_inner l + 4

abbrev pub decreases-walk_bracket : goal.decreases-walk_bracket
decreases-walk_bracket l = 8 * goal.size-walk_bracket l + 5

-- what is listed and what is left to list are the whole
abbrev pub invariant-walk_exprs-loop-expr : goal.invariant-walk_exprs-loop-expr
invariant-walk_exprs-loop-expr l =
    seen l.into ++ exprs_parts l.declared (exprs_of (drop l.expr-index l.exprs))
    ≡ seen l.initial.into ++ exprs_parts l.declared (exprs_of l.exprs)

abbrev pub invariant-walk_dims-loop-dim : goal.invariant-walk_dims-loop-dim
invariant-walk_dims-loop-dim l =
    seen l.into ++ dims_parts l.declared (dims_of (drop l.dim-index l.dims))
    ≡ seen l.initial.into ++ dims_parts l.declared (dims_of l.dims)

abbrev pub invariant-walk_posts-loop-post : goal.invariant-walk_posts-loop-post
invariant-walk_posts-loop-post l =
    seen l.into ++ posts_parts l.declared (posts_of (drop l.post-index l.posts))
    ≡ seen l.initial.into ++ posts_parts l.declared (posts_of l.posts)
