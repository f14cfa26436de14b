-- How deep what is printed is, and then how far a function stands above those that it passes the
-- same.
use Rattle.std.proofs.Common.{◌≡◌, ◌++◌, ◌+◌, ◌*◌, drop, max}
use Rattle.zpl_tree.specs.declared.expressions.Expr.{size-Expr}
use Rattle.zpl_tree.specs.Spelling.{more_exprs, more_dims, posts_words}
use Rattle.zpl_tree.specs.View.{exprs_of, dims_of, posts_of}
use Rattle.zpl_tree.specs.Word.{printed_text}
use Rattle.zpl_tree.proofs.printing.expressions.+print_expression.Given as goal

abbrev pub decreases-print_expr : goal.decreases-print_expr
decreases-print_expr l = 8 * goal.size-print_expr l

abbrev pub decreases-print_exprs : goal.decreases-print_exprs
decreases-print_exprs l = 8 * goal.size-print_exprs l + 1

abbrev pub decreases-print_in_round : goal.decreases-print_in_round
decreases-print_in_round l = 8 * goal.size-print_in_round l + 1

abbrev pub decreases-print_scan : goal.decreases-print_scan
decreases-print_scan l = 8 * goal.size-print_scan l + 1

abbrev pub decreases-print_pair : goal.decreases-print_pair
decreases-print_pair l = 8 * (max (size-Expr l.left.now) (size-Expr l.right.now)) + 1

abbrev pub decreases-print_dim : goal.decreases-print_dim
decreases-print_dim l = 8 * goal.size-print_dim l + 1

abbrev pub decreases-print_call : goal.decreases-print_call
decreases-print_call l = 8 * goal.size-print_call l + 2

abbrev pub decreases-print_remap : goal.decreases-print_remap
decreases-print_remap l = 8 * goal.size-print_remap l + 2

abbrev pub decreases-print_dir : goal.decreases-print_dir
decreases-print_dir l = 8 * goal.size-print_dir l + 2

abbrev pub decreases-print_dims : goal.decreases-print_dims
decreases-print_dims l = 8 * goal.size-print_dims l + 2

abbrev pub decreases-print_posts : goal.decreases-print_posts
decreases-print_posts l = 8 * goal.size-print_posts l + 3

abbrev pub decreases-print_inner : goal.decreases-print_inner
decreases-print_inner l = 8 * goal.size-print_inner l + 4

abbrev pub decreases-print_in_square : goal.decreases-print_in_square
decreases-print_in_square l = 8 * goal.size-print_in_square l + 5

abbrev pub decreases-print_bracket : goal.decreases-print_bracket
decreases-print_bracket l = 8 * goal.size-print_bracket l + 6

abbrev pub decreases-print_reduce : goal.decreases-print_reduce
decreases-print_reduce l = 8 * (max (goal.size-print_reduce l) (size-Expr l.operand.now)) + 7

-- what is printed and what is left to print are the whole
abbrev pub invariant-print_exprs-loop-expr : goal.invariant-print_exprs-loop-expr
invariant-print_exprs-loop-expr l =
    l.text.items ++ printed_text (more_exprs (exprs_of (drop l.expr-index l.rest)))
    ≡ l.initial.text.items ++ printed_text (more_exprs (exprs_of l.rest))

abbrev pub invariant-print_dims-loop-dim : goal.invariant-print_dims-loop-dim
invariant-print_dims-loop-dim l =
    l.text.items ++ printed_text (more_dims (dims_of (drop l.dim-index l.rest)))
    ≡ l.initial.text.items ++ printed_text (more_dims (dims_of l.rest))

abbrev pub invariant-print_posts-loop-post : goal.invariant-print_posts-loop-post
invariant-print_posts-loop-post l =
    l.text.items ++ printed_text (posts_words (posts_of (drop l.post-index l.posts)))
    ≡ l.initial.text.items ++ printed_text (posts_words (posts_of l.posts))
