-- What is left of the depth, and then how far a rule stands above those that it calls at the same depth.
use Rattle.std.proofs.Common.{◌≡◌, ℕ, ◌+◌, ◌*◌, ◌-◌, ◌<◌, ◌≤◌, length}
use Rattle.zpl_tree.specs.Depth.{expr_depth, exprs_depth, posts_depth, dims_depth}
use Rattle.zpl_tree.specs.View.{expr_of, exprs_of, posts_of, dims_of}
use Rattle.zpl_grammar.specs.Lexeme.{lexemes_of}
use Rattle.zpl_parse.specs.Expressions.{levels, exprs, posts, dim_texts}
use Rattle.zpl_parse.specs.Operators.{operator_of, of_level, operand_of, is_alone}
use Rattle.zpl_parse.proofs.Chains.{IsFurther, height}
use Rattle.zpl_parse.proofs.Loops.{IsGathered}
use Rattle.zpl_parse.proofs.Lists.{put_expr, put_post, put_dim}
use Rattle.zpl_parse.proofs.+expression.Given as goal

abbrev pub decreases-expressions::both : goal.decreases-expressions::both
decreases-expressions::both l = 23 * l.deep

abbrev pub decreases-expressions::behind_name : goal.decreases-expressions::behind_name
decreases-expressions::behind_name l = 23 * l.deep + 1

abbrev pub decreases-expressions::shifted : goal.decreases-expressions::shifted
decreases-expressions::shifted l = 23 * l.deep

abbrev pub decreases-expressions::remapped : goal.decreases-expressions::remapped
decreases-expressions::remapped l = 23 * l.deep

abbrev pub decreases-expressions::absolute : goal.decreases-expressions::absolute
decreases-expressions::absolute l = 23 * l.deep

abbrev pub decreases-expressions::flood : goal.decreases-expressions::flood
decreases-expressions::flood l = 23 * l.deep

abbrev pub decreases-expressions::folded : goal.decreases-expressions::folded
decreases-expressions::folded l = 23 * l.deep + 1

abbrev pub decreases-expressions::opened : goal.decreases-expressions::opened
decreases-expressions::opened l = 23 * l.deep + 2

abbrev pub decreases-expressions::unary : goal.decreases-expressions::unary
decreases-expressions::unary l = 23 * l.deep + 3

abbrev pub decreases-expressions::operand : goal.decreases-expressions::operand
decreases-expressions::operand l = 23 * l.deep + 2 * height l.level + 2

abbrev pub decreases-expressions::operations : goal.decreases-expressions::operations
decreases-expressions::operations l = 23 * l.deep + 2 * height l.level + 3

abbrev pub decreases-expressions::expr : goal.decreases-expressions::expr
decreases-expressions::expr l = 23 * l.deep + 14

abbrev pub decreases-expressions::inside : goal.decreases-expressions::inside
decreases-expressions::inside l = 23 * l.deep + 15

abbrev pub decreases-expressions::exprs : goal.decreases-expressions::exprs
decreases-expressions::exprs l = 23 * l.deep + 15

abbrev pub decreases-regions::bounds : goal.decreases-regions::bounds
decreases-regions::bounds l = 23 * l.deep + 15

abbrev pub decreases-expressions::actuals : goal.decreases-expressions::actuals
decreases-expressions::actuals l = 23 * l.deep + 16

abbrev pub decreases-expressions::components : goal.decreases-expressions::components
decreases-expressions::components l = 23 * l.deep + 16

abbrev pub decreases-regions::dim_text : goal.decreases-regions::dim_text
decreases-regions::dim_text l = 23 * l.deep + 16

abbrev pub decreases-regions::dir : goal.decreases-regions::dir
decreases-regions::dir l = 23 * l.deep + 17

abbrev pub decreases-regions::dim_texts : goal.decreases-regions::dim_texts
decreases-regions::dim_texts l = 23 * l.deep + 17

abbrev pub decreases-regions::posts : goal.decreases-regions::posts
decreases-regions::posts l = 23 * l.deep + 18

abbrev pub decreases-regions::rexpr : goal.decreases-regions::rexpr
decreases-regions::rexpr l = 23 * l.deep + 19

abbrev pub decreases-regions::inner : goal.decreases-regions::inner
decreases-regions::inner l = 23 * l.deep + 20

abbrev pub decreases-regions::in_bracket : goal.decreases-regions::in_bracket
decreases-regions::in_bracket l = 23 * l.deep + 21

abbrev pub decreases-regions::bracket : goal.decreases-regions::bracket
decreases-regions::bracket l = 23 * l.deep + 22

abbrev pub invariant-expressions::operations-loop-op : goal.invariant-expressions::operations-loop-op
invariant-expressions::operations-loop-op l = record {
  within : length l.rest < length l.fn.tokens;
  depth : l.depth ≡ expr_depth (expr_of l.left);
  shallow : l.depth ≤ l.deep;
  further : (most : ℕ) → length l.fn.tokens < most
      → IsFurther (is_alone l.level) (of_level l.level (levels most l.deep) (lexemes_of l.bytes l.fn.tokens)) (l.deep - 1) (operator_of l.level) (operand_of l.level (levels most (l.deep - 1))) (expr_of l.left) (lexemes_of l.bytes l.rest) (length l.rest);
}

abbrev pub decreases-expressions::operations-loop-op : goal.decreases-expressions::operations-loop-op
decreases-expressions::operations-loop-op l = length l.rest

abbrev pub invariant-expressions::exprs-loop-exprs : goal.invariant-expressions::exprs-loop-exprs
invariant-expressions::exprs-loop-exprs l = record {
  within : length l.rest ≤ length l.fn.tokens;
  depth : l.deepest ≡ exprs_depth (exprs_of l.exprs.items);
  shallow : l.deepest ≤ l.deep;
  gathered : (few most : ℕ) → length l.fn.tokens < few → length l.fn.tokens < most
      → IsGathered put_expr (λ fuel lexemes. exprs fuel (levels most l.deep).expr lexemes) few (lexemes_of l.bytes l.fn.tokens) l.exprs.items (lexemes_of l.bytes l.rest) (length l.rest);
}

abbrev pub decreases-expressions::exprs-loop-exprs : goal.decreases-expressions::exprs-loop-exprs
decreases-expressions::exprs-loop-exprs l = length l.rest

abbrev pub invariant-regions::dim_texts-loop-dims : goal.invariant-regions::dim_texts-loop-dims
invariant-regions::dim_texts-loop-dims l = record {
  within : length l.rest ≤ length l.fn.tokens;
  depth : l.deepest ≡ dims_depth (dims_of l.dims.items);
  shallow : l.deepest ≤ l.deep;
  gathered : (few most : ℕ) → length l.fn.tokens < few → length l.fn.tokens < most
      → IsGathered put_dim (λ fuel lexemes. dim_texts fuel (levels most l.deep).expr lexemes) few (lexemes_of l.bytes l.fn.tokens) l.dims.items (lexemes_of l.bytes l.rest) (length l.rest);
}

abbrev pub decreases-regions::dim_texts-loop-dims : goal.decreases-regions::dim_texts-loop-dims
decreases-regions::dim_texts-loop-dims l = length l.rest

abbrev pub invariant-regions::posts-loop-stride : goal.invariant-regions::posts-loop-stride
invariant-regions::posts-loop-stride l = record {
  within : length l.rest ≤ length l.fn.tokens;
  depth : l.deepest ≡ posts_depth (posts_of l.posts.items);
  shallow : l.deepest ≤ l.deep;
  gathered : (few most : ℕ) → length l.fn.tokens < few → length l.fn.tokens < most
      → IsGathered put_post (λ fuel lexemes. posts fuel (levels most l.deep).expr lexemes) few (lexemes_of l.bytes l.fn.tokens) l.posts.items (lexemes_of l.bytes l.rest) (length l.rest);
}

abbrev pub decreases-regions::posts-loop-stride : goal.decreases-regions::posts-loop-stride
decreases-regions::posts-loop-stride l = length l.rest
