use Rattle.std.proofs.Common.{arith, ap, ◌∙◌, ◌≡◌, map}
use Rattle.std.proofs.lemmas.Grind.{common_steps}
use Rattle.zpl_tree.specs.View.{base_of, pre_of, posts_of, dir_of, dims_of, exprs_of, expr_of, form_of, inner_of, name_of}
use Rattle.zpl_tree.specs.Syntax as plain
use Rattle.zpl_tree.proofs.Views.{dir_of-Vector, form_of-Call, form_of-Remap, inner_of-Dims, rexpr_of-parts}
use Rattle.zpl_tree.proofs.Spellings.{pair_words-call}
use Rattle.zpl_tree.specs.Spelling.{expr_words}
use Rattle.zpl_tree.specs.declared.regions.Rexpr.{out-Rexpr}
use Rattle.zpl_tree.proofs.printing.expressions.+print_expression.Goals as goal

pub print_dir-returns-in_ok-print_exprs-in-Vector :
    goal.print_dir-returns-in_ok-print_exprs-in-Vector
print_dir-returns-in_ok-print_exprs-in-Vector t c =
    let is : dir_of c.args.dir.now ≡ plain.Vector (exprs_of c.in-Vector.parts.now) =
    ap dir_of c.in-Vector.is ∙ dir_of-Vector c.in-Vector.parts in
    grind (arith, common_steps)

pub print_expr-returns-in-Call : goal.print_expr-returns-in-Call
print_expr-returns-in-Call t c =
    let is : expr_of c.args.expr.now
    ≡ plain.Call c.args.expr.now.at (name_of c.in-Call.name) (exprs_of c.in-Call.actuals.now) =
    ap (form_of c.args.expr.now.at) c.in-Call.is
    ∙ form_of-Call c.args.expr.now.at c.in-Call.name c.in-Call.actuals in
    grind (arith, common_steps)

pub print_expr-returns-in-Remap : goal.print_expr-returns-in-Remap
print_expr-returns-in-Remap t c =
    let is : expr_of c.args.expr.now
    ≡ plain.Remap c.args.expr.now.at (name_of c.in-Remap.name) (exprs_of c.in-Remap.indices.now)
    =
    ap (form_of c.args.expr.now.at) c.in-Remap.is
    ∙ form_of-Remap c.args.expr.now.at c.in-Remap.name c.in-Remap.indices in
    grind (arith, common_steps)

pub print_pair-returns-in_ok-print_expr-in-Max-2 : goal.print_pair-returns-in_ok-print_expr-in-Max-2
print_pair-returns-in_ok-print_expr-in-Max-2 t c =
    let call =
    pair_words-call c.args.op (expr_words (expr_of c.args.left.now))
    (expr_words (expr_of c.args.right.now)) c.in-Max.is in
    grind (arith, common_steps)

pub print_inner-returns-in_ok-print_base-in-Rexpr :
    goal.print_inner-returns-in_ok-print_base-in-Rexpr
print_inner-returns-in_ok-print_base-in-Rexpr t c =
    let parts = out-Rexpr c.in-Rexpr.rexpr in
    let is : inner_of c.args.inner.now ≡ plain.Rexpr (map pre_of parts.pre.now) (base_of parts.base)
    (posts_of parts.post.now) =
    ap inner_of c.in-Rexpr.is ∙ rexpr_of-parts c.in-Rexpr.rexpr in
    grind (arith, common_steps)

pub print_inner-returns-in-Dims : goal.print_inner-returns-in-Dims
print_inner-returns-in-Dims t c =
    let is : inner_of c.args.inner.now ≡ plain.Dims (dims_of c.in-Dims.dims.now) =
    ap inner_of c.in-Dims.is ∙ inner_of-Dims c.in-Dims.dims in
    grind (arith, common_steps)
