use Rattle.std.proofs.Common.{arith, ap, ◌∙◌, ◌≡◌, map}
use Rattle.std.proofs.lemmas.Grind.{common_steps}
use Rattle.zpl_binding.specs.of_zpl_tree.View.{base_of, pre_of, posts_of, dir_of, dims_of, exprs_of, expr_of, form_of, inner_of, name_of}
use Rattle.zpl_binding.specs.of_zpl_tree.Syntax as plain
use Rattle.zpl_binding.proofs.of_zpl_tree.Views.{dir_of-Vector, form_of-Call, form_of-Remap, inner_of-Dims, rexpr_of-parts}
use Rattle.zpl_binding.specs.of_zpl_tree.declared.regions.Rexpr.{out-Rexpr}
use Rattle.zpl_parts.proofs.expressions.+walk_expression.Goals as goal

pub walk_dir-returns-in_ok-put_vector-in-Vector : goal.walk_dir-returns-in_ok-put_vector-in-Vector
walk_dir-returns-in_ok-put_vector-in-Vector t c =
    let is : dir_of c.args.dir.now ≡ plain.Vector (exprs_of c.in-Vector.parts.now) =
    ap dir_of c.in-Vector.is ∙ dir_of-Vector c.in-Vector.parts in
    grind (arith, common_steps)

pub walk_expr-returns-in-Remap : goal.walk_expr-returns-in-Remap
walk_expr-returns-in-Remap t c =
    let is : expr_of c.args.expr.now
    ≡ plain.Remap c.args.expr.now.at (name_of c.in-Remap.field-0) (exprs_of c.in-Remap.indices.now)
    =
    ap (form_of c.args.expr.now.at) c.in-Remap.is
    ∙ form_of-Remap c.args.expr.now.at c.in-Remap.field-0 c.in-Remap.indices in
    grind (arith, common_steps)

pub walk_expr-returns-in_ok-put-in-Call : goal.walk_expr-returns-in_ok-put-in-Call
walk_expr-returns-in_ok-put-in-Call t c =
    let is : expr_of c.args.expr.now
    ≡ plain.Call c.args.expr.now.at (name_of c.in-Call.name) (exprs_of c.in-Call.actuals.now) =
    ap (form_of c.args.expr.now.at) c.in-Call.is
    ∙ form_of-Call c.args.expr.now.at c.in-Call.name c.in-Call.actuals in
    grind (arith, common_steps)

pub walk_inner-returns-in_ok-put_border-in-Rexpr : goal.walk_inner-returns-in_ok-put_border-in-Rexpr
walk_inner-returns-in_ok-put_border-in-Rexpr t c =
    let parts = out-Rexpr c.in-Rexpr.rexpr in
    let is : inner_of c.args.inner.now ≡ plain.Rexpr (map pre_of parts.pre.now) (base_of parts.base)
    (posts_of parts.post.now) =
    ap inner_of c.in-Rexpr.is ∙ rexpr_of-parts c.in-Rexpr.rexpr in
    grind (arith, common_steps)

pub walk_inner-returns-in-Dims : goal.walk_inner-returns-in-Dims
walk_inner-returns-in-Dims t c =
    let is : inner_of c.args.inner.now ≡ plain.Dims (dims_of c.in-Dims.dims.now) =
    ap inner_of c.in-Dims.is ∙ inner_of-Dims c.in-Dims.dims in
    grind (arith, common_steps)
