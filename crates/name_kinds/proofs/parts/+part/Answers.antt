use Rattle.std.proofs.Common.{ap, ◌≡◌, ◌∙◌, arith}
use Rattle.std.proofs.lemmas.Grind.{common_steps}
use Rattle.zpl_tree.specs.Syntax as plain
use Rattle.zpl_tree.specs.View.{expr_of, exprs_of, form_of, name_of}
use Rattle.zpl_tree.proofs.Views.{form_of-Call, form_of-Remap}
use Rattle.name_kinds.proofs.parts.+part.Goals as goal

pub part_of-returns-in-Remap : goal.part_of-returns-in-Remap
part_of-returns-in-Remap t c =
    let is : expr_of c.args.expr.now ≡
    plain.Remap c.args.expr.now.at (name_of c.in-Remap.name) (exprs_of c.in-Remap.indices.now) =
    ap (form_of c.args.expr.now.at) c.in-Remap.is ∙
    form_of-Remap c.args.expr.now.at c.in-Remap.name c.in-Remap.indices in
    grind (arith, common_steps)

pub part_of-returns-in-Call : goal.part_of-returns-in-Call
part_of-returns-in-Call t c =
    let is : expr_of c.args.expr.now ≡
    plain.Call c.args.expr.now.at (name_of c.in-Call.name) (exprs_of c.in-Call.actuals.now) =
    ap (form_of c.args.expr.now.at) c.in-Call.is ∙
    form_of-Call c.args.expr.now.at c.in-Call.name c.in-Call.actuals in
    grind (arith, common_steps)
