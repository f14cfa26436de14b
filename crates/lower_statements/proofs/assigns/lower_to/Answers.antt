use Rattle.std.proofs.Common.{None, Some, refl}
use Rattle.zpl_tree.specs.View.{expr_of, name_of}
use Rattle.zpl_meaning.specs.Points.{assigned_expr}
use Rattle.zpl_meaning.specs.Store.{thing_of}
use Rattle.lower_points.specs.of_lower_places.View.{where_of}
use Rattle.lower_statements.proofs.AssignLemmas.{assigned_to}
use Rattle.lower_statements.proofs.assigns.lower_to.Goals as goal

pub returns-in_ok-lower_whole-in-None : goal.returns-in_ok-lower_whole-in-None
returns-in_ok-lower_whole-in-None c =
    let w = where_of c.args.place.now in
    let name = name_of c.args.name.now in
    assigned_to c.args.draft.now c.lower_whole.new.draft w name c.args.line
    (thing_of w.environment name.text) c.args.op None (expr_of c.args.value.now)
    (expr_of c.args.value.now) c.in-None.is refl (c.in_ok-lower_whole-in-None.ensures c.args.op)

pub returns-in_ok-lower_whole-in-Some : goal.returns-in_ok-lower_whole-in-Some
returns-in_ok-lower_whole-in-Some c =
    let w = where_of c.args.place.now in
    let name = name_of c.args.name.now in
    assigned_to c.args.draft.now c.lower_whole-in-Some.new.draft w name c.args.line
    (thing_of w.environment name.text) c.args.op (Some c.in-Some.op) (expr_of c.args.value.now)
    (assigned_expr name (Some c.in-Some.op) (expr_of c.args.value.now)) c.in-Some.is refl
    (c.in_ok-lower_whole-in-Some.ensures c.args.op)
