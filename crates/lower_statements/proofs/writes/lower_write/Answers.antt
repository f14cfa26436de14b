use Rattle.std.proofs.Common.{◌≡◌, ap, ◌∙◌, map}
use Rattle.zpl_tree.specs.View.{item_of}
use Rattle.node_form.specs.Expression.{words_of}
use Rattle.zpl_lowering.specs.Lowered.{phased}
use Rattle.zpl_lowering.specs.Statement.{items_of, printed_exprs}
use Rattle.lower_draft.specs.Drafted.{grown}
use Rattle.lower_points.specs.of_lower_operators.View.{placed_of}
use Rattle.lower_points.specs.of_lower_places.View.{where_of}
use Rattle.lower_statements.specs.Writes.{rows_in}
use Rattle.lower_statements.proofs.WriteLemmas.{write_grown}
use Rattle.lower_statements.proofs.writes.lower_write.Goals as goal

pub returns : goal.returns
returns c =
    let w = where_of c.args.place.now in
    let d0 = c.args.draft.now in
    let items = map item_of c.args.items.now in
    let phases = phased w c.args.line d0.next (printed_exprs w items) in
    let placed : map placed_of c.deref.result.now ≡ printed_exprs w items =
    ap (map placed_of) c.deref.ensures.value ∙ c.in_ok-exprs.ensures.exprs in
    let left : c.in_ok-left.left.items ≡ map words_of phases.left =
    c.in_ok-left.ensures.left
    ∙ ap (λ es. map words_of (phased w c.args.line d0.next es).left) placed in
    write_grown d0 c.phases.new.draft c.push_items.new.draft c.push_rows.new.draft phases.lowered
    (λ next. items_of w c.args.line next.scalars next.temps c.args.ends items phases.left)
    (rows_in c.in_ok-prints.prints.items)
    (c.in_ok-left.ensures.code ∙ ap (λ es. grown d0 (phased w c.args.line d0.next es).lowered)
    placed) (c.in_ok-prints.ensures.code phases.left left)
    (c.in_ok-prints.ensures.prints phases.left left) c.in_ok-push_rows.ensures
