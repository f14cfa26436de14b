use Rattle.std.proofs.Common.{◌≡◌, ap, sym, ◌∙◌, Some, slice_get}
use Rattle.std.specs.Option.{option_map}
use Rattle.zpl_tree.specs.View.{expr_of, name_of}
use Rattle.zpl_names.specs.Ranks.{rank_of}
use Rattle.zpl_names.specs.Sites.{Assigned}
use Rattle.zpl_meaning.specs.Store.{ArrayAt, Scalar, thing_of}
use Rattle.zpl_lowering.specs.Slate.{Placed}
use Rattle.zpl_lowering.specs.Statement.{lowered_to, placed_in}
use Rattle.zpl_lowering.specs.Where.{slotted_at}
use Rattle.lower_points.specs.of_lower_places.Numbers.{stored_of}
use Rattle.lower_points.specs.of_lower_places.View.{slotted_of, where_of}
use Rattle.lower_statements.proofs.AssignLemmas.{to_array, to_scalar}
use Rattle.lower_statements.proofs.assigns.lower_whole.Goals as goal

pub returns-in_ok-lower_scalar-in-Some-Scalar : goal.returns-in_ok-lower_scalar-in-Some-Scalar
returns-in_ok-lower_scalar-in-Some-Scalar c = λ op.
    let w = where_of c.args.place.now in
    let expr = expr_of c.args.expr.now in
    let role = Assigned (name_of c.args.name.now) op in
    let thing = thing_of w.environment c.args.name.now.text.now in
    let target = c.in-Some-Scalar.target in
    let value : Placed = record { rank = c.rank_of-rank.result; expr = expr } in
    let placed : value ≡ placed_in w role expr =
    ap (λ r. record { rank = r; expr = expr })
    (c.rank_of-rank.ensures ∙ ap (λ h. rank_of w.scope w.prefix h expr)
    (c.assigned_rank-handed.ensures op)) in
    let found : Some (Scalar target) ≡ thing =
    rw c.in-Some-Scalar.field-0-is at c.in-Some-Scalar.ensures in
    to_scalar c.args.draft.now c.lower_scalar.new.draft w role c.args.line expr value placed thing
    c.scalar.result (slice_get w.numbers.scalars target) c.scalar.ensures
    (ap (lowered_to w role c.args.line c.args.draft.now.next expr) (sym found))
    c.in_ok-lower_scalar-in-Some-Scalar.ensures

pub returns-in_ok-lower_array-in-Some-Array : goal.returns-in_ok-lower_array-in-Some-Array
returns-in_ok-lower_array-in-Some-Array c = λ op.
    let w = where_of c.args.place.now in
    let expr = expr_of c.args.expr.now in
    let role = Assigned (name_of c.args.name.now) op in
    let thing = thing_of w.environment c.args.name.now.text.now in
    let target = c.in-Some-Array.target in
    let value : Placed = record { rank = c.rank_of-rank.result; expr = expr } in
    let handed = c.assigned_rank-handed.ensures op in
    let placed : value ≡ placed_in w role expr =
    ap (λ r. record { rank = r; expr = expr })
    (c.rank_of-rank.ensures ∙ ap (λ h. rank_of w.scope w.prefix h expr) handed) in
    let found : Some (ArrayAt target c.in-Some-Array.field-0-1) ≡ thing =
    rw c.in-Some-Array.field-0-is at c.in-Some-Array.ensures in
    to_array c.args.draft.now c.lower_array.new.draft w role c.args.line expr value placed thing
    (slotted_of c.current-over.result) (slotted_at w.currents _) (option_map stored_of c.array.result)
    (slice_get w.numbers.arrays target)
    (c.current-over.ensures ∙ ap (slotted_at w.currents) handed) c.array.ensures
    (ap (lowered_to w role c.args.line c.args.draft.now.next expr) (sym found))
    c.in_ok-lower_array-in-Some-Array.ensures
