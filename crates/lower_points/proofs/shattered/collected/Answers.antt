use Rattle.std.proofs.Common.{◌∙◌, ap}
use Rattle.zpl_tree.specs.View.{statement_of}
use Rattle.lower_operators.specs.Once.{optional, with_references}
use Rattle.lower_operators.specs.of_lower_places.View.{slotted_of, where_of}
use Rattle.lower_points.specs.Inside.{form_at}
use Rattle.lower_points.proofs.PointLemmas.{all_needed}
use Rattle.lower_points.proofs.shattered.collected.Goals as goal

pub returns-clause-references : goal.returns-clause-references
returns-clause-references c =
    let at = c.args.at.now in
    let inside = form_at at (statement_of c.args.form.now) in
    all_needed (where_of at.place.now) (slotted_of c.args.over.now) inside
    c.push_masked.new.references c.add_optional.new.self (optional c.over_reference.result)
    (c.in_ok-push_masked.ensures.references
    ∙ ap (λ l. with_references l inside.references) c.new-references.ensures)
    c.over_reference.ensures c.in_ok-add_optional.ensures
