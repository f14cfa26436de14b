use Rattle.std.proofs.Common.{◌∙◌, ap}
use Rattle.zpl_tree.specs.View.{statement_of}
use Rattle.zpl_lowering.specs.Statement.{has_put}
use Rattle.lower_operators.specs.of_lower_places.View.{where_of}
use Rattle.lower_points.specs.Inside.{members_in, whole_inside}
use Rattle.lower_points.proofs.ApartLemmas.{group_put}
use Rattle.lower_points.proofs.shattered.push_loop.Goals as goal

pub returns-clause-put : goal.returns-clause-put
returns-clause-put c =
    let w = where_of c.args.place.now in
    c.has_put-put.ensures
    ∙ ap (λ items. has_put (members_in items)) c.as_slice.ensures.value
    ∙ ap has_put c.in_ok-members.ensures.members
    ∙ group_put w c.args.line _
    (whole_inside w c.args.line c.args.draft.now.next (statement_of c.args.form.now))
