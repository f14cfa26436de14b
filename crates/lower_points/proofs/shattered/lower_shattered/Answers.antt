use Rattle.zpl_tree.specs.View.{statement_of}
use Rattle.lower_operators.specs.of_lower_places.View.{where_of}
use Rattle.lower_points.proofs.ApartLemmas.{shattered_grown}
use Rattle.lower_points.proofs.shattered.lower_shattered.Goals as goal

pub returns : goal.returns
returns c =
    shattered_grown c.args.draft.now c.push_loop.new.draft c.push_apart.new.draft
    (where_of c.args.place.now) c.args.line (statement_of c.args.form.now) c.in_ok-put.put
    c.in_ok-put.ensures.rows c.in_ok-put.ensures.put c.in_ok-push_apart.ensures
