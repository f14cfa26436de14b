use Rattle.std.proofs.Common.{ap, sym, ◌∙◌}
use Rattle.zpl_tree.specs.View.{statement_of}
use Rattle.zpl_names.specs.Sites as sites
use Rattle.zpl_lowering.specs.Where.{reach_of}
use Rattle.lower_operators.specs.of_lower_places.View.{where_of}
use Rattle.lower_points.proofs.ranks.tests_rank.Goals as goal

pub returns-in-If : goal.returns-in-If
returns-in-If c =
    c.arms_rank.ensures
    ∙ ap (sites.tests_rank (reach_of (where_of c.args.place.now)))
    (sym (ap statement_of c.in-If.is
    ∙ c.nodes_are_seen_with_their_lists.ensures.choice c.in-If.arms c.in-If.field-1))
