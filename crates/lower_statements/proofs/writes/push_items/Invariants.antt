use Rattle.std.proofs.Common.{◌≡◌, List, drop, map}
use Rattle.std.specs.Vec.Iter.{into_iter_items}
use Rattle.zpl_tree.specs.View.{item_of}
use Rattle.node_form.specs.Expression.{Expression, words_of}
use Rattle.lower_points.specs.of_lower_places.View.{where_of}
use Rattle.lower_statements.specs.Writes.{rows_in}
use Rattle.lower_statements.proofs.WriteLemmas.{AreAhead}
use Rattle.lower_statements.proofs.writes.push_items.Given as goal

abbrev pub invariant-loop-item : goal.invariant-loop-item
invariant-loop-item l =
    (exprs : List Expression) → l.fn.left.items ≡ map words_of exprs →
    AreAhead (where_of l.place) l.line l.ends l.initial.draft l.draft (map item_of l.items)
    (map item_of (drop l.item-index l.items)) exprs (into_iter_items l.left)
    (rows_in l.prints.items)
