use Rattle.std.proofs.Common.{◌≡◌, ◌++◌, drop, map}
use Rattle.zpl_tree.specs.View.{item_of}
use Rattle.zpl_lowering.specs.Statement.{printed_exprs}
use Rattle.lower_points.specs.of_lower_operators.Sound.{AreFitPlaced}
use Rattle.lower_points.specs.of_lower_operators.View.{placed_of}
use Rattle.lower_points.specs.of_lower_places.View.{where_of}
use Rattle.lower_points.specs.Fit.{AreFitItems}
use Rattle.lower_statements.proofs.writes.printed.Given as goal

abbrev pub invariant-loop-item : goal.invariant-loop-item
invariant-loop-item l = record {
  exprs : map placed_of l.exprs.items
      ++ printed_exprs (where_of l.place) (map item_of (drop l.item-index l.items))
      ≡ printed_exprs (where_of l.place) (map item_of l.items);
  fit : AreFitPlaced l.exprs.items;
  rest : AreFitItems (map item_of (drop l.item-index l.items));
}
