use Rattle.std.proofs.Common.{◌≡◌, drop, map}
use Rattle.zpl_tree.specs.View.{name_of}
use Rattle.lower_draft.specs.Drafted.{all_pushed}
use Rattle.lower_points.specs.of_lower_places.View.{where_of}
use Rattle.lower_statements.specs.Borders.{each_at}
use Rattle.lower_statements.proofs.borders.push_borders.Given as goal

abbrev pub invariant-loop-name : goal.invariant-loop-name
invariant-loop-name l =
    all_pushed l.draft (each_at (where_of l.place) l.at (map name_of (drop l.name-index l.names)))
    ≡ all_pushed l.initial.draft (each_at (where_of l.place) l.at (map name_of l.names))
