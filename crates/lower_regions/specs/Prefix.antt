-- The prefix of a statement, at the line of its bracket.
use Rattle.std.specs.Prelude.{ℕ, Bool}
use Rattle.zpl_tree.specs.Syntax.{Prefix}
use Rattle.lower_places.specs.of_zpl_lowering.Where.{Where, line_of}
use Rattle.lower_places.specs.of_zpl_lowering.Bracket.{Opened}
use Rattle.lower_places.specs.of_zpl_lowering.Statement.{current_for, prefix_opened}

abbrev pub opened_under : Bool → Where → ℕ → Prefix → Opened
opened_under is_border w next prefix =
    prefix_opened is_border w next (line_of w prefix.at) (current_for w prefix) prefix.region
