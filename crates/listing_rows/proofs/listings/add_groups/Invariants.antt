use Rattle.std.proofs.Common.{◌≡◌, ◌++◌, drop}
use Rattle.std.specs.List.{flat_map}
use Rattle.listing_rows.specs.Rows.{group_lines}
use Rattle.listing_rows.proofs.listings.add_groups.Given as goal

abbrev pub invariant-loop-i : goal.invariant-loop-i
invariant-loop-i l =
    l.lines.items ++ flat_map group_lines (drop l.i l.tables.groups) ≡ l.initial.lines.items ++ flat_map group_lines l.tables.groups
