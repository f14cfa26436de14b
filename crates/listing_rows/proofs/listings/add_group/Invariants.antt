use Rattle.std.proofs.Common.{◌≡◌, ◌++◌, drop, map}
use Rattle.listing_rows.specs.Rows.{member_line}
use Rattle.listing_rows.proofs.listings.add_group.Given as goal

abbrev pub invariant-loop-member : goal.invariant-loop-member
invariant-loop-member l =
    l.lines.items ++ map member_line (drop l.member-index l.members) ≡ l.initial.lines.items ++ map member_line l.members
