use Rattle.std.proofs.Common.{◌≡◌, ◌+◌, ◌*◌, ◌≤◌, ◌++◌, length, reverse}
use Rattle.listing_lines.specs.Line.{lines_text}
use Rattle.listing_lines.specs.Listing.{Lead}
use Rattle.listing_lines.specs.Place.{start}
use Rattle.listing_lines.proofs.listings.read_lines.Given as goal

abbrev pub invariant-loop-rest : goal.invariant-loop-rest
invariant-loop-rest l = record {
  lead : Lead start l.lines.items record { part = l.part; openings = reverse l.openings.items };
  written : l.bytes ≡ lines_text l.lines.items ++ l.rest;
  few : 2 * length l.lines.items + length l.rest ≤ length l.bytes;
}

abbrev pub decreases-loop-rest : goal.decreases-loop-rest
decreases-loop-rest l = length l.rest
