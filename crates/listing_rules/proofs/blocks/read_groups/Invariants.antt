use Rattle.std.proofs.Common.{◌≤◌, [], length, drop}
use Rattle.node_form.specs.Fits.{FitsGroup}
use Rattle.listing_rows.specs.of_listing_lines.declared.keywords.Keyword.TheVariants as key
use Rattle.listing_rows.specs.Rows.{line_of}
use Rattle.listing_rules.specs.declared.parts.Part.TheVariants as part
use Rattle.listing_rules.specs.Facts.{AreGroupFacts, Tell}
use Rattle.listing_rules.specs.Rules.{belongs, IsMemberLine}
use Rattle.listing_rules.proofs.ReadsLemmas.{GoingOver}
use Rattle.listing_rules.proofs.blocks.read_groups.Given as goal

abbrev pub invariant-loop-line : goal.invariant-loop-line
invariant-loop-line l = record {
  going : GoingOver (belongs part.Groups) (line_of key.Group []) (belongs part.Members) (IsMemberLine l.known.tables) (FitsGroup l.known.tables) (drop l.fn.from l.lines) l.groups (drop l.at l.lines);
  inside : l.at ≤ length l.lines;
  facts : Tell (AreGroupFacts l.known.tables) l.groups l.ranks;
}

abbrev pub decreases-loop-line : goal.decreases-loop-line
decreases-loop-line l = length (drop l.at l.lines)
