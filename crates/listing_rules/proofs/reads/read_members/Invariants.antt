use Rattle.std.proofs.Common.{◌≤◌, length, drop}
use Rattle.listing_rules.specs.declared.parts.Part.TheVariants as part
use Rattle.listing_rules.specs.Facts.{AreMembers}
use Rattle.listing_rules.specs.Rules.{belongs, IsMemberLine}
use Rattle.listing_rules.proofs.ReadsLemmas.{Going}
use Rattle.listing_rules.proofs.reads.read_members.Given as goal

abbrev pub invariant-loop-line : goal.invariant-loop-line
invariant-loop-line l = record {
  going : Going (belongs part.Members) (IsMemberLine l.known.tables) (drop l.fn.from l.lines) l.group.members.items (drop l.at l.lines);
  inside : l.at ≤ length l.lines;
  are : AreMembers l.known.tables l.group.members.items l.group.ranks l.group.kept.items;
  on : l.fn.from ≤ l.at;
}

abbrev pub decreases-loop-line : goal.decreases-loop-line
decreases-loop-line l = length (drop l.at l.lines)
