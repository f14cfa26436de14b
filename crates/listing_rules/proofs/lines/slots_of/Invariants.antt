use Rattle.std.proofs.Common.{◌≡◌, take}
use Rattle.listing_rules.proofs.lines.slots_of.Given as goal

abbrev pub invariant-loop-rank : goal.invariant-loop-rank
invariant-loop-rank l = l.slots ≡ take l.rank-index l.ranks
