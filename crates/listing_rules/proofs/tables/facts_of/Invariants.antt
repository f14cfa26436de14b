use Rattle.std.proofs.Common.{take}
use Rattle.listing_rules.specs.Facts.{AreExprFacts, Tell}
use Rattle.listing_rules.proofs.tables.facts_of.Given as goal

abbrev pub invariant-loop-i : goal.invariant-loop-i
invariant-loop-i l = Tell (AreExprFacts l.known.tables) (take l.i l.known.tables.exprs) l.facts
