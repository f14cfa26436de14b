use Rattle.std.proofs.Common.{◌≡◌, take}
use Rattle.listing_rules.proofs.same.same_fields.Given as goal

abbrev pub invariant-loop-i : goal.invariant-loop-i
invariant-loop-i l = take l.i l.one ≡ take l.i l.other
