use Rattle.std.proofs.Common.{◌≡◌, take}
use Rattle.plan_form.proofs.items.ItemSet.to_row.Given as goal

abbrev pub invariant-loop-i : goal.invariant-loop-i
invariant-loop-i l = l.items.items ≡ take l.i l.self
