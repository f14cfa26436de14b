use Rattle.std.proofs.Common.{◌≡◌, ◌++◌, map}
use Rattle.remap_plan.specs.Request.{held_value}
use Rattle.remap_plan.specs.Tuples.{first_tuples}
use Rattle.remap_plan.proofs.requests.answers.Given as goal

-- what is appended so far: the values at the first tuples
abbrev pub invariant-loop-i : goal.invariant-loop-i
invariant-loop-i l = l.into.items ≡ l.fn.into.items ++ map (held_value l.layout l.array l.p l.values) (first_tuples l.rank l.i l.asked)
