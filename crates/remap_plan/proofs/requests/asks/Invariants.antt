use Rattle.std.proofs.Common.{◌≡◌, ◌++◌}
use Rattle.std.specs.List.{filter}
use Rattle.remap_plan.specs.Request.{is_home}
use Rattle.remap_plan.specs.Tuples.{first_tuples, joined}
use Rattle.remap_plan.proofs.requests.asks.Given as goal

-- what is appended so far: the first tuples that are asked
abbrev pub invariant-loop-i : goal.invariant-loop-i
invariant-loop-i l = l.into.items ≡ l.fn.into.items ++ joined (filter (is_home l.layout l.array l.to) (first_tuples l.rank l.i l.wanted))
