use Rattle.std.proofs.Common.{◌≡◌, Vec, Global, ℤ, [], map, replicate}
use Rattle.scan_plan.proofs.lists.Totals.new.Given as goal

-- as many empty lists as turns
abbrev pub invariant-loop : goal.invariant-loop
invariant-loop l = map (λ (list : Vec ℤ Global). list.items) l.lists.items ≡ replicate l.counter []
