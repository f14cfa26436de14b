use Rattle.std.proofs.Common.{◌≡◌, map, take}
use Rattle.plan_form.specs.Draft.{written}
use Rattle.comm_needs.specs.Needs.{needed_alone}
use Rattle.comm_needs.proofs.plans.add_exchanges.Given as goal

abbrev pub invariant-loop-i : goal.invariant-loop-i
invariant-loop-i l = l.draft ≡ written l.initial.draft (map needed_alone (take l.i l.needs))
