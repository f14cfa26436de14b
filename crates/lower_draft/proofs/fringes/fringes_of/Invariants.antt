use Rattle.std.proofs.Common.{◌≡◌, drop}
use Rattle.lower_draft.specs.Spread.{spread, spread_over}
use Rattle.lower_draft.proofs.fringes.fringes_of.Given as goal

abbrev pub invariant-loop-one : goal.invariant-loop-one
invariant-loop-one l =
    spread l.fringes.items (drop l.one-index l.shifts) ≡ spread_over l.count l.shifts
