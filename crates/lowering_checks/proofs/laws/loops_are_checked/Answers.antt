use Rattle.lowering_checks.proofs.WholeLemmas.{known_below, rows_checked}
use Rattle.lowering_checks.proofs.laws.loops_are_checked.Goals as goal

pub returns : goal.returns
returns c = λ program settings grammar clean accepted.
    rows_checked program settings grammar clean
    (λ place stmt visited. (
      c.no_stand_in_is_met.ensures program settings grammar clean place stmt visited,
      c.ranks_agree.ensures program settings grammar clean place stmt visited,
    ))
    (known_below program settings grammar clean
    (c.what_is_computed_has_a_value.ensures.regions program settings accepted))
