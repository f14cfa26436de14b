use Rattle.program_boxes.proofs.WholeLemmas.{all_boxes}
use Rattle.program_boxes.proofs.laws.boxes_are_stored.Goals as goal

pub returns : goal.returns
returns c = λ program settings grammar clean apart accepted told.
    all_boxes program settings grammar clean
    (λ place stmt visited. (
      c.no_stand_in_is_met.ensures program settings grammar clean place stmt visited,
      c.ranks_agree.ensures program settings grammar clean place stmt visited,
    )) apart (c.arrays_are_different.ensures.different program clean told)
    (c.declarations_fit.ensures program settings grammar clean accepted)
    (λ region steps. c.tests_tell_the_facts.ensures.limit region steps)
    (c.what_is_computed_has_a_value.ensures.regions program settings accepted)
    (c.what_is_computed_has_a_value.ensures.directions program settings accepted)
    (c.what_is_computed_has_a_value.ensures.vectors program settings accepted)
    (c.what_is_computed_has_a_value.ensures.homes program settings accepted)
    (c.storages_fit.ensures program settings grammar clean apart accepted)
