use Rattle.lowered_flat.proofs.WholeLemmas.{all_storages}
use Rattle.lowered_flat.proofs.laws.storages_fit.Goals as goal

pub returns : goal.returns
returns c = λ program settings grammar clean apart accepted.
    all_storages program settings grammar clean
    (λ region steps. c.tests_tell_the_facts.ensures.limit region steps)
    (λ place stmt visited. (
      c.no_stand_in_is_met.ensures program settings grammar clean place stmt visited,
      c.ranks_agree.ensures program settings grammar clean place stmt visited,
    )) accepted
    (c.what_is_computed_has_a_value.ensures.storages program settings accepted)
    (c.what_is_computed_has_a_value.ensures.homes program settings accepted) apart
    (c.declarations_fit.ensures program settings grammar clean accepted)
    (c.counts_add_up.ensures.calls program)
