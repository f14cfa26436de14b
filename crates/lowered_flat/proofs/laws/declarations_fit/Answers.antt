use Rattle.lowered_flat.proofs.DeclarationLemmas.{program_declared}
use Rattle.lowered_flat.proofs.laws.declarations_fit.Goals as goal

pub returns : goal.returns
returns c = λ program settings grammar clean accepted.
    program_declared program settings
    (record {
      ranks = record {
        expressions = c.ranks_are_at_most_three.ensures.expressions;
        operands = c.ranks_are_at_most_three.ensures.operands;
        regions = c.ranks_are_at_most_three.ensures.regions;
      };
      none = c.faultless_programs_have_faultless_sites.ensures.reached program clean;
      under = c.faultless_programs_have_faultless_sites.ensures.under program clean;
      known = c.faultless_programs_leave_nothing_open.ensures.sites program clean;
      names = c.faultless_programs_leave_nothing_open.ensures.names program clean;
      ranked = c.declared_ranks_are_at_most_three.ensures program;
      callees = c.procedures_are_there.ensures program;
    }) grammar clean
    (λ region steps. c.tests_tell_the_facts.ensures.limit region steps)
    (c.what_is_computed_has_a_value.ensures.storages program settings accepted)
    (c.what_is_computed_has_a_value.ensures.homes program settings accepted)
