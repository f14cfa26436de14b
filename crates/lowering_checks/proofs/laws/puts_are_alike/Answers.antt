use Rattle.lowering_checks.proofs.AlikeTableLemmas.{program_puts_alike}
use Rattle.lowering_checks.proofs.laws.puts_are_alike.Goals as goal

pub returns : goal.returns
returns c = λ program settings grammar clean accepted declared same.
    program_puts_alike program settings
    (record {
      ranks = record {
        expressions = c.ranks_are_at_most_three.ensures.expressions;
        operands = c.ranks_are_at_most_three.ensures.operands;
        regions = c.ranks_are_at_most_three.ensures.regions;
      };
      none = c.faultless_programs_have_faultless_sites.ensures.reached program clean;
      under = c.faultless_programs_have_faultless_sites.ensures.under program clean;
      known = c.faultless_programs_leave_nothing_open.ensures.sites program clean;
      names = c.faultless_programs_leave_nothing_open.ensures.names program clean;
      ranked = c.declared_ranks_are_at_most_three.ensures program;
      callees = c.procedures_are_there.ensures program;
    }) grammar clean
    (λ place stmt visited. (
      c.no_stand_in_is_met.ensures program settings grammar clean place stmt visited,
      c.ranks_agree.ensures program settings grammar clean place stmt visited,
    ))
    (c.what_is_computed_has_a_value.ensures.regions program settings accepted) declared same
