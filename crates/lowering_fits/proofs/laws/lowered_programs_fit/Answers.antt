use Rattle.std.proofs.Common.{[], ◌∷◌}
use Rattle.lowering_fits.proofs.ArrayLemmas.{whole_flat}
use Rattle.lowering_fits.proofs.NumberedLemmas.{all_numbered}
use Rattle.lowering_fits.proofs.PieceLemmas.{code_inline}
use Rattle.lowering_fits.proofs.ReadLemmas.{whole_stored}
use Rattle.lowering_fits.proofs.ProgramFitLemmas.{program_fits}
use Rattle.lower_numbers.specs.of_zpl_lowering.Program.{lowered_program}
use Rattle.lowering_fits.proofs.laws.lowered_programs_fit.Goals as goal

pub returns : goal.returns
returns c = record {
  fit = λ program settings grammar clean accepted declared grid.
      program_fits program settings
      (record {
        ranks = record {
          expressions = c.ranks_are_at_most_three.ensures.expressions;
          operands = c.ranks_are_at_most_three.ensures.operands;
          regions = c.ranks_are_at_most_three.ensures.regions;
        };
        none = c.faultless_programs_have_faultless_sites.ensures.reached program clean;
        under = c.faultless_programs_have_faultless_sites.ensures.under program clean;
        known = c.faultless_programs_leave_nothing_open.ensures.sites program clean;
        names = c.faultless_programs_leave_nothing_open.ensures.names program clean;
        ranked = c.declared_ranks_are_at_most_three.ensures program;
        callees = c.procedures_are_there.ensures program;
      }) grammar clean
      (λ region steps. c.tests_tell_the_facts.ensures.limit region steps)
      (λ place stmt visited. (
        c.no_stand_in_is_met.ensures program settings grammar clean place stmt visited,
        c.ranks_agree.ensures program settings grammar clean place stmt visited,
      ))
      (c.what_is_computed_has_a_value.ensures.regions program settings accepted) declared grid
      (all_numbered program settings grammar clean
      (λ place stmt visited. (
        c.no_stand_in_is_met.ensures program settings grammar clean place stmt visited,
        c.ranks_agree.ensures program settings grammar clean place stmt visited,
      ))
      (c.counts_add_up.ensures.calls program));
  flat = λ program settings grammar clean accepted declared storages grid is_grid.
      whole_flat grid (lowered_program program settings) is_grid storages
      (program_fits program settings
      (record {
        ranks = record {
          expressions = c.ranks_are_at_most_three.ensures.expressions;
          operands = c.ranks_are_at_most_three.ensures.operands;
          regions = c.ranks_are_at_most_three.ensures.regions;
        };
        none = c.faultless_programs_have_faultless_sites.ensures.reached program clean;
        under = c.faultless_programs_have_faultless_sites.ensures.under program clean;
        known = c.faultless_programs_leave_nothing_open.ensures.sites program clean;
        names = c.faultless_programs_leave_nothing_open.ensures.names program clean;
        ranked = c.declared_ranks_are_at_most_three.ensures program;
        callees = c.procedures_are_there.ensures program;
      }) grammar clean
      (λ region steps. c.tests_tell_the_facts.ensures.limit region steps)
      (λ place stmt visited. (
        c.no_stand_in_is_met.ensures program settings grammar clean place stmt visited,
        c.ranks_agree.ensures program settings grammar clean place stmt visited,
      ))
      (c.what_is_computed_has_a_value.ensures.regions program settings accepted) declared grid
      (all_numbered program settings grammar clean
      (λ place stmt visited. (
        c.no_stand_in_is_met.ensures program settings grammar clean place stmt visited,
        c.ranks_agree.ensures program settings grammar clean place stmt visited,
      ))
      (c.counts_add_up.ensures.calls program)));
  stored = λ program settings grammar clean accepted declared grid.
      whole_stored grid (lowered_program program settings)
      (program_fits program settings
      (record {
        ranks = record {
          expressions = c.ranks_are_at_most_three.ensures.expressions;
          operands = c.ranks_are_at_most_three.ensures.operands;
          regions = c.ranks_are_at_most_three.ensures.regions;
        };
        none = c.faultless_programs_have_faultless_sites.ensures.reached program clean;
        under = c.faultless_programs_have_faultless_sites.ensures.under program clean;
        known = c.faultless_programs_leave_nothing_open.ensures.sites program clean;
        names = c.faultless_programs_leave_nothing_open.ensures.names program clean;
        ranked = c.declared_ranks_are_at_most_three.ensures program;
        callees = c.procedures_are_there.ensures program;
      }) grammar clean
      (λ region steps. c.tests_tell_the_facts.ensures.limit region steps)
      (λ place stmt visited. (
        c.no_stand_in_is_met.ensures program settings grammar clean place stmt visited,
        c.ranks_agree.ensures program settings grammar clean place stmt visited,
      ))
      (c.what_is_computed_has_a_value.ensures.regions program settings accepted) declared grid
      (all_numbered program settings grammar clean
      (λ place stmt visited. (
        c.no_stand_in_is_met.ensures program settings grammar clean place stmt visited,
        c.ranks_agree.ensures program settings grammar clean place stmt visited,
      ))
      (c.counts_add_up.ensures.calls program)));
  inline = λ program settings grammar clean accepted declared.
      code_inline (1 ∷ 0 ∷ 0 ∷ []) (lowered_program program settings)
      (program_fits program settings
      (record {
        ranks = record {
          expressions = c.ranks_are_at_most_three.ensures.expressions;
          operands = c.ranks_are_at_most_three.ensures.operands;
          regions = c.ranks_are_at_most_three.ensures.regions;
        };
        none = c.faultless_programs_have_faultless_sites.ensures.reached program clean;
        under = c.faultless_programs_have_faultless_sites.ensures.under program clean;
        known = c.faultless_programs_leave_nothing_open.ensures.sites program clean;
        names = c.faultless_programs_leave_nothing_open.ensures.names program clean;
        ranked = c.declared_ranks_are_at_most_three.ensures program;
        callees = c.procedures_are_there.ensures program;
      }) grammar clean
      (λ region steps. c.tests_tell_the_facts.ensures.limit region steps)
      (λ place stmt visited. (
        c.no_stand_in_is_met.ensures program settings grammar clean place stmt visited,
        c.ranks_agree.ensures program settings grammar clean place stmt visited,
      ))
      (c.what_is_computed_has_a_value.ensures.regions program settings accepted) declared
      (1 ∷ 0 ∷ 0 ∷ [])
      (all_numbered program settings grammar clean
      (λ place stmt visited. (
        c.no_stand_in_is_met.ensures program settings grammar clean place stmt visited,
        c.ranks_agree.ensures program settings grammar clean place stmt visited,
      ))
      (c.counts_add_up.ensures.calls program))).code_fits;
}
