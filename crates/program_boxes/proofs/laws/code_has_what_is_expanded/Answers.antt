use Rattle.std.proofs.Common.{ap₂, ◌++◌}
use Rattle.program_boxes.proofs.WholeLemmas.{all_code}
use Rattle.program_boxes.proofs.laws.code_has_what_is_expanded.Goals as goal

pub returns : goal.returns
returns c = record {
  arrays = λ program settings grammar clean apart accepted told.
      (all_code program settings grammar clean
      (λ place stmt visited. (
        c.no_stand_in_is_met.ensures program settings grammar clean place stmt visited,
        c.ranks_agree.ensures program settings grammar clean place stmt visited,
      )) apart (c.arrays_are_different.ensures.different program clean told)
      (c.declarations_fit.ensures program settings grammar clean accepted)
      (c.what_is_computed_has_a_value.ensures.regions program settings accepted)
      (c.what_is_computed_has_a_value.ensures.directions program settings accepted)
      (c.what_is_computed_has_a_value.ensures.vectors program settings accepted)).arrays;
  copies = λ program settings grammar clean apart accepted told.
      let has = all_code program settings grammar clean
      (λ place stmt visited. (
        c.no_stand_in_is_met.ensures program settings grammar clean place stmt visited,
        c.ranks_agree.ensures program settings grammar clean place stmt visited,
      )) apart (c.arrays_are_different.ensures.different program clean told)
      (c.declarations_fit.ensures program settings grammar clean accepted)
      (c.what_is_computed_has_a_value.ensures.regions program settings accepted)
      (c.what_is_computed_has_a_value.ensures.directions program settings accepted)
      (c.what_is_computed_has_a_value.ensures.vectors program settings accepted) in
      ap₂ (λ xs ys. xs ++ ys) has.copies has.later_are;
  shifts = λ program settings grammar clean apart accepted told.
      (all_code program settings grammar clean
      (λ place stmt visited. (
        c.no_stand_in_is_met.ensures program settings grammar clean place stmt visited,
        c.ranks_agree.ensures program settings grammar clean place stmt visited,
      )) apart (c.arrays_are_different.ensures.different program clean told)
      (c.declarations_fit.ensures program settings grammar clean accepted)
      (c.what_is_computed_has_a_value.ensures.regions program settings accepted)
      (c.what_is_computed_has_a_value.ensures.directions program settings accepted)
      (c.what_is_computed_has_a_value.ensures.vectors program settings accepted)).shifts;
}
