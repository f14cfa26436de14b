use Rattle.meaning_runs.proofs.ComputedLemmas.{site_computed}
use Rattle.meaning_runs.proofs.KnownLemmas.{region_computed, direction_computed, forms_limited}
use Rattle.meaning_runs.proofs.laws.regions_have_been_computed.Goals as goal

pub returns : goal.returns
returns c = record {
  sites = λ program settings. site_computed program settings (record {
    regions = c.bound_lists_follow_the_text.ensures.regions program settings;
    directions = c.bound_lists_follow_the_text.ensures.directions program settings;
  });
  regions = λ program settings n. region_computed program settings n
      (c.bound_lists_follow_the_text.ensures.regions program settings);
  directions = λ program settings n. direction_computed program settings n
      (c.bound_lists_follow_the_text.ensures.directions program settings);
  forms = λ program settings accepted. forms_limited program settings (record {
    directions = c.what_is_computed_has_a_value.ensures.directions program settings accepted;
    vectors = c.what_is_computed_has_a_value.ensures.vectors program settings accepted;
  });
}
