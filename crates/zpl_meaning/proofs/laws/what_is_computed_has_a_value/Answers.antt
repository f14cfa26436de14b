use Rattle.zpl_meaning.proofs.GivenLemmas.{value_given, region_given, direction_given}
use Rattle.zpl_meaning.proofs.GivenLemmas.{vector_given, storage_given, home_given}
use Rattle.zpl_meaning.proofs.laws.what_is_computed_has_a_value.Goals as goal

pub returns : goal.returns
returns c = record {
  values = λ program settings accepted.
      let binds = c.accepted_settings_bind.ensures.accepted program settings accepted in
      value_given program settings binds.0 binds.1;
  regions = λ program settings accepted.
      let binds = c.accepted_settings_bind.ensures.accepted program settings accepted in
      region_given program settings binds.0 binds.1;
  directions = λ program settings accepted.
      let binds = c.accepted_settings_bind.ensures.accepted program settings accepted in
      direction_given program settings binds.0 binds.1;
  vectors = λ program settings accepted.
      let binds = c.accepted_settings_bind.ensures.accepted program settings accepted in
      vector_given program settings binds.0 binds.1;
  storages = λ program settings accepted.
      let binds = c.accepted_settings_bind.ensures.accepted program settings accepted in
      storage_given program settings binds.0 binds.1;
  homes = λ program settings accepted.
      let binds = c.accepted_settings_bind.ensures.accepted program settings accepted in
      home_given program settings binds.0 binds.1;
}
