use Rattle.zpl_binding.proofs.BoundLemmas.{accepted-binds, faultless-binds, bound-once, only-settings, bound-accepts}
use Rattle.zpl_binding.proofs.laws.accepted_settings_bind.Goals as goal

pub returns : goal.returns
returns c = record {
  accepted = accepted-binds;
  faultless = faultless-binds;
  one_way = bound-once;
  only = only-settings;
  accepts = bound-accepts;
}
