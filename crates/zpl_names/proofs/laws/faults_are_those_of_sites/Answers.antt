use Rattle.zpl_names.proofs.FaultLemmas.{text_has, region_has, clean_is_faultless}
use Rattle.zpl_names.proofs.laws.faults_are_those_of_sites.Goals as goal

pub returns : goal.returns
returns c = record { text = text_has; under = region_has; none = clean_is_faultless }
