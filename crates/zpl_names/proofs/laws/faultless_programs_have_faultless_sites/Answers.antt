use Rattle.zpl_names.proofs.FaultlessLemmas.{clean_text, clean_reached, clean_under}
use Rattle.zpl_names.proofs.laws.faultless_programs_have_faultless_sites.Goals as goal

pub returns : goal.returns
returns c = record { text = clean_text; reached = clean_reached; under = clean_under }
