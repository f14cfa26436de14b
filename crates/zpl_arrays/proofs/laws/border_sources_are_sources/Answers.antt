use Rattle.zpl_arrays.proofs.BorderLemmas.{border_source_back}
use Rattle.zpl_arrays.proofs.laws.border_sources_are_sources.Goals as goal

pub returns : goal.returns
returns c = border_source_back
