use Rattle.zpl_names.proofs.ShapeLemmas.{scope-ranked}
use Rattle.zpl_names.proofs.laws.declared_ranks_are_at_most_three.Goals as goal

pub returns : goal.returns
returns c = scope-ranked
