use Rattle.lowered_flat.proofs.ApartLemmas.{parsed_apart}
use Rattle.lowered_flat.proofs.laws.parsed_names_stand_apart.Goals as goal

pub returns : goal.returns
returns c = λ text tokens program are tree.
    parsed_apart text tokens program (c.tokens_are_in_order.ensures.tokens text tokens are) tree
