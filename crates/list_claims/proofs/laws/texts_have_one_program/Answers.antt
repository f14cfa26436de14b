use Rattle.list_claims.proofs.WholeLemmas.{one_program}
use Rattle.list_claims.proofs.laws.texts_have_one_program.Goals as goal

pub returns : goal.returns
returns c =
    one_program c.text_is_cut_one_way.ensures.tokens c.texts_have_one_tree.ensures.tree
