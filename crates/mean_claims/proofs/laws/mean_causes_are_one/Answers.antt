use Rattle.call_claims.specs.Call.{call_of}
use Rattle.mean_claims.proofs.OneLemmas.{cause_one}
use Rattle.mean_claims.proofs.laws.mean_causes_are_one.Goals as goal

pub returns : goal.returns
returns g c = λ files words n m told other one also s t.
    cause_one c.text_is_cut_one_way.ensures.tokens c.texts_have_one_tree.ensures.tree
    (call_of words (g.F.Files.tells files) (g.F.Files.may_fail files) (g.F.Files.may_fail_later files)) n m told other s t one also
