use Rattle.exec_claims.specs.of_call_claims.Call.{call_of}
use Rattle.resume_claims.proofs.WholeLemmas.{whole}
use Rattle.resume_claims.proofs.laws.saved_grids_are_resumed.Goals as goal

pub returns : goal.returns
returns g c = λ files words ran status told cause settled file asked given can.
    whole c.texts_tell_one_grid.ensures
    (call_of words (g.F.Files.tells files) (g.F.Files.may_fail files) (g.F.Files.may_fail_later files)) ran file asked
    can settled given cause
