use Rattle.call_claims.specs.Call.{call_of}
use Rattle.list_claims.proofs.WholeLemmas.{lists}
use Rattle.list_claims.proofs.laws.accepted_programs_are_listed.Goals as goal

pub returns : goal.returns
returns g c = λ files words ran status told cause settled file asked given can.
    lists c.texts_have_one_program.ensures
    (call_of words (g.F.Files.tells files) (g.F.Files.may_fail files) (g.F.Files.may_fail_later files)) ran
    file asked settled given can cause
