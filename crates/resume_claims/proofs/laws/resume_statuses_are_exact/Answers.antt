use Rattle.exec_claims.specs.of_call_claims.Call.{call_of}
use Rattle.resume_claims.proofs.ExactLemmas.{exact}
use Rattle.resume_claims.proofs.laws.resume_statuses_are_exact.Goals as goal

pub returns : goal.returns
returns g c = λ files words ran n told cause.
    exact c.texts_tell_one_grid.ensures
    (call_of words (g.F.Files.tells files) (g.F.Files.may_fail files) (g.F.Files.may_fail_later files)) ran cause
