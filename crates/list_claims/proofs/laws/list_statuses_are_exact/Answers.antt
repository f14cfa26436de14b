use Rattle.call_claims.specs.Call.{call_of}
use Rattle.list_claims.proofs.CauseLemmas.{exactly}
use Rattle.list_claims.proofs.laws.list_statuses_are_exact.Goals as goal

pub returns : goal.returns
returns g c = λ files words ran n told cause.
    exactly (call_of words (g.F.Files.tells files) (g.F.Files.may_fail files) (g.F.Files.may_fail_later files)) ran n told cause
