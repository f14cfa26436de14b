use Rattle.std.proofs.Common.{refl}
use Rattle.call_claims.specs.Call.{call_of}
use Rattle.check_claims.proofs.NeverLemmas.{never_stuck}
use Rattle.check_claims.proofs.laws.checked_calls_are_never_stuck.Goals as goal

pub returns : goal.returns
returns g c = λ files words ran file asked told given wanted cause.
    never_stuck c.what_is_written_is_read.ensures.typed
    c.runs_of_checked_code_go_on.ensures.not_stuck c.runs_of_checked_code_go_on.ensures.not_idle
    (call_of words (g.F.Files.tells files) (g.F.Files.may_fail files)
    (g.F.Files.may_fail_later files)) ran file asked given wanted cause refl
