use Rattle.call_claims.specs.Call.{call_of}
use Rattle.check_claims.proofs.Exact.{is_exact}
use Rattle.check_claims.proofs.laws.check_statuses_are_exact.Goals as goal

pub returns : goal.returns
returns g c = λ files words ran n told cause.
    is_exact (call_of words (g.F.Files.tells files) (g.F.Files.may_fail files) (g.F.Files.may_fail_later files)) ran
    c.bytes_have_one_program.ensures.line c.bytes_have_one_program.ensures.table
    c.bytes_have_one_program.ensures.program cause
