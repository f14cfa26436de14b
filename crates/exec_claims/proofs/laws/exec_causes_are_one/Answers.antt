use Rattle.call_claims.specs.Call.{call_of}
use Rattle.exec_claims.proofs.OneCause.{cause_one}
use Rattle.exec_claims.proofs.laws.exec_causes_are_one.Goals as goal

pub returns : goal.returns
returns g c = λ files words ran n m told other one also s t.
    cause_one (call_of words (g.F.Files.tells files) (g.F.Files.may_fail files) (g.F.Files.may_fail_later files)) ran n m told other
    c.bytes_have_one_program.ensures.line c.bytes_have_one_program.ensures.table one also s t
