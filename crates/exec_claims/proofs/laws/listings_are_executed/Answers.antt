use Rattle.call_claims.specs.Call.{call_of}
use Rattle.exec_claims.proofs.WholeLemmas.{executed}
use Rattle.exec_claims.proofs.laws.listings_are_executed.Goals as goal

pub returns : goal.returns
returns g c = λ files words ran status told cause settled file asked given can.
    executed c.bytes_have_one_program.ensures.line c.bytes_have_one_program.ensures.table
    c.bytes_have_one_program.ensures.program
    (call_of words (g.F.Files.tells files) (g.F.Files.may_fail files) (g.F.Files.may_fail_later files))
    ran file asked can settled given cause
