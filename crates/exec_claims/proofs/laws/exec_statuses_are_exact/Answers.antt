use Rattle.call_claims.specs.Call.{call_of}
use Rattle.exec_claims.specs.Decided.{IsTooLarge, IsUnsound}
use Rattle.exec_claims.specs.declared.status.TheConstants.{CHECK_LIMIT, UNSOUND}
use Rattle.exec_claims.proofs.CheckExact.{checked_exactly, is_too_large, is_unsound}
use Rattle.exec_claims.proofs.Exact.{listing_exactly, done_exactly, trap_exactly}
use Rattle.exec_claims.proofs.Exact.{limit_exactly, stuck_exactly}
use Rattle.exec_claims.proofs.OrderExact.{long_exactly, order_exactly}
use Rattle.exec_claims.proofs.laws.exec_statuses_are_exact.Goals as goal

pub returns : goal.returns
returns g c =
    let line = c.bytes_have_one_program.ensures.line in
    let table = c.bytes_have_one_program.ensures.table in
    record {
      too_long = λ files words ran n told cause settled. long_exactly
          (call_of words (g.F.Files.tells files) (g.F.Files.may_fail files) (g.F.Files.may_fail_later files)) ran n told line table
          c.bytes_have_one_program.ensures.program cause settled;
      order = λ files words ran n told cause settled. order_exactly
          (call_of words (g.F.Files.tells files) (g.F.Files.may_fail files) (g.F.Files.may_fail_later files)) ran n told line table
          c.bytes_have_one_program.ensures.program cause settled;
      listing = λ files words ran n told cause settled. listing_exactly
          (call_of words (g.F.Files.tells files) (g.F.Files.may_fail files) (g.F.Files.may_fail_later files)) ran n told line table cause settled;
      unsound = λ files words ran n told cause settled. checked_exactly UNSOUND IsUnsound is_unsound
          (call_of words (g.F.Files.tells files) (g.F.Files.may_fail files) (g.F.Files.may_fail_later files)) ran n told line table
          c.bytes_have_one_program.ensures.program cause settled;
      too_large = λ files words ran n told cause settled. checked_exactly CHECK_LIMIT IsTooLarge is_too_large
          (call_of words (g.F.Files.tells files) (g.F.Files.may_fail files) (g.F.Files.may_fail_later files)) ran n told line table
          c.bytes_have_one_program.ensures.program cause settled;
      done = λ files words ran n told cause settled. done_exactly
          (call_of words (g.F.Files.tells files) (g.F.Files.may_fail files) (g.F.Files.may_fail_later files)) ran n told line table cause settled;
      trap = λ files words ran n told cause settled. trap_exactly
          (call_of words (g.F.Files.tells files) (g.F.Files.may_fail files) (g.F.Files.may_fail_later files)) ran n told line table cause settled;
      turn_limit = λ files words ran n told cause settled. limit_exactly
          (call_of words (g.F.Files.tells files) (g.F.Files.may_fail files) (g.F.Files.may_fail_later files)) ran n told line table cause settled;
      stuck = λ files words ran n told cause settled. stuck_exactly
          (call_of words (g.F.Files.tells files) (g.F.Files.may_fail files) (g.F.Files.may_fail_later files)) ran n told line table cause settled;
    }
