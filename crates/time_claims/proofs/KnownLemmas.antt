-- Which statuses causes have.
use Rattle.std.proofs.Common.{◌≡◌, ◌≢◌, ◌⊎◌, ℕ, Bool, List, Option, Some, None, inl, inr, arith}
use Rattle.node_form.specs.declared.tables.Tables.{Tables}
use Rattle.grid_runs.specs.Run.{Run}
use Rattle.call_claims.specs.Call.{Call}
use Rattle.call_claims.specs.Command.{Asked}
use Rattle.call_claims.specs.Execution.{Execution}
use Rattle.call_claims.specs.declared.status.TheConstants.{USAGE}
use Rattle.exec_claims.specs.Cause.{ListingFileCause, OrderCause, OrderFileCause, RunCause}
use Rattle.exec_claims.specs.Cause.RunCause.{done, trap, turn_limit, stuck, idle}
use Rattle.exec_claims.specs.Cause.OrderCause.{bad_item, ran as run_under}
use Rattle.exec_claims.specs.Cause.TextCause.{unreadable, too_long, work}
use Rattle.exec_claims.specs.Cause.CheckFails.{unsound, too_large}
use Rattle.exec_claims.specs.Cause.CodeCause.{fails, passes}
use Rattle.exec_claims.specs.Cause.ListingCause.{bad_line, bad_table, listed}
use Rattle.exec_claims.specs.declared.status.TheConstants.{TOO_MANY_MOVES}
use Rattle.time_claims.specs.Cause.{Cause, TimeCause}
use Rattle.time_claims.specs.Cause.Cause.{no_memory, time}
use Rattle.time_claims.specs.Cause.TimeCause.{not_run, ran, too_many}

-- a status that is neither that of words that are no command, nor that of too many moves
record IsOther (n : ℕ) : Type 0 where
  usage : n ≢ USAGE
  many : n ≢ TOO_MANY_MOVES

run_other : {run : Run} {report : Bool} {k n : ℕ} {told : List ℕ} → RunCause run report k n told → IsOther n
run_other (done e) = record { usage = λ h. omega arith; many = λ h. omega arith }
run_other (trap kind line e) = record { usage = λ h. omega arith; many = λ h. omega arith }
run_other (turn_limit e) = record { usage = λ h. omega arith; many = λ h. omega arith }
run_other (stuck p kind e) = record { usage = λ h. omega arith; many = λ h. omega arith }
run_other (idle p e) = record { usage = λ h. omega arith; many = λ h. omega arith }

order_other : {code : Tables} {asked : Asked} {turns n : ℕ} {text told : List ℕ}
    → OrderCause code asked turns text n told → IsOther n
order_other (bad_item at e z) = record { usage = λ h. omega arith; many = λ h. omega arith }
order_other (run_under order e goes c) = run_other c

order_file_other : (call : Call) (code : Tables) (asked : Asked) (turns : ℕ)
    (file : Option (List ℕ)) (n : ℕ) (told : List ℕ)
    → OrderFileCause call code asked turns file n told → IsOther n
order_file_other call code asked turns None n told c = order_other c
order_file_other call code asked turns (Some file) n told (unreadable may ends) =
    record { usage = λ h. omega arith; many = λ h. omega arith }
order_file_other call code asked turns (Some file) n told (too_long long ends) =
    record { usage = λ h. omega arith; many = λ h. omega arith }
order_file_other call code asked turns (Some file) n told (work source w) = order_other w

module _ (call : Call) (ex : Execution) (file : List ℕ) (asked : Asked) where
  file_other : {n : ℕ} {told : List ℕ} → ListingFileCause call file asked ex n told → IsOther n
  file_other (unreadable may ends) = record { usage = λ h. omega arith; many = λ h. omega arith }
  file_other (too_long long ends) = record { usage = λ h. omega arith; many = λ h. omega arith }
  file_other (work source (bad_line line e z)) =
      record { usage = λ h. omega arith; many = λ h. omega arith }
  file_other (work source (bad_table line e z)) =
      record { usage = λ h. omega arith; many = λ h. omega arith }
  file_other (work source (listed code is made (fails asks z (unsound at f)))) =
      record { usage = λ h. omega arith; many = λ h. omega arith }
  file_other (work source (listed code is made (fails asks z (too_large f)))) =
      record { usage = λ h. omega arith; many = λ h. omega arith }
  file_other (work source (listed code is made (passes passed c))) =
      order_file_other call code asked ex.turns asked.order _ _ c

  -- `exec` has no cause of the status of too many moves
  pub file_known : {n : ℕ} {told : List ℕ} → ListingFileCause call file asked ex n told
      → n ≢ TOO_MANY_MOVES
  file_known c = (file_other c).many

  time_known : {n : ℕ} {told : List ℕ} → TimeCause call file asked ex n told → n ≢ USAGE
  time_known (not_run c unended) = (file_other c).usage
  time_known (ran h) = (run_other h.holds.0).usage
  time_known (too_many h) = λ e. omega arith

-- no cause is of the status of words that are no command
pub cause_known : {call : Call} {ex : Execution} {n : ℕ} {told : List ℕ} → Cause call ex n told
    → n ≢ USAGE
cause_known no_memory = λ e. omega arith
cause_known {call = call} {ex = ex} (time is) = time_known call ex is.file is.asked is.holds
