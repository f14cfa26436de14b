-- No cause is of the status of words that are no command.
use Rattle.std.proofs.Common.{◌≢◌, ℕ, Bool, List, [], Option, Some, None, arith}
use Rattle.node_form.specs.declared.tables.Tables.{Tables}
use Rattle.grid_runs.specs.Run.{Run}
use Rattle.call_claims.specs.Call.{Call}
use Rattle.call_claims.specs.Command.{Asked}
use Rattle.call_claims.specs.Execution.{Execution}
use Rattle.call_claims.specs.declared.status.TheConstants.{USAGE}
use Rattle.exec_claims.specs.Cause.{Cause, CodeCause, ListingFileCause, OrderCause, OrderFileCause, RunCause}
use Rattle.exec_claims.specs.Cause.RunCause.{done, trap, turn_limit, stuck, idle}
use Rattle.exec_claims.specs.Cause.OrderCause.{bad_item, ran}
use Rattle.exec_claims.specs.Cause.TextCause.{unreadable, too_long, work}
use Rattle.exec_claims.specs.Cause.CodeCause.{fails, passes}
use Rattle.exec_claims.specs.Cause.ListingCause.{bad_line, bad_table, listed}
use Rattle.exec_claims.specs.Cause.Cause.{no_memory, exec}
use Rattle.exec_claims.proofs.CheckLemmas.{fails_other}

pub run_known : {run : Run} {report : Bool} {k n : ℕ} {told : List ℕ} → RunCause run report k n told
    → n ≢ USAGE
run_known (done e) = λ h. omega arith
run_known (trap kind line e) = λ h. omega arith
run_known (turn_limit e) = λ h. omega arith
run_known (stuck p kind e) = λ h. omega arith
run_known (idle p e) = λ h. omega arith

order_known : {code : Tables} {asked : Asked} {turns n : ℕ} {text told : List ℕ}
    → OrderCause code asked turns text n told → n ≢ USAGE
order_known (bad_item at e z) = λ h. omega arith
order_known (ran order e goes c) = run_known c

pub order_file_known : (call : Call) (code : Tables) (asked : Asked) (turns : ℕ)
    (file : Option (List ℕ)) (n : ℕ) (told : List ℕ)
    → OrderFileCause call code asked turns file n told → n ≢ USAGE
order_file_known call code asked turns None n told c = order_known c
order_file_known call code asked turns (Some file) n told (unreadable may ends) = λ h. omega arith
order_file_known call code asked turns (Some file) n told (too_long long ends) = λ h. omega arith
order_file_known call code asked turns (Some file) n told (work source w) = order_known w

file_known : (call : Call) (ex : Execution) (file : List ℕ) (asked : Asked) {n : ℕ} {told : List ℕ}
    → ListingFileCause call file asked ex n told → n ≢ USAGE
file_known call ex file asked (unreadable may ends) = λ h. omega arith
file_known call ex file asked (too_long long ends) = λ h. omega arith
file_known call ex file asked (work source (bad_line line e z)) = λ h. omega arith
file_known call ex file asked (work source (bad_table line e z)) = λ h. omega arith
file_known call ex file asked (work source (listed code is made (fails asks z f))) =
    (fails_other f).usage
file_known call ex file asked (work source (listed code is made (passes passed c))) =
    order_file_known call code asked ex.turns asked.order _ _ c

pub cause_known : {call : Call} {ex : Execution} {n : ℕ} {told : List ℕ} → Cause call ex n told
    → n ≢ USAGE
cause_known no_memory = λ e. omega arith
cause_known {call = call} {ex = ex} (exec is) = file_known call ex is.file is.asked is.holds
