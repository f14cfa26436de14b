-- No cause is of the status of words that are no command.
use Rattle.std.proofs.Common.{◌≢◌, ℕ, List, arith}
use Rattle.node_form.specs.declared.tables.Tables.{Tables}
use Rattle.call_claims.specs.Call.{Call}
use Rattle.call_claims.specs.Execution.{Execution}
use Rattle.call_claims.specs.declared.status.TheConstants.{USAGE}
use Rattle.exec_claims.specs.Cause.TextCause.{unreadable, too_long, work}
use Rattle.exec_claims.specs.Cause.ListingCause.{bad_line, bad_table, listed}
use Rattle.exec_claims.proofs.CheckLemmas.{fails_other}
use Rattle.check_claims.specs.Cause.{Cause, CheckCause, CheckFileCause}
use Rattle.check_claims.specs.Cause.Cause.{no_memory, check}
use Rattle.check_claims.specs.Cause.CheckCause.{sound, fails}

code_known : {code : Tables} {n : ℕ} {told : List ℕ} → CheckCause code n told → n ≢ USAGE
code_known (sound links is) = λ h. omega arith
code_known (fails f) = (fails_other f).usage

file_known : (call : Call) (file : List ℕ) (ex : Execution) {n : ℕ} {told : List ℕ}
    → CheckFileCause call file ex n told → n ≢ USAGE
file_known call file ex (unreadable may ends) = λ h. omega arith
file_known call file ex (too_long long ends) = λ h. omega arith
file_known call file ex (work source (bad_line line e z)) = λ h. omega arith
file_known call file ex (work source (bad_table line e z)) = λ h. omega arith
file_known call file ex (work source (listed code is made c)) = code_known c

pub cause_known : {call : Call} {ex : Execution} {n : ℕ} {told : List ℕ} → Cause call ex n told
    → n ≢ USAGE
cause_known no_memory = λ e. omega arith
cause_known {call = call} {ex = ex} (check is) = file_known call is.file ex is.holds
