-- No cause is of the status of words that are no command.
use Rattle.std.proofs.Common.{◌≢◌, ℕ, List, Option, Some, None, arith}
use Rattle.node_form.specs.declared.tables.Tables.{Tables}
use Rattle.grid_meaning.specs.Grid.{Grid}
use Rattle.grid_runs.specs.Run.{Run}
use Rattle.exec_claims.specs.of_call_claims.Call.{Call}
use Rattle.exec_claims.specs.of_call_claims.Command.{Asked}
use Rattle.exec_claims.specs.of_call_claims.Execution.{Execution}
use Rattle.exec_claims.specs.of_call_claims.declared.status.TheConstants.{USAGE}
use Rattle.exec_claims.specs.Cause.TextCause.{unreadable as no_text, too_long as long_text, work as of_text}
use Rattle.exec_claims.proofs.KnownLemmas.{run_known}
use Rattle.resume_claims.specs.Cause.{Cause, GridCause, GridFileCause, ResumeCause, SavedCause}
use Rattle.resume_claims.specs.Cause.GridCause.{bad_item, ran}
use Rattle.resume_claims.specs.Cause.SavedCause.{refused, saved}
use Rattle.resume_claims.specs.Cause.ResumeCause.{unreadable, too_long, work}
use Rattle.resume_claims.specs.Cause.Cause.{no_memory, resume}

grid_known : {code : Tables} {grid : Grid} {asked : Asked} {turns n : ℕ} {text told : List ℕ}
    → GridCause code grid asked turns text n told → n ≢ USAGE
grid_known (bad_item at e z) = λ h. omega arith
grid_known (ran order e on) = run_known on.holds.cause

grid_file_known : (call : Call) (code : Tables) (grid : Grid) (asked : Asked) (turns : ℕ)
    (file : Option (List ℕ)) (n : ℕ) (told : List ℕ)
    → GridFileCause call code grid asked turns file n told → n ≢ USAGE
grid_file_known call code grid asked turns None n told c = grid_known c
grid_file_known call code grid asked turns (Some file) n told (no_text may ends) = λ h. omega arith
grid_file_known call code grid asked turns (Some file) n told (long_text long ends) = λ h. omega arith
grid_file_known call code grid asked turns (Some file) n told (of_text source w) = grid_known w

resume_known : (call : Call) (file : List ℕ) (asked : Asked) (execution : Execution) {n : ℕ} {told : List ℕ}
    → ResumeCause call file asked execution n told → n ≢ USAGE
resume_known call file asked ex (unreadable may none) = λ h. omega arith
resume_known call file asked ex (too_long long none) = λ h. omega arith
resume_known call file asked ex (work source (refused why is none)) = λ h. omega arith
resume_known call file asked ex (work source (saved code grid is made c)) =
    grid_file_known call code grid asked ex.turns asked.order _ _ c

pub cause_known : {call : Call} {execution : Execution} {n : ℕ} {told : List ℕ} → Cause call execution n told
    → n ≢ USAGE
cause_known no_memory = λ h. omega arith
cause_known {call = call} {execution = execution} (resume is) =
    resume_known call is.file is.asked execution is.holds
