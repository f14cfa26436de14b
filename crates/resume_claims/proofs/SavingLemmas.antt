-- What `exec` tells has a cause, also where it is a saved grid.
use Rattle.std.proofs.Common.{◌≡◌, ◌≢◌, ℕ, List, refl}
use Rattle.grid_runs.specs.Run.{Run, IsLimitedAt}
use Rattle.exec_claims.specs.of_call_claims.Call.{Call}
use Rattle.exec_claims.specs.of_call_claims.Command.{Asked}
use Rattle.exec_claims.specs.of_call_claims.Execution.{Execution}
use Rattle.exec_claims.specs.of_call_claims.declared.status.TheConstants.{TURN_LIMIT, USAGE}
use Rattle.exec_claims.specs.Cause.{Cause}
use Rattle.exec_claims.specs.Cause.Cause.{exec}
use Rattle.exec_claims.specs.Decided.{HasRun}
use Rattle.exec_claims.proofs.Exact.{file_cause, told_limit}
use Rattle.exec_claims.proofs.KnownLemmas.{cause_known}
use Rattle.resume_claims.specs.Saving.{IsSavedAt, SavesRun, Tells}
use Rattle.resume_claims.specs.Saving.Tells.{told, saved}

-- a run whose grid was saved had all its turns
pub limited_run : (call : Call) (file : List ℕ) (asked : Asked) (execution : Execution) (bytes : List ℕ)
    → HasRun call file asked execution (IsSavedAt bytes) → HasRun call file asked execution IsLimitedAt
limited_run call file asked execution bytes h = record {
  source = h.source;
  code = h.code;
  listing = h.listing;
  made = h.made;
  sound = h.sound;
  text = h.text;
  order_text = h.order_text;
  order = h.order;
  read = h.read;
  goes_on = h.goes_on;
  holds = h.holds.limited;
}

pub tells_cause : (call : Call) (execution : Execution) {n : ℕ} {text : List ℕ} → Tells call execution n text
    → (other : List ℕ) × Cause call execution n other
tells_cause call execution {text = text} (told cause other) = (text, cause)
tells_cause call execution (saved is) =
    let found = file_cause call execution is.file is.asked
    (limited_run call is.file is.asked execution _ is.holds.run) told_limit in
    (found.0, exec (record { file = is.file; asked = is.asked; given = is.given; holds = found.1 }))

pub tells_known : {call : Call} {execution : Execution} {n : ℕ} {text : List ℕ} → Tells call execution n text
    → n ≢ USAGE
tells_known {call = call} {execution = execution} tells = cause_known (tells_cause call execution tells).1
