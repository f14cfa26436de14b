-- A call of `exec` that has its code checked never tells that its run is stuck.
use Rattle.std.proofs.Common.{◌≡◌, ◌≢◌, ℕ, IsTrue, List, subst, arith}
use Rattle.call_claims.specs.Call.{Call}
use Rattle.call_claims.specs.Command.{Asked, IsExec}
use Rattle.call_claims.specs.Execution.{Execution, execution_of}
use Rattle.call_claims.specs.Stream.{Stream}
use Rattle.call_claims.specs.declared.ran.Ran.{Ran}
use Rattle.resume_call.specs.of_exec_call.Call.{IsExecuted}
use Rattle.check_call.specs.of_check_claims.of_exec_claims.Cause.{Cause}
use Rattle.check_call.specs.of_check_claims.of_exec_claims.declared.status.TheConstants.{STUCK}
use Rattle.resume_call.specs.of_exec_call.of_resume_claims.Saving.{Tells}
use Rattle.resume_call.specs.of_exec_call.of_resume_claims.Saving.Tells.{told, saved}
use Rattle.top_call.specs.Call.{AsksChecked}

abbrev pub NeverLaw : Call → Type 0
NeverLaw call = (ran : Execution) (file : List ℕ) (asked : Asked) (text : List ℕ)
    → IsExec call.words file asked → IsTrue asked.checked → ¬ Cause call ran STUCK text

never_told : (call : Call) (ran : Execution) → NeverLaw call → AsksChecked call.words
    → {status : ℕ} {text : List ℕ} → Tells call ran status text → status ≢ STUCK
never_told call ran never asks {status} {text} (told cause none) e =
    never ran asks.0 asks.1 text asks.2 asks.3 (subst (λ n. Cause call ran n text) e cause)
never_told call ran never asks (saved by) e = omega (arith, e)

pub goes_on : (call : Call) (ran : Ran) (out errs : Stream) → NeverLaw call
    → IsExecuted call ran out errs → AsksChecked call.words → ran.status ≢ STUCK
goes_on call ran out errs never is asks e =
    let answered = is.cause (λ nine. omega (arith, e, nine)) in
    never_told call (execution_of ran) never asks answered.cause e
