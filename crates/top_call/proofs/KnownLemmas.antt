-- No cause is of the status of words that are no command.
use Rattle.std.proofs.Common.{◌≢◌, ℕ, List, inl, inr, arith}
use Rattle.node_form.specs.declared.tables.Tables.{Tables}
use Rattle.zpl_claims.specs.Build.{Build}
use Rattle.call_claims.specs.Call.{Call}
use Rattle.call_claims.specs.Command.{build_of}
use Rattle.gen_call.specs.of_list_claims.Cause.{Cause, CodeCause, IsListed, ProgramCause}
use Rattle.gen_call.specs.of_list_claims.Cause.Cause.{no_memory, list}
use Rattle.gen_call.specs.of_list_claims.Cause.CodeCause.{faulty, made}
use Rattle.call_claims.specs.Cause.FileCause.{unreadable, too_long, work}
use Rattle.gen_call.specs.of_list_claims.Cause.IsListed.{listed}
use Rattle.call_claims.specs.Execution.{Execution}
use Rattle.call_claims.specs.declared.status.TheConstants.{USAGE}
use Rattle.gen_call.proofs.of_list_claims.ProgramLemmas.{fault_other}
use Rattle.mean_call.proofs.of_exec_claims.KnownLemmas.{order_file_known}
use Rattle.gen_call.specs.of_run_claims.Cause as run_cause
use Rattle.gen_call.specs.of_run_claims.Cause.Cause.{no_memory as wanting, run}

-- where what is done with the code hasn't it
abbrev pub AreKnown : (Tables → ℕ → List ℕ → Type 0) → Type 0
AreKnown Does = (code : Tables) (n : ℕ) (told : List ℕ) → Does code n told → n ≢ USAGE

text_known : {text told : List ℕ} {build : Build} {execution : Execution} {n : ℕ}
    (Does : Tables → ℕ → List ℕ → Type 0) → AreKnown Does
    → CodeCause text build execution Does n told → n ≢ USAGE
text_known Does known (faulty fault none) = elim (fault_other fault)
    [ inl e ↦ λ f. omega (arith, e, f) | inr e ↦ λ f. omega (arith, e, f) ]
text_known Does known (made code of_text is does) = known code _ _ does

file_known : (call : Call) (file : List ℕ) (build : Build) (execution : Execution)
    (Does : Tables → ℕ → List ℕ → Type 0) → AreKnown Does → {n : ℕ} {told : List ℕ}
    → ProgramCause call file build execution Does n told → n ≢ USAGE
file_known call file build execution Does known (unreadable may none) = λ e. omega arith
file_known call file build execution Does known (too_long long none) = λ e. omega arith
file_known call file build execution Does known (work source cause) =
    text_known Does known cause

listed_known : (turns : ℕ) → AreKnown (λ code. IsListed turns)
listed_known turns code n told (listed none) = λ e. omega arith

pub list_known : {call : Call} {execution : Execution} {n : ℕ} {told : List ℕ}
    → Cause call execution n told → n ≢ USAGE
list_known no_memory = λ e. omega arith
list_known {call = call} {execution = execution} (list is) =
    file_known call is.file (build_of is.asked) execution (λ code. IsListed execution.turns)
    (listed_known execution.turns) is.holds

pub run_known : {call : Call} {execution : Execution} {n : ℕ} {told : List ℕ}
    → run_cause.Cause call execution n told → n ≢ USAGE
run_known wanting = λ e. omega arith
run_known {call = call} {execution = execution} (run is) =
    file_known call is.file (build_of is.asked) execution _
    (λ code n told c. order_file_known call code is.asked execution.turns is.asked.order n told c)
    is.holds
