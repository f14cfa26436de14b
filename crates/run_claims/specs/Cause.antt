-- Why a call of `run` has its status, and what is told of it. What is done with the code is said as
-- it is for `exec`: an order is read, and the code is run under it.
use Rattle.std.specs.Prelude.{ℕ, List}
use Rattle.call_claims.specs.Call.{Call}
use Rattle.list_claims.specs.Cause.{ProgramCause}
use Rattle.call_claims.specs.Execution.{Execution}
use Rattle.call_claims.specs.Texts.{no_memory_text}
use Rattle.call_claims.specs.declared.status.TheConstants.{NO_MEMORY}
use Rattle.call_claims.specs.Command.{Asked, Asks, IsRun, build_of}
use Rattle.exec_claims.specs.Cause.{OrderFileCause}

-- run FILE: of the program's file, of its text, of the order that the words name, and of the run
abbrev pub RunFileCause : Call → List ℕ → Asked → Execution → ℕ → List ℕ → Type 0
RunFileCause call file asked execution =
    ProgramCause call file (build_of asked) execution
    (λ code. OrderFileCause call code asked execution.turns asked.order)

-- The words run a file, of which and of what they ask for this holds.
abbrev pub Runs : Call → (List ℕ → Asked → Type 0) → Type 0
Runs call = Asks IsRun call.words

-- The cause of a status, and what is told of it. A failed put is no cause of these.
pub data Cause (call : Call) (execution : Execution) : ℕ → List ℕ → Type 0 where
  no_memory : Cause call execution NO_MEMORY no_memory_text
  run : {status : ℕ} {told : List ℕ}
      → Runs call (λ file asked. RunFileCause call file asked execution status told)
      → Cause call execution status told
