-- Why a call of `check` has its status, and what is told of it.
--
--   CheckCause        of the listed code
--   CheckFileCause    of the file
--   Checks            the words check a file, and this holds of it and of what they ask for
--   Cause             any call of `check`
use Rattle.std.specs.Prelude.{ℕ, List, []}
use Rattle.node_form.specs.declared.tables.Tables.{Tables}
use Rattle.exec_claims.specs.of_node_check.Sound.{IsChecked}
use Rattle.call_claims.specs.Call.{Call}
use Rattle.call_claims.specs.Command.{Asked, Asks, IsCheck}
use Rattle.call_claims.specs.Execution.{Execution}
use Rattle.call_claims.specs.Texts.{no_memory_text}
use Rattle.call_claims.specs.declared.status.TheConstants.{DONE, NO_MEMORY}
use Rattle.exec_claims.specs.Cause.{CheckFails, ListedCause}

-- ---- the listed code
-- it passes the check, of which nothing is told; or that fails
pub data CheckCause (code : Tables) : ℕ → List ℕ → Type 0 where
  sound : (links : ℕ) → IsChecked code links → CheckCause code DONE []
  fails : {status : ℕ} {told : List ℕ} → CheckFails code status told → CheckCause code status told

-- ---- check FILE
-- The file is fetched and read as for `exec`.
abbrev pub CheckFileCause : Call → List ℕ → Execution → ℕ → List ℕ → Type 0
CheckFileCause call file execution = ListedCause call file execution CheckCause

-- The words check a listing, and this holds of its file and of what they ask for.
abbrev pub Checks : Call → (List ℕ → Asked → Type 0) → Type 0
Checks call = Asks IsCheck call.words

-- ---- any call
-- The cause of a status, and what is told of it. A failed put is no cause of these.
pub data Cause (call : Call) (execution : Execution) : ℕ → List ℕ → Type 0 where
  no_memory : Cause call execution NO_MEMORY no_memory_text
  check : {status : ℕ} {told : List ℕ}
      → Checks call (λ file asked. CheckFileCause call file execution status told)
      → Cause call execution status told
