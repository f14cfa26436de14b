-- Why a call has its status, and what is told of it: the parts that are common to commands that
-- make code of a program, and the causes of `list`.
--
--   TextFault            why a text has no code
--   CodeCause            it has none, or some, of which this is done
--   ProgramCause         the same of the text of a file
--   Cause                any call of `list`
use Rattle.std.specs.Prelude.{◌≡◌, ℕ, List, [], Some}
use Rattle.node_form.specs.declared.tables.Tables.{Tables}
use Rattle.call_claims.specs.of_zpl_claims.Build.{Build}
use Rattle.call_claims.specs.Call.{Call}
use Rattle.call_claims.specs.Cause.{FileCause}
use Rattle.call_claims.specs.Command.{Asked, Asks, IsList, build_of}
use Rattle.call_claims.specs.Execution.{Execution, HasNoRun}
use Rattle.call_claims.specs.Texts.{no_memory_text}
use Rattle.call_claims.specs.declared.status.TheConstants.{DONE, REFUSED, UNBOUND, NO_MEMORY}
use Rattle.list_claims.specs.Code.{IsCodeOf}
use Rattle.list_claims.specs.Refusal.{IsRefusal, IsUnbound}

-- ---- a text
-- It has no code for this build, and why.
pub data TextFault (text : List ℕ) (build : Build) : ℕ → List ℕ → Type 0 where
  refused : (told : List ℕ) → IsRefusal text build told → TextFault text build REFUSED told
  unbound : (told : List ℕ) → IsUnbound text build told → TextFault text build UNBOUND told

-- It has none, and nothing was run; or code was made of it, and there is the cause of what was done
-- with that.
pub data CodeCause (text : List ℕ) (build : Build) (execution : Execution)
    (Does : Tables → ℕ → List ℕ → Type 0) : ℕ → List ℕ → Type 0 where
  faulty : {status : ℕ} {told : List ℕ} → TextFault text build status told
      → HasNoRun execution → CodeCause text build execution Does status told
  made : {status : ℕ} {told : List ℕ} (code : Tables) → IsCodeOf text build code
      → execution.code ≡ Some code → Does code status told
      → CodeCause text build execution Does status told

-- ---- the file of a command
-- Code is made of the file's text, and this is done with it.
abbrev pub ProgramCause : Call → List ℕ → Build → Execution
    → (Tables → ℕ → List ℕ → Type 0) → ℕ → List ℕ → Type 0
ProgramCause call file build execution Does =
    FileCause call file execution (λ text. CodeCause text build execution Does)

-- ---- list FILE
-- the code is listed, and not run
pub data IsListed (turns : ℕ) : ℕ → List ℕ → Type 0 where
  listed : turns ≡ 0 → IsListed turns DONE []

abbrev pub ListCause : Call → List ℕ → Asked → Execution → ℕ → List ℕ → Type 0
ListCause call file asked execution =
    ProgramCause call file (build_of asked) execution (λ code. IsListed execution.turns)

abbrev pub Lists : Call → (List ℕ → Asked → Type 0) → Type 0
Lists call = Asks IsList call.words

-- ---- any call of it
-- The cause of a status, and what is told of it. A failed put is no cause of these.
pub data Cause (call : Call) (execution : Execution) : ℕ → List ℕ → Type 0 where
  no_memory : Cause call execution NO_MEMORY no_memory_text
  list : {status : ℕ} {told : List ℕ}
      → Lists call (λ file asked. ListCause call file asked execution status told)
      → Cause call execution status told
