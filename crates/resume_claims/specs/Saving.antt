-- What `exec` tells where its words ask for a saved grid.
--
--   saved_at       the grid after so many turns of a run, as it is saved
--   Saves          the words run a listing, and ask for it
--   IsSavedAt      all turns of a run were given, and the bytes are the saved text of its grid
--   Tells          the cause of a status, and what is told of it
use Rattle.std.specs.Prelude.{◌≡◌, ℕ, true, List, []}
use Rattle.grid_meaning.specs.Grid.{Grid}
use Rattle.grid_runs.specs.Run.{Run, grid_at, IsLimitedAt}
use Rattle.saved_runs.specs.of_grid_save.Saved.{IsSaved}
use Rattle.exec_claims.specs.of_call_claims.Call.{Call}
use Rattle.exec_claims.specs.of_call_claims.Command.{Asked}
use Rattle.exec_claims.specs.of_call_claims.Execution.{Execution}
use Rattle.exec_claims.specs.of_call_claims.declared.status.TheConstants.{TURN_LIMIT}
use Rattle.exec_claims.specs.Cause.{Cause, Execs}
use Rattle.exec_claims.specs.Decided.{HasRun}

-- what was printed isn't saved
abbrev pub saved_at : Run → ℕ → Grid
saved_at run k = record (grid_at run k) { printed = [] }

abbrev pub Saves : Call → Type 0
Saves call = Execs call (λ file asked. asked.save ≡ true)

-- ---- the saved grid
pub record IsSavedAt (bytes : List ℕ) (run : Run) (k : ℕ) : Type 0 where
  pub limited : IsLimitedAt run k
  pub saved : IsSaved bytes run.code (saved_at run k)

-- the words ask for it, and it is that of the listed code under the order that they name
pub record SavesRun (call : Call) (file : List ℕ) (asked : Asked) (execution : Execution)
    (bytes : List ℕ) : Type 0 where
  pub wanted : asked.save ≡ true
  pub run : HasRun call file asked execution (IsSavedAt bytes)

-- ---- any call of `exec`
-- A status has its cause, and its text is told; but where the words ask for the saved grid and all
-- turns were given, that is told in the place of the text.
pub data Tells (call : Call) (execution : Execution) : ℕ → List ℕ → Type 0 where
  told : {status : ℕ} {text : List ℕ} → Cause call execution status text
      → (status ≡ TURN_LIMIT → ¬ Saves call) → Tells call execution status text
  saved : {bytes : List ℕ}
      → Execs call (λ file asked. SavesRun call file asked execution bytes)
      → Tells call execution TURN_LIMIT bytes
