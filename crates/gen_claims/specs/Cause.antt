-- Why a call of `gen` has its status, and what is told of it.
use Rattle.std.specs.Prelude.{◌≢◌, ℕ, false, List, []}
use Rattle.node_form.specs.declared.tables.Tables.{Tables}
use Rattle.call_claims.specs.Command.{Asked, IsGen, asked_on, build_of}
use Rattle.call_claims.specs.Execution.{Execution}
use Rattle.call_claims.specs.Texts.{no_memory_text}
use Rattle.call_claims.specs.declared.status.TheConstants.{DONE, NO_MEMORY}
use Rattle.run_claims.specs.of_exec_claims.Cause.{RunCause, run_of}
use Rattle.run_claims.specs.of_list_claims.Cause.{TextFault}
use Rattle.program_texts.specs.Text.{drawn_program}
use Rattle.gen_claims.specs.Grids.{NamedGrid, IsNext, grids}
use Rattle.gen_claims.specs.Runs.{IsRunOf, Went, execution_with}

-- The words draw a program, and this holds of its number and of what they ask for.
pub record Gens (words : List (List ℕ)) (Holds : ℕ → Asked → Type 0) : Type 0 where
  pub seed : ℕ
  pub asked : Asked
  pub given : IsGen words seed asked
  pub holds : Holds seed asked

-- The runs on all grids ended normally. Or so did those on some, and for the next one the program
-- has no code, or the run of its code ended otherwise.
pub data GenCause (seed : ℕ) (asked : Asked) : Execution → List ℕ → ℕ → List ℕ → Type 0 where
  all_done : {last : Execution} {lines : List ℕ} → Went seed asked grids last lines
      → GenCause seed asked last lines DONE []
  faulty : {before : List NamedGrid} {last : Execution} {lines told : List ℕ} {status : ℕ}
      (grid : NamedGrid) → Went seed asked before last lines → IsNext before grid
      → TextFault (drawn_program seed) (build_of (asked_on asked grid.factors)) status told
      → GenCause seed asked last lines status told
  ended : {before : List NamedGrid} {last : Execution} {lines told : List ℕ} {status : ℕ}
      (grid : NamedGrid) (code : Tables) (turns : ℕ) → Went seed asked before last lines
      → IsNext before grid → IsRunOf seed asked grid code turns
      → RunCause (run_of code asked []) false turns status told → status ≢ DONE
      → GenCause seed asked (execution_with code turns) lines status told

-- The cause of a status, and what is told of it. A failed put is no cause of these.
pub data Cause (words : List (List ℕ)) (execution : Execution) : ℕ → List ℕ → Type 0 where
  no_memory : Cause words execution NO_MEMORY no_memory_text
  gen : {status : ℕ} {told : List ℕ}
      → Gens words (λ seed asked. (lines : List ℕ) × GenCause seed asked execution lines status told)
      → Cause words execution status told
