-- Runs of a drawn program on the grids, one after another.
--
--   IsRunOf   the program's code for a grid, run for so many turns round its processors
--   Went      on the grids so far the runs ended normally; the last one, and their lines
--   Begun     the runs that were begun
use Rattle.std.specs.Prelude.{ℕ, List, [], ◌∷◌, ◌++◌, Some, None}
use Rattle.zpl_lists.specs.Front.{IsFrontOf}
use Rattle.zpl_nums.specs.declared.ends.End.TheVariants.{Done}
use Rattle.node_form.specs.declared.tables.Tables.{Tables}
use Rattle.grid_meaning.specs.Grid.{EndsAs}
use Rattle.grid_runs.specs.Run.{GoesOnTo, grid_at}
use Rattle.call_claims.specs.Command.{Asked, asked_on, build_of}
use Rattle.call_claims.specs.Execution.{Execution}
use Rattle.run_claims.specs.of_exec_claims.Cause.{run_of}
use Rattle.run_claims.specs.of_list_claims.Code.{IsCodeOf}
use Rattle.program_texts.specs.Text.{drawn_program}
use Rattle.gen_claims.specs.Grids.{NamedGrid, IsNext, grids, line_of}

-- ---- executions
abbrev pub no_execution : Execution
no_execution = record { code = None; turns = 0 }

abbrev pub execution_with : Tables → ℕ → Execution
execution_with code turns = record { code = Some code; turns = turns }

-- ---- runs
-- The code is made of the program that is drawn from the number, for the grid and as the words ask
-- for it, and goes on for so many turns round the processors.
pub record IsRunOf (seed : ℕ) (asked : Asked) (grid : NamedGrid) (code : Tables) (turns : ℕ)
    : Type 0 where
  pub of_text : IsCodeOf (drawn_program seed) (build_of (asked_on asked grid.factors)) code
  pub goes_on : GoesOnTo (run_of code asked []) turns

-- it ends normally
abbrev pub EndsNormally : Asked → Tables → ℕ → Type 0
EndsNormally asked code turns = EndsAs (grid_at (run_of code asked []) turns) Done

-- the line of such a run
abbrev pub line_for : ℕ → Asked → NamedGrid → Tables → ℕ → List ℕ
line_for seed asked grid code turns =
    line_of seed grid.name (grid_at (run_of code asked []) turns).printed

-- On these grids, one after another, the runs ended normally: what the last one was, and their
-- lines.
pub data Went (seed : ℕ) (asked : Asked) : List NamedGrid → Execution → List ℕ → Type 0 where
  none_yet : Went seed asked [] no_execution []
  one_more : {before : List NamedGrid} {last : Execution} {lines : List ℕ}
      (grid : NamedGrid) (code : Tables) (turns : ℕ) → Went seed asked before last lines
      → IsRunOf seed asked grid code turns → EndsNormally asked code turns
      → Went seed asked (before ++ grid ∷ []) (execution_with code turns)
      (lines ++ line_for seed asked grid code turns)

-- The runs that were begun, on the first grids, up to this one: each of them ended normally, or each
-- but the last one, which may have, and has no line.
pub data Begun (seed : ℕ) (asked : Asked) : Execution → List ℕ → Type 0 where
  all_ended : {so_far : List NamedGrid} {last : Execution} {lines : List ℕ}
      → Went seed asked so_far last lines → IsFrontOf so_far grids → Begun seed asked last lines
  one_begun : {before : List NamedGrid} {last : Execution} {lines : List ℕ}
      (grid : NamedGrid) (code : Tables) (turns : ℕ) → Went seed asked before last lines
      → IsNext before grid → IsRunOf seed asked grid code turns
      → Begun seed asked (execution_with code turns) lines
