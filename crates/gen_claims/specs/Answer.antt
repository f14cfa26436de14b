-- What a call of `gen` answers: its code and counts, and what the stream for output took.
use Rattle.std.specs.Prelude.{◌≡◌, ℕ, List, [], ◌∷◌, ◌++◌}
use Rattle.zpl_lists.specs.Front.{IsFrontOf}
use Rattle.zpl_io.specs.Sink.{Takes}
use Rattle.node_form.specs.declared.tables.Tables.{Tables}
use Rattle.call_claims.specs.Command.{Asked, asked_on, build_of}
use Rattle.call_claims.specs.Execution.{Execution}
use Rattle.call_claims.specs.declared.ran.Ran.{Ran}
use Rattle.call_claims.specs.declared.status.TheConstants.{DONE}
use Rattle.run_claims.specs.of_exec_claims.Answer.{HasCounts}
use Rattle.run_claims.specs.of_exec_claims.Cause.{run_of}
use Rattle.run_claims.specs.of_list_claims.Code.{IsCodeOf}
use Rattle.program_texts.specs.Text.{drawn_program}
use Rattle.gen_claims.specs.Cause.{Gens}
use Rattle.gen_claims.specs.Grids.{NamedGrid, IsNext, grids}
use Rattle.gen_claims.specs.Meant.{AreMeantFor}
use Rattle.gen_claims.specs.Runs.{Begun, EndsNormally, IsRunOf, Went, execution_with, line_for}

-- ---- the code and the counts
-- The code is the drawn program's for one of the grids, that of the last run begun, and the counts
-- are those of its grid after the given turns.
pub record IsLastRun (seed : ℕ) (asked : Asked) (ran : Ran) (code : Tables) : Type 0 where
  pub before : List NamedGrid
  pub grid : NamedGrid
  pub next : IsNext before grid
  pub of_text : IsCodeOf (drawn_program seed) (build_of (asked_on asked grid.factors)) code
  pub counts : HasCounts (run_of code asked []) ran

abbrev pub IsRunFor : List (List ℕ) → Ran → Tables → Type 0
IsRunFor words ran code = Gens words (λ seed asked. IsLastRun seed asked ran code)

-- ---- what the stream for output took
-- They tell of what the program means, for the first grids; with status 0 for all.
pub record TellMeant (seed : ℕ) (asked : Asked) (status : ℕ) (lines : List ℕ) : Type 0 where
  pub so_far : List NamedGrid
  pub first : IsFrontOf so_far grids
  pub all : status ≡ DONE → so_far ≡ grids
  pub are : AreMeantFor seed asked so_far lines

-- The lines of the runs before the last one, or of this one too if it ended normally; with status 0
-- of this one too.
pub record AreLines (seed : ℕ) (asked : Asked) (execution : Execution) (status : ℕ)
    (lines : List ℕ) : Type 0 where
  pub begun : Begun seed asked execution lines
  pub all : status ≡ DONE → Went seed asked grids execution lines
  pub meant : TellMeant seed asked status lines

abbrev pub TakesLines :
    List (List ℕ) → Execution → ℕ → (List ℕ → Type 0) → (List ℕ → Type 0) → Type 0
TakesLines words execution status before after = Gens words (λ seed asked.
    (lines : List ℕ) × AreLines seed asked execution status lines × Takes before lines after)

-- The last run ended normally, and the stream took the lines of those before and a front of its
-- own. Whole, they would tell of what the program means.
pub record IsLineCut (seed : ℕ) (asked : Asked) (execution : Execution)
    (before after : List ℕ → Type 0) : Type 0 where
  pub so_far : List NamedGrid
  pub last : Execution
  pub lines : List ℕ
  pub grid : NamedGrid
  pub code : Tables
  pub turns : ℕ
  pub went : Went seed asked so_far last lines
  pub next : IsNext so_far grid
  pub run : IsRunOf seed asked grid code turns
  pub ends : EndsNormally asked code turns
  pub made : execution ≡ execution_with code turns
  pub meant : AreMeantFor seed asked (so_far ++ grid ∷ [])
      (lines ++ line_for seed asked grid code turns)
  pub front : List ℕ
  pub is_front : IsFrontOf front (line_for seed asked grid code turns)
  pub takes : Takes before (lines ++ front) after

abbrev pub TakesLinesFront :
    List (List ℕ) → Execution → (List ℕ → Type 0) → (List ℕ → Type 0) → Type 0
TakesLinesFront words execution before after =
    Gens words (λ seed asked. IsLineCut seed asked execution before after)
