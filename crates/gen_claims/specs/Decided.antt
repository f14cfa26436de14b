-- When each status comes.
--
--   HasRunOn, HasRun   the last run begun
--   IsCutShort         it was given too few turns
--   HasComeTo          the grid for which there is no code
--   IsExact            each status comes just where its own cause is
use Rattle.std.specs.Prelude.{◌≡◌, ◌≢◌, ◌↔◌, ℕ, List, [], Some}
use Rattle.node_form.specs.declared.tables.Tables.{Tables}
use Rattle.zpl_claims.specs.Build.{Build}
use Rattle.grid_runs.specs.Run.{GoesOnTo, IsLimitedAt, Run}
use Rattle.call_claims.specs.Command.{Asked, asked_on, build_of, limit_of}
use Rattle.call_claims.specs.Decided.{IsDecided}
use Rattle.call_claims.specs.Execution.{Execution}
use Rattle.call_claims.specs.declared.status.TheConstants.{DONE, REFUSED, UNBOUND}
use Rattle.call_claims.specs.declared.status.TheConstants.{TRAPPED, TURN_LIMIT}
use Rattle.run_claims.specs.of_exec_claims.Cause.{run_of}
use Rattle.run_claims.specs.of_exec_claims.Decided.{IsDoneAt, IsTrapAt}
use Rattle.run_claims.specs.of_exec_claims.declared.status.TheConstants.{STUCK}
use Rattle.run_claims.specs.of_list_claims.Code.{IsCodeOf}
use Rattle.run_claims.specs.of_list_claims.Refusal.{HasUnbound, IsRefused}
use Rattle.run_claims.specs.Decided.{IsTooFewFor}
use Rattle.program_texts.specs.Text.{drawn_program}
use Rattle.gen_claims.specs.Cause.{Gens}
use Rattle.gen_claims.specs.Grids.{NamedGrid, IsNext, five}
use Rattle.gen_claims.specs.Runs.{Went}

-- The last run begun was that of the drawn program's code for this grid, and this holds of it and of
-- the turns given.
pub record HasRunOn (seed : ℕ) (asked : Asked) (execution : Execution) (grid : NamedGrid)
    (Holds : Run → ℕ → Type 0) : Type 0 where
  pub code : Tables
  pub of_text : IsCodeOf (drawn_program seed) (build_of (asked_on asked grid.factors)) code
  pub made : execution.code ≡ Some code
  pub goes_on : GoesOnTo (run_of code asked []) execution.turns
  pub holds : Holds (run_of code asked []) execution.turns

-- it was that for one of the grids
pub record HasRun (seed : ℕ) (asked : Asked) (execution : Execution) (Holds : Run → ℕ → Type 0)
    : Type 0 where
  pub before : List NamedGrid
  pub grid : NamedGrid
  pub next : IsNext before grid
  pub on : HasRunOn seed asked execution grid Holds

-- It was given all turns, and is neither over nor idle. These are fewer than the bound wherever the
-- meaning ends.
pub record IsCutShort (seed : ℕ) (asked : Asked) (execution : Execution) : Type 0 where
  pub ran : HasRun seed asked execution IsLimitedAt
  pub too_few : IsTooFewFor (limit_of asked) ran.on.of_text

-- The runs on the grids before this one ended normally, and this holds of the text and of what it
-- is built for there.
pub record HasComeTo (seed : ℕ) (asked : Asked) (execution : Execution)
    (Holds : List ℕ → Build → Type 0) : Type 0 where
  pub before : List NamedGrid
  pub lines : List ℕ
  pub went : Went seed asked before execution lines
  pub grid : NamedGrid
  pub next : IsNext before grid
  pub holds : Holds (drawn_program seed) (build_of (asked_on asked grid.factors))

abbrev pub RunsTo : List (List ℕ) → Execution → (Run → ℕ → Type 0) → Type 0
RunsTo words execution Holds = Gens words (λ seed asked. HasRun seed asked execution Holds)

-- ---- each status comes just where its own cause is, where it is neither 9 nor 10
pub record IsExact (words : List (List ℕ)) (execution : Execution) (status : ℕ) : Type 0 where
  -- 0: the last run begun was that on five processors, and it ended normally
  pub done : IsDecided status
      → (status ≡ DONE) ↔ Gens words (λ seed asked. HasRunOn seed asked execution five IsDoneAt)
  -- 4 and 5: for the grid behind those on which the runs ended normally, the text is refused, or
  -- unbound
  pub refused : IsDecided status → (status ≡ REFUSED)
      ↔ Gens words (λ seed asked. HasComeTo seed asked execution IsRefused)
  pub unbound : IsDecided status → (status ≡ UNBOUND)
      ↔ Gens words (λ seed asked. HasComeTo seed asked execution HasUnbound)
  -- 7 and 8: the last run begun ended with a trap, or was cut short
  pub trap : IsDecided status → (status ≡ TRAPPED) ↔ RunsTo words execution IsTrapAt
  pub turn_limit : IsDecided status → (status ≡ TURN_LIMIT)
      ↔ Gens words (λ seed asked. IsCutShort seed asked execution)
  -- 12 never comes: the code goes on until it is over.
  pub never_stuck : status ≢ STUCK
