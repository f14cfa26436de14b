-- When each status comes.
--
--   IsRunSettled      the status is neither 9 nor 10, and the order's file, if any, was fetched
--   HasCodeOf         code was made of the file's text
--   IsUnder           it was run under the order that the words ask for
--   IsTooFew          fewer turns than the bound on those of the code, wherever the meaning ends
--   IsExact           each status comes just where its own cause is
use Rattle.std.specs.Prelude.{◌≡◌, ◌≢◌, ◌⊎◌, ◌↔◌, ℕ, ◌<◌, List, Some, Ok}
use Rattle.zpl_nums.specs.declared.ends.End.TheVariants.{More}
use Rattle.node_form.specs.declared.tables.Tables.{Tables}
use Rattle.zpl_claims.specs.Build.{Build}
use Rattle.zpl_names.specs.Expansion.{shattered_loops}
use Rattle.zpl_meaning.specs.Program.{Meaning, mean_of, steps_of}
use Rattle.zpl_claims.specs.Bound.{turn_bound}
use Rattle.grid_meaning.specs.Grid.{processors}
use Rattle.grid_order.specs.Reading.{reading}
use Rattle.grid_runs.specs.Run.{Run, GoesOnTo, IsLimitedAt, Stops, turns_in}
use Rattle.call_claims.specs.Call.{Call}
use Rattle.call_claims.specs.Cause.{IsTooLong}
use Rattle.list_claims.specs.Decided.{HasNoProgramIn, HasUnboundIn}
use Rattle.call_claims.specs.Decided.{IsDecided, IsSettled}
use Rattle.call_claims.specs.Execution.{Execution}
use Rattle.list_claims.specs.Code.{IsCodeOf}
use Rattle.call_claims.specs.Source.{Source}
use Rattle.call_claims.specs.declared.status.TheConstants.{DONE, TOO_LONG, REFUSED}
use Rattle.call_claims.specs.declared.status.TheConstants.{UNBOUND, TRAPPED, TURN_LIMIT}
use Rattle.call_claims.specs.Command.{Asked, IsRun, build_of, limit_of}
use Rattle.exec_claims.specs.Cause.{run_of}
use Rattle.exec_claims.specs.Decided.{HasBadOrder, HasLongOrder, IsDoneAt, IsOneOrder, IsOrderText}
use Rattle.exec_claims.specs.Decided.{IsTrapAt}
use Rattle.exec_claims.specs.declared.status.TheConstants.{ORDER_REFUSED, STUCK}
use Rattle.run_claims.specs.Cause.{Runs}

-- ---- the order of a run
-- The status is neither that of a failed put nor that of want of memory; and where the words name
-- the file of an order, no fetch failed, and that file tells at most one text.
pub record IsRunSettled (call : Call) (status : ℕ) : Type 0 where
  pub decided : IsDecided status
  pub order : (file : List ℕ) (asked : Asked)
      → IsRun call.words file asked → IsOneOrder call status asked.order

-- ---- code
-- Code was made of the text that the file tells, and this holds of it.
pub record HasCodeOf (call : Call) (file : List ℕ) (build : Build)
    (execution : Execution) (Holds : Tables → Type 0) : Type 0 where
  pub source : Source call file
  pub code : Tables
  pub of_text : IsCodeOf source.text build code
  pub made : execution.code ≡ Some code
  pub holds : Holds code

-- It was run under the order that the words ask for, and this holds of the run and of the turns
-- given.
pub record IsUnder (call : Call) (asked : Asked) (turns : ℕ) (Holds : Run → ℕ → Type 0)
    (code : Tables) : Type 0 where
  pub text : List ℕ
  pub order_text : IsOrderText call asked.order text
  pub order : List ℕ
  pub read : reading (processors code) text ≡ Ok order
  pub goes_on : GoesOnTo (run_of code asked order) turns
  pub holds : Holds (run_of code asked order) turns

abbrev pub RunsTo : Call → Execution → (Run → ℕ → Type 0) → Type 0
RunsTo call execution Holds =
    Runs call (λ file asked. HasCodeOf call file (build_of asked) execution
    (IsUnder call asked execution.turns Holds))

-- ---- the last turn of a run
-- there it stops, or there are no turns left
abbrev pub IsLast : Run → ℕ → Type 0
IsLast run k = Stops run k ⊎ (k ≡ turns_in run)

-- ---- too few turns
-- Wherever the meaning ends within n turns of each loop, so many turns are fewer than the bound for
-- n.
abbrev pub IsTooFew : ℕ → Tables → (ℕ → Meaning) → (ℕ → ℕ) → ℕ → Type 0
IsTooFew limit code mean steps loops =
    (n : ℕ) → (mean n).ending ≢ More → limit < turn_bound code steps loops n

-- so of the code's program
abbrev pub IsTooFewFor : {text : List ℕ} {build : Build} {code : Tables} → ℕ
    → IsCodeOf text build code → Type 0
IsTooFewFor {build = build} {code = code} limit of_text =
    IsTooFew limit code (mean_of of_text.program build.settings)
    (steps_of of_text.program build.settings) (shattered_loops of_text.program)

-- 8: all turns of the order, and all that may follow it, were given, and the run isn't over. Those
-- that may follow are fewer than the bound wherever the meaning ends.
pub record IsCutShort (call : Call) (file : List ℕ) (asked : Asked) (execution : Execution)
    : Type 0 where
  pub of_code : HasCodeOf call file (build_of asked) execution
      (IsUnder call asked execution.turns IsLimitedAt)
  pub too_few : IsTooFewFor (limit_of asked) of_code.of_text

-- ---- 3: the program's file is too long, or that of the order, where code was made
abbrev pub HasLongFile : Call → List ℕ → Asked → Execution → Type 0
HasLongFile call file asked execution =
    IsTooLong call file
    ⊎ HasCodeOf call file (build_of asked) execution (λ code. HasLongOrder call asked.order)

-- ---- each status comes just where its own cause is
pub record IsExact (call : Call) (execution : Execution) (status : ℕ) : Type 0 where
  pub too_long : IsSettled call status
      → (status ≡ TOO_LONG) ↔ Runs call (λ file asked. HasLongFile call file asked execution)
  pub refused : IsSettled call status
      → (status ≡ REFUSED) ↔ Runs call (λ file asked. HasNoProgramIn call file (build_of asked))
  pub unbound : IsSettled call status
      → (status ≡ UNBOUND) ↔ Runs call (λ file asked. HasUnboundIn call file (build_of asked))
  pub order_refused : IsRunSettled call status
      → (status ≡ ORDER_REFUSED) ↔ Runs call (λ file asked.
      HasCodeOf call file (build_of asked) execution (HasBadOrder call asked))
  pub done : IsRunSettled call status → (status ≡ DONE) ↔ RunsTo call execution IsDoneAt
  pub trap : IsRunSettled call status → (status ≡ TRAPPED) ↔ RunsTo call execution IsTrapAt
  pub turn_limit : IsRunSettled call status
      → (status ≡ TURN_LIMIT) ↔ RunsTo call execution IsLimitedAt
  -- then the turns were too few
  pub too_few : status ≡ TURN_LIMIT
      → Runs call (λ file asked. IsCutShort call file asked execution)
  -- 12 never comes: the code goes on until it is over.
  pub never_stuck : status ≢ STUCK
