-- What a call of `time` answers: its code and counts, and what the stream for output took.
--
--   IsReadFor      the code is the listed one, and the counts are those of its run
--   IsTimeText     the moves of a run, the ticks that they take at least, and a chain as long
--   TellsTime      of such a text this holds
--   TakesTime      the stream took the text of these
--   TakesOutput    what it took, by the status
use Rattle.std.specs.Prelude.{◌≡◌, ◌≢◌, ◌⊎◌, ℕ, List, [], length}
use Rattle.zpl_io.specs.Sink.{Takes, TakesFront}
use Rattle.node_form.specs.declared.tables.Tables.{Tables}
use Rattle.grid_runs.specs.Run.{Run}
use Rattle.grid_time.specs.Timed.{history_at}
use Rattle.grid_timetable.specs.Chain.{IsLongestChain}
use Rattle.grid_timetable.specs.History.{History, run_of}
use Rattle.grid_timetable.specs.Run.{IsLeastLength}
use Rattle.grid_timetable.specs.declared.segments.Segment.{Segment}
use Rattle.time_text.specs.Text.{time_text}
use Rattle.call_claims.specs.declared.ran.Ran.{Ran}
use Rattle.call_claims.specs.Call.{Call}
use Rattle.call_claims.specs.Command.{latency_of}
use Rattle.call_claims.specs.Execution.{Execution}
use Rattle.call_claims.specs.declared.status.TheConstants.{DONE, TRAPPED, NO_MEMORY}
use Rattle.exec_claims.specs.Answer.{IsRead}
use Rattle.exec_claims.specs.Decided.{HasRun}
use Rattle.time_claims.specs.Cause.{Times}

abbrev pub IsReadFor : Call → Ran → Tables → Type 0
IsReadFor call ran code = Times call (λ file asked. IsRead call ran file asked code)

-- ---- the time of a run
-- The text tells how many moves these are, how many ticks they take at least where all processors
-- work at once, and a chain as long.
pub record IsTimeText (history : History) (text : List ℕ) : Type 0 where
  pub ticks : ℕ
  pub chain : List Segment
  pub least : IsLeastLength (run_of history) ticks
  pub longest : IsLongestChain (run_of history) chain
  pub is : text ≡ time_text (length history.moves) ticks chain

-- of such a text for the first k turns of a run this holds
pub record TellsTime (run : Run) (latency k : ℕ) (Holds : List ℕ → Type 0) : Type 0 where
  pub text : List ℕ
  pub is : IsTimeText (history_at run latency k) text
  pub holds : Holds text

abbrev pub TimesTo : Call → Execution → (List ℕ → Type 0) → Type 0
TimesTo call execution Holds = Times call (λ file asked. HasRun call file asked execution
    (λ run k. TellsTime run (latency_of asked) k Holds))

-- the stream took that text; or a front of it
abbrev pub TakesTime : Call → Execution → (List ℕ → Type 0) → (List ℕ → Type 0) → Type 0
TakesTime call execution before after =
    TimesTo call execution (λ text. Takes before text after)

abbrev pub TakesTimeFront : Call → Execution → (List ℕ → Type 0) → (List ℕ → Type 0) → Type 0
TakesTimeFront call execution before after =
    TimesTo call execution (λ text. TakesFront before text after)

-- ---- what it took, by the status
-- a run is over: 0 and 7
abbrev pub IsOverStatus : ℕ → Type 0
IsOverStatus n = (n ≡ DONE) ⊎ (n ≡ TRAPPED)

-- The text where the run is over. Where memory was wanting, the text or nothing; and elsewhere
-- nothing.
pub record TakesOutput (call : Call) (execution : Execution) (status : ℕ)
    (before after : List ℕ → Type 0) : Type 0 where
  pub over : IsOverStatus status → TakesTime call execution before after
  pub wanting : status ≡ NO_MEMORY → TakesTime call execution before after ⊎ Takes before [] after
  pub none : ¬ IsOverStatus status → status ≢ NO_MEMORY → Takes before [] after
