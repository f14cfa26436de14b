-- What a call of `exec` answers: its code and counts, and what the stream for output took.
use Rattle.std.specs.Prelude.{◌≡◌, ◌⊎◌, ℕ, ◌≤◌, List, [], Option, Some, None, Ok}
use Rattle.zpl_io.specs.Sink.{Takes}
use Rattle.node_form.specs.declared.tables.Tables.{Tables}
use Rattle.grid_meaning.specs.Grid.{processors}
use Rattle.grid_order.specs.Reading.{reading}
use Rattle.node_text.specs.Listing.{IsListing}
use Rattle.call_claims.specs.declared.ran.Ran.{Ran}
use Rattle.call_claims.specs.Call.{Call}
use Rattle.call_claims.specs.Execution.{HasNoCounts}
use Rattle.call_claims.specs.Command.{Asked}
use Rattle.exec_claims.specs.Cause.{Execs, Source, run_of}
use Rattle.exec_claims.specs.Decided.{IsOrderText}
use Rattle.grid_runs.specs.Run.{Run, grid_at, turns_in, GoesOnTo}

-- ---- the code and the counts
-- the file's text is the listing of the code
pub record IsListedIn (call : Call) (file : List ℕ) (code : Tables) : Type 0 where
  pub source : Source call file
  pub listing : IsListing source.text code

-- The counts are those of the grid under this run, after the given turns, before which it is
-- neither over nor idle, and none of which is stuck.
pub record HasCounts (run : Run) (ran : Ran) : Type 0 where
  pub goes_on : GoesOnTo run ran.turns
  pub within : ran.turns ≤ turns_in run
  pub sends : ran.sends ≡ (grid_at run ran.turns).sends
  pub words : ran.words_sent ≡ (grid_at run ran.turns).words

-- The code was run under the order that the words ask for, and this holds of the run.
pub record Runs (call : Call) (code : Tables) (asked : Asked) (Holds : Run → Type 0) : Type 0 where
  pub text : List ℕ
  pub order_text : IsOrderText call asked.order text
  pub order : List ℕ
  pub read : reading (processors code) text ≡ Ok order
  pub holds : Holds (run_of code asked order)

-- the code is the listed one; it was not run, or the counts are those of its run
pub record IsRead (call : Call) (ran : Ran) (file : List ℕ) (asked : Asked) (code : Tables) : Type 0
  where
    pub listed : IsListedIn call file code
    pub counts : HasNoCounts ran ⊎ Runs call code asked (λ run. HasCounts run ran)

abbrev pub IsReadFor : Call → Ran → Tables → Type 0
IsReadFor call ran code = Execs call (λ file asked. IsRead call ran file asked code)

-- ---- what the stream for output took
-- nothing where no turn was given, and what is printed in the given turns of the run
abbrev pub TakesPrinted :
    Call → Ran → (List ℕ → Type 0) → (List ℕ → Type 0) → Option Tables → Type 0
TakesPrinted call ran before after None = Takes before [] after
TakesPrinted call ran before after (Some code) =
    (HasNoCounts ran × Takes before [] after)
    ⊎ Execs call (λ file asked. Runs call code asked
    (λ run. Takes before (grid_at run ran.turns).printed after))
