-- What a call of `resume` answers: its code and counts, and what the stream for output took.
use Rattle.std.specs.Prelude.{◌≡◌, ◌⊎◌, ℕ, ◌≤◌, List, [], Option, Some, None, Ok}
use Rattle.zpl_io.specs.Sink.{Takes}
use Rattle.node_form.specs.declared.tables.Tables.{Tables}
use Rattle.grid_meaning.specs.Grid.{Grid, processors}
use Rattle.grid_order.specs.Reading.{reading}
use Rattle.grid_runs.specs.Run.{Run, grid_at, turns_in}
use Rattle.saved_runs.specs.of_grid_save.Saved.{IsSaved}
use Rattle.exec_claims.specs.of_call_claims.declared.ran.Ran.{Ran}
use Rattle.exec_claims.specs.of_call_claims.Call.{Call}
use Rattle.exec_claims.specs.of_call_claims.Command.{Asked}
use Rattle.exec_claims.specs.Decided.{IsOrderText}
use Rattle.resume_claims.specs.Cause.{Onward, Resumes, Source, onward_run}

-- ---- the code and the counts
-- the file's text is the saved text of a grid of the code
pub record IsSavedIn (call : Call) (file : List ℕ) (code : Tables) (grid : Grid) : Type 0 where
  pub source : Source call file
  pub saved : IsSaved source.text code grid

-- the counts are those that are saved in a grid
pub record HasSavedCounts (grid : Grid) (ran : Ran) : Type 0 where
  pub turns : ran.turns ≡ grid.turns
  pub sends : ran.sends ≡ grid.sends
  pub words : ran.words_sent ≡ grid.words

-- they are those of the grid after k turns of the run
pub record HasCounts (run : Run) (ran : Ran) (k : ℕ) : Type 0 where
  pub within : k ≤ turns_in run
  pub sends : ran.sends ≡ (grid_at run k).sends
  pub words : ran.words_sent ≡ (grid_at run k).words

-- The run went on from the grid under the order that the words ask for, and this holds of it.
pub record Runs (call : Call) (code : Tables) (grid : Grid) (asked : Asked) (Holds : Run → Type 0)
    : Type 0 where
  pub text : List ℕ
  pub order_text : IsOrderText call asked.order text
  pub order : List ℕ
  pub read : reading (processors code) text ≡ Ok order
  pub holds : Holds (onward_run code grid asked order)

-- The code is that of the saved grid. No turn was given, and the counts are the saved ones; or they
-- are those of the run, which go on from these.
pub record IsRead (call : Call) (ran : Ran) (file : List ℕ) (asked : Asked) (code : Tables) : Type 0
  where
    pub grid : Grid
    pub saved : IsSavedIn call file code grid
    pub counts : HasSavedCounts grid ran
        ⊎ Runs call code grid asked (λ run. Onward run ran.turns (λ it k. HasCounts it ran k))

abbrev pub IsReadFor : Call → Ran → Tables → Type 0
IsReadFor call ran code = Resumes call (λ file asked. IsRead call ran file asked code)

-- ---- what the stream for output took
-- this holds of the run that went on from the saved grid, and of the turns that were given in it
pub record GoesOn (call : Call) (ran : Ran) (file : List ℕ) (asked : Asked) (code : Tables)
    (Holds : Run → ℕ → Type 0) : Type 0 where
  pub grid : Grid
  pub saved : IsSavedIn call file code grid
  pub runs : Runs call code grid asked (λ run. Onward run ran.turns Holds)

-- no turn was given from the saved grid
pub record StandsAt (call : Call) (ran : Ran) (file : List ℕ) (code : Tables) : Type 0 where
  pub grid : Grid
  pub saved : IsSavedIn call file code grid
  pub counts : HasSavedCounts grid ran

-- nothing where no turn was given, and what is printed in the given turns of the run
abbrev pub TakesPrinted :
    Call → Ran → (List ℕ → Type 0) → (List ℕ → Type 0) → Option Tables → Type 0
TakesPrinted call ran before after None = Takes before [] after
TakesPrinted call ran before after (Some code) =
    (Resumes call (λ file asked. StandsAt call ran file code) × Takes before [] after)
    ⊎ Resumes call (λ file asked. GoesOn call ran file asked code
    (λ run k. Takes before (grid_at run k).printed after))
