-- What a call of `run` answers: its code and counts, and what the stream for output took.
use Rattle.std.specs.Prelude.{◌≡◌, ◌⊎◌, ℕ, List, [], Option, Some, None}
use Rattle.zpl_io.specs.Sink.{Takes}
use Rattle.node_form.specs.declared.tables.Tables.{Tables}
use Rattle.grid_runs.specs.Run.{grid_at, IsCutOff}
use Rattle.call_claims.specs.declared.ran.Ran.{Ran}
use Rattle.call_claims.specs.Call.{Call}
use Rattle.call_claims.specs.Execution.{HasNoCounts}
use Rattle.list_claims.specs.Listing.{IsMadeOf}
use Rattle.call_claims.specs.Command.{Asked, build_of}
use Rattle.exec_claims.specs.Answer.{HasCounts}
use Rattle.exec_claims.specs.Answer as orders
use Rattle.run_claims.specs.Cause.{Runs}

-- ---- the code and the counts
-- The code is made of the file's text, for the build. It was not run, or it was run under the order
-- that the words ask for, and the counts are those of its grid after the given turns.
pub record IsMade (call : Call) (ran : Ran) (file : List ℕ) (asked : Asked) (code : Tables)
    : Type 0 where
  pub made : IsMadeOf call file (build_of asked) code
  pub counts : HasNoCounts ran ⊎ orders.Runs call code asked (λ run. HasCounts run ran)

abbrev pub IsMadeFor : Call → Ran → Tables → Type 0
IsMadeFor call ran code =
    Runs call (λ file asked. IsMade call ran file asked code)

-- ---- what the stream for output took
-- nothing where no turn was given, and what is printed in the given turns of the run
abbrev pub TakesPrinted :
    Call → Ran → (List ℕ → Type 0) → (List ℕ → Type 0) → Option Tables → Type 0
TakesPrinted call ran before after None = Takes before [] after
TakesPrinted call ran before after (Some code) =
    (HasNoCounts ran × Takes before [] after)
    ⊎ Runs call (λ file asked. orders.Runs call code asked
    (λ run. Takes before (grid_at run ran.turns).printed after))

-- The code was run, and the stream took what is printed in the given turns and a front of what the
-- next turn prints.
pub record IsCutIn (call : Call) (ran : Ran) (asked : Asked) (before after : List ℕ → Type 0)
    : Type 0 where
  pub code : Tables
  pub made : ran.code ≡ Some code
  pub runs : orders.Runs call code asked (λ run. IsCutOff run ran.turns before after)

abbrev pub IsOutputCut : Call → Ran → (List ℕ → Type 0) → (List ℕ → Type 0) → Type 0
IsOutputCut call ran before after =
    Runs call (λ file asked. IsCutIn call ran asked before after)
