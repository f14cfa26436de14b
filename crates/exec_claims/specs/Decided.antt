-- When each status comes.
use Rattle.std.specs.Prelude.{◌≡◌, ◌≢◌, ◌⊎◌, ℕ, IsTrue, List, [], Option, Some, None, Ok, Err, ⊤}
use Rattle.zpl_nums.specs.declared.ends.End.TheVariants.{Done, Trap}
use Rattle.zpl_nums.specs.declared.ends.TrapKind.{TrapKind}
use Rattle.node_form.specs.declared.tables.Tables.{Tables}
use Rattle.grid_meaning.specs.Action.{StuckKind}
use Rattle.grid_meaning.specs.Grid.{EndsAs, processors}
use Rattle.grid_order.specs.Reading.{reading}
use Rattle.node_check.specs.Sound.{IsFaulty}
use Rattle.node_check.specs.declared.faults.CheckFault.TheVariants.{TooLarge, Unsound}
use Rattle.node_text.specs.Listing.{IsListing}
use Rattle.call_claims.specs.Call.{Call}
use Rattle.call_claims.specs.Execution.{Execution}
use Rattle.call_claims.specs.declared.status.TheConstants.{UNREADABLE}
use Rattle.call_claims.specs.Command.{Asked}
use Rattle.exec_claims.specs.Cause.{Execs, PassesCheck, Source, IsTooLong, run_of}
use Rattle.grid_runs.specs.Run.{Run, grid_at, GoesOnTo, IsStuckAt, IsIdleAt}

-- ---- a run of the listed code
-- the text of the order: that of its file, and none where no word names one
abbrev pub IsOrderText : Call → Option (List ℕ) → List ℕ → Type 0
IsOrderText call None text = text ≡ []
IsOrderText call (Some file) text = (source : Source call file) × (source.text ≡ text)

-- The code is the listed one, passes the check where the words ask for one, and was run under the
-- order that they ask for; this holds of the run and of the turns given.
pub record HasRun (call : Call) (file : List ℕ) (asked : Asked) (execution : Execution)
    (Holds : Run → ℕ → Type 0) : Type 0 where
  pub source : Source call file
  pub code : Tables
  pub listing : IsListing source.text code
  pub made : execution.code ≡ Some code
  pub sound : PassesCheck asked code
  pub text : List ℕ
  pub order_text : IsOrderText call asked.order text
  pub order : List ℕ
  pub read : reading (processors code) text ≡ Ok order
  pub goes_on : GoesOnTo (run_of code asked order) execution.turns
  pub holds : Holds (run_of code asked order) execution.turns

abbrev pub RunsTo : Call → Execution → (Run → ℕ → Type 0) → Type 0
RunsTo call execution Holds = Execs call (λ file asked. HasRun call file asked execution Holds)

-- ---- how runs end
-- 0
abbrev pub IsDoneAt : Run → ℕ → Type 0
IsDoneAt run k = EndsAs (grid_at run k) Done

-- 7
abbrev pub IsTrapAt : Run → ℕ → Type 0
IsTrapAt run k = (kind : TrapKind) × (line : ℕ) × EndsAs (grid_at run k) (Trap kind line)

-- 12
abbrev pub IsStuckOrIdleAt : Run → ℕ → Type 0
IsStuckOrIdleAt run k =
    ((p : ℕ) × (kind : StuckKind) × IsStuckAt run k p kind) ⊎ ((p : ℕ) × IsIdleAt run k p)

-- ---- the listing
-- 11: the words run a file that tells a text, not too long, that is no listing
abbrev pub HasNoListing : Call → List ℕ → Type 0
HasNoListing call file =
    (source : Source call file) × ((code : Tables) → ¬ IsListing source.text code)

abbrev pub ExecsNoListing : Call → Type 0
ExecsNoListing call = Execs call (λ file asked. HasNoListing call file)

-- the file tells a text, not too long, that is a listing, and this holds of the listed code
pub record HasListing (call : Call) (file : List ℕ) (Holds : Tables → Type 0) : Type 0 where
  pub source : Source call file
  pub code : Tables
  pub listing : IsListing source.text code
  pub holds : Holds code

-- ---- the check of its code
-- 13: it isn't too large for a check, and the demand of an instruction isn't met
abbrev pub IsUnsound : Tables → Type 0
IsUnsound code = (at : ℕ) × IsFaulty code (Unsound at)

-- 14: it is too large for a check
abbrev pub IsTooLarge : Tables → Type 0
IsTooLarge code = IsFaulty code TooLarge

-- the words run a file with a listing and have its code checked, of which this holds
abbrev pub ExecsChecked : Call → (Tables → Type 0) → Type 0
ExecsChecked call Holds = Execs call (λ file asked. HasListing call file
    (λ code. IsTrue asked.checked × Holds code))

-- the listed code passes where the words ask for a check, and this holds of it
abbrev pub HasPassed : Call → List ℕ → Asked → (Tables → Type 0) → Type 0
HasPassed call file asked Holds =
    HasListing call file (λ code. PassesCheck asked code × Holds code)

-- ---- the order
-- where words name its file, no fetch failed, and the file tells at most one text
abbrev pub IsOneOrder : Call → ℕ → Option (List ℕ) → Type 0
IsOneOrder call status None = ⊤
IsOneOrder call status (Some file) = (status ≢ UNREADABLE)
    × ((text other : List ℕ) → call.tells file text → call.tells file other → text ≡ other)

-- the text of its file is too long
abbrev pub HasLongOrder : Call → Option (List ℕ) → Type 0
HasLongOrder call None = ⊥
HasLongOrder call (Some file) = IsTooLong call file

-- 3: the words run a file that tells a text that is too long; or one with a listing, whose code
-- passes, and the file of the order tells such a text
abbrev pub ExecsTooLong : Call → Type 0
ExecsTooLong call = Execs call (λ file asked. IsTooLong call file
    ⊎ HasPassed call file asked (λ code. HasLongOrder call asked.order))

-- 6: an item of the order's text is wrong, for so many processors as the code has
pub record HasBadOrder (call : Call) (asked : Asked) (code : Tables) : Type 0 where
  pub text : List ℕ
  pub order_text : IsOrderText call asked.order text
  pub at : ℕ
  pub bad : reading (processors code) text ≡ Err at

-- the words run a file with a listing, whose code passes, and that is so
abbrev pub ExecsBadOrder : Call → Type 0
ExecsBadOrder call = Execs call (λ file asked. HasPassed call file asked (HasBadOrder call asked))
