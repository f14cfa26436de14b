-- Why a call of `exec` has its status, and what is told of it: by the command, the files, the
-- listing, the check of its code, the order, and the run.
use Rattle.std.specs.Prelude.{◌≡◌, ℕ, ◌<◌, ◌≤◌, Bool, true, false, IsTrue, List, [], ◌++◌, length, Option}
use Rattle.std.specs.Prelude.{Some, None, Ok, Err, codes}
use Rattle.zpl_nums.specs.declared.ends.End.TheVariants.{Done, Trap}
use Rattle.zpl_nums.specs.declared.ends.TrapKind.{TrapKind}
use Rattle.node_form.specs.declared.tables.Tables.{Tables}
use Rattle.grid_meaning.specs.Action.{StuckKind}
use Rattle.grid_meaning.specs.Grid.{EndsAs, processors, start_grid}
use Rattle.grid_order.specs.Reading.{reading}
use Rattle.node_check.specs.Sound.{IsChecked, IsFaulty}
use Rattle.node_check.specs.declared.faults.CheckFault.TheVariants.{TooLarge, Unsound}
use Rattle.listing_lines.specs.Listing.{IsBadLine}
use Rattle.node_text.specs.Listing.{IsBadTable, IsListing}
use Rattle.call_claims.specs.Call.{Call}
use Rattle.call_claims.specs.Execution.{Execution, HasNoRun}
use Rattle.call_claims.specs.Texts.{unreadable_text, too_long_text, trap_text}
use Rattle.call_claims.specs.Texts.{turn_limit_text, no_memory_text}
use Rattle.call_claims.specs.declared.status.TheConstants.{DONE, UNREADABLE, TOO_LONG}
use Rattle.call_claims.specs.declared.status.TheConstants.{TRAPPED, TURN_LIMIT, NO_MEMORY}
use Rattle.call_claims.specs.Command.{Asked, Asks, IsExec, limit_of}
use Rattle.grid_runs.specs.Run.{Run, grid_at, GoesOnTo, IsStuckAt, IsIdleAt, IsLimitedAt}
use Rattle.exec_claims.specs.Texts.{order_refused_text, listing_refused_text, report_text}
use Rattle.exec_claims.specs.Texts.{stuck_text, kind_name, idle_name, unsound_text, check_limit_text}
use Rattle.exec_claims.specs.declared.limits.TheConstants.{MOST_LISTING}
use Rattle.exec_claims.specs.declared.status.TheConstants.{ORDER_REFUSED, LISTING_REFUSED, STUCK}
use Rattle.exec_claims.specs.declared.status.TheConstants.{UNSOUND, CHECK_LIMIT}

-- ---- a run
-- the report after k turns, where one is wanted
abbrev pub report_at : Run → Bool → ℕ → List ℕ
report_at run false k = []
report_at run true k = report_text k (grid_at run k).sends (grid_at run k).words

-- What came of a run after k turns: it is over and ended normally or with a trap, all turns were
-- given, the next turn is stuck, or no processor can move. The report follows what is told.
pub data RunCause (run : Run) (report : Bool) (k : ℕ) : ℕ → List ℕ → Type 0 where
  done : EndsAs (grid_at run k) Done → RunCause run report k DONE (report_at run report k)
  trap : (kind : TrapKind) (line : ℕ) → EndsAs (grid_at run k) (Trap kind line)
      → RunCause run report k TRAPPED (trap_text kind line ++ report_at run report k)
  turn_limit : IsLimitedAt run k
      → RunCause run report k TURN_LIMIT (turn_limit_text ++ report_at run report k)
  stuck : (p : ℕ) (kind : StuckKind) → IsStuckAt run k p kind
      → RunCause run report k STUCK (stuck_text p (kind_name kind) ++ report_at run report k)
  idle : (p : ℕ) → IsIdleAt run k p
      → RunCause run report k STUCK (stuck_text p idle_name ++ report_at run report k)

-- ---- the text of an order
-- the run of the code under an order, as the words ask for it
abbrev pub run_of : Tables → Asked → List ℕ → Run
run_of code asked order =
    record {
      code = code;
      capacity = asked.links;
      start = start_grid code;
      order = order;
      limit = limit_of asked;
    }

-- An item of the text is wrong, the first such at this byte; or the code was run under the order.
pub data OrderCause (code : Tables) (asked : Asked) (turns : ℕ) (text : List ℕ)
    : ℕ → List ℕ → Type 0 where
  bad_item : (at : ℕ) → reading (processors code) text ≡ Err at → turns ≡ 0
      → OrderCause code asked turns text ORDER_REFUSED (order_refused_text at)
  ran : {status : ℕ} {told : List ℕ} (order : List ℕ) → reading (processors code) text ≡ Ok order
      → GoesOnTo (run_of code asked order) turns
      → RunCause (run_of code asked order) asked.report turns status told
      → OrderCause code asked turns text status told

-- ---- files
-- the file tells this text, which isn't too long for a listing or an order
pub record Source (call : Call) (file : List ℕ) : Type 0 where
  pub text : List ℕ
  pub told : call.tells file text
  pub short : length text ≤ MOST_LISTING

-- it tells one that is
pub record IsTooLong (call : Call) (file : List ℕ) : Type 0 where
  pub text : List ℕ
  pub told : call.tells file text
  pub long : MOST_LISTING < length text

-- The file can't be read, where its fetch may fail, or is too long, and nothing goes on behind; or
-- there is the cause that work on its text has.
pub data TextCause (call : Call) (file : List ℕ) (May Ends : Type 0)
    (Works : List ℕ → ℕ → List ℕ → Type 0) : ℕ → List ℕ → Type 0 where
  unreadable : May → Ends → TextCause call file May Ends Works UNREADABLE (unreadable_text file)
  too_long : IsTooLong call file → Ends
      → TextCause call file May Ends Works TOO_LONG (too_long_text file)
  work : {status : ℕ} {told : List ℕ} (source : Source call file)
      → Works source.text status told → TextCause call file May Ends Works status told

-- The order is the empty one where no word names a file. Its fetch is not the first of the call.
abbrev pub OrderFileCause : Call → Tables → Asked → ℕ → Option (List ℕ) → ℕ → List ℕ → Type 0
OrderFileCause call code asked turns None = OrderCause code asked turns []
OrderFileCause call code asked turns (Some file) =
    TextCause call file (call.may_fail_later file) (turns ≡ 0) (OrderCause code asked turns)

-- ---- the check of code
-- The code isn't too large for a check and isn't sound: the demand of this instruction isn't met; or
-- it is too large.
pub data CheckFails (code : Tables) : ℕ → List ℕ → Type 0 where
  unsound : (at : ℕ) → IsFaulty code (Unsound at) → CheckFails code UNSOUND (unsound_text at)
  too_large : IsFaulty code TooLarge → CheckFails code CHECK_LIMIT check_limit_text

-- the code passes the check, where the words ask for one: it is sound, and not too large
abbrev pub PassesCheck : Asked → Tables → Type 0
PassesCheck asked code = IsTrue asked.checked → (links : ℕ) × IsChecked code links

-- The words ask that the code be checked, and the check of it fails; or there is the cause of the
-- order and the run.
pub data CodeCause (call : Call) (asked : Asked) (turns : ℕ) (code : Tables) : ℕ → List ℕ → Type 0
  where
    fails : {status : ℕ} {told : List ℕ} → IsTrue asked.checked → turns ≡ 0
        → CheckFails code status told → CodeCause call asked turns code status told
    passes : {status : ℕ} {told : List ℕ} → PassesCheck asked code
        → OrderFileCause call code asked turns asked.order status told
        → CodeCause call asked turns code status told

-- ---- the text of a listing
-- It is no listing, and why; or it is that of the code, and there is the cause that work on that
-- has.
pub data ListingCause (execution : Execution) (Works : Tables → ℕ → List ℕ → Type 0)
    (text : List ℕ) : ℕ → List ℕ → Type 0 where
  bad_line : (line : ℕ) → IsBadLine text line → HasNoRun execution
      → ListingCause execution Works text LISTING_REFUSED
      (listing_refused_text (codes "BadLine") line)
  bad_table : (line : ℕ) → IsBadTable text line → HasNoRun execution
      → ListingCause execution Works text LISTING_REFUSED
      (listing_refused_text (codes "BadTable") line)
  listed : {status : ℕ} {told : List ℕ} (code : Tables) → IsListing text code
      → execution.code ≡ Some code → Works code status told
      → ListingCause execution Works text status told

-- of the file
abbrev pub ListedCause : Call → List ℕ → Execution → (Tables → ℕ → List ℕ → Type 0) → ℕ → List ℕ
    → Type 0
ListedCause call file execution Works =
    TextCause call file (call.may_fail file) (HasNoRun execution) (ListingCause execution Works)

-- exec FILE
abbrev pub ListingFileCause : Call → List ℕ → Asked → Execution → ℕ → List ℕ → Type 0
ListingFileCause call file asked execution =
    ListedCause call file execution (CodeCause call asked execution.turns)

-- The words run a listing, and this holds of its file and of what they ask for.
abbrev pub Execs : Call → (List ℕ → Asked → Type 0) → Type 0
Execs call = Asks IsExec call.words

-- ---- any call
-- The cause of a status, and what is told of it. A failed put is no cause of these.
pub data Cause (call : Call) (execution : Execution) : ℕ → List ℕ → Type 0 where
  no_memory : Cause call execution NO_MEMORY no_memory_text
  exec : {status : ℕ} {told : List ℕ}
      → Execs call (λ file asked. ListingFileCause call file asked execution status told)
      → Cause call execution status told
