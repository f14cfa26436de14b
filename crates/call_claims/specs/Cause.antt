-- Why a call on a program's file has its status, as far as the file goes.
use Rattle.std.specs.Prelude.{ℕ, ◌<◌, List, length}
use Rattle.zpl_text.specs.declared.TheConstants.{MOST_SOURCE}
use Rattle.call_claims.specs.Call.{Call}
use Rattle.call_claims.specs.Execution.{Execution, HasNoRun}
use Rattle.call_claims.specs.Source.{Source}
use Rattle.call_claims.specs.Texts.{unreadable_text, too_long_text}
use Rattle.call_claims.specs.declared.status.TheConstants.{UNREADABLE, TOO_LONG}

-- A text that the file tells is too long for a program.
pub record IsTooLong (call : Call) (file : List ℕ) : Type 0 where
  pub text : List ℕ
  pub told : call.tells file text
  pub long : MOST_SOURCE < length text

-- The file can't be read or is too long, or there is the cause that work on its text has.
pub data FileCause (call : Call) (file : List ℕ) (execution : Execution)
    (Works : List ℕ → ℕ → List ℕ → Type 0) : ℕ → List ℕ → Type 0 where
  unreadable : call.may_fail file → HasNoRun execution
      → FileCause call file execution Works UNREADABLE (unreadable_text file)
  too_long : IsTooLong call file → HasNoRun execution
      → FileCause call file execution Works TOO_LONG (too_long_text file)
  work : {status : ℕ} {told : List ℕ} (source : Source call file)
      → Works source.text status told → FileCause call file execution Works status told
