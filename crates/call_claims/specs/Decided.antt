-- When a status tells what was decided.
use Rattle.std.specs.Prelude.{◌≡◌, ◌≢◌, ℕ, List}
use Rattle.call_claims.specs.Call.{Call}
use Rattle.call_claims.specs.declared.status.TheConstants.{UNREADABLE, PUT_FAILED, NO_MEMORY}

-- it is neither that of a failed put (9) nor that of want of memory (10)
pub record IsDecided (status : ℕ) : Type 0 where
  pub put : status ≢ PUT_FAILED
  pub memory : status ≢ NO_MEMORY

-- nor is it that of a failed fetch (2), and the files tell at most one text under each name
pub record IsSettled (call : Call) (status : ℕ) : Type 0 where
  pub decided : IsDecided status
  pub read : status ≢ UNREADABLE
  pub one : (file text other : List ℕ) → call.tells file text → call.tells file other → text ≡ other
