-- The texts of programs' files.
use Rattle.std.specs.Prelude.{ℕ, ◌≤◌, List, length}
use Rattle.zpl_text.specs.declared.TheConstants.{MOST_SOURCE}
use Rattle.call_claims.specs.Call.{Call}

-- The file tells this text, which isn't too long for a program.
pub record Source (call : Call) (file : List ℕ) : Type 0 where
  pub text : List ℕ
  pub told : call.tells file text
  pub short : length text ≤ MOST_SOURCE
