-- Calls of `list` that have all that they need, and what they then answer.
use Rattle.std.specs.Prelude.{◌≡◌, ℕ, List, Some}
use Rattle.zpl_tree.specs.Syntax.{Program}
use Rattle.zpl_compile.specs.Compile.{compiled}
use Rattle.call_claims.specs.Call.{Call}
use Rattle.call_claims.specs.Command.{Asked, build_of}
use Rattle.call_claims.specs.Execution.{Execution}
use Rattle.call_claims.specs.Source.{Source}
use Rattle.call_claims.specs.declared.status.TheConstants.{DONE}
use Rattle.list_claims.specs.Code.{IsAcceptedFor}

-- The file tells a text that has a program for what the words ask for.
pub record CanList (call : Call) (file : List ℕ) (asked : Asked) : Type 0 where
  pub source : Source call file
  pub program : Program
  pub accepted : IsAcceptedFor source.text (build_of asked) program

-- What the program is compiled to was made, and all was done.
pub record HasListed {call : Call} {file : List ℕ} {asked : Asked} (can : CanList call file asked)
    (execution : Execution) (status : ℕ) : Type 0 where
  pub done : status ≡ DONE
  pub made : execution.code ≡ Some (compiled (build_of asked) can.program)
