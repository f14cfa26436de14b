-- Calls of `mean` that have all that they need.
use Rattle.std.specs.Prelude.{◌≢◌, ℕ, List}
use Rattle.zpl_nums.specs.declared.ends.End.TheVariants.{More}
use Rattle.zpl_tree.specs.Syntax.{Program}
use Rattle.zpl_binding.specs.Bound.{IsAcceptedWith}
use Rattle.zpl_meaning.specs.Program.{Meaning, mean_of}
use Rattle.call_claims.specs.Accepted.{IsAccepted}
use Rattle.call_claims.specs.Call.{Call}
use Rattle.call_claims.specs.Command.{Asked, limit_of}
use Rattle.call_claims.specs.Source.{Source}

-- The file tells a text with an accepted program, the settings of the words are accepted, and what the
-- program means under them ends within the turns of each loop that are asked for.
pub record CanMean (call : Call) (file : List ℕ) (asked : Asked) : Type 0 where
  pub source : Source call file
  pub program : Program
  pub accepted : IsAccepted source.text program
  pub bound : IsAcceptedWith program asked.settings
  pub ends : (mean_of program asked.settings (limit_of asked)).ending ≢ More

-- what it means
abbrev pub meaning_in : {call : Call} {file : List ℕ} {asked : Asked} → CanMean call file asked
    → Meaning
meaning_in {asked = asked} can = mean_of can.program asked.settings (limit_of asked)
