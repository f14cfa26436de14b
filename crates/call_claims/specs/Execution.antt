-- What was made and run in a call.
use Rattle.std.specs.Prelude.{◌≡◌, ℕ, Option, Some, None}
use Rattle.zpl_claims.specs.of_node_form.declared.tables.Tables.{Tables}
use Rattle.call_claims.specs.declared.ran.Ran.{Ran}

-- the code that was made, where some was, and how many turns it was given
pub record Execution : Type 0 where
  pub code : Option Tables
  pub turns : ℕ

abbrev pub execution_of : Ran → Execution
execution_of ran = record { code = ran.code; turns = ran.turns }

-- ---- no code
-- No code was made, and nothing was run.
pub record HasNoRun (execution : Execution) : Type 0 where
  pub no_code : execution.code ≡ None
  pub no_turns : execution.turns ≡ 0

-- so the counts are 0
pub record HasNoCounts (ran : Ran) : Type 0 where
  pub turns : ran.turns ≡ 0
  pub sends : ran.sends ≡ 0
  pub words : ran.words_sent ≡ 0

-- ---- code
-- some code was made
pub record HasCode (execution : Execution) : Type 0 where
  pub code : Tables
  pub made : execution.code ≡ Some code
