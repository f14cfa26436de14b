-- What is computed before a run.
use Rattle.std.specs.Prelude.{◌≡◌}
use Rattle.zpl_binding.specs.Outcome.{Outcome, Gives}

-- it has a value, and no fault
pub record IsGiven (A : Type 0) (outcome : Outcome A) : Type 0 where
  pub value : A
  pub given : outcome ≡ Gives value
