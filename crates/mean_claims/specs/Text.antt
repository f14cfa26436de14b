-- What a text comes to under settings.
use Rattle.std.specs.Prelude.{ℕ, List}
use Rattle.zpl_tree.specs.Syntax.{Program}
use Rattle.zpl_binding.specs.Settings.{Setting}
use Rattle.zpl_binding.specs.Outcome.{BindFault}
use Rattle.zpl_binding.specs.Bound.{HasBindFault, IsAcceptedWith}
use Rattle.zpl_meaning.specs.Program.{Meaning, mean_of}
use Rattle.call_claims.specs.Accepted.{IsAccepted}

-- The text is accepted, and a fault of the settings, or of its declarations under them, holds.
pub record IsUnboundWith (text : List ℕ) (settings : List Setting) (fault : BindFault) : Type 0
  where
    pub program : Program
    pub accepted : IsAccepted text program
    pub holds : HasBindFault program settings fault

-- The text is accepted, and so are the settings: this holds of its meaning under them, with at most
-- so many turns of each loop that is entered.
pub record HasMeaning (text : List ℕ) (settings : List Setting) (loops : ℕ)
    (Holds : Meaning → Type 0) : Type 0 where
  pub program : Program
  pub accepted : IsAccepted text program
  pub bound : IsAcceptedWith program settings
  pub holds : Holds (mean_of program settings loops)
