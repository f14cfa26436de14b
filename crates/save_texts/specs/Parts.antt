-- The parts of a saved text: counts, a listing, and the lines of states.
--
--   AreParts    bytes are these counts, and behind them a listing up to the first line of a state
--   IsFaultOf   whatever counts stand in front of them, this is why parts aren't saved
--   IsGridOf    whatever bytes have these parts are the saved text of this grid
use Rattle.std.specs.Prelude.{◌≡◌, ℕ, List, ◌++◌, None}
use Rattle.grid_sim.specs.declared.counts.Counts.{Counts}
use Rattle.grid_sim.specs.Simulation.{Simulation}
use Rattle.grid_save.specs.declared.faults.SaveFault.{SaveFault}
use Rattle.grid_save.specs.Fault.{Explains, HasParts, IsCut}
use Rattle.grid_save.specs.Saved.{AreCounted, IsSaved}
use Rattle.grid_save.specs.Written.{counts_text, version_text}

pub record AreParts (bytes : List ℕ) (counts : Counts) (listing state : List ℕ) : Type 0 where
  pub rest : List ℕ
  pub counted : AreCounted counts.turns counts.sends counts.words
  pub written : bytes ≡ version_text ++ (counts_text counts.turns counts.sends counts.words ++ rest)
  pub cut : IsCut rest listing state

pub record IsFaultOf (listing state : List ℕ) (fault : SaveFault) : Type 0 where
  pub explains : (bytes : List ℕ) → HasParts bytes listing state → Explains bytes fault

pub record IsGridOf (counts : Counts) (listing state : List ℕ) (sim : Simulation) : Type 0 where
  pub unbounded : sim.capacity ≡ None
  pub saved : (bytes : List ℕ) → AreParts bytes counts listing state → IsSaved bytes sim.code sim.grid
