-- Where a run is, and whether it stops there.
use Rattle.std.specs.Prelude.{◌≡◌, ℕ, ◌+◌, ◌-◌, ◌%◌, ◌<◌, ◌≤◌, List, length, drop, Option, Some, None, Result, Ok, Err}
use Rattle.zpl_nums.specs.declared.ends.End.{End}
use Rattle.node_form.specs.declared.tables.Tables.{Tables}
use Rattle.node_turn.specs.declared.steps.StuckKind.{StuckKind}
use Rattle.node_turn.specs.declared.steps.StuckKind.TheVariants.{Idle}
use Rattle.grid_meaning.specs.Grid.{Grid, EndsAs, IsIdle}
use Rattle.grid_meaning.specs.Order.{turn_number}
use Rattle.grid_runs.specs.Run.{IsFirstRunning, IsStopped}
use Rattle.grid_sim.specs.declared.faults.SimFault.{SimFault}
use Rattle.grid_sim.specs.declared.faults.SimFault.TheVariants as fault
use Rattle.grid_sim.specs.declared.runs.Rounds.{Rounds}

-- ---- stops
-- all rest, and this is the first processor that has not ended
pub record IsIdleStop (code : Tables) (capacity : Option ℕ) (grid : Grid) (p : ℕ) (kind : StuckKind)
    : Type 0 where
  pub is_idle : kind ≡ Idle
  pub idle : IsIdle code capacity grid
  pub first : IsFirstRunning grid p

-- what is answered where the run stops, if it does
abbrev pub IsStop : Tables → Option ℕ → Grid → Option (Result End SimFault) → Type 0
IsStop code capacity grid None = IsStopped code capacity grid → ⊥
IsStop code capacity grid (Some (Ok ending)) = EndsAs grid ending
IsStop code capacity grid (Some (Err fault.TurnLimit)) = ⊥
IsStop code capacity grid (Some (Err fault.SinkFailed)) = ⊥
IsStop code capacity grid (Some (Err (fault.Stuck p kind))) = IsIdleStop code capacity grid p kind
IsStop code capacity grid (Some (Err fault.NoMemory)) = ⊥

-- ---- rounds
-- the next turn of the rounds: there is one where some are left, and then it is the next one's turn
pub record IsRound (old new : Rounds) (p : ℕ) : Type 0 where
  pub processor : p ≡ old.next
  pub left : new.left + 1 ≡ old.left
  pub count : new.count ≡ old.count
  pub next : new.next ≡ (old.next + 1) % old.count

abbrev pub IsRoundTurn : Rounds → Rounds → Option ℕ → Type 0
IsRoundTurn old new (Some p) = IsRound old new p
IsRoundTurn old new None = (old.left ≡ 0) × (new ≡ old)

-- ---- turns of an order, and then round the processors
-- what is left behind the first k turns
pub record IsPlace (all : List ℕ) (limit k : ℕ) (order : List ℕ) (rounds : Rounds) : Type 0 where
  pub order_is : order ≡ drop k all
  pub within : k ≤ length all + limit
  pub left : rounds.left ≡ limit - (k - length all)
  pub next : rounds.next ≡ (k - length all) % rounds.count
  pub below : rounds.next < rounds.count

-- whose turn is next behind the first k, and the place behind that turn
pub record IsTurnAt (all : List ℕ) (limit k : ℕ) (order : List ℕ) (rounds : Rounds) (p : ℕ)
    : Type 0 where
  pub number : p ≡ turn_number all rounds.count k
  pub more : k < length all + limit
  pub place : IsPlace all limit (k + 1) order rounds

-- there is none
pub record IsAtEnd (all : List ℕ) (limit k : ℕ) (order : List ℕ) : Type 0 where
  pub order_is : order ≡ drop k all
  pub all_given : k ≡ length all + limit

abbrev pub IsNext : List ℕ → ℕ → ℕ → List ℕ → Rounds → Option ℕ → Type 0
IsNext all limit k order rounds (Some p) = IsTurnAt all limit k order rounds p
IsNext all limit k order rounds None = IsAtEnd all limit k order
