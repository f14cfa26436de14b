-- A grid that runs, and what a turn makes of it.
--
--   Simulation       the code, the capacity of links, and where the grid stands
--   start_simulation before the first turn
--   turn_given       after the next turn of a processor
--   printed_next     what that turn prints
--   IsTold           how a turn is told
--   IsStuckTurn      how a processor is stuck
--   IsMade           what comes of a turn, by its answer
use Rattle.std.specs.Prelude.{◌≡◌, ◌≢◌, ℕ, List, [], Option, Some, None, Result, Ok, Err}
use Rattle.std.specs.Option.{option_map}
use Rattle.zpl_io.specs.Sink.{Takes, TakesFront}
use Rattle.node_form.specs.declared.tables.Tables.{Tables}
use Rattle.node_turn.specs.Turned.{kind_told}
use Rattle.node_turn.specs.declared.steps.StuckKind.{StuckKind}
use Rattle.grid_links.specs.Machine.{Moves, Waiting, Over, Stuck}
use Rattle.grid_links.specs.Network.{Network}
use Rattle.grid_meaning.specs.Action.{StuckKind as Kind}
use Rattle.grid_meaning.specs.Local.{processors}
use Rattle.grid_meaning.specs.Turn.{Turn}
use Rattle.grid_meaning.specs.Grid.{Grid, next_turn, given_turn, printed_by, shown_in, start_grid}
use Rattle.grid_sim.specs.declared.counts.Counts.{Counts}
use Rattle.grid_sim.specs.declared.faults.SimFault.{SimFault}
use Rattle.grid_sim.specs.declared.faults.SimFault.TheVariants as fault
use Rattle.grid_sim.specs.declared.turns.Told.{Told}
use Rattle.grid_sim.specs.declared.turns.Turned.{Turned}
use Rattle.grid_sim.specs.declared.turns.Turned.TheVariants as turned

-- What was printed is with the sinks that took it: in `grid`, `printed` is empty.
pub record Simulation : Type 0 where
  pub code : Tables
  pub capacity : Option ℕ
  pub grid : Grid

abbrev pub unprinted : Grid → Grid
unprinted grid = record grid { printed = [] }

abbrev pub start_simulation : Tables → Option ℕ → Simulation
start_simulation code capacity = record { code = code; capacity = capacity; grid = start_grid code }

-- ---- turns
abbrev pub turn_in : Simulation → ℕ → Turn
turn_in sim p = next_turn sim.code sim.capacity sim.grid p

abbrev pub turn_given : Simulation → ℕ → Simulation
turn_given sim p = record sim { grid = unprinted (given_turn sim.code sim.capacity sim.grid p) }

abbrev pub printed_next : Simulation → ℕ → List ℕ
printed_next sim p = printed_by p (shown_in (turn_in sim p))

-- ---- how turns are told
abbrev pub turned_by : Turn → Option Turned
turned_by (Moves move) = Some turned.Moved
turned_by Waiting = Some turned.Waiting
turned_by Over = Some turned.Over
turned_by (Stuck kind) = None

-- whom a turn sends a message to, and from whom it takes one
abbrev pub receiver_in : Turn → Option ℕ
receiver_in (Moves move) = option_map (λ sent. sent.0) move.sent
receiver_in Waiting = None
receiver_in Over = None
receiver_in (Stuck kind) = None

abbrev pub sender_in : Turn → Option ℕ
sender_in (Moves move) = move.taken
sender_in Waiting = None
sender_in Over = None
sender_in (Stuck kind) = None

pub record IsTold (turn : Turn) (told : Told) : Type 0 where
  pub turned : turned_by turn ≡ Some told.turned
  pub sent : told.sent ≡ receiver_in turn
  pub took : told.took ≡ sender_in turn

-- the turn is stuck, with the kind that is told
abbrev pub IsStuckAs : Option Kind → Turn → Type 0
IsStuckAs (Some kind) turn = turn ≡ Stuck kind
IsStuckAs None turn = ⊥

abbrev pub IsStuckTurn : StuckKind → Turn → Type 0
IsStuckTurn kind turn = IsStuckAs (kind_told kind) turn

-- ---- what comes of a turn: it was given; or it was not, and nothing has changed
-- the turn was given, and a sink took what it prints
pub record IsGiven (old new : Simulation) (p : ℕ) (before after : List ℕ → Type 0) : Type 0 where
  pub grid : new ≡ turn_given old p
  pub takes : Takes before (printed_next old p) after

-- the turn prints, and a sink took a front of that
pub record IsCutOff (sim : Simulation) (p : ℕ) (before after : List ℕ → Type 0) : Type 0 where
  pub prints : printed_next sim p ≢ []
  pub takes : TakesFront before (printed_next sim p) after

-- Where the next turn is stuck there are no other answers than that and want of memory; a put fails
-- only where it prints; and no run is limited or idle here.
module _ (old new : Simulation) (p : ℕ) (before after : List ℕ → Type 0) where
  abbrev pub IsNotGiven : SimFault → Type 0
  IsNotGiven fault.TurnLimit = ⊥
  IsNotGiven fault.SinkFailed = IsCutOff old p before after × (new ≡ old)
  IsNotGiven (fault.Stuck q kind) = (q ≡ p) × IsStuckTurn kind (turn_in old p) × (new ≡ old)
  IsNotGiven fault.NoMemory = new ≡ old

  abbrev pub IsMade : Result Told SimFault → Type 0
  IsMade (Ok told) = IsGiven old new p before after × IsTold (turn_in old p) told
  IsMade (Err fault) = IsNotGiven fault

  abbrev pub IsMadeAs : Result Turned SimFault → Type 0
  IsMadeAs (Ok turned) = IsGiven old new p before after × (turned_by (turn_in old p) ≡ Some turned)
  IsMadeAs (Err fault) = IsNotGiven fault

-- ---- what is told of a simulation
abbrev pub counts_of : Grid → Counts
counts_of grid = record { turns = grid.turns; sends = grid.sends; words = grid.words }

abbrev pub links_of : Simulation → Network
links_of sim = record {
  count = processors sim.code;
  capacity = sim.capacity;
  links = sim.grid.world.links;
}
