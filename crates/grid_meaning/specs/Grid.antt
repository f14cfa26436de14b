-- The grid of processors, what an order of turns makes of it, and what it shows.
--
--   Grid        the processors' states and their links, what was printed, and counts
--   IsCapacity  how many messages a link may hold
--   system_over the processors of a program, over links of a capacity
--   next_turn   the next turn of a processor
--   given_turn  the grid after that turn
--   after       the grid after an order of turns
--   IsOver, EndsAs, IsStuck, Rests, IsIdle, HasEmptyLinks   what a grid shows
use Rattle.std.specs.Prelude.{◌≡◌, ◌⊎◌, ℕ, zero, suc, ◌+◌, ◌<◌, ◌≤◌, List, [], ◌∷◌, ◌++◌, length, fold, sum_by, Option, Some, None, slice_get, option_and_then, IsSome, All, ⊤}
use Rattle.node_form.specs.of_zpl_nums.declared.ends.End.{End}
use Rattle.grid_links.specs.declared.messages.Message.{Message}
use Rattle.grid_links.specs.Machine.{Moves, Waiting, Over, Stuck}
use Rattle.grid_links.specs.Laws.{system_of}
use Rattle.grid_links.specs.Run as run
use Rattle.grid_links.specs.Run.{System, World}
use Rattle.node_form.specs.declared.tables.Tables.{Tables}
use Rattle.grid_meaning.specs.Action.{StuckKind}
pub use Rattle.grid_meaning.specs.Local.{processors}
use Rattle.grid_meaning.specs.Local.{Local, start_locals}
use Rattle.grid_meaning.specs.Turn.{Turn, act, fed}

-- The processors' states and the messages on their way; what processor 0 has printed; and how many
-- turns were given, messages sent, and words in them.
pub record Grid : Type 0 where
  pub world : World Local Message
  pub printed : List ℕ
  pub turns : ℕ
  pub sends : ℕ
  pub words : ℕ

-- how many messages a link holds at most: any number, or a capacity from 1 on
abbrev pub IsCapacity : Option ℕ → Type 0
IsCapacity None = ⊤
IsCapacity (Some capacity) = 1 ≤ capacity

-- The processors of a program, each at its start, over links of a capacity.
abbrev pub system_over : Tables → Option ℕ → System Local Message StuckKind
system_over code links = system_of (act code) (fed code) (start_locals code) links

abbrev pub start_grid : Tables → Grid
start_grid code = record {
  world = run.start_world (system_over code None);
  printed = [];
  turns = 0;
  sends = 0;
  words = 0;
}

-- ---- turns
-- what is printed of the bytes that a processor shows: those of processor 0
abbrev pub printed_by : ℕ → List ℕ → List ℕ
printed_by zero bytes = bytes
printed_by (suc p) bytes = []

abbrev pub shown_in : Turn → List ℕ
shown_in (Moves move) = move.shown
shown_in Waiting = []
shown_in Over = []
shown_in (Stuck kind) = []

-- the message that is sent, if one is
abbrev pub message_of : Option (ℕ × Message) → List Message
message_of None = []
message_of (Some sent) = sent.1 ∷ []

abbrev pub sent_in : Turn → List Message
sent_in (Moves move) = message_of move.sent
sent_in Waiting = []
sent_in Over = []
sent_in (Stuck kind) = []

-- the next turn of p, and nothing where there is no such processor
abbrev pub next_turn : Tables → Option ℕ → Grid → ℕ → Turn
next_turn code links grid p = run.next_turn (system_over code links) grid.world p

-- what a turn adds to what was printed and counted
abbrev pub counting : ℕ → Turn → Grid → World Local Message → Grid
counting p turn grid world = record {
  world = world;
  printed = grid.printed ++ printed_by p (shown_in turn);
  turns = grid.turns + 1;
  sends = grid.sends + length (sent_in turn);
  words = grid.words + sum_by (λ message. length message.words) (sent_in turn);
}

-- A turn is given to p. It counts whatever it is, a stuck one too; all but a move changes nothing
-- else.
abbrev pub given_turn : Tables → Option ℕ → Grid → ℕ → Grid
given_turn code links grid p =
    counting p (next_turn code links grid p) grid (run.given_turn (system_over code links) grid.world p)

-- the grid after an order of turns, from a grid and from the start
abbrev pub after_from : Tables → Option ℕ → Grid → List ℕ → Grid
after_from code links grid order = fold (given_turn code links) grid order

abbrev pub after : Tables → Option ℕ → List ℕ → Grid
after code links order = after_from code links (start_grid code) order

-- ---- what a grid shows
-- all processors have ended
abbrev pub IsOver : Grid → Type 0
IsOver grid = All (λ local. IsSome local.ended) grid.world.locals

-- how processor 0 ended, once it has
abbrev pub first_ending : Grid → Option End
first_ending grid = option_and_then (λ local. local.ended) (slice_get grid.world.locals 0)

-- the grid is over, and its ending is that of processor 0
pub record EndsAs (grid : Grid) (ending : End) : Type 0 where
  pub over : IsOver grid
  pub first : first_ending grid ≡ Some ending

-- the next turn of some processor is stuck
pub record IsStuck (code : Tables) (links : Option ℕ) (grid : Grid) : Type 0 where
  pub processor : ℕ
  pub there : processor < processors code
  pub kind : StuckKind
  pub stuck : next_turn code links grid processor ≡ Stuck kind

-- the processor waits or has ended
abbrev pub Rests : Tables → Option ℕ → Grid → ℕ → Type 0
Rests code links grid p = (next_turn code links grid p ≡ Waiting) ⊎ (next_turn code links grid p ≡ Over)

-- no processor can move, and not all have ended
pub record IsIdle (code : Tables) (links : Option ℕ) (grid : Grid) : Type 0 where
  pub not_over : IsOver grid → ⊥
  pub resting : (p : ℕ) → p < processors code → Rests code links grid p

-- no message is on its way
abbrev pub HasEmptyLinks : Grid → Type 0
HasEmptyLinks grid = All (λ link. link ≡ []) grid.world.links
