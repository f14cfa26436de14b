-- What a table keeps of the moves that were added to it.
--
--   IsPlaceOf   a place stands for this move of a processor, and for its tick
--   IsJoined    a stretch with a cause: its first move takes the message that the cause sent, and
--               stands as early as that lets it
--   IsStretch   a stretch of a run: joined to its cause, or a processor's first moves from tick 0
--               on
--   IsLane      how many moves a processor has made, and where the next one may stand
--   IsLetter    the message at a place of a link was sent by that move
--   IsTableOf   the table of these moves
use Rattle.std.specs.Prelude.{◌≡◌, ℕ, ◌+◌, ◌*◌, ◌<◌, ◌≤◌, List, length, Option, Some, None, slice_get}
use Rattle.grid_timetable.specs.declared.places.Place.{Place}
use Rattle.grid_timetable.specs.declared.places.Stretch.{Stretch}
use Rattle.grid_timetable.specs.declared.places.Lane.{Lane}
use Rattle.grid_timetable.specs.declared.table.Table.{Table}
use Rattle.grid_timetable.specs.Run.{Run, sent_at, taken_at, IsEarliest, length_of, end_of_last}
use Rattle.grid_timetable.specs.History.{History, run_of}
use Rattle.grid_timetable.specs.Mail.{IsPost, link}
use Rattle.grid_timetable.specs.Ledger.{Ledger, ledger_of, stretch_at, tick_at, lane_at, next_in}

-- ---- places and stretches, by the tick of each move
pub record IsPlaceOf (run : Run) (tick : ℕ → ℕ → ℕ) (stretches : List Stretch) (p : ℕ)
    (place : Place) : Type 0 where
  pub there : place.stretch < length stretches
  pub processor : (stretch_at stretches place.stretch).processor ≡ p
  pub numbered : 1 ≤ (stretch_at stretches place.stretch).first
  pub behind : (stretch_at stretches place.stretch).first ≤ place.number
  pub made : place.number ≤ length (run.moves p)
  pub at : tick_at stretches place ≡ tick p place.number

pub record IsJoined (run : Run) (tick : ℕ → ℕ → ℕ) (stretches : List Stretch) (s : ℕ)
    (stretch : Stretch) (cause : Place) : Type 0 where
  pub before : cause.stretch < s
  pub sender : ℕ
  pub place : IsPlaceOf run tick stretches sender cause
  pub message : ℕ
  pub sent : slice_get (sent_at run sender stretch.processor) message ≡ Some cause.number
  pub taken : slice_get (taken_at run sender stretch.processor) message ≡ Some stretch.first
  pub at : stretch.tick ≡ tick_at stretches cause + 1 + run.latency

abbrev pub IsCaused : Run → (ℕ → ℕ → ℕ) → List Stretch → ℕ → Stretch → Option Place → Type 0
IsCaused run tick stretches s stretch None = stretch.tick ≡ 0
IsCaused run tick stretches s stretch (Some cause) = IsJoined run tick stretches s stretch cause

abbrev pub IsStretch : Run → (ℕ → ℕ → ℕ) → List Stretch → ℕ → Type 0
IsStretch run tick stretches s =
    let stretch = stretch_at stretches s in IsCaused run tick stretches s stretch stretch.cause

-- ---- processors
pub record IsLane (run : Run) (tick : ℕ → ℕ → ℕ) (stretches : List Stretch) (p : ℕ) (lane : Lane)
    : Type 0 where
  pub made : lane.made ≡ length (run.moves p)
  pub there : lane.stretch < length stretches
  pub processor : (stretch_at stretches lane.stretch).processor ≡ p
  pub numbered : 1 ≤ (stretch_at stretches lane.stretch).first
  pub behind : (stretch_at stretches lane.stretch).first ≤ lane.made + 1
  pub next : tick_at stretches (next_in lane) ≡ end_of_last run tick p
  pub last : 1 ≤ lane.made → (stretch_at stretches lane.stretch).first ≤ lane.made

-- ---- messages
pub record IsLetter (run : Run) (tick : ℕ → ℕ → ℕ) (stretches : List Stretch) (from to message : ℕ)
    (sender : Place) : Type 0 where
  pub sent : slice_get (sent_at run from to) message ≡ Some sender.number
  pub place : IsPlaceOf run tick stretches from sender

pub record IsLink (run : Run) (tick : ℕ → ℕ → ℕ) (stretches : List Stretch) (from to : ℕ)
    (link : List Place) : Type 0 where
  pub joins : length (taken_at run from to) + length link ≡ length (sent_at run from to)
  pub each : (k : ℕ) (sender : Place) → slice_get link k ≡ Some sender
      → IsLetter run tick stretches from to (length (taken_at run from to) + k) sender

-- ---- all of it
pub record IsLedgerOf (ledger : Ledger) (history : History) : Type 0 where
  pub tick : ℕ → ℕ → ℕ
  pub earliest : IsEarliest (run_of history) tick
  pub enough : (from to : ℕ)
      → length (taken_at (run_of history) from to) ≤ length (sent_at (run_of history) from to)
  pub count : ledger.count ≡ history.count
  pub latency : ledger.latency ≡ history.latency
  pub soon : history.latency ≤ 1000000
  pub few : length history.moves ≤ 4194304
  pub made : ledger.made ≡ length history.moves
  pub ticks : ledger.ticks ≡ length_of (run_of history) tick
  pub short : ledger.ticks ≤ length history.moves * (history.latency + 1)
  pub all : length ledger.lanes ≡ history.count
  pub lanes : (p : ℕ) → p < history.count
      → IsLane (run_of history) tick ledger.stretches p (lane_at ledger.lanes p)
  pub stretches : (s : ℕ) → s < length ledger.stretches
      → IsStretch (run_of history) tick ledger.stretches s
  pub posts : ledger.mail.count ≡ history.count
  pub post : IsPost ledger.mail
  pub links : (from to : ℕ) → from < history.count → to < history.count
      → IsLink (run_of history) tick ledger.stretches from to (link ledger.mail from to)

abbrev pub IsTableOf : Table → History → Type 0
IsTableOf table history = IsLedgerOf (ledger_of table) history
