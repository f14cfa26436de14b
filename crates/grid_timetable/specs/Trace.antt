-- How a chain is found: from its last move back to what each segment waits for.
--
--   IsSomeTable      the table of some moves
--   segment_to       the moves of a stretch up to a place
--   IsTrace          the segments from a place back to one that waits for nothing, the last one
--                    first
--   IsLastProcessor  the least processor whose last move ends last
--   IsLastPlace      where that move stands
use Rattle.std.specs.Prelude.{◌≡◌, ◌≢◌, ℕ, ◌<◌, List, [], ◌∷◌, length, Option, Some, None}
use Rattle.grid_timetable.specs.declared.places.Place.{Place}
use Rattle.grid_timetable.specs.declared.places.Stretch.{Stretch}
use Rattle.grid_timetable.specs.declared.segments.Segment.{Segment}
use Rattle.grid_timetable.specs.declared.table.Table.{Table}
use Rattle.grid_timetable.specs.History.{History}
use Rattle.grid_timetable.specs.Ledger.{Ledger, stretch_at, tick_at, lane_at, next_place}
use Rattle.grid_timetable.specs.Table.{IsTableOf}

pub record IsSomeTable (table : Table) : Type 0 where
  pub history : History
  pub is : IsTableOf table history

-- ---- back from a place
abbrev pub segment_to : List Stretch → Place → Segment
segment_to stretches place =
    let stretch = stretch_at stretches place.stretch in
    record {
      processor = stretch.processor;
      first = stretch.first;
      last = place.number;
      tick = stretch.tick;
    }

abbrev pub cause_of : List Stretch → Place → Option Place
cause_of stretches place = (stretch_at stretches place.stretch).cause

pub data IsTrace (stretches : List Stretch) : Place → List Segment → Type 0 where
  Begins : (place : Place) → cause_of stretches place ≡ None
      → IsTrace stretches place (segment_to stretches place ∷ [])
  Waits : (place cause : Place) (rest : List Segment) → cause_of stretches place ≡ Some cause
      → IsTrace stretches cause rest → IsTrace stretches place (segment_to stretches place ∷ rest)

abbrev pub IsTraceOf : List Stretch → Option Place → List Segment → Type 0
IsTraceOf stretches None trace = trace ≡ []
IsTraceOf stretches (Some place) trace = IsTrace stretches place trace

-- each cause stands in an earlier stretch
pub record AreCaused (stretches : List Stretch) : Type 0 where
  pub each : (place cause : Place) → place.stretch < length stretches
      → cause_of stretches place ≡ Some cause → cause.stretch < place.stretch

-- ---- where to begin
pub record IsLastProcessor (ledger : Ledger) (p : ℕ) : Type 0 where
  pub there : p < ledger.count
  pub ends : tick_at ledger.stretches (next_place ledger p) ≡ ledger.ticks
  pub least : (q : ℕ) → q < p → tick_at ledger.stretches (next_place ledger q) ≢ ledger.ticks

abbrev pub last_place : Ledger → ℕ → Place
last_place ledger p =
    let lane = lane_at ledger.lanes p in record { stretch = lane.stretch; number = lane.made }

pub record IsLastPlace (ledger : Ledger) (place : Place) : Type 0 where
  pub some : 0 < ledger.ticks
  pub processor : ℕ
  pub last : IsLastProcessor ledger processor
  pub place_is : place ≡ last_place ledger processor
