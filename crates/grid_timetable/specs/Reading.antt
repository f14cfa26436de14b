-- What the steps of a table ask of it, and the table without moves.
use Rattle.std.specs.Prelude.{◌≡◌, ℕ, ◌<◌, ◌≤◌, ◌^◌, List, length, Option, Some, None}
use Rattle.grid_timetable.specs.declared.places.Place.{Place}
use Rattle.grid_timetable.specs.declared.places.Stretch.{Stretch}
use Rattle.grid_timetable.specs.declared.places.Lane.{Lane}
use Rattle.grid_timetable.specs.Mail.{HasLink, head}
use Rattle.grid_timetable.specs.Ledger.{Ledger, stretch_at, tick_at, lane_at, next_place}

-- the tick of a place can be read, and is no large number
pub record CanRead (stretches : List Stretch) (place : Place) : Type 0 where
  pub there : place.stretch < length stretches
  pub behind : (stretch_at stretches place.stretch).first ≤ place.number
  pub small : tick_at stretches place < 2 ^ 62

pub record CanReadNext (ledger : Ledger) (p : ℕ) : Type 0 where
  pub there : p < length ledger.lanes
  pub small : (lane_at ledger.lanes p).made < 2 ^ 62
  pub next : CanRead ledger.stretches (next_place ledger p)

abbrev pub CanTake : Ledger → ℕ → Option ℕ → Type 0
CanTake ledger p None = Unit {0}
CanTake ledger p (Some from) = HasLink ledger.mail from p

abbrev pub CanSend : Ledger → ℕ → Option ℕ → Type 0
CanSend ledger p None = Unit {0}
CanSend ledger p (Some to) = HasLink ledger.mail p to

pub record CanOpen (ledger : Ledger) (p : ℕ) (took : Option ℕ) : Type 0 where
  pub next : CanReadNext ledger p
  pub link : CanTake ledger p took
  pub cause : (from : ℕ) (cause : Place) → took ≡ Some from → head ledger.mail from p ≡ Some cause
      → CanRead ledger.stretches cause
  pub soon : ledger.latency ≤ 1000000

pub record CanSettle (ledger : Ledger) (p : ℕ) (took : Option ℕ) (place : Place) : Type 0 where
  pub link : CanTake ledger p took
  pub there : p < length ledger.lanes
  pub few : ledger.made < 2 ^ 62
  pub at : CanRead ledger.stretches place

-- ---- without moves
abbrev pub first_lane : ℕ → Lane
first_lane p = record { made = 0; stretch = p }

pub record AreFirstLanes (count : ℕ) (lanes : List Lane) : Type 0 where
  pub many : length lanes ≡ count
  pub each : (p : ℕ) → p < count → lane_at lanes p ≡ first_lane p

abbrev pub first_stretch : ℕ → Stretch
first_stretch p = record { processor = p; first = 1; tick = 0; cause = None }

pub record AreFirstStretches (count : ℕ) (stretches : List Stretch) : Type 0 where
  pub many : length stretches ≡ count
  pub each : (p : ℕ) → p < count → stretch_at stretches p ≡ first_stretch p
