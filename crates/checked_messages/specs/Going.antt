-- What becomes of processors in a row with messages that goes on.
use Rattle.std.specs.Prelude.{◌≡◌, ℕ, ◌<◌, List, Contains, length, slice_get, sum_by}
use Rattle.std.specs.List.{AllZip}
use Rattle.zpl_region.specs.declared.regions.Region.{Region}
use Rattle.zpl_arrays.specs.Array.{Array, IsArray}
use Rattle.node_form.specs.declared.arrays.Item.{Item}
use Rattle.node_form.specs.declared.tables.Tables.{Tables}
use Rattle.grid_meaning.specs.Collective.{others_where}
use Rattle.grid_meaning.specs.Exchange.{places_in}
use Rattle.grid_meaning.specs.Local.{processors}
use Rattle.row_orders.specs.Rows.{Flight}
use Rattle.row_runs.specs.Run.{Step, Goes}
use Rattle.grid_meaning.specs.State.{HasParts}
use Rattle.checked_rows.specs.of_plan_meaning.Abreast.{Abreast, Share, locals_of}

-- The other array has the same places, and as many values as places where the one has.
abbrev pub HasPlacesOf : Array → Array → Type 0
HasPlacesOf one other = (other.storage ≡ one.storage) × (IsArray one → IsArray other)

-- Only values at places have changed.
pub record KeepsShare (one other : Share) : Type 0 where
  pub scalars : other.scalars ≡ one.scalars
  pub slots : other.slots ≡ one.slots
  pub cells : other.cells ≡ one.cells
  pub stores : AllZip HasPlacesOf one.stores other.stores
  pub flag : other.flag ≡ one.flag

-- A row goes on, to where these exchanges are open, and has changed only values at places.
pub record GoesOn (code : Tables) (all : Abreast) (behind : List Flight) (did : Step Abreast) :
    Type 0 where
  pub shown : List ℕ
  pub next : Abreast
  pub goes : did ≡ Goes shown next
  pub keeps : (p : ℕ) → p < processors code → KeepsShare (all.shares p) (next.shares p)
  pub flights : next.flights ≡ behind

-- All processors have what is the program's, and the same regions in slots.
pub record StandAlike (code : Tables) (all : Abreast) : Type 0 where
  pub alike : (p : ℕ) → p < processors code → (all.shares p).slots ≡ (all.shares 0).slots
  pub parts : (p : ℕ) → p < processors code → HasParts code p (locals_of all p)

-- ---- exchanges
-- how many words the items of an exchange want of one processor for another, by these regions in
-- slots
abbrev pub wanted : Tables → List Region → List Item → ℕ → ℕ → ℕ
wanted code slots items from to =
    sum_by (λ item. length (places_in code from to item (slice_get slots item.slot))) items

-- What is on its way in an exchange goes where its items want words, and is as long as they want
-- it.
pub record IsOnItsWay (code : Tables) (slots : List Region) (items : List Item) (flight : Flight)
    : Type 0 where
  pub to : (p : ℕ) → p < processors code
      → flight.to p ≡ others_where code p (wanted code slots items p)
  pub long : (p q : ℕ) → p < processors code → q < processors code → Contains (flight.to p) q
      → length (flight.words p q) ≡ wanted code slots items p q
