-- What facts say of all processors between two rows.
use Rattle.std.specs.Prelude.{◌≡◌, ◌<◌, ℕ, Bool, true, false, ℤ, List, Contains, Option, Some, None}
use Rattle.std.specs.Prelude.{slice_get}
use Rattle.std.specs.Option.{option_map}
use Rattle.zpl_region.specs.declared.regions.Region.{Region}
use Rattle.zpl_region.specs.Ends.{has_none}
use Rattle.zpl_arrays.specs.Array.{Array}
use Rattle.zpl_arrays.specs.Border.{border_conforms}
use Rattle.zpl_arrays.specs.Reference.{is_reference}
use Rattle.node_form.specs.declared.arrays.ArrayRow.{ArrayRow}
use Rattle.node_form.specs.declared.tables.Tables.{Tables}
use Rattle.node_form.specs.Control.{conforms, formed_by}
use Rattle.node_form.specs.Fits.{storage_of}
use Rattle.grid_meaning.specs.Local.{processors}
use Rattle.grid_meaning.specs.Place.{own_part}
use Rattle.grid_meaning.specs.Room.{room_of}
use Rattle.plan_meaning.specs.Abreast.{Abreast}
use Rattle.node_check.specs.Fact.{Fact, Agree, Border, Held, Made, Stands, Uniform}

-- the region of a slot, which is the same on all processors
abbrev pub SlotHas : Abreast → ℕ → Region → Type 0
SlotHas all slot region = slice_get (all.shares 0).slots slot ≡ Some region

-- the places of an array that a processor holds
abbrev pub places_at : Abreast → ℕ → ℕ → Option Region
places_at all p array =
    option_map (λ (store : Array). store.storage) (slice_get (all.shares p).stores array)

-- of a stored array the region, moved by the vector, lies in the storage; a temporary has just the
-- places that a `room` gives it there
abbrev pub HasPlacesAs : Tables → Abreast → ℕ → List ℤ → Region → ArrayRow → Bool → Type 0
HasPlacesAs code all array shift region row true = is_reference shift region (storage_of row) ≡ true
HasPlacesAs code all array shift region row false =
    (p : ℕ) → p < processors code
    → places_at all p array
    ≡ Some (room_of row (own_part code p region) (has_none (own_part code p region)))

abbrev pub HasPlaces : Tables → Abreast → ℕ → List ℤ → Region → Option ArrayRow → Type 0
HasPlaces code all array shift region None = ⊥
HasPlaces code all array shift region (Some row) =
    HasPlacesAs code all array shift region row row.stored

abbrev pub Says : Tables → Abreast → Fact → Type 0
Says code all (Uniform scalar) =
    (p : ℕ) → p < processors code
    → slice_get (all.shares p).scalars scalar ≡ slice_get (all.shares 0).scalars scalar
Says code all (Stands slot region) = SlotHas all slot region
Says code all (Made form slot from shift) =
    (region : Region) → SlotHas all from region → SlotHas all slot (formed_by form shift region)
Says code all (Held slot array shift) =
    (region : Region) → SlotHas all slot region
    → HasPlaces code all array shift region (slice_get code.arrays array)
Says code all (Agree target source kind) =
    (one other : Region) → SlotHas all target one → SlotHas all source other
    → conforms kind one other ≡ true
Says code all (Border slot shift) =
    (region : Region) → SlotHas all slot region → border_conforms shift region ≡ true

abbrev pub is_of_slots : Fact → Bool
is_of_slots (Uniform scalar) = false
is_of_slots fact = true

-- Each slot that there is has a region, the same on all processors; each array that there is has
-- places on each; and what is told of slots holds.
pub record AreTold (code : Tables) (all : Abreast) (facts : List Fact) : Type 0 where
  pub alike : (p : ℕ) → p < processors code → (all.shares p).slots ≡ (all.shares 0).slots
  pub there : (slot rank : ℕ) → slice_get code.slots slot ≡ Some rank
      → (region : Region) × SlotHas all slot region
  pub stored : (p array : ℕ) (row : ArrayRow) → p < processors code
      → slice_get code.arrays array ≡ Some row
      → (places : Region) × (places_at all p array ≡ Some places)
  pub told : (fact : Fact) → Contains facts fact → is_of_slots fact ≡ true → Says code all fact
