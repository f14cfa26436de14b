-- The meaning's store and place as functions of the state of a flat run.
use Rattle.std.specs.Prelude.{ℕ, zero, suc, ℤ, pos, List, [], ◌∷◌, map, slice_index_or}
use Rattle.std.specs.Option.{option_map}
use Rattle.zpl_region.specs.declared.regions.Region.{Region}
use Rattle.zpl_arrays.specs.Array.{Array}
use Rattle.lowering_fits.specs.of_zpl_binding.Regions.{no_region}
use Rattle.lowering_fits.specs.of_zpl_meaning.Store.{Thing, Scalar, ArrayAt, Fixed, Names, Store, no_array}
use Rattle.lowering_fits.specs.of_zpl_meaning.Context.{Over, Currents, Edge, Place}
use Rattle.lowering_fits.specs.of_flat_form.Whole.{Whole}
use Rattle.lowering_fits.specs.of_zpl_lowering.Where.{Stored, Slotted, SlotCurrents, SlotEdge, Where}

-- ---- what stands in a state

abbrev pub scalar_in : Whole → ℕ → ℤ
scalar_in whole k = slice_index_or whole.scalars k (pos 0)

abbrev pub slot_in : Whole → ℕ → Region
slot_in whole k = slice_index_or whole.slots k no_region

abbrev pub array_in : Whole → ℕ → Array
array_in whole k = slice_index_or whole.stores k no_array

-- ---- the store

-- What a scalar of the store is: a scalar of the state; or the one in which a procedure answers,
-- which code has none for, with its value.
pub data Spot : Type 0 where
  At : (scalar : ℕ) → Spot
  Answer : (value : ℤ) → Spot

abbrev pub seen_spot : Whole → Spot → ℤ
seen_spot whole (At k) = scalar_in whole k
seen_spot whole (Answer value) = value

abbrev pub seen_store : List Spot → List Stored → Whole → Store
seen_store spots arrays whole = record {
  scalars = map (seen_spot whole) spots;
  arrays = map (λ stored. array_in whole stored.array) arrays;
}

-- ---- names: the lowering counts the scalars that code has alone

abbrev pub numbered : List Spot → List ℕ
numbered [] = []
numbered (At k ∷ spots) = k ∷ numbered spots
numbered (Answer value ∷ spots) = numbered spots

-- the place in the store of the scalar that is at a place of these
abbrev pub place_of : List Spot → ℕ → ℕ
place_of [] p = p
place_of (At k ∷ spots) zero = zero
place_of (At k ∷ spots) (suc p) = suc (place_of spots p)
place_of (Answer value ∷ spots) p = suc (place_of spots p)

abbrev pub seen_thing : List Spot → Thing → Thing
seen_thing spots (Scalar place) = Scalar (place_of spots place)
seen_thing spots (ArrayAt place home) = ArrayAt place home
seen_thing spots (Fixed value) = Fixed value

abbrev pub seen_names : List Spot → Names → Names
seen_names spots names = map (λ entry. (entry.0, seen_thing spots entry.1)) names

-- ---- the place

abbrev pub seen_over : Whole → Slotted → Over
seen_over whole slotted = record { region = slot_in whole slotted.slot; mask = slotted.mask }

abbrev pub seen_currents : Whole → SlotCurrents → Currents
seen_currents whole currents = record {
  one = option_map (seen_over whole) currents.one;
  two = option_map (seen_over whole) currents.two;
  three = option_map (seen_over whole) currents.three;
}

abbrev pub seen_edge : Whole → SlotEdge → Edge
seen_edge whole edge = record { shift = edge.shift; region = slot_in whole edge.slot }

-- the store's scalars, and the place of the own answer of the procedure
pub record Sight : Type 0 where
  pub spots : List Spot
  pub answer : ℕ

abbrev pub seen_place : Sight → Where → Whole → Place
seen_place sight w whole = record {
  setup = w.setup;
  scope = w.scope;
  environment = record { names = seen_names sight.spots w.environment.names };
  result = sight.answer;
  prefix = w.prefix;
  currents = seen_currents whole w.currents;
  edge = option_map (seen_edge whole) w.edge;
}
