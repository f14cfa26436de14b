-- Rows on a store alone: `room` makes the places of a temporary, and `clear` sets those of a stored
-- array to 0.
use Rattle.std.specs.Prelude.{ℕ, Bool, true, false, pos, List, [], ◌∷◌, slice_set, Option, Some, None}
use Rattle.grid_layout.specs.of_zpl_region.declared.dims.Dim.{Dim}
use Rattle.grid_layout.specs.of_zpl_region.declared.dims.Dim.TheVariants as dim
use Rattle.grid_layout.specs.of_zpl_region.declared.regions.Region.{Region}
use Rattle.grid_layout.specs.of_zpl_region.Ends.{has_none}
use Rattle.grid_layout.specs.of_zpl_region.Hull.{all_from, hull}
use Rattle.node_form.specs.of_zpl_arrays.Array.{Array, array_of}
use Rattle.grid_links.specs.Machine.{Blocked}
use Rattle.node_form.specs.declared.arrays.ArrayDim.{ArrayDim}
use Rattle.node_form.specs.declared.arrays.ArrayDim.TheVariants.{Range, Star}
use Rattle.node_form.specs.declared.arrays.ArrayRow.{ArrayRow}
use Rattle.node_form.specs.declared.tables.Tables.{Tables}
use Rattle.grid_meaning.specs.Action.{Action, Undefined, moves, goes_on}
use Rattle.grid_meaning.specs.Local.{Local}
use Rattle.grid_meaning.specs.Place.{own_part}
use Rattle.grid_meaning.specs.Stored.{no_places}

-- a store with 0 at these places
abbrev pub zeros_at : Region → Array
zeros_at places = array_of places (λ t. pos 0)

abbrev pub with_store : Local → ℕ → Array → Local
with_store local array store = record local { stores = slice_set local.stores array store }

-- in a dimension a temporary has the range that is wanted, or the flood position; a flood dimension
-- of the region gives `0..0` where the temporary's isn't flood
abbrev pub room_dim : ArrayDim → Dim → Dim
room_dim Star d = dim.Flood
room_dim (Range a b c e) dim.Flood = all_from (pos 0) (pos 0)
room_dim (Range a b c e) (dim.Range lo hi step align) = dim.Range lo hi step align

abbrev pub each_room : List ArrayDim → List Dim → List Dim
each_room (row ∷ rows) (d ∷ dims) = room_dim row d ∷ each_room rows dims
each_room rows dims = []

-- the places for the tuples of a region within the own block: their hull, or none
abbrev pub room_of : ArrayRow → Region → Bool → Region
room_of row own true = no_places row.rank
room_of row own false = record { rank = row.rank; dims = each_room row.dims (hull own).dims }

abbrev pub roomed : Tables → ℕ → Local → ℕ → Option ArrayRow → Option Region → Action
roomed code p local array (Some row) (Some region) =
    let own = own_part code p region in
    moves (goes_on (with_store local array (zeros_at (room_of row own (has_none own))))) []
roomed code p local array row region = Blocked Undefined

abbrev pub cleared : Local → ℕ → Option Array → Action
cleared local array (Some store) = moves (goes_on (with_store local array (zeros_at store.storage))) []
cleared local array None = Blocked Undefined
