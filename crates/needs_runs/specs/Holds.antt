-- How all processors of a plan hold the state of a flat run, in which each array is whole.
--
--   lies_in_own      a tuple lies in a processor's own block
--   HasPart          what a whole array has there, the processor has
--   HoldsOwn, Holds  one processor, and all of them
use Rattle.std.specs.Prelude.{◌≡◌, ◌⊎◌, ℕ, ◌<◌, Bool, true, ℤ, List, [], All, length, slice_get}
use Rattle.std.specs.Prelude.{Some, None}
use Rattle.std.specs.List.{AllZip}
use Rattle.zpl_nums.specs.declared.folds.Fold.{Fold}
use Rattle.zpl_nums.specs.Fold.{joined}
use Rattle.zpl_region.specs.Region.{lies_in_box}
use Rattle.zpl_arrays.specs.Array.{Array, IsArray}
use Rattle.grid_layout.specs.Layout.{laid_out, own_first, own_last}
use Rattle.node_form.specs.declared.arrays.ArrayRow.{ArrayRow}
use Rattle.node_form.specs.declared.tables.Tables.{Tables}
use Rattle.node_form.specs.Fits.{storage_of}
use Rattle.plan_meaning.specs.of_grid_meaning.Collective.{scalar_at}
use Rattle.plan_meaning.specs.of_grid_meaning.Local.{processors}
use Rattle.plan_meaning.specs.of_grid_meaning.Place.{held_value}
use Rattle.plan_meaning.specs.of_grid_meaning.State.{HasParts, IsSlot}
use Rattle.plan_meaning.specs.of_grid_meaning.Stored.{arrangement_of, no_places}
use Rattle.plan_meaning.specs.of_row_orders.Agreement.{joined_over}
use Rattle.plan_meaning.specs.of_flat_form.Right.{is_settled, matches}
use Rattle.plan_meaning.specs.of_flat_form.States.{IsWhole}
use Rattle.plan_meaning.specs.of_flat_form.Whole.{Whole}
use Rattle.plan_meaning.specs.Abreast.{Abreast, Share, locals_of, standing}

-- in the dimensions in which the array has a range
abbrev pub lies_in_own : Tables → ℕ → ArrayRow → List ℤ → Bool
lies_in_own code p row t =
    let blocks = laid_out (arrangement_of code) in
    lies_in_box (own_first blocks row.rank p) (own_last blocks row.rank p) (storage_of row) t

-- It says nothing of the fringe: what is read with a shift is brought there just before.
pub record HasPart (code : Tables) (p : ℕ) (row : ArrayRow) (store own : Array) : Type 0 where
  pub has : (t : List ℤ) (value : ℤ) → lies_in_own code p row t ≡ true
      → held_value t store ≡ Some value → held_value t own ≡ Some value

-- The processor has scalars, slots, cells and places as a state of it has them; the slots are the
-- whole state's, and so are the scalars, but for those whose fold is still to come; and it has met
-- no zero divisor. Of cells nothing is said: a loop keeps each before it reads it.
pub record HoldsOwn (code : Tables) (p : ℕ) (whole : Whole) (share : Share) : Type 0 where
  pub parts : HasParts code p (standing share)
  pub flag : share.flag ≡ None
  pub slots : share.slots ≡ whole.slots
  pub scalars : (scalar : ℕ) → is_settled whole scalar ≡ true
      → slice_get share.scalars scalar ≡ slice_get whole.scalars scalar
  pub arrays : (array : ℕ) (row : ArrayRow) (store own : Array)
      → slice_get code.arrays array ≡ Some row → slice_get whole.stores array ≡ Some store
      → slice_get share.stores array ≡ Some own → HasPart code p row store own

-- An array that has places has the flood dimensions of its row: a temporary has none before its
-- first `room`.
abbrev pub HasFloodsOf : ArrayRow → Array → Type 0
HasFloodsOf row store =
    (store.storage ≡ no_places row.rank)
    ⊎ ((length store.storage.dims ≡ length row.dims) × (matches row store.storage ≡ true))

-- Between a loop that accumulates a scalar and its fold the whole scalar is what those of all
-- processors come to when they are joined. No exchange is open.
pub record Holds (code : Tables) (whole : Whole) (all : Abreast) : Type 0 where
  pub is_whole : IsWhole code whole
  pub arrays : All IsArray whole.stores
  pub floods : AllZip HasFloodsOf code.arrays whole.stores
  pub slots : AllZip IsSlot code.slots whole.slots
  pub own : (p : ℕ) → p < processors code → HoldsOwn code p whole (all.shares p)
  pub totals : (scalar : ℕ) (f : Fold) → slice_get whole.awaited scalar ≡ Some (Some f)
      → slice_get whole.scalars scalar
      ≡ Some (joined_over (processors code) (joined f) (scalar_at scalar) (locals_of all))
  pub flights : all.flights ≡ []
