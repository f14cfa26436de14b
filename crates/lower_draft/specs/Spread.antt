-- Fringes of all arrays in one walk over the shifts.
use Rattle.std.specs.Prelude.{ℕ, suc, true, List, [], ◌∷◌, set, replicate, slice_index_or}
use Rattle.zpl_region.specs.declared.regions.Region.{Region}
use Rattle.zpl_lowering.specs.of_node_form.declared.arrays.ArrayRow.{ArrayRow}
use Rattle.zpl_lowering.specs.Hoist.{Shifted}
use Rattle.zpl_lowering.specs.Tables.{Fringe, all_wider, no_fringe, stored_dims}

abbrev pub no_fringes : List Fringe
no_fringes = no_fringe ∷ no_fringe ∷ no_fringe ∷ []

-- each shift widens the fringes of its array
abbrev pub widened_at : List (List Fringe) → Shifted → List (List Fringe)
widened_at table one =
    set table one.array (all_wider (slice_index_or table one.array no_fringes) one.shift)

abbrev pub spread : List (List Fringe) → List Shifted → List (List Fringe)
spread table [] = table
spread table (one ∷ shifts) = spread (widened_at table one) shifts

abbrev pub spread_over : ℕ → List Shifted → List (List Fringe)
spread_over count shifts = spread (replicate count no_fringes) shifts

abbrev pub fringed_row : Region → List Fringe → ArrayRow
fringed_row storage fringes = record {
  rank = storage.rank;
  stored = true;
  dims = stored_dims storage.rank storage.dims fringes;
}

-- storages with the fringes from a number on
abbrev pub fringed_rows : List (List Fringe) → ℕ → List Region → List ArrayRow
fringed_rows table k [] = []
fringed_rows table k (storage ∷ storages) =
    fringed_row storage (slice_index_or table k no_fringes) ∷ fringed_rows table (suc k) storages
