-- Rows that make an array of others, each over all of a region at once: what they read is read
-- before anything is written.
--
--   moved_in    an array becomes, at the tuples of a region, what a function of the tuple says
--   edged, flooded, parted, scanned_in, remapped, gathered, roomed, cleared   the rows
use Rattle.std.specs.Prelude.{ℕ, zero, suc, ◌==◌, not, Bool, true, false, ◌&&◌, ℤ}
use Rattle.std.specs.Prelude.{List, [], Option, Some, None, map, option_and_then, slice_get}
use Rattle.std.specs.List.{filter_map, list_all}
use Rattle.code_parts.specs.of_zpl_nums.declared.ends.Border.{Border}
use Rattle.code_parts.specs.of_zpl_nums.declared.folds.Fold.{Fold}
use Rattle.code_parts.specs.of_zpl_nums.Integer.{is_true}
use Rattle.code_parts.specs.of_zpl_region.declared.regions.Region.{Region}
use Rattle.code_parts.specs.of_zpl_region.Region.{members, outside_of}
use Rattle.code_parts.specs.of_zpl_arrays.Array.{Array, element}
use Rattle.code_parts.specs.of_zpl_arrays.ArrayText.{array_text}
use Rattle.code_parts.specs.of_zpl_arrays.Border.{border_conforms, border_source, border_sources}
use Rattle.code_parts.specs.of_zpl_arrays.Conformity.{flood_conforms, reduction_conforms}
use Rattle.code_parts.specs.of_zpl_arrays.Flood.{flood_source}
use Rattle.code_parts.specs.of_zpl_arrays.Fold.{partly_reduced}
use Rattle.code_parts.specs.of_zpl_arrays.Scan.{scanned, scanned_along}
use Rattle.grid_meaning.specs.of_node_form.declared.arrays.ArrayRow.{ArrayRow}
use Rattle.grid_meaning.specs.of_node_form.declared.tables.Tables.{Tables}
use Rattle.grid_meaning.specs.of_node_form.Value.{unmoved}
use Rattle.grid_meaning.specs.Gather.{element_text}
use Rattle.grid_meaning.specs.Place.{with_values}
use Rattle.grid_meaning.specs.Remap.{padded}
use Rattle.grid_meaning.specs.Room.{zeros_at}
use Rattle.nest_meaning.specs.of_row_runs.Run.{Step, Goes, Stops, Wrong}
use Rattle.flat_form.specs.Right.{can_read, can_write, matches, no_flood}
use Rattle.flat_form.specs.Whole.{Whole, with_store}

-- ---- what a row finds; a row that finds nothing may not stand there
abbrev pub found : {X : Type 0} → Option X → (X → Step Whole) → Step Whole
found (Some x) next = next x
found None next = Stops Wrong

abbrev pub provided : Bool → Step Whole → Step Whole
provided true step = step
provided false step = Stops Wrong

abbrev pub with_stores : Whole → List Array → Step Whole
with_stores whole stores = Goes [] (record whole { stores = stores })

-- the array with these values at the tuples of a region
abbrev pub moved_in : Whole → ℕ → Region → (List ℤ → ℤ) → Step Whole
moved_in whole array region value =
    found (with_values array (members region) (map value (members region)) whole.stores)
    (with_stores whole)

-- an array is read without shift, by a region
abbrev pub reads_in : Tables → Whole → Region → ℕ → Bool
reads_in tables whole region array =
    can_read tables whole region (record { array = array; shift = unmoved })

-- the value of a scan at a tuple: in row-major order over all, or along a dimension
abbrev pub scan_value : ℕ → Fold → Region → (List ℤ → Bool) → (List ℤ → ℤ) → List ℤ → ℤ
scan_value zero operator region is_kept value t = scanned operator region is_kept value t
scan_value (suc k) operator region is_kept value t =
    scanned_along (suc k) operator region is_kept value t

-- a mask that isn't there keeps all
abbrev pub kept_by : Option Array → List ℤ → Bool
kept_by (Some mask) t = is_true (element mask t)
kept_by None t = true

-- the tuple that index arrays hold at a tuple
abbrev pub wanted_at : List Array → List ℤ → List ℤ
wanted_at parts t = padded (map (λ part. element part t) parts)

module _ (tables : Tables) (whole : Whole) where
  -- ---- `wrap` and `reflect`: the tuples beside a region, from those in it
  abbrev pub edged : Border → ℕ → Region → List ℤ → Step Whole
  edged kind array region shift =
      provided (border_conforms shift region
      && (can_write tables whole (outside_of shift region) array
      && reads_in tables whole (border_sources kind region shift) array))
      (found (slice_get whole.stores array) (λ store.
      moved_in whole array (outside_of shift region)
      (λ t. element store (border_source kind region shift t))))

  -- ---- `flood`: a target's tuples, from those of the source
  abbrev pub flooded : ℕ → Region → ℕ → Region → Step Whole
  flooded array target from source =
      provided (flood_conforms target source
      && (can_write tables whole target array && reads_in tables whole source from))
      (found (slice_get whole.stores from) (λ store.
      moved_in whole array target (λ t. element store (flood_source source t))))

  -- ---- `part`: a target's tuples, each from those of the source that agree with it
  abbrev pub parted : ℕ → Region → Fold → ℕ → Region → Step Whole
  parted array target operator from source =
      provided (reduction_conforms target source && (not (array == from) && (no_flood source
      && (can_write tables whole target array && reads_in tables whole source from))))
      (found (slice_get whole.stores from) (λ store.
      moved_in whole array target (partly_reduced operator target source (element store))))

  -- ---- `scan`: over the tuples that a mask keeps
  abbrev pub reads_mask : Region → Option ℕ → Bool
  reads_mask region (Some mask) = reads_in tables whole region mask
  reads_mask region None = true

  abbrev pub scanned_in : ℕ → Region → Fold → ℕ → ℕ → Option ℕ → Step Whole
  scanned_in array region operator along from mask =
      provided (no_flood region && (can_write tables whole region array
      && (reads_in tables whole region from && reads_mask region mask)))
      (found (slice_get whole.stores from) (λ store.
      let is_kept = kept_by (option_and_then (λ mask. slice_get whole.stores mask) mask) in
      moved_in whole array region (scan_value along operator region is_kept (element store))))

  -- ---- `remap`: each tuple from the one that the index arrays hold there, and 0 where that is
  -- outside the storage
  abbrev pub remapped : ℕ → Region → ℕ → List ℕ → Step Whole
  remapped array region from parts =
      provided (can_write tables whole region array
      && list_all (reads_in tables whole region) parts)
      (found (slice_get whole.stores from) (λ store.
      moved_in whole array region
      (λ t. element store (wanted_at (filter_map (λ part. slice_get whole.stores part) parts) t))))

  -- ---- `gather`: the array is printed
  abbrev pub gathered : Bool → ℕ → Region → Step Whole
  gathered truth array region =
      provided (no_flood region && reads_in tables whole region array)
      (found (slice_get whole.stores array) (λ store.
      Goes (array_text (element_text truth) region (element store)) whole))

  -- ---- `room` and `clear`: the temporary's places become the region, with 0 at each; and the
  -- values of a stored array become 0
  abbrev pub roomed : ℕ → Region → ArrayRow → Step Whole
  roomed array region row =
      provided (not row.stored && matches row region)
      (Goes [] (with_store whole array (zeros_at region)))

  abbrev pub cleared : ℕ → Step Whole
  cleared array =
      found (slice_get whole.stores array) (λ store.
      Goes [] (with_store whole array (zeros_at store.storage)))
