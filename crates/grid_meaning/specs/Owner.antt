-- Who owns a tuple, and what is in a slot.
--
--   region_in   the region in a slot
--   owner_for   the processor that owns a tuple of a region, for a receiver
--   tuples_of   the tuples of a region within a processor's own block
use Rattle.std.specs.Prelude.{ℕ, ℤ, List, slice_get, unwrap_or}
use Rattle.grid_layout.specs.of_zpl_region.declared.regions.Region.{Region}
use Rattle.grid_layout.specs.of_zpl_region.Region.{members}
use Rattle.grid_layout.specs.Layout.{laid_out}
use Rattle.grid_layout.specs.Piece.{owner_for as owner_in}
use Rattle.node_form.specs.declared.tables.Tables.{Tables}
use Rattle.grid_meaning.specs.Local.{Local}
use Rattle.grid_meaning.specs.Place.{own_part}
use Rattle.grid_meaning.specs.Stored.{arrangement_of, no_places}

-- one without tuples where there is no such slot, as there is where tables fit
abbrev pub region_in : Local → ℕ → Region
region_in local slot = unwrap_or (slice_get local.slots slot) (no_places 1)

abbrev pub owner_for : Tables → Region → ℕ → List ℤ → ℕ
owner_for code region to t = owner_in (laid_out (arrangement_of code)) to region t

abbrev pub tuples_of : Tables → ℕ → Region → List (List ℤ)
tuples_of code p region = members (own_part code p region)
