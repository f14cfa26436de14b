-- A turn of `loop`: what the members of a group do at one index, or at a shattered member up to
-- where it goes back.
use Rattle.std.specs.Prelude.{ℕ, ◌+◌, nat_lt, ℤ, List, [], Option, Some, None, if◌then◌else◌, slice_get}
use Rattle.grid_layout.specs.of_zpl_region.declared.regions.Region.{Region}
use Rattle.grid_layout.specs.of_zpl_region.Region.{members}
use Rattle.node_form.specs.of_zpl_arrays.Array.{Array}
use Rattle.grid_links.specs.Machine.{Blocked}
use Rattle.node_form.specs.declared.members.Member.{Member}
use Rattle.node_form.specs.declared.tables.Tables.{Tables}
use Rattle.node_form.specs.Group as group
use Rattle.node_form.specs.Group.{Access, Point, Ran, Through, Again, Divided, ran_from}
use Rattle.grid_meaning.specs.Action.{Action, Undefined, Unheld, moves, goes_on}
use Rattle.grid_meaning.specs.Local.{Local}
use Rattle.grid_meaning.specs.Place.{moved_by, value_at, with_value, own_part}

-- how the arrays that a processor holds are reached at an index
abbrev pub access_at : List ℤ → Access (List Array)
access_at t = record {
  index = t;
  element = λ stores array shift. value_at stores array (moved_by shift t);
  with_element = λ stores array value. with_value stores array t value;
}

abbrev pub point_of : Local → Point (List Array)
point_of local = record { scalars = local.scalars; cells = local.cells; store = local.stores }

abbrev pub with_point : Local → Point (List Array) → Local
with_point local point =
    record local { scalars = point.scalars; cells = point.cells; stores = point.store }

-- the next index is next
abbrev pub next_index : Local → Local
next_index local = record local { index = local.index + 1; member = 0 }

-- a flag with one more member that met a zero divisor: the least counts
abbrev pub flagged : Option ℕ → ℕ → Option ℕ
flagged None member = Some member
flagged (Some old) member = if nat_lt member old then Some member else Some old

-- what is left of a turn at an index
abbrev pub after_members : Local → Ran (List Array) → Action
after_members local (Through point) = moves (next_index (with_point local point)) []
after_members local (Again member point) = moves (record (with_point local point) { member = member }) []
after_members local (Divided member point) =
    moves (record (next_index (with_point local point)) { flag = flagged local.flag member }) []
after_members local group.Unheld = Blocked Unheld

-- a turn at an index; behind the last one the row is left
abbrev pub turn_at_index : Tables → List Member → Local → Option (List ℤ) → Action
turn_at_index code all local (Some t) =
    after_members local (ran_from code (access_at t) all local.member (point_of local))
turn_at_index code all local None = moves (goes_on local) []

-- a turn of a loop over the part of a region within the processor's own block
abbrev pub looped : Tables → ℕ → Local → Option Region → Option (List Member) → Action
looped code p local (Some region) (Some all) =
    turn_at_index code all local (slice_get (members (own_part code p region)) local.index)
looped code p local region all = Blocked Undefined
