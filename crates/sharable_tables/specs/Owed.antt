-- What the tables of a flat program owe, so that there is a plan of what passes make of them.
use Rattle.std.specs.Prelude.{◌≡◌}
use Rattle.node_form.specs.declared.tables.Tables.{Tables}
use Rattle.flat_form.specs.Flat.{IsFlat}
use Rattle.flat_form.specs.Static.{HasFringes, HasOneUnitALoop}
use Rattle.temp_norm.specs.Normalised.{ReadThemselvesAlone}
use Rattle.stored_shifts.specs.Stored.{ShiftsAreStored}
use Rattle.sharable_tables.specs.Threes.{HasThrees}

-- They are a flat program's, without cells, and have their vectors and regions of three
-- components; what is read with a shift is stored, and within its fringe; and a group that has
-- `while` or `repeat` has one outermost member, and one that reads with a shift what it puts has
-- one member alone.
pub record OwesPlan (tables : Tables) : Type 0 where
  pub flat : IsFlat tables
  pub without_cells : tables.cells ≡ 0
  pub threes : HasThrees tables
  pub stored : ShiftsAreStored tables
  pub fringes : HasFringes tables
  pub units : HasOneUnitALoop tables
  pub alone : ReadThemselvesAlone tables
