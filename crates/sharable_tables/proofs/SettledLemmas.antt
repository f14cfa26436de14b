-- Settled tables are sharable: each pass keeps what is owed, and normal tables put nothing that
-- they read with a shift.
use Rattle.std.proofs.Common.{◌≡◌, refl, ℕ, zero, suc, Bool, true, false, List, [], ◌∷◌}
use Rattle.std.specs.Prelude.{flat_map, slice_get}
use Rattle.std.specs.List.{AllByRecursion}
use Rattle.std.proofs.lemmas.List.Elements.{recursion_from_All}
use Rattle.node_form.specs.declared.members.Member.{Member}
use Rattle.node_form.specs.declared.tables.Tables.{Tables}
use Rattle.code_parts.specs.Uses.{member_words, put_by, rows_or_none, share, shifted_in}
use Rattle.flat_form.specs.Flat.{IsFlat}
use Rattle.flat_form.specs.Static.{HasFringes, HasOneUnitALoop, KeepsCells}
use Rattle.temp_norm.specs.Normalised.{IsNormal, normalised, reads_itself}
use Rattle.temp_norm.proofs.NormalLemmas.{is_normal}
use Rattle.bound_check.specs.Checked.{checked}
use Rattle.zpl_compile.specs.of_fuse_contract.Contracting.{contracted}
use Rattle.zpl_compile.specs.of_fuse_contract.Fusing.{fused}
use Rattle.pass_promises.proofs.StayLemmas.{checked_normal, contracted_normal, fused_normal}
use Rattle.stored_shifts.specs.Stored.{ShiftsAreStored}
use Rattle.pass_fits.proofs.FlatLemmas.{checked_flat, contracted_flat, fused_flat, normalised_flat}
use Rattle.pass_fits.proofs.ShiftLemmas.{checked_stored, contracted_stored, fused_stored}
use Rattle.pass_fits.proofs.ShiftLemmas.{normalised_stored}
use Rattle.needs_runs.specs.Sharable.{IsSharable, PutsNoneShifted}
use Rattle.zpl_claims.specs.Build.{Build}
use Rattle.zpl_compile.specs.Compile.{if_asked, settled}
use Rattle.sharable_tables.specs.Owed.{OwesPlan}
use Rattle.sharable_tables.specs.Threes.{HasThrees}
use Rattle.sharable_tables.proofs.CellLemmas.{contracted_cells, without_cells}
use Rattle.sharable_tables.proofs.FringeLemmas.{checked_fringes, contracted_fringes, fused_fringes}
use Rattle.sharable_tables.proofs.FringeLemmas.{normalised_fringes}
use Rattle.sharable_tables.proofs.ThreeLemmas.{checked_three, contracted_three, fused_three}
use Rattle.sharable_tables.proofs.ThreeLemmas.{normalised_three}
use Rattle.sharable_tables.proofs.UnitLemmas.{checked_units, contracted_units, fused_units}
use Rattle.sharable_tables.proofs.UnitLemmas.{normalised_units}

-- no group puts what it reads with a shift, whatever its number is
pub puts_none : (tables : Tables) → IsNormal tables → PutsNoneShifted tables
puts_none tables normal =
    at tables.groups (recursion_from_All (λ group. reads_itself tables group ≡ false) tables.groups
    normal)
  where
    at : (groups : List (List Member))
        → AllByRecursion (λ group. reads_itself tables group ≡ false) groups → (group : ℕ)
        → share (flat_map put_by (rows_or_none (slice_get groups group)))
        (flat_map shifted_in (flat_map (member_words tables) (rows_or_none (slice_get groups group))))
        ≡ false
    at [] all group = refl
    at (first ∷ groups) all zero = all.0
    at (first ∷ groups) all (suc group) = at groups all.1 group

-- between the passes, as long as no array becomes a cell
record IsReady (tables : Tables) : Type 0 where
  flat : IsFlat tables
  none : tables.cells ≡ 0
  threes : HasThrees tables
  stored : ShiftsAreStored tables
  fringes : HasFringes tables
  units : HasOneUnitALoop tables
  normal : IsNormal tables

normal_ready : (tables : Tables) → OwesPlan tables → IsReady (normalised tables)
normal_ready tables owes = record {
  flat = normalised_flat tables owes.flat;
  none = owes.without_cells;
  threes = normalised_three tables owes.threes;
  stored = normalised_stored tables owes.stored;
  fringes = normalised_fringes tables owes.fringes;
  units = normalised_units tables owes.units;
  normal = is_normal tables owes.flat.fits owes.alone;
}

checked_ready : (tables : Tables) → IsReady tables → IsReady (checked tables)
checked_ready tables is = record {
  flat = checked_flat tables is.flat;
  none = is.none;
  threes = checked_three tables is.threes;
  stored = checked_stored tables is.stored;
  fringes = checked_fringes tables is.fringes;
  units = checked_units tables is.units;
  normal = checked_normal tables is.normal;
}

fused_ready : (asked : Bool) (tables : Tables) → IsReady tables
    → IsReady (if_asked asked fused tables)
fused_ready false tables is = is
fused_ready true tables is = record {
  flat = fused_flat tables is.flat;
  none = is.none;
  threes = fused_three tables is.threes;
  stored = fused_stored tables is.stored;
  fringes = fused_fringes tables is.fringes;
  units = fused_units tables is.units;
  normal = fused_normal tables is.normal;
}

shared_from : (tables : Tables) → IsFlat tables → HasThrees tables → ShiftsAreStored tables
    → HasFringes tables → HasOneUnitALoop tables → KeepsCells tables → IsNormal tables
    → IsSharable tables
shared_from tables flat threes stored fringes units cells normal = record {
  fits = flat.fits;
  flat = flat.rows;
  three_rows = threes.rows;
  three_arrays = threes.arrays;
  three_words = threes.words;
  fringes = fringes;
  units = units;
  cells = cells;
  apart = puts_none tables normal;
  stored = stored;
}

contracted_shares : (asked : Bool) (tables : Tables) → IsReady tables
    → IsSharable (if_asked asked contracted tables)
contracted_shares false tables is =
    shared_from tables is.flat is.threes is.stored is.fringes is.units
    (without_cells tables is.flat.fits is.none) is.normal
contracted_shares true tables is =
    shared_from (contracted tables) (contracted_flat tables is.flat)
    (contracted_three tables is.threes) (contracted_stored tables is.stored)
    (contracted_fringes tables is.fringes) (contracted_units tables is.units)
    (contracted_cells tables is.flat.fits is.none) (contracted_normal tables is.normal)

pub settled_shares : (build : Build) (tables : Tables) → OwesPlan tables
    → IsSharable (settled build tables)
settled_shares build tables owes =
    contracted_shares build.options.contract
    (if_asked build.options.fuse fused (checked (normalised tables)))
    (fused_ready build.options.fuse (checked (normalised tables))
    (checked_ready (normalised tables) (normal_ready tables owes)))
