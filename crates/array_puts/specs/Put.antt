-- A loop of one put, and the assignment of an array that it stands for.
use Rattle.std.specs.Prelude.{◌≡◌, ℕ, Bool, true, ℤ, pos, List, [], ◌∷◌, replicate, Option, Some, None, slice_get, slice_set}
use Rattle.zpl_nums.specs.declared.ends.End.TheVariants.{Trap}
use Rattle.zpl_nums.specs.declared.ends.TrapKind.TheVariants.{DivideByZero}
use Rattle.zpl_nums.specs.Integer.{is_true}
use Rattle.zpl_region.specs.declared.regions.Region.{Region}
use Rattle.zpl_region.specs.Dim.{HasStep}
use Rattle.zpl_region.specs.Region.{IsMember}
use Rattle.std.specs.Prelude.{All}
use Rattle.zpl_arrays.specs.Array.{Array, IsArray, element, flattened, has_place}
use Rattle.zpl_meaning.specs.Computed as mean
use Rattle.zpl_meaning.specs.Fields.{Field}
use Rattle.zpl_meaning.specs.Statement.{written}
use Rattle.row_runs.specs.Run.{Step, Goes, Stops, Ends}
use Rattle.node_form.specs.declared.tables.Tables.{Tables}
use Rattle.node_form.specs.Value as flat
use Rattle.node_form.specs.Value.{Operands, value_of}
use Rattle.normal_runs.specs.of_flat_form.Row.{Member, Put, Words}
use Rattle.normal_runs.specs.of_flat_form.Names.{group_cells}
use Rattle.normal_runs.specs.of_flat_form.Loop.{operands_at, loop_stands}
use Rattle.normal_runs.specs.of_flat_form.Whole.{Whole}

-- ---- values

-- the meaning and the code give the same, or both divide by 0
pub data IsSame : mean.Computed ℤ → flat.Computed ℤ → Type 0 where
  BothGive : {value : ℤ} → IsSame (mean.Gives value) (flat.Gives value)
  BothDivide : IsSame (mean.Traps DivideByZero) flat.Divides

-- ---- the group

abbrev pub put_group : ℕ → Words → Option Words → ℕ → List Member
put_group array expr mask line = Put array expr mask line ∷ []

-- what its words read at a tuple
abbrev pub operands_in : List Member → Whole → List ℤ → Operands
operands_in group whole t =
    operands_at whole t (record { cells = replicate (group_cells group) (pos 0); log = [] })

-- whether a tuple isn't masked out, by the words of a mask
abbrev pub IsMask : Operands → Option Words → Bool → Type 0
IsMask operands None is = is ≡ true
IsMask operands (Some mask) is =
    (value : ℤ) × (value_of operands mask ≡ flat.Gives value) × (is_true value ≡ is)

-- ---- the loop

-- A loop over a region puts a field into an array at the tuples that aren't masked out: all is
-- there, and the array has a place of its own for each tuple.
pub record IsPutting (tables : Tables) (whole : Whole) (number : ℕ) (array : Array)
    (region : Region) (is_in : List ℤ → Bool) (field : Field) (expr : Words) (mask : Option Words)
    (line : ℕ) : Type 0 where
  pub found : slice_get whole.stores number ≡ Some array
  pub filled : IsArray array
  pub steps : All HasStep region.dims
  pub places : (t : List ℤ) → IsMember region t → has_place array.storage t ≡ true
  pub apart : (t : List ℤ) → IsMember region t → flattened array.storage.dims t ≡ t
  pub stands : loop_stands tables whole region (put_group number expr mask line) ≡ true
  pub masked : (t : List ℤ) → IsMember region t
      → IsMask (operands_in (put_group number expr mask line) whole t) mask (is_in t)
  pub values : (t : List ℤ) → IsMember region t → is_in t ≡ true
      → IsSame (field t) (value_of (operands_in (put_group number expr mask line) whole t) expr)

-- ---- the assignment

-- the state with another array
abbrev pub with_array_in : Whole → ℕ → Array → Whole
with_array_in whole number array =
    record whole { stores = slice_set whole.stores number array }

-- all new values are there before the first is written
abbrev pub assigned : Whole → ℕ → Array → Region → (List ℤ → Bool) → ℕ → mean.Computed Array
    → Step Whole
assigned whole number array region is_in line (mean.Gives values) =
    Goes [] (with_array_in whole number (written array region is_in (element values)))
assigned whole number array region is_in line (mean.Traps kind) = Stops (Ends (Trap kind line))
