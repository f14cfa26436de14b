-- Arrays that are assigned without operators over regions.
use Rattle.std.specs.Prelude.{◌≡◌, ◌⊎◌, ℕ, Option, Some, None, slice_get}
use Rattle.zpl_nums.specs.declared.operators.Op.{Op}
use Rattle.zpl_region.specs.declared.regions.Region.{Region}
use Rattle.zpl_tree.specs.Syntax.{Expr, Name}
use Rattle.zpl_names.specs.Sites.{Role, Assigned, handed}
use Rattle.array_puts.specs.of_zpl_meaning.Store.{ArrayAt, thing_of}
use Rattle.array_puts.specs.of_zpl_meaning.Points.{assigned_expr}
use Rattle.array_puts.specs.of_zpl_meaning.Context.{Place, over_at, reach_of, rank_in}
use Rattle.array_puts.specs.of_zpl_meaning.Proper.{HasCurrent}
use Rattle.array_puts.specs.of_zpl_meaning.Scalars.{IsScalar}
use Rattle.lowering_runs.specs.of_zpl_lowering.Where.{Stored, Where}
use Rattle.array_runs.specs.Reads.{EachMatches}
use Rattle.array_runs.specs.Elementwise.{IsElementwise, IsReadableMask}

abbrev pub IsWritable : Region → Option Stored → Type 0
IsWritable region None = ⊥
IsWritable region (Some stored) = EachMatches stored.storage.dims region.dims

-- An array by its place in the store is assigned under the current region of its rank: it has flood
-- dimensions where the region has them, the value and the mask have a value at each tuple, and the
-- value has the array's rank or is of scalars alone.
pub record IsAssigned (w : Where) (place : Place) (role : Role) (target : ℕ) (value : Expr)
    : Type 0 where
  pub current : HasCurrent place.currents (handed (reach_of place) role)
  pub ranked : (rank_in place role value ≡ handed (reach_of place) role)
      ⊎ IsScalar place.environment value
  pub writable : IsWritable (over_at place.currents (handed (reach_of place) role)).region
      (slice_get w.numbers.arrays target)
  pub masked : IsReadableMask w (over_at place.currents (handed (reach_of place) role)).region
      (over_at place.currents (handed (reach_of place) role)).mask
  pub elementwise : IsElementwise w (over_at place.currents (handed (reach_of place) role)).region
      value

-- the same of a statement, whose name stands for the array
pub record IsArrayAssigned (w : Where) (place : Place) (name : Name) (op : Option Op) (value : Expr)
    : Type 0 where
  pub target : ℕ
  pub home : Region
  pub named : thing_of w.environment name.text ≡ Some (ArrayAt target home)
  pub is : IsAssigned w place (Assigned name op) target (assigned_expr name op value)
