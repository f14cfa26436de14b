-- What is asked of an assignment of an array before the run: of flood dimensions alone, whatever
-- the current regions are.
use Rattle.std.specs.Prelude.{◌≡◌, ◌⊎◌, ◌-◌, ◌<◌, ℕ, zero, suc, Bool, true, false, ℤ, List, [], ◌∷◌, length, map, Option, Some, None, slice_get}
use Rattle.zpl_nums.specs.declared.operators.Op.{Op}
use Rattle.zpl_nums.specs.Integer.{IsInteger}
use Rattle.zpl_region.specs.declared.regions.Region.{Region}
use Rattle.zpl_tree.specs.Syntax.{Name, Expr, Number, Truth, Coord, Named, Shifted, Around, Remap, Call, Paren, Neg, Not, Abs, Pair, Reduce, Scan, Flood}
use Rattle.zpl_names.specs.Sites.{Assigned, handed}
use Rattle.array_puts.specs.of_zpl_meaning.Store.{Thing, Scalar, ArrayAt, Fixed, thing_of}
use Rattle.array_puts.specs.of_zpl_meaning.Points.{assigned_expr}
use Rattle.array_puts.specs.of_zpl_meaning.Context.{Mask, Place, reach_of, rank_in}
use Rattle.array_puts.specs.of_zpl_meaning.Proper.{HasCurrent}
use Rattle.array_puts.specs.of_zpl_meaning.Scalars.{IsScalar}
use Rattle.array_puts.specs.of_zpl_meaning.Regions.{vector_in}
use Rattle.lowering_runs.specs.of_zpl_lowering.Where.{Stored, Slotted, Where, slotted_at, is_flood}
use Rattle.array_runs.specs.Reads.{IsShift}

-- of three dimensions; none is flood past the rank
abbrev pub three_floods : ℕ → List Bool → List Bool
three_floods zero flood = []
three_floods (suc count) [] = false ∷ three_floods count []
three_floods (suc count) (one ∷ flood) = one ∷ three_floods count flood

-- one is flood wherever another is
abbrev pub CoversFlood : Bool → Bool → Type 0
CoversFlood true other = Unit {0}
CoversFlood false true = ⊥
CoversFlood false false = Unit {0}

abbrev pub CoverFloods : List Bool → List Bool → Type 0
CoverFloods [] others = Unit {0}
CoverFloods (one ∷ floods) [] = Unit {0}
CoverFloods (one ∷ floods) (other ∷ others) = CoversFlood one other × CoverFloods floods others

-- those of the regions of a rank in a slot
abbrev pub slot_floods : Slotted → List Bool
slot_floods slotted = three_floods 3 slotted.flood

-- ---- reads

abbrev pub IsReadableAs : Slotted → List ℤ → Option Stored → Type 0
IsReadableAs slotted shift None = ⊥
IsReadableAs slotted shift (Some stored) =
    CoverFloods (map is_flood stored.storage.dims) (slot_floods slotted)
    × IsShift (length slotted.flood) shift

abbrev pub IsElementAs : Where → Slotted → List ℤ → Option Thing → Type 0
IsElementAs w slotted shift (Some (Scalar place)) = Unit {0}
IsElementAs w slotted shift (Some (Fixed value)) = Unit {0}
IsElementAs w slotted shift (Some (ArrayAt place home)) =
    IsReadableAs slotted shift (slice_get w.numbers.arrays place)
IsElementAs w slotted shift None = Unit {0}

-- an expression without operators over regions, where the current region is in this slot
abbrev pub IsElementwiseAs : Where → Slotted → Expr → Type 0
IsElementwiseAs w slotted (Number at value) = IsInteger value
IsElementwiseAs w slotted (Truth at value) = Unit {0}
IsElementwiseAs w slotted (Coord at k) = k - 1 < 3
IsElementwiseAs w slotted (Named at name) =
    IsElementAs w slotted [] (thing_of w.environment name.text)
IsElementwiseAs w slotted (Shifted at name shift) =
    IsElementAs w slotted (vector_in w.setup.known shift) (thing_of w.environment name.text)
IsElementwiseAs w slotted (Paren at inside) = IsElementwiseAs w slotted inside
IsElementwiseAs w slotted (Neg at operand) = IsElementwiseAs w slotted operand
IsElementwiseAs w slotted (Not at operand) = IsElementwiseAs w slotted operand
IsElementwiseAs w slotted (Abs at operand) = IsElementwiseAs w slotted operand
IsElementwiseAs w slotted (Pair at op left right) =
    IsElementwiseAs w slotted left × IsElementwiseAs w slotted right
IsElementwiseAs w slotted (Around at name shift) = ⊥
IsElementwiseAs w slotted (Remap at name indices) = ⊥
IsElementwiseAs w slotted (Call at name actuals) = ⊥
IsElementwiseAs w slotted (Reduce at operator over operand) = ⊥
IsElementwiseAs w slotted (Scan at operator along operand) = ⊥
IsElementwiseAs w slotted (Flood at source operand) = ⊥

abbrev pub IsReadableMaskAs : Where → Slotted → Option Mask → Type 0
IsReadableMaskAs w slotted None = Unit {0}
IsReadableMaskAs w slotted (Some mask) =
    IsReadableAs slotted [] (slice_get w.numbers.arrays mask.array)

-- ---- assignments

abbrev pub IsWritableAs : Slotted → Option Stored → Type 0
IsWritableAs slotted None = ⊥
IsWritableAs slotted (Some stored) = map is_flood stored.storage.dims ≡ slot_floods slotted

-- The name stands for an array, there is a current region of its rank, and flood dimensions and
-- ranks agree.
pub record IsArrayServed (name : Name) (op : Option Op) (value : Expr) (w : Where) (place : Place)
    : Type 0 where
  pub target : ℕ
  pub home : Region
  pub named : thing_of w.environment name.text ≡ Some (ArrayAt target home)
  pub current : HasCurrent place.currents (handed (reach_of place) (Assigned name op))
  pub ranked : (rank_in place (Assigned name op) (assigned_expr name op value)
      ≡ handed (reach_of place) (Assigned name op))
      ⊎ IsScalar place.environment (assigned_expr name op value)
  pub writable : IsWritableAs (slotted_at w.currents (handed (reach_of place) (Assigned name op)))
      (slice_get w.numbers.arrays target)
  pub masked : IsReadableMaskAs w
      (slotted_at w.currents (handed (reach_of place) (Assigned name op)))
      (slotted_at w.currents (handed (reach_of place) (Assigned name op))).mask
  pub elementwise : IsElementwiseAs w
      (slotted_at w.currents (handed (reach_of place) (Assigned name op)))
      (assigned_expr name op value)
