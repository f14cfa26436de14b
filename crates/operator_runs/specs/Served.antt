-- What is asked of statements whose expressions have operators over regions, at their places.
use Rattle.std.specs.Prelude.{◌≡◌, ◌⊎◌, ℕ, zero, suc, List, [], ◌∷◌, Option, Some, None, slice_get}
use Rattle.zpl_nums.specs.declared.operators.Op.{Op}
use Rattle.zpl_region.specs.declared.regions.Region.{Region}
use Rattle.zpl_tree.specs.Syntax.{Name, Expr, Item, Str, Value, Form, Assign, Invoke, Block, If, While, Repeat, For, Border, Write, Return}
use Rattle.zpl_names.specs.Kinds.{Rank}
use Rattle.zpl_names.specs.Sites.{Assigned, Printed, handed}
use Rattle.zpl_meaning.specs.Store.{ArrayAt, thing_of}
use Rattle.zpl_meaning.specs.Context.{Place, Setup, reach_of, rank_in}
use Rattle.zpl_meaning.specs.Points.{assigned_expr}
use Rattle.zpl_meaning.specs.Proper.{HasCurrent, IsTarget}
use Rattle.print_runs.specs.of_zpl_lowering.Where.{Where, slotted_at}
use Rattle.print_runs.specs.of_lowering_runs.Suits.{ScalarTest}
use Rattle.print_runs.specs.of_array_runs.Floods.{IsReadableMaskAs, IsWritableAs}
use Rattle.call_runs.specs.of_prefix_runs.Plain.{PlainLeaf}
use Rattle.print_runs.specs.Printed.{HasNoFlood}
use Rattle.operator_runs.specs.Operated.{IsOperated}

-- a scalar is assigned
pub record IsScalarOperated (name : Name) (op : Option Op) (value : Expr) (w : Where) (place : Place)
    : Type 0 where
  pub target : IsTarget place.currents (Some 0) (thing_of place.environment name.text)
  pub operated : IsOperated w place None (assigned_expr name op value)

-- An array is assigned: there is a current region of its rank, with the flood dimensions of the
-- array; and the value has the array's rank, or has no arrays and coordinates but in folds.
pub record IsArrayOperated (name : Name) (op : Option Op) (value : Expr) (w : Where) (place : Place)
    : Type 0 where
  pub target : ℕ
  pub home : Region
  pub named : thing_of w.environment name.text ≡ Some (ArrayAt target home)
  pub current : HasCurrent place.currents (handed (reach_of place) (Assigned name op))
  pub writable : IsWritableAs (slotted_at w.currents (handed (reach_of place) (Assigned name op)))
      (slice_get w.numbers.arrays target)
  pub masked : IsReadableMaskAs w
      (slotted_at w.currents (handed (reach_of place) (Assigned name op)))
      (slotted_at w.currents (handed (reach_of place) (Assigned name op))).mask
  pub operated : ((rank_in place (Assigned name op) (assigned_expr name op value)
      ≡ handed (reach_of place) (Assigned name op))
      × IsOperated w place
      (Some (slotted_at w.currents (handed (reach_of place) (Assigned name op))))
      (assigned_expr name op value))
      ⊎ IsOperated w place None (assigned_expr name op value)

-- A printed expression of a rank: a scalar; or an array over the current region of the rank, which has
-- no flood dimension.
abbrev pub IsPrintedOperated : Rank → Expr → Where → Place → Type 0
IsPrintedOperated (Some (suc rank)) expr w place =
    HasCurrent place.currents (Some (suc rank))
    × HasNoFlood (slotted_at w.currents (Some (suc rank))).flood
    × IsOperated w place (Some (slotted_at w.currents (Some (suc rank)))) expr
IsPrintedOperated (Some zero) expr w place = IsOperated w place None expr
IsPrintedOperated None expr w place = ⊥

-- texts, scalars and arrays are printed
abbrev pub ArePrintedOperated : List Item → Where → Place → Type 0
ArePrintedOperated [] w place = Unit {0}
ArePrintedOperated (Str bytes ∷ items) w place = ArePrintedOperated items w place
ArePrintedOperated (Value expr ∷ items) w place =
    IsPrintedOperated (rank_in place Printed expr) expr w place × ArePrintedOperated items w place

-- a scalar or an array is assigned, or texts, scalars and arrays are printed
abbrev pub OperatedLeaf : ℕ → Form → Where → Place → Type 0
OperatedLeaf at (Assign name op value) w place =
    IsScalarOperated name op value w place ⊎ IsArrayOperated name op value w place
OperatedLeaf at (Invoke name actuals) w place = ⊥
OperatedLeaf at (Block body) w place = ⊥
OperatedLeaf at (If arms otherwise) w place = ⊥
OperatedLeaf at (While test body) w place = ⊥
OperatedLeaf at (Repeat body until test) w place = ⊥
OperatedLeaf at (For head body) w place = ⊥
OperatedLeaf at (Border kind names) w place = ⊥
OperatedLeaf at (Write ends items) w place = ArePrintedOperated items w place
OperatedLeaf at (Return value) w place = ⊥

-- these, or any statement of scalars and arrays without operators over regions
abbrev pub AnyLeaf : Setup → (List ℕ → Type 0) → ℕ → Form → Where → Place → Type 0
AnyLeaf setup IsCallable at form w place =
    PlainLeaf setup IsCallable at form w place ⊎ OperatedLeaf at form w place

-- a value of rank 0, with operators over regions: of a test, a bound of `for`, or a parameter
abbrev pub OperatedValue : Expr → Where → Place → Type 0
OperatedValue value w place = IsOperated w place None value

-- a test that has such a value, or is of scalars
abbrev pub AnyTest : Expr → Where → Place → Type 0
AnyTest test w place = ScalarTest test w place ⊎ OperatedValue test w place
