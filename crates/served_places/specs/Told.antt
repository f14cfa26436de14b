-- What the text says of current regions and of arrays, where a statement is lowered.
use Rattle.std.specs.Prelude.{◌≡◌, ℕ, false, List, [], length, map, Option, Some, None, IsSome, slice_get}
use Rattle.std.specs.Option.{option_map}
use Rattle.std.specs.List.{AllByRecursion}
use Rattle.zpl_nums.specs.Integer.{IsInteger}
use Rattle.zpl_region.specs.declared.regions.Region.{Region}
use Rattle.zpl_region.specs.Region.{IsRegion}
use Rattle.zpl_tree.specs.Syntax.{Name, Base, Dir, Expr, Number, Truth, Coord, Named, Shifted, Around, Remap, Call, Paren, Neg, Not, Abs, Pair, Reduce, Scan, Flood}
use Rattle.zpl_names.specs.Kinds.{Rank, Shape}
use Rattle.zpl_names.specs.Scope.{kind_of}
use Rattle.zpl_names.specs.Ranks.{array_shape, dir_rank}
use Rattle.zpl_names.specs.Shapes.{Current, Absent, Unknown, Over, Shapes}
use Rattle.zpl_names.specs.Sites.{Reach, Site}
use Rattle.zpl_names.specs.Faults.{flood_clashes}
use Rattle.zpl_meaning.specs.Store.{ArrayAt, Environment, thing_of}
use Rattle.zpl_meaning.specs.Context.{Currents, Edge, Place}
use Rattle.zpl_meaning.specs.Regions.{vector_in}
use Rattle.prefix_runs.specs.of_zpl_lowering.Where.{Stored, Slotted, SlotCurrents, Where, is_flood}
use Rattle.prefix_runs.specs.of_lowering_runs.Seen.{Spot, seen_thing}
use Rattle.prefix_runs.specs.of_array_runs.Reads.{IsShift}
use Rattle.prefix_runs.specs.of_array_runs.Floods.{three_floods, IsReadableMaskAs}

-- the slot of a rank's current region, where the text tells its shape
abbrev pub IsSlotTold : ℕ → Current → Option Slotted → Type 0
IsSlotTold rank Absent slotted = slotted ≡ None
IsSlotTold rank Unknown slotted = ⊥
IsSlotTold rank (Over shape masked) None = ⊥
IsSlotTold rank (Over shape masked) (Some slotted) =
    (length shape ≡ rank) × (slotted.flood ≡ shape)

pub record AreSlotsTold (shapes : Shapes) (currents : SlotCurrents) : Type 0 where
  pub one : IsSlotTold 1 shapes.one currents.one
  pub two : IsSlotTold 2 shapes.two currents.two
  pub three : IsSlotTold 3 shapes.three currents.three

-- a mask has a value at each tuple of the region
abbrev pub IsMaskTold : Where → Option Slotted → Type 0
IsMaskTold w None = Unit {0}
IsMaskTold w (Some slotted) = IsReadableMaskAs w slotted slotted.mask

-- an array has the rank and the flood dimensions of its text
abbrev pub IsStoredOf : Option Shape → Option Stored → Type 0
IsStoredOf shape None = ⊥
IsStoredOf None (Some stored) = ⊥
IsStoredOf (Some shape) (Some stored) =
    (map is_flood stored.storage.dims ≡ three_floods 3 shape)
    × (stored.storage.rank ≡ length shape) × IsRegion stored.storage

-- Slots, masks and arrays are as the text says, and directions have vectors of their ranks.
pub record IsTold (w : Where) (shapes : Shapes) : Type 0 where
  pub slots : AreSlotsTold shapes w.currents
  pub one : IsMaskTold w w.currents.one
  pub two : IsMaskTold w w.currents.two
  pub three : IsMaskTold w w.currents.three
  pub arrays : (name : Name) (place : ℕ) (home : Region) →
      thing_of w.environment name.text ≡ Some (ArrayAt place home) →
      IsStoredOf (array_shape (kind_of w.scope name)) (slice_get w.numbers.arrays place)
  pub vectors : (rank : ℕ) (dir : Dir) → dir_rank w.scope dir ≡ Some rank →
      IsShift rank (vector_in w.setup.known dir)

-- ---- places

-- the place of the meaning that has the same in reach, with other values
abbrev pub place_of : Where → Environment → ℕ → Currents → Option Edge → Place
place_of w environment result currents edge = record {
  setup = w.setup;
  scope = w.scope;
  environment = environment;
  result = result;
  prefix = w.prefix;
  currents = currents;
  edge = edge;
}

-- The same names stand there, for what is seen of a state; and where there is a current region,
-- there is a slot.
pub record IsSeenFrom (spots : List Spot) (w : Where) (environment : Environment)
    (currents : Currents) : Type 0 where
  pub names : (text : List ℕ) → thing_of environment text
      ≡ option_map (seen_thing spots) (thing_of w.environment text)
  pub one : IsSome currents.one → IsSome w.currents.one
  pub two : IsSome currents.two → IsSome w.currents.two
  pub three : IsSome currents.three → IsSome w.currents.three

-- the place as the faults of the text see it
abbrev pub reach_told : Where → Shapes → Rank → Option Base → Reach
reach_told w shapes shattered result = record {
  scope = w.scope;
  prefix = w.prefix;
  shapes = shapes;
  shattered = shattered;
  result = result;
  declared = false;
}

-- no flood dimension meets what it can't meet
abbrev pub AreFree : List Site → Type 0
AreFree sites = AllByRecursion (λ site. flood_clashes site ≡ []) sites

-- ---- expressions without operators over regions, by their text; numbers are of 64 bits

abbrev pub IsPlainExpr : Expr → Type 0
IsPlainExpr (Number at value) = IsInteger value
IsPlainExpr (Truth at value) = Unit {0}
IsPlainExpr (Coord at k) = Unit {0}
IsPlainExpr (Named at name) = Unit {0}
IsPlainExpr (Shifted at name shift) = Unit {0}
IsPlainExpr (Paren at inside) = IsPlainExpr inside
IsPlainExpr (Neg at operand) = IsPlainExpr operand
IsPlainExpr (Not at operand) = IsPlainExpr operand
IsPlainExpr (Abs at operand) = IsPlainExpr operand
IsPlainExpr (Pair at op left right) = IsPlainExpr left × IsPlainExpr right
IsPlainExpr (Around at name shift) = ⊥
IsPlainExpr (Remap at name indices) = ⊥
IsPlainExpr (Call at name actuals) = ⊥
IsPlainExpr (Reduce at operator over operand) = ⊥
IsPlainExpr (Scan at operator along operand) = ⊥
IsPlainExpr (Flood at source operand) = ⊥
