-- What is asked of border statements.
use Rattle.std.specs.Prelude.{◌≡◌, ℕ, List, [], ◌∷◌, length, Option, Some, None, slice_get}
use Rattle.zpl_region.specs.declared.regions.Region.{Region}
use Rattle.zpl_region.specs.Region.{IsRegion, IsWithinLimit, outside_of}
use Rattle.zpl_tree.specs.Syntax.{Name, Form, Assign, Invoke, Block, If, While, Repeat, For, Border, Write, Return}
use Rattle.zpl_meaning.specs.Store.{Thing, Scalar, ArrayAt, Fixed, thing_of}
use Rattle.zpl_meaning.specs.Context.{Edge, Place, over_at}
use Rattle.zpl_meaning.specs.Proper.{HasCurrent}
use Rattle.prefix_runs.specs.of_zpl_lowering.Where.{Slotted, Where, slotted_at}
use Rattle.prefix_runs.specs.of_array_runs.Floods.{IsWritableAs}

-- The nearest prefix is a border, of a region within the limit; and it has what that comes to.
abbrev pub IsBorder : Option Edge → Region → Type 0
IsBorder None border = ⊥
IsBorder (Some edge) border =
    IsRegion edge.region × (length edge.region.dims ≡ 3) × IsWithinLimit edge.region
    × (border ≡ outside_of edge.shift edge.region)

-- a name stands for an array with the flood dimensions of the border
abbrev pub IsBordered : Where → Slotted → Option Thing → Type 0
IsBordered w slotted (Some (ArrayAt place home)) =
    IsWritableAs slotted (slice_get w.numbers.arrays place)
IsBordered w slotted (Some (Scalar place)) = ⊥
IsBordered w slotted (Some (Fixed value)) = ⊥
IsBordered w slotted None = ⊥

abbrev pub AreBordered : Where → Slotted → List Name → Type 0
AreBordered w slotted [] = Unit {0}
AreBordered w slotted (name ∷ names) =
    IsBordered w slotted (thing_of w.environment name.text) × AreBordered w slotted names

-- there is some name
abbrev pub IsSomeBordered : Where → Slotted → List Name → Type 0
IsSomeBordered w slotted [] = ⊥
IsSomeBordered w slotted (name ∷ names) = AreBordered w slotted (name ∷ names)

pub record IsBorderServed (names : List Name) (w : Where) (place : Place) : Type 0 where
  pub current : HasCurrent place.currents place.prefix
  pub border : IsBorder place.edge (over_at place.currents place.prefix).region
  pub bordered : IsSomeBordered w (slotted_at w.currents place.prefix) names

-- of forms that have no statements in them
abbrev pub BorderLeaf : ℕ → Form → Where → Place → Type 0
BorderLeaf at (Border kind names) w place = IsBorderServed names w place
BorderLeaf at (Assign name op value) w place = ⊥
BorderLeaf at (Invoke name actuals) w place = ⊥
BorderLeaf at (Block body) w place = ⊥
BorderLeaf at (If arms otherwise) w place = ⊥
BorderLeaf at (While test body) w place = ⊥
BorderLeaf at (Repeat body until test) w place = ⊥
BorderLeaf at (For head body) w place = ⊥
BorderLeaf at (Write ends items) w place = ⊥
BorderLeaf at (Return value) w place = ⊥
