-- The shape of a bracket, where slots have the flood dimensions of the text's shapes.
use Rattle.std.proofs.Common.{◌≡◌, refl, ℕ, true, false, List, [], ◌∷◌, length, pos, Option, Some, None}
use Rattle.zpl_region.specs.declared.dims.Dim.{Dim}
use Rattle.zpl_region.specs.declared.dims.Dim.TheVariants as dim
use Rattle.zpl_tree.specs.Syntax.{Inner}
use Rattle.zpl_names.specs.Kinds.{Shape}
use Rattle.zpl_names.specs.Scope.{Scope}
use Rattle.zpl_names.specs.Shapes.{Current, Absent, Unknown, Over as Shaped, Shapes, shape_within}
use Rattle.zpl_meaning.specs.Context.{Over, Currents}
use Rattle.meaning_ranks.specs.Shaped.{AreFloods}
use Rattle.meaning_ranks.proofs.CurrentLemmas.{AreTold}
use Rattle.meaning_ranks.proofs.CurrentLemmas as currents
use Rattle.zpl_lowering.specs.Where.{Slotted, SlotCurrents}
use Rattle.served_places.specs.Told.{IsSlotTold, AreSlotsTold}

-- ---- regions of the shapes that slots have

abbrev shape_dims : Shape → List Dim
shape_dims [] = []
shape_dims (true ∷ shape) = dim.Flood ∷ shape_dims shape
shape_dims (false ∷ shape) = dim.Range (pos 0) (pos 0) (pos 1) (pos 0) ∷ shape_dims shape

shape_floods : (shape : Shape) → AreFloods shape (shape_dims shape)
shape_floods [] = tt
shape_floods (true ∷ shape) = (refl, shape_floods shape)
shape_floods (false ∷ shape) = (refl, shape_floods shape)

abbrev some_over : Current → Option Over
some_over Absent = None
some_over Unknown = None
some_over (Shaped shape masked) =
    Some (record {
      region = record { rank = length shape; dims = shape_dims shape };
      mask = None;
    })

over_told : (rank : ℕ) (current : Current) (o : Option Slotted) → IsSlotTold rank current o
    → currents.IsTold rank current (some_over current)
over_told rank Absent o h = refl
over_told rank Unknown o h = h
over_told rank (Shaped shape masked) None h = absurd h
over_told rank (Shaped shape masked) (Some slotted) h =
    (h.0, λ e. refl, record { rank = refl; floods = shape_floods shape })

abbrev pub currents_of : Shapes → Currents
currents_of shapes =
    record {
      one = some_over shapes.one;
      two = some_over shapes.two;
      three = some_over shapes.three;
    }

pub are_told : (shapes : Shapes) (slots : SlotCurrents) → AreSlotsTold shapes slots
    → AreTold shapes (currents_of shapes)
are_told shapes slots h = record {
  one = over_told 1 shapes.one slots.one h.one;
  two = over_told 2 shapes.two slots.two h.two;
  three = over_told 3 shapes.three slots.three h.three;
}

-- the shape of a bracket
pub record IsShapeOf (scope : Scope) (current : Current) (n : ℕ) (region : Inner) : Type 0 where
  pub shape : Shape
  pub is : shape_within scope current region ≡ Some shape
  pub many : length shape ≡ n

pub shape_of : (scope : Scope) (current : Current) (n : ℕ) (region : Inner)
    → currents.HasLength n (shape_within scope current region) → IsShapeOf scope current n region
shape_of scope current n region = by (shape_within scope current region) refl
  where
    by : (o : Option Shape) → shape_within scope current region ≡ o → currents.HasLength n o
        → IsShapeOf scope current n region
    by None e h = absurd h
    by (Some shape) e h = record { shape = shape; is = e; many = h }
