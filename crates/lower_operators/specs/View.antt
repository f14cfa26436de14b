-- Expressions with slots and the expressions of a statement, as the definitions see what memory
-- holds.
use Rattle.std.specs.Prelude.{List, [], ◌∷◌, map}
use Rattle.std.specs.Borrow.{Bor}
use Rattle.zpl_tree.specs.View.{expr_of}
use Rattle.lower_regions.specs.of_zpl_lowering.Slate as plain
use Rattle.lower_regions.specs.of_lower_places.View.{slotted_of}
use Rattle.lower_operators.specs.declared.slates.Slate.{Slate}
use Rattle.lower_operators.specs.declared.slates.Slate.TheVariants.{Constant, Variable, Coordinate, Element, Shifted, Wrapped, Unary', Binary', Folded', PartFolded', Scanned', Flooded', Remapped'}
use Rattle.lower_operators.specs.declared.slates.Slates.{Slates}
use Rattle.lower_operators.specs.declared.slates.Slates.TheVariants.{End, Then'}
use Rattle.lower_operators.specs.declared.phasing.Placed.{Placed}

abbrev mutual
  pub slate_of : Slate → plain.Slate
  slate_of (Constant value) = plain.Constant value
  slate_of (Variable place) = plain.Variable place
  slate_of (Coordinate k) = plain.Coordinate k
  slate_of (Element slot place) = plain.Element slot place []
  slate_of (Shifted slot place shift) = plain.Element slot place shift
  slate_of (Wrapped read) =
      plain.Wrapped read.slot read.place read.home read.shift read.copy read.first
  slate_of (Unary' operator p operand) = plain.Unary operator (slate_of operand)
  slate_of (Binary' operator p left q right) =
      plain.Binary operator (slate_of left) (slate_of right)
  slate_of (Folded' operator over p operand) =
      plain.Folded operator (slotted_of over.now) (slate_of operand)
  slate_of (PartFolded' operator over source p operand) =
      plain.PartFolded operator (slotted_of over.now) (slotted_of source.now) (slate_of operand)
  slate_of (Scanned' operator along over p operand) =
      plain.Scanned operator along (slotted_of over.now) (slate_of operand)
  slate_of (Flooded' over source p operand) =
      plain.Flooded (slotted_of over.now) (slotted_of source.now) (slate_of operand)
  slate_of (Remapped' over place p indices) =
      plain.Remapped (slotted_of over.now) place (slates_of indices)

  pub slates_of : Slates → plain.Slates
  slates_of End = plain.NoSlate
  slates_of (Then' p first q rest) = plain.ThenSlate (slate_of first) (slates_of rest)

-- those of a statement's expressions
abbrev pub slates_in : List (Bor Slate) → plain.Slates
slates_in [] = plain.NoSlate
slates_in (slate ∷ slates) = plain.ThenSlate (slate_of slate.now) (slates_in slates)

-- in front of others
abbrev pub slates_before : List (Bor Slate) → plain.Slates → plain.Slates
slates_before [] rest = rest
slates_before (slate ∷ slates) rest =
    plain.ThenSlate (slate_of slate.now) (slates_before slates rest)

abbrev pub placed_of : Placed → plain.Placed
placed_of placed = record { rank = placed.rank; expr = expr_of placed.expr.now }

abbrev pub all_placed : List Placed → List plain.Placed
all_placed exprs = map placed_of exprs
