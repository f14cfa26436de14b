-- Which traps a phase has.
use Rattle.std.specs.Prelude.{◌≡◌, ◌⊎◌}
use Rattle.zpl_nums.specs.declared.ends.TrapKind.{TrapKind}
use Rattle.zpl_nums.specs.declared.ends.TrapKind.TheVariants as trap
use Rattle.zpl_meaning.specs.Term.{Term, Constant, Variable, Coordinate, Element, Wrapped, Unary}
use Rattle.zpl_meaning.specs.Term.{Binary, Folded, PartFolded, Scanned, Flooded, Remapped, Terms}
use Rattle.zpl_meaning.specs.Term.{NoTerm, ThenTerm}

-- that of a region: a zero divisor in a bound, or the limit of regions
abbrev pub IsRegionTrap : TrapKind → Type 0
IsRegionTrap kind = (kind ≡ trap.DivideByZero) ⊎ (kind ≡ trap.RegionLimit)

-- that of a value: a zero divisor, or a remap read past the storage
abbrev pub IsValueTrap : TrapKind → Type 0
IsValueTrap kind = (kind ≡ trap.DivideByZero) ⊎ (kind ≡ trap.OutsideStorage)

-- no remap read stands in it
abbrev mutual
  pub HasNoRemap : Term → Type 0
  HasNoRemap (Constant value) = Unit {0}
  HasNoRemap (Variable place) = Unit {0}
  HasNoRemap (Coordinate k) = Unit {0}
  HasNoRemap (Element over array shift) = Unit {0}
  HasNoRemap (Wrapped over array home shift) = Unit {0}
  HasNoRemap (Unary operator operand) = HasNoRemap operand
  HasNoRemap (Binary operator left right) = HasNoRemap left × HasNoRemap right
  HasNoRemap (Folded operator over operand) = HasNoRemap operand
  HasNoRemap (PartFolded operator over source operand) = HasNoRemap operand
  HasNoRemap (Scanned operator along over operand) = HasNoRemap operand
  HasNoRemap (Flooded over source operand) = HasNoRemap operand
  HasNoRemap (Remapped over array indices) = ⊥

  pub HaveNoRemap : Terms → Type 0
  HaveNoRemap NoTerm = Unit {0}
  HaveNoRemap (ThenTerm first rest) = HasNoRemap first × HaveNoRemap rest
