-- Values that are integers of 64 bits.
use Rattle.std.specs.Prelude.{◌≡◌, ℕ, ℤ, List}
use Rattle.zpl_nums.specs.Integer.{IsInteger}
use Rattle.zpl_region.specs.Region.{IsRegion}
use Rattle.array_puts.specs.of_zpl_meaning.Computed.{Computed, Gives}
use Rattle.array_puts.specs.of_zpl_meaning.Store.{Store, array_at, scalar_at}
use Rattle.array_puts.specs.of_zpl_meaning.Term.{Term, Constant, Variable, Coordinate, Element, Wrapped, Unary}
use Rattle.array_puts.specs.of_zpl_meaning.Term.{Binary, Folded, PartFolded, Scanned, Flooded, Remapped}
use Rattle.array_puts.specs.of_zpl_meaning.Fields.{Field}
use Rattle.row_runs.specs.Straight.{Every}

-- all arrays of a store have them
abbrev pub HasIntegers : Store → Type 0
HasIntegers store = (place : ℕ) → Every IsInteger (array_at store place).values

-- a field gives one at each tuple of such coordinates, if it gives a value
abbrev pub GivesIntegers : Field → Type 0
GivesIntegers field =
    (t : List ℤ) → Every IsInteger t → (value : ℤ) → field t ≡ Gives value → IsInteger value

-- Constants of a term are such, so are variables, and its operators are over regions in bounds. What
-- arrays have is asked of the store.
abbrev pub AreIntegers : Store → Term → Type 0
AreIntegers store (Constant value) = IsInteger value
AreIntegers store (Variable place) = IsInteger (scalar_at store place)
AreIntegers store (Coordinate k) = Unit {0}
AreIntegers store (Element over array shift) = Unit {0}
AreIntegers store (Wrapped over array home shift) = Unit {0}
AreIntegers store (Unary operator operand) = AreIntegers store operand
AreIntegers store (Binary operator left right) = AreIntegers store left × AreIntegers store right
AreIntegers store (Folded operator over operand) =
    IsRegion over.region × AreIntegers store operand
AreIntegers store (PartFolded operator over source operand) =
    IsRegion source × AreIntegers store operand
AreIntegers store (Scanned operator along over operand) =
    IsRegion over.region × AreIntegers store operand
AreIntegers store (Flooded over source operand) = IsRegion source × AreIntegers store operand
AreIntegers store (Remapped over array indices) = Unit {0}
