-- Expressions without operators over regions, which have a value at each tuple of a region.
use Rattle.std.specs.Prelude.{◌-◌, ◌<◌, ℤ, List, [], Option, Some, None, slice_get}
use Rattle.zpl_nums.specs.Integer.{IsInteger}
use Rattle.zpl_region.specs.declared.regions.Region.{Region}
use Rattle.zpl_tree.specs.Syntax.{Expr, Number, Truth, Coord, Named, Shifted, Around, Remap, Call, Paren, Neg, Not, Abs, Pair, Reduce, Scan, Flood}
use Rattle.array_puts.specs.of_zpl_meaning.Store.{Thing, Scalar, ArrayAt, Fixed, thing_of}
use Rattle.array_puts.specs.of_zpl_meaning.Context.{Mask}
use Rattle.array_puts.specs.of_zpl_meaning.Regions.{vector_in}
use Rattle.lowering_runs.specs.of_zpl_lowering.Where.{Stored, Where}
use Rattle.array_runs.specs.Reads.{EachCovers, IsShift}

-- The array has a flood dimension wherever the region has one, and the vector, where there is one,
-- is of the region's rank.
abbrev pub IsReadable : Region → List ℤ → Option Stored → Type 0
IsReadable region shift None = ⊥
IsReadable region shift (Some stored) =
    EachCovers stored.storage.dims region.dims × IsShift region.rank shift

-- what a name stands for may be read
abbrev pub IsElement : Where → Region → List ℤ → Option Thing → Type 0
IsElement w region shift (Some (Scalar place)) = Unit {0}
IsElement w region shift (Some (Fixed value)) = Unit {0}
IsElement w region shift (Some (ArrayAt place home)) =
    IsReadable region shift (slice_get w.numbers.arrays place)
IsElement w region shift None = Unit {0}

-- numbers of 64 bits, truth values, coordinates, names, reads with a shift, and operators on them
abbrev pub IsElementwise : Where → Region → Expr → Type 0
IsElementwise w region (Number at value) = IsInteger value
IsElementwise w region (Truth at value) = Unit {0}
IsElementwise w region (Coord at k) = k - 1 < 3
IsElementwise w region (Named at name) =
    IsElement w region [] (thing_of w.environment name.text)
IsElementwise w region (Shifted at name shift) =
    IsElement w region (vector_in w.setup.known shift) (thing_of w.environment name.text)
IsElementwise w region (Paren at inside) = IsElementwise w region inside
IsElementwise w region (Neg at operand) = IsElementwise w region operand
IsElementwise w region (Not at operand) = IsElementwise w region operand
IsElementwise w region (Abs at operand) = IsElementwise w region operand
IsElementwise w region (Pair at op left right) =
    IsElementwise w region left × IsElementwise w region right
IsElementwise w region (Around at name shift) = ⊥
IsElementwise w region (Remap at name indices) = ⊥
IsElementwise w region (Call at name actuals) = ⊥
IsElementwise w region (Reduce at operator over operand) = ⊥
IsElementwise w region (Scan at operator along operand) = ⊥
IsElementwise w region (Flood at source operand) = ⊥

-- ---- masks

abbrev pub IsReadableMask : Where → Region → Option Mask → Type 0
IsReadableMask w region None = Unit {0}
IsReadableMask w region (Some mask) =
    IsReadable region [] (slice_get w.numbers.arrays mask.array)
