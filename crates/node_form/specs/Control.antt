-- Rows that need scalars and slots alone.
use Rattle.std.specs.Prelude.{ℕ, zero, suc, ◌-◌, Bool, true, false, ℤ, pos, Option, Some, None, List, [], ◌∷◌, ◌++◌, take, length, replicate, slice_get, slice_set, option_and_then}
use Rattle.std.specs.Option.{option_map}
use Rattle.zpl_arrays.specs.of_zpl_nums.declared.ends.End.{End}
use Rattle.zpl_arrays.specs.of_zpl_nums.declared.ends.End.TheVariants.{Done, Trap}
use Rattle.zpl_arrays.specs.of_zpl_nums.declared.ends.TrapKind.{TrapKind}
use Rattle.zpl_arrays.specs.of_zpl_nums.declared.ends.TrapKind.TheVariants.{DivideByZero, OutsideStorage, RegionLimit, RegionMismatch}
use Rattle.zpl_arrays.specs.of_zpl_nums.Integer.{is_true}
use Rattle.zpl_arrays.specs.of_zpl_region.declared.dims.Dim.{Dim}
use Rattle.zpl_arrays.specs.of_zpl_region.declared.dims.Dim.TheVariants as dim
use Rattle.zpl_arrays.specs.of_zpl_region.declared.regions.Region.{Region}
use Rattle.zpl_arrays.specs.of_zpl_region.Region.{padding, outside_of, inside_of, moved, strided}
use Rattle.zpl_arrays.specs.of_zpl_region.Tests.{is_within_limit}
use Rattle.zpl_arrays.specs.Border.{border_conforms}
use Rattle.zpl_arrays.specs.Conformity.{reduction_conforms, flood_conforms}
use Rattle.zpl_arrays.specs.Reference.{is_reference}
use Rattle.node_form.specs.declared.instructions.DimRow.{DimRow}
use Rattle.node_form.specs.declared.instructions.DimRow.TheVariants.{Span, Star, Copied}
use Rattle.node_form.specs.declared.instructions.RegionForm.{RegionForm}
use Rattle.node_form.specs.declared.instructions.RegionForm.TheVariants.{Of, Inside, At, By}
use Rattle.node_form.specs.declared.instructions.SameKind.{SameKind}
use Rattle.node_form.specs.declared.instructions.SameKind.TheVariants as same
use Rattle.node_form.specs.declared.instructions.Instr.{Instr}
use Rattle.node_form.specs.declared.instructions.Instr.TheVariants as instr
use Rattle.node_form.specs.declared.tables.Tables.{Tables}
use Rattle.node_form.specs.Fits.{storage_of}
use Rattle.node_form.specs.Value.{Computed, Gives, Divides, Lacks, and_then, mapped, read, scalar_operands, value_of}

-- what such rows read and change
pub record Registers : Type 0 where
  pub scalars : List ℤ
  pub slots : List Region

-- What a row does: it goes on with the next instruction, or with the one of this number, or it ends
-- the run. Some other row needs more than registers; nor is said what a row does whose numbers
-- aren't in their tables.
pub data Control : Type 0 where
  Steps : (registers : Registers) → Control
  Leaps : (goal : ℕ) → Control
  Ends : (ending : End) → Control
  Outside : Control

-- ---- values
-- the value of an expression by its number
abbrev pub register_value : Tables → Registers → ℕ → Computed ℤ
register_value tables registers expr =
    and_then (value_of (scalar_operands registers.scalars)) (read (slice_get tables.exprs expr))

-- goes on with what is computed; a zero divisor is a trap at the line
abbrev pub with_computed : {X : Type 0} → Computed X → ℕ → (X → Control) → Control
with_computed (Gives value) line next = next value
with_computed Divides line next = Ends (Trap DivideByZero line)
with_computed Lacks line next = Outside

abbrev pub with_row : {X : Type 0} → Option X → (X → Control) → Control
with_row (Some row) next = next row
with_row None next = Outside

abbrev pub with_scalar : Registers → ℕ → ℤ → Control
with_scalar registers scalar value = Steps (record registers { scalars = slice_set registers.scalars scalar value })

-- a condition that stands, or a trap at the line
abbrev pub checked : Registers → Bool → TrapKind → ℕ → Control
checked registers true kind line = Steps registers
checked registers false kind line = Ends (Trap kind line)

-- the place behind a test: the next one where it is true, and else the goal
abbrev pub branched : Registers → Bool → ℕ → Control
branched registers true goal = Steps registers
branched registers false goal = Leaps goal

-- ---- regions
-- the slot becomes the region; one past the limit is a trap
abbrev pub limited : Registers → ℕ → ℕ → Region → Bool → Control
limited registers slot line region true = Steps (record registers { slots = slice_set registers.slots slot region })
limited registers slot line region false = Ends (Trap RegionLimit line)

abbrev pub with_slot : Registers → ℕ → ℕ → Region → Control
with_slot registers slot line region = limited registers slot line region (is_within_limit region)

-- the dimension with this number, counted from 0, of a slot's region
abbrev pub slot_dim : Registers → ℕ → ℕ → Option Dim
slot_dim registers number slot = option_and_then (λ region. slice_get region.dims number) (slice_get registers.slots slot)

-- one dimension: the numbers from one value to another, a flood dimension, or that of another slot
abbrev pub part_dim : Tables → Registers → ℕ → DimRow → Computed Dim
part_dim tables registers number (Span low high) =
    and_then (λ lo. mapped (λ hi. dim.Range lo hi (pos 1) lo) (register_value tables registers high)) (register_value tables registers low)
part_dim tables registers number Star = Gives dim.Flood
part_dim tables registers number (Copied slot) = read (slot_dim registers number slot)

-- dimensions from this number on, one after another
abbrev pub part_dims : Tables → Registers → ℕ → List DimRow → Computed (List Dim)
part_dims tables registers number [] = Gives []
part_dims tables registers number (part ∷ parts) =
    and_then (λ first. mapped (λ rest. first ∷ rest) (part_dims tables registers (suc number) parts)) (part_dim tables registers number part)

-- a region of a rank with these dimensions, padded past it
abbrev pub region_of : ℕ → List Dim → Region
region_of rank dims = record { rank = rank; dims = dims ++ replicate (3 - rank) padding }

abbrev pub formed_by : RegionForm → List ℤ → Region → Region
formed_by Of shift region = outside_of shift region
formed_by Inside shift region = inside_of shift region
formed_by At shift region = moved shift region
formed_by By shift region = strided shift region

abbrev pub conforms : SameKind → Region → Region → Bool
conforms same.Part target source = reduction_conforms target source
conforms same.Flood target source = flood_conforms target source

-- ---- rows
abbrev pub control : Tables → Registers → Instr → Control
control tables registers (instr.Set scalar expr line) =
    with_computed (register_value tables registers expr) line (with_scalar registers scalar)
control tables registers (instr.Fix slot region) = Steps (record registers { slots = slice_set registers.slots slot region })
control tables registers (instr.Dims slot parts line) =
    with_row (slice_get tables.slots slot) (λ rank.
    with_computed (part_dims tables registers 0 (take rank parts)) line (λ dims. with_slot registers slot line (region_of rank dims)))
control tables registers (instr.Formed form slot from shift line) =
    with_row (slice_get registers.slots from) (λ region. with_slot registers slot line (formed_by form shift region))
control tables registers (instr.Need slot array shift line) =
    with_row (slice_get registers.slots slot) (λ region.
    with_row (slice_get tables.arrays array) (λ row.
    checked registers (is_reference shift region (storage_of row)) OutsideStorage line))
control tables registers (instr.Same target source kind line) =
    with_row (slice_get registers.slots target) (λ region.
    with_row (slice_get registers.slots source) (λ other. checked registers (conforms kind region other) RegionMismatch line))
control tables registers (instr.Fits slot shift line) =
    with_row (slice_get registers.slots slot) (λ region. checked registers (border_conforms shift region) RegionMismatch line)
control tables registers (instr.Jump goal) = Leaps goal
control tables registers (instr.Unless expr goal line) =
    with_computed (register_value tables registers expr) line (λ value. branched registers (is_true value) goal)
control tables registers (instr.Trap kind line) = Ends (Trap kind line)
control tables registers instr.End = Ends Done
control tables registers row = Outside
