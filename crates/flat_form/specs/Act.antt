-- What each row of a flat program does on whole arrays, and bounded runs of flat programs.
use Rattle.std.specs.Prelude.{ℕ, ◌==◌, Bool, false, ℤ, List, [], Option, Some, None}
use Rattle.std.specs.Prelude.{if◌then◌else◌, slice_get, slice_set}
use Rattle.std.specs.Fmt.{signed_decimal}
use Rattle.std.specs.List.{filter_map}
use Rattle.code_parts.specs.of_zpl_nums.declared.ends.End.TheVariants.{Trap}
use Rattle.code_parts.specs.of_zpl_nums.declared.ends.TrapKind.TheVariants.{DivideByZero}
use Rattle.code_parts.specs.of_zpl_nums.declared.folds.Fold.{Fold}
use Rattle.code_parts.specs.of_zpl_nums.declared.folds.Fold.TheVariants as operator
use Rattle.code_parts.specs.of_zpl_arrays.ArrayText.{truth_text}
use Rattle.grid_meaning.specs.of_node_form.declared.instructions.Instr.{Instr}
use Rattle.grid_meaning.specs.of_node_form.declared.instructions.Instr.TheVariants as instr
use Rattle.grid_meaning.specs.of_node_form.declared.tables.Tables.{Tables}
use Rattle.grid_meaning.specs.of_node_form.Control as control
use Rattle.grid_meaning.specs.of_node_form.Control.{Control}
use Rattle.grid_meaning.specs.of_node_form.Value.{Computed, Gives, Divides, Lacks, scalar_operands, value_of}
use Rattle.nest_meaning.specs.of_row_runs.Run.{Step, Goes, Stops, Ends, Wrong, Effect, Does, Leaps, Passes, Result}
use Rattle.nest_meaning.specs.of_row_runs.Run.{runs}
use Rattle.flat_form.specs.Loop.{looped}
use Rattle.flat_form.specs.Moves.{cleared, edged, flooded, found, gathered, parted, remapped}
use Rattle.flat_form.specs.Moves.{roomed, scanned_in}
use Rattle.flat_form.specs.Right.{are_settled}
use Rattle.flat_form.specs.Row.{Row, Loop, Print, Number, Truth, Unless, Plain}
use Rattle.flat_form.specs.Row.{all_inlined, coded, with_row}
use Rattle.flat_form.specs.Whole.{Whole, registers_of, start_whole, with_registers}

-- ---- rows that need scalars and slots alone: as in any program, over the row's own expressions
abbrev pub without_rows : Tables → Tables
without_rows tables = record tables { exprs = []; groups = []; texts = []; code = [] }

abbrev pub control_of : Tables → Row → Whole → Control
control_of tables row whole =
    let alone = without_rows tables in
    control.control (with_row alone row) (registers_of whole) (coded alone row)

-- Any row that isn't such a one may not stand in a flat program.
abbrev pub controlled : Whole → Control → Effect Whole
controlled whole (control.Steps registers) = Does (Goes [] (with_registers whole registers))
controlled whole (control.Leaps goal) = Leaps goal
controlled whole (control.Ends ending) = Does (Stops (Ends ending))
controlled whole control.Outside = Does (Stops Wrong)

-- a test that goes on passes
abbrev pub tested : Whole → Control → Effect Whole
tested whole (control.Steps registers) = Passes
tested whole control = controlled whole control

-- ---- prints of a value: a zero divisor is a trap at line 0
abbrev pub value_printed : Whole → (ℤ → List ℕ) → Computed ℤ → Step Whole
value_printed whole text (Gives value) = Goes (text value) whole
value_printed whole text Divides = Stops (Ends (Trap DivideByZero 0))
value_printed whole text Lacks = Stops Wrong

-- ---- `fold`: nothing is left to do but that it comes, and with the operator that it has to have
abbrev pub fold_number : Fold → ℕ
fold_number operator.Sum = 0
fold_number operator.Prod = 1
fold_number operator.Max = 2
fold_number operator.Min = 3
fold_number operator.All = 4
fold_number operator.Any = 5

abbrev pub is_awaited : Fold → Option (Option Fold) → Bool
is_awaited f (Some (Some awaited)) = fold_number f == fold_number awaited
is_awaited f (Some None) = false
is_awaited f None = false

abbrev pub folded : Whole → ℕ → Fold → Step Whole
folded whole scalar f =
    if is_awaited f (slice_get whole.awaited scalar)
    then Goes [] (record whole { awaited = slice_set whole.awaited scalar None })
    else Stops Wrong

-- ---- rows without expressions, group and text
module _ (tables : Tables) where
  abbrev pub plain_does : Whole → Instr → Effect Whole
  plain_does whole (instr.Room array slot) =
      Does (found (slice_get tables.arrays array) (λ row.
      found (slice_get whole.slots slot) (λ region. roomed tables whole array region row)))
  plain_does whole (instr.Clear array) = Does (cleared tables whole array)
  plain_does whole (instr.Edge kind array slot shift) =
      Does (found (slice_get whole.slots slot) (λ region.
      edged tables whole kind array region shift))
  plain_does whole (instr.Flood array target from source) =
      Does (found (slice_get whole.slots target) (λ region.
      found (slice_get whole.slots source) (λ other. flooded tables whole array region from other)))
  plain_does whole (instr.Part array target f from source) =
      Does (found (slice_get whole.slots target) (λ region.
      found (slice_get whole.slots source) (λ other.
      parted tables whole array region f from other)))
  plain_does whole (instr.Scan array slot f along from mask) =
      Does (found (slice_get whole.slots slot) (λ region.
      scanned_in tables whole array region f along from mask))
  plain_does whole (instr.Remap array slot from parts) =
      Does (found (slice_get whole.slots slot) (λ region.
      remapped tables whole array region from (filter_map (λ part. part) parts)))
  plain_does whole (instr.Gather truth array slot) =
      Does (found (slice_get whole.slots slot) (λ region. gathered tables whole truth array region))
  plain_does whole (instr.Fold scalar f) = Does (folded whole scalar f)
  plain_does whole row = controlled whole (control_of tables (Plain row) whole)

-- ---- all rows; n is the most turns that each loop within a group may make
module _ (tables : Tables) (n : ℕ) where
  abbrev pub row_does : Row → Whole → Effect Whole
  row_does (Loop slot group) whole = Does (looped tables n group whole (slice_get whole.slots slot))
  row_does (Print text) whole = Does (Goes text whole)
  row_does (Number expr) whole =
      Does (value_printed whole signed_decimal (value_of (scalar_operands whole.scalars) expr))
  row_does (Truth expr) whole =
      Does (value_printed whole truth_text (value_of (scalar_operands whole.scalars) expr))
  row_does (Unless expr goal line) whole =
      tested whole (control_of tables (Unless expr goal line) whole)
  row_does (Plain row) whole = plain_does tables whole row
  row_does row whole = controlled whole (control_of tables row whole)

  -- A row may not name a scalar whose `fold` is still to come.
  abbrev pub act : Row → Whole → Effect Whole
  act row whole = if are_settled whole row then row_does row whole else Does (Stops Wrong)

-- The run of a flat program from its start, which stops directly behind the a-th jump or test, and
-- at a group that wants a further turn behind the n-th of a loop.
abbrev pub flat_run : Tables → ℕ → ℕ → Result
flat_run tables a n = runs (act tables n) (all_inlined tables) a 0 (start_whole tables)
