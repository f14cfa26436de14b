-- Plans whose stretches are rewritten: goals lead to where they led.
--
--   with_fronts    the rows of each stretch rewritten, goals kept: as many rows as there were
--   with_units     the units of each stretch rewritten, goals moved, exchanges numbered anew
use Rattle.std.specs.Prelude.{ℕ, List, flat_map}
use Rattle.flat_passes.specs.of_node_form.declared.instructions.Instr.{Instr}
use Rattle.flat_passes.specs.of_node_form.declared.tables.Tables.{Tables}
use Rattle.flat_passes.specs.of_row_runs.Cut.{passed}
use Rattle.flat_passes.specs.Rewritten.{stretches_of, with_moved_goal}
use Rattle.plan_form.specs.Units.{PlanUnit, PlanRow, Other, laid_out, unit_rows, units_of}

-- ---- rows that change places within their stretches
abbrev pub with_fronts : (List Instr → List Instr) → Tables → Tables
with_fronts rewrite tables = record tables {
  code = passed rewrite (λ moved row. row) (stretches_of tables.code);
}

-- ---- units that come and go
abbrev pub ended_by : (ℕ → ℕ) → Instr → PlanRow
ended_by moved row = Other (with_moved_goal moved row)

abbrev pub rows_by : Tables → (List PlanUnit → List PlanUnit) → List Instr → List PlanRow
rows_by tables rewrite rows = flat_map unit_rows (rewrite (units_of tables rows))

abbrev pub with_units : (List PlanUnit → List PlanUnit) → Tables → Tables
with_units rewrite tables =
    laid_out tables
    (passed (rows_by tables rewrite) ended_by (stretches_of tables.code))
