-- Tests, and the rows of a flat program that laid-out code is.
use Rattle.std.specs.Prelude.{ℕ}
use Rattle.text_sharing.specs.of_node_form.declared.instructions.Instr.TheVariants as instr
use Rattle.text_sharing.specs.of_row_runs.Code.{CodeRow, Straight, Jump, Unless}
use Rattle.text_sharing.specs.of_flat_form.Row as row
use Rattle.text_sharing.specs.of_flat_form.Row.{Row, Words}

-- a test: its expression, and the line of a trap in it
pub record Check : Type 0 where
  pub expr : Words
  pub line : ℕ

abbrev pub flat_row : CodeRow Row Check → Row
flat_row (Straight one) = one
flat_row (Jump goal) = row.Plain (instr.Jump goal)
flat_row (Unless check goal) = row.Unless check.expr goal check.line
