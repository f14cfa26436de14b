-- What a program's types give its tables, in the words of those who ask for it.
use Rattle.node_form.specs.declared.instructions.Instr.{Instr}
use Rattle.node_form.specs.declared.instructions.Instr.TheVariants as instr
use Rattle.node_form.specs.declared.tables.Tables.{Tables}
use Rattle.typed_tables.specs.Typed.{AreTyped, IsTypedRow}
use Rattle.compiled_runs.specs.of_fused_runs.Typed.{HasThreeDims, IsTyped}

row_dims : (one : Instr) → IsTypedRow one → HasThreeDims one
row_dims (instr.Fix slot region) is = is
row_dims (instr.Dims slot parts line) is = is
row_dims one is = tt

pub is_typed : (tables : Tables) → AreTyped tables → IsTyped tables
is_typed tables are = record {
  arrays = are.arrays;
  rows = λ k one inside. row_dims _ (are.code k one inside);
}
