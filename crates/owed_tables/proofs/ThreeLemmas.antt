-- Tables that are as types give them have three dimensions everywhere.
use Rattle.std.specs.Prelude.{All}
use Rattle.std.proofs.lemmas.List.Elements.{All-weaker}
use Rattle.node_form.specs.declared.instructions.Instr.{Instr}
use Rattle.node_form.specs.declared.instructions.Instr.TheVariants as instr
use Rattle.node_form.specs.declared.words.ExprOp.{ExprOp}
use Rattle.node_form.specs.declared.words.ExprOp.TheVariants as word
use Rattle.node_form.specs.declared.tables.Tables.{Tables}
use Rattle.sharable_tables.specs.of_needs_runs.Agree.{HasThreeOf}
use Rattle.sharable_tables.specs.of_needs_runs.Sharable.{HasThreeIn}
use Rattle.sharable_tables.specs.Threes.{HasThrees}
use Rattle.typed_tables.specs.Typed.{AreTyped, IsTypedRow, IsTypedWord}

row_three : (one : Instr) → IsTypedRow one → HasThreeOf one
row_three (instr.Fix slot region) is = is
row_three (instr.Dims slot parts line) is = is
row_three (instr.Formed form slot from shift line) is = is
row_three (instr.Edge kind array slot shift) is = is
row_three one is = is

word_three : (one : ExprOp) → IsTypedWord one → HasThreeIn one
word_three (word.Shifted array shift) is = is
word_three one is = is

pub typed_three : (tables : Tables) → AreTyped tables → HasThrees tables
typed_three tables are = record {
  rows = All-weaker IsTypedRow HasThreeOf row_three tables.code are.code;
  arrays = are.arrays;
  words = All-weaker (All IsTypedWord) (All HasThreeIn) (All-weaker IsTypedWord HasThreeIn word_three)
      tables.exprs are.exprs;
}
