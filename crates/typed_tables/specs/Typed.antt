-- What the types of a program give its tables: arrays, and regions and vectors that stand in rows,
-- in words of expressions and in exchanges, are of three dimensions.
use Rattle.std.specs.Prelude.{◌≡◌, List, All, length}
use Rattle.node_form.specs.declared.arrays.ArrayRow.{ArrayRow}
use Rattle.node_form.specs.declared.arrays.Item.{Item}
use Rattle.node_form.specs.declared.instructions.Instr.{Instr}
use Rattle.node_form.specs.declared.instructions.Instr.TheVariants as instr
use Rattle.node_form.specs.declared.words.ExprOp.{ExprOp}
use Rattle.node_form.specs.declared.words.ExprOp.TheVariants as word
use Rattle.node_form.specs.declared.tables.Tables.{Tables}

abbrev pub IsTypedRow : Instr → Type 0
IsTypedRow (instr.Fix slot region) = length region.dims ≡ 3
IsTypedRow (instr.Dims slot parts line) = length parts ≡ 3
IsTypedRow (instr.Formed form slot from shift line) = length shift ≡ 3
IsTypedRow (instr.Edge kind array slot shift) = length shift ≡ 3
IsTypedRow row = Unit {0}

abbrev pub IsTypedWord : ExprOp → Type 0
IsTypedWord (word.Shifted array shift) = length shift ≡ 3
IsTypedWord other = Unit {0}

abbrev pub IsTypedArray : ArrayRow → Type 0
IsTypedArray row = length row.dims ≡ 3

abbrev pub IsTypedItem : Item → Type 0
IsTypedItem item = length item.shift ≡ 3

pub record AreTyped (tables : Tables) : Type 0 where
  pub arrays : All IsTypedArray tables.arrays
  pub exprs : All (All IsTypedWord) tables.exprs
  pub exchanges : All (All IsTypedItem) tables.exchanges
  pub code : All IsTypedRow tables.code
