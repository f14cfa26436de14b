-- What the fields of a line say, and how it is written.
use Rattle.std.specs.Prelude.{ℕ, pos, Option, Some, None, List, [], ◌∷◌, take}
use Rattle.zpl_nums.specs.declared.folds.Fold.{Fold}
use Rattle.zpl_nums.specs.declared.folds.Fold.TheVariants as fold
use Rattle.zpl_nums.specs.declared.operators.Op.{Op}
use Rattle.zpl_nums.specs.declared.operators.Op.TheVariants as op
use Rattle.zpl_region.specs.declared.dims.Dim.{Dim}
use Rattle.zpl_region.specs.declared.dims.Dim.TheVariants as dim
use Rattle.listing_lines.specs.of_node_form.declared.arrays.ArrayDim.{ArrayDim}
use Rattle.listing_lines.specs.of_node_form.declared.arrays.ArrayDim.TheVariants as axis
use Rattle.listing_lines.specs.of_node_form.declared.instructions.DimRow.{DimRow}
use Rattle.listing_lines.specs.of_node_form.declared.instructions.DimRow.TheVariants as made
use Rattle.listing_lines.specs.of_node_form.declared.words.ExprOp.{ExprOp}
use Rattle.listing_lines.specs.of_node_form.declared.words.ExprOp.TheVariants as word
use Rattle.listing_lines.specs.declared.fields.Field.{Field}
use Rattle.listing_lines.specs.declared.fields.Field.TheVariants as field
use Rattle.listing_lines.specs.declared.fields.Mark.TheVariants as mark
use Rattle.listing_lines.specs.declared.names.Name.{Name}
use Rattle.listing_lines.specs.declared.names.Name.TheVariants as name
use Rattle.listing_rows.specs.declared.fields.Said.{Said}
use Rattle.listing_rows.specs.declared.fields.Said.TheVariants.{Nothing, Number, Mask, Vector, Called, Bounds, Made, Stored, Hidden, Word}

abbrev pub fold_name : Fold → Name
fold_name fold.Sum = name.Sum
fold_name fold.Prod = name.Prod
fold_name fold.Max = name.Max
fold_name fold.Min = name.Min
fold_name fold.All = name.All
fold_name fold.Any = name.Any

abbrev pub operator_name : Op → Name
operator_name op.Add = name.Plus
operator_name op.Sub = name.Minus
operator_name op.Mul = name.Star
operator_name op.Div = name.Slash
operator_name op.Rem = name.Percent
operator_name op.Eq = name.Equal
operator_name op.Ne = name.NotEqual
operator_name op.Lt = name.Less
operator_name op.Le = name.LessEqual
operator_name op.Gt = name.Greater
operator_name op.Ge = name.GreaterEqual
operator_name op.And = name.And
operator_name op.Or = name.Or
operator_name op.Max = name.Max
operator_name op.Min = name.Min

abbrev pub number_field : ℕ → Field
number_field number = field.Numbers mark.Plain (pos number ∷ [])

abbrev pub mask_field : Option ℕ → Field
mask_field None = field.Name name.Minus
mask_field (Some expr) = number_field expr

abbrev pub bounds_field : Dim → Field
bounds_field (dim.Range lo hi step align) = field.Numbers mark.Bounds (lo ∷ hi ∷ step ∷ align ∷ [])
bounds_field dim.Flood = field.Name name.Star

abbrev pub made_field : DimRow → Field
made_field (made.Span low high) = field.Numbers mark.Span (pos low ∷ pos high ∷ [])
made_field made.Star = field.Name name.Star
made_field (made.Copied slot) = field.Numbers mark.Copied (pos slot ∷ [])

abbrev pub stored_field : ArrayDim → Field
stored_field (axis.Range lo hi low high) = field.Numbers mark.Range (lo ∷ hi ∷ low ∷ high ∷ [])
stored_field axis.Star = field.Name name.Star

abbrev pub hidden_field : ArrayDim → Field
hidden_field (axis.Range lo hi low high) = field.Name name.Minus
hidden_field axis.Star = field.Name name.MinusStar

-- a word of an expression; a vector has as many components as its array has dimensions
abbrev pub word_field : ℕ → ExprOp → Field
word_field rank (word.Const value) = field.Numbers mark.Constant (value ∷ [])
word_field rank (word.Scalar scalar) = field.Numbers mark.Scalar (pos scalar ∷ [])
word_field rank (word.Here array) = field.Numbers mark.Here (pos array ∷ [])
word_field rank (word.Shifted array shift) = field.Numbers mark.Shifted (pos array ∷ take rank shift)
word_field rank (word.Cell cell) = field.Numbers mark.Cell (pos cell ∷ [])
word_field rank (word.Coord dimension) = field.Numbers mark.Coord (pos dimension ∷ [])
word_field rank (word.Pair op) = field.Name (operator_name op)
word_field rank word.Neg = field.Name name.Neg
word_field rank word.Not = field.Name name.Not
word_field rank word.Abs = field.Name name.Abs

abbrev pub field_of : Said → Option Field
field_of Nothing = None
field_of (Number number) = Some (number_field number)
field_of (Mask expr) = Some (mask_field expr)
field_of (Vector rank shift) = Some (field.Numbers mark.Plain (take rank shift))
field_of (Called name) = Some (field.Name name)
field_of (Bounds dim) = Some (bounds_field dim)
field_of (Made part) = Some (made_field part)
field_of (Stored dim) = Some (stored_field dim)
field_of (Hidden dim) = Some (hidden_field dim)
field_of (Word rank word) = Some (word_field rank word)

abbrev pub added : Option Field → List Field → List Field
added None fields = fields
added (Some field) fields = field ∷ fields

abbrev pub fields_of : List Said → List Field
fields_of [] = []
fields_of (said ∷ rest) = added (field_of said) (fields_of rest)
