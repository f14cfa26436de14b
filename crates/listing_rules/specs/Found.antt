-- The row that the fields of a line tell. Fields that are none of a row's tell some row too: that it
-- is written as the line is what makes it the line's row.
use Rattle.std.specs.Prelude.{ℕ, ◌+◌, ◌-◌, nat_lt, min, Bool, true, false, if◌then◌else◌, ℤ, pos, negsuc, Option, Some, None, unwrap_or, List, [], ◌∷◌, length, map, slice_get}
use Rattle.zpl_nums.specs.declared.ends.Border.TheVariants as border
use Rattle.zpl_nums.specs.declared.ends.TrapKind.{TrapKind}
use Rattle.zpl_nums.specs.declared.ends.TrapKind.TheVariants as trap
use Rattle.zpl_nums.specs.declared.folds.Fold.{Fold}
use Rattle.zpl_nums.specs.declared.folds.Fold.TheVariants as fold
use Rattle.zpl_nums.specs.declared.operators.Op.TheVariants as op
use Rattle.zpl_region.specs.declared.dims.Dim.{Dim}
use Rattle.zpl_region.specs.declared.dims.Dim.TheVariants as dim
use Rattle.zpl_region.specs.declared.regions.Region.{Region}
use Rattle.node_form.specs.declared.arrays.ArrayRow.{ArrayRow}
use Rattle.node_form.specs.declared.arrays.ArrayDim.{ArrayDim}
use Rattle.node_form.specs.declared.arrays.ArrayDim.TheVariants as axis
use Rattle.node_form.specs.declared.arrays.Item.{Item}
use Rattle.node_form.specs.declared.instructions.DimRow.{DimRow}
use Rattle.node_form.specs.declared.instructions.DimRow.TheVariants as made
use Rattle.node_form.specs.declared.instructions.Instr.{Instr}
use Rattle.node_form.specs.declared.instructions.Instr.TheVariants as instr
use Rattle.node_form.specs.declared.instructions.RegionForm.TheVariants as form
use Rattle.node_form.specs.declared.instructions.SameKind.{SameKind}
use Rattle.node_form.specs.declared.instructions.SameKind.TheVariants as same
use Rattle.node_form.specs.declared.members.Member.{Member}
use Rattle.node_form.specs.declared.members.Member.TheVariants as member
use Rattle.node_form.specs.declared.words.ExprOp.{ExprOp}
use Rattle.node_form.specs.declared.words.ExprOp.TheVariants as word
use Rattle.listing_rows.specs.of_listing_lines.declared.fields.Field.{Field}
use Rattle.listing_rows.specs.of_listing_lines.declared.fields.Field.TheVariants as field
use Rattle.listing_rows.specs.of_listing_lines.declared.fields.Mark.{Mark}
use Rattle.listing_rows.specs.of_listing_lines.declared.fields.Mark.TheVariants as mark
use Rattle.listing_rows.specs.of_listing_lines.declared.keywords.Keyword.{Keyword}
use Rattle.listing_rows.specs.of_listing_lines.declared.keywords.Keyword.TheVariants as key
use Rattle.listing_rows.specs.of_listing_lines.declared.names.Name.{Name}
use Rattle.listing_rows.specs.of_listing_lines.declared.names.Name.TheVariants as name

-- ---- numbers
-- the number, or 0 where it isn't one of 32 bits
abbrev pub u32_of : ℤ → ℕ
u32_of (pos n) = if nat_lt n 4294967296 then n else 0
u32_of (negsuc n) = 0

-- the number with this place, or 0
abbrev pub component : List ℤ → ℕ → ℤ
component numbers k = unwrap_or (slice_get numbers k) (pos 0)

abbrev pub vector_of : List ℤ → List ℤ
vector_of numbers = component numbers 0 ∷ component numbers 1 ∷ component numbers 2 ∷ []

abbrev pub numbers_in : Option Field → List ℤ
numbers_in (Some (field.Numbers mark numbers)) = numbers
numbers_in other = []

abbrev pub number_at : List Field → ℕ → ℕ
number_at fields k = u32_of (component (numbers_in (slice_get fields k)) 0)

abbrev pub vector_at : List Field → ℕ → List ℤ
vector_at fields k = vector_of (numbers_in (slice_get fields k))

abbrev pub mask_in : Option Field → Option ℕ
mask_in (Some (field.Numbers mark numbers)) = Some (u32_of (component numbers 0))
mask_in other = None

abbrev pub mask_at : List Field → ℕ → Option ℕ
mask_at fields k = mask_in (slice_get fields k)

-- ---- names
abbrev pub name_in : Option Field → Name
name_in (Some (field.Name name)) = name
name_in other = name.Minus

abbrev pub fold_of : Name → Fold
fold_of name.Sum = fold.Sum
fold_of name.Prod = fold.Prod
fold_of name.Max = fold.Max
fold_of name.Min = fold.Min
fold_of name.All = fold.All
fold_of other = fold.Any

abbrev pub fold_at : List Field → ℕ → Fold
fold_at fields k = fold_of (name_in (slice_get fields k))

abbrev pub same_of : Name → SameKind
same_of name.Part = same.Part
same_of other = same.Flood

abbrev pub is_truth : Name → Bool
is_truth name.Truth = true
is_truth other = false

abbrev pub trap_of : ℕ → TrapKind
trap_of n =
    if nat_lt n 2 then trap.DivideByZero else if nat_lt n 3 then trap.OutsideStorage
    else if nat_lt n 4 then trap.RegionLimit else trap.RegionMismatch

-- ---- dimensions
abbrev pub bounds_in : Option Field → Dim
bounds_in None = dim.Range (pos 0) (pos 0) (pos 1) (pos 0)
bounds_in (Some (field.Numbers mark numbers)) =
    dim.Range (component numbers 0) (component numbers 1) (component numbers 2) (component numbers 3)
bounds_in (Some other) = dim.Flood

abbrev pub axis_named : Name → ArrayDim
axis_named name.Minus = axis.Range (pos 0) (pos 0) (pos 0) (pos 0)
axis_named other = axis.Star

abbrev pub axis_in : Option Field → ArrayDim
axis_in (Some (field.Numbers mark numbers)) =
    axis.Range (component numbers 0) (component numbers 1) (component numbers 2) (component numbers 3)
axis_in (Some (field.Name name)) = axis_named name
axis_in other = axis.Range (pos 0) (pos 0) (pos 0) (pos 0)

abbrev pub made_by : Mark → List ℤ → DimRow
made_by mark.Span numbers = made.Span (u32_of (component numbers 0)) (u32_of (component numbers 1))
made_by other numbers = made.Copied (u32_of (component numbers 0))

abbrev pub made_in : Option Field → DimRow
made_in (Some (field.Numbers mark numbers)) = made_by mark numbers
made_in other = made.Star

-- a part of a `dims`: none in the last field
abbrev pub made_at : List Field → ℕ → DimRow
made_at fields k = if nat_lt (k + 1) (length fields) then made_in (slice_get fields k) else made.Star

-- ---- arrays
abbrev pub is_hidden : Name → Bool
is_hidden name.Minus = true
is_hidden name.MinusStar = true
is_hidden other = false

abbrev pub is_stored : Option Field → Bool
is_stored (Some (field.Name name)) = if is_hidden name then false else true
is_stored other = true

-- how many there are, up to four
abbrev pub rank_of : ℕ → ℕ
rank_of count = min count 4

abbrev pub array_in : List Field → ArrayRow
array_in fields = record {
  rank = rank_of (length fields);
  stored = is_stored (slice_get fields 0);
  dims = axis_in (slice_get fields 0) ∷ axis_in (slice_get fields 1) ∷ axis_in (slice_get fields 2) ∷ [];
}

-- ---- words of expressions
abbrev pub operator_in : Name → ExprOp
operator_in name.Plus = word.Pair op.Add
operator_in name.Minus = word.Pair op.Sub
operator_in name.Star = word.Pair op.Mul
operator_in name.Slash = word.Pair op.Div
operator_in name.Percent = word.Pair op.Rem
operator_in name.Equal = word.Pair op.Eq
operator_in name.NotEqual = word.Pair op.Ne
operator_in name.Less = word.Pair op.Lt
operator_in name.LessEqual = word.Pair op.Le
operator_in name.Greater = word.Pair op.Gt
operator_in name.GreaterEqual = word.Pair op.Ge
operator_in name.And = word.Pair op.And
operator_in name.Or = word.Pair op.Or
operator_in name.Max = word.Pair op.Max
operator_in name.Min = word.Pair op.Min
operator_in name.Neg = word.Neg
operator_in name.Not = word.Not
operator_in other = word.Abs

abbrev pub operand_in : Mark → List ℤ → ExprOp
operand_in mark.Scalar numbers = word.Scalar (u32_of (component numbers 0))
operand_in mark.Here numbers = word.Here (u32_of (component numbers 0))
operand_in mark.Shifted numbers =
    word.Shifted (u32_of (component numbers 0)) (component numbers 1 ∷ component numbers 2 ∷ component numbers 3 ∷ [])
operand_in mark.Cell numbers = word.Cell (u32_of (component numbers 0))
operand_in mark.Coord numbers = word.Coord (min (u32_of (component numbers 0)) 4)
operand_in other numbers = word.Const (component numbers 0)

abbrev pub word_in : Field → ExprOp
word_in (field.Name name) = operator_in name
word_in (field.Numbers mark numbers) = operand_in mark numbers
word_in (field.Bytes bytes) = word.Abs

abbrev pub words_in : List Field → List ExprOp
words_in fields = map word_in fields

-- ---- the other rows
abbrev pub bytes_in : Option Field → List ℕ
bytes_in (Some (field.Bytes bytes)) = bytes
bytes_in other = []

abbrev pub grid_in : List Field → List ℕ
grid_in fields = number_at fields 0 ∷ number_at fields 1 ∷ number_at fields 2 ∷ []

-- the rank of a slot
abbrev pub rank_in : Field → ℕ
rank_in (field.Numbers mark numbers) = min (u32_of (component numbers 0)) 4
rank_in other = 0

abbrev pub ranks_in : List Field → List ℕ
ranks_in fields = map rank_in fields

abbrev pub item_in : List Field → Item
item_in fields = record { array = number_at fields 0; slot = number_at fields 1; shift = vector_at fields 2 }

abbrev pub member_in : Keyword → List Field → Option Member
member_in key.Put fields = Some (member.Put (number_at fields 0) (number_at fields 1) (mask_at fields 2) (number_at fields 3))
member_in key.Cell fields = Some (member.Cell (number_at fields 0) (number_at fields 1) (mask_at fields 2) (number_at fields 3))
member_in key.Acc fields =
    Some (member.Acc (number_at fields 0) (fold_at fields 1) (number_at fields 2) (mask_at fields 3) (number_at fields 4))
member_in key.If fields = Some (member.OpenIf (number_at fields 0) (mask_at fields 1) (number_at fields 2))
member_in key.Else fields = Some member.Otherwise
member_in key.Fi fields = Some member.CloseIf
member_in key.While fields = Some (member.OpenWhile (number_at fields 0) (mask_at fields 1) (number_at fields 2))
member_in key.Od fields = Some member.CloseWhile
member_in key.Repeat fields = Some (member.OpenRepeat (mask_at fields 0) (number_at fields 1))
member_in key.Until fields = Some (member.Until (number_at fields 0))
member_in other fields = None

abbrev pub region_in : List Field → Region
region_in fields = record {
  rank = rank_of (length fields - 1);
  dims = bounds_in (slice_get fields 1) ∷ bounds_in (slice_get fields 2) ∷ bounds_in (slice_get fields 3) ∷ [];
}

abbrev pub instr_in : Keyword → List Field → Option Instr
instr_in key.Set fields = Some (instr.Set (number_at fields 0) (number_at fields 1) (number_at fields 2))
instr_in key.Fix fields = Some (instr.Fix (number_at fields 0) (region_in fields))
instr_in key.Dims fields =
    Some (instr.Dims (number_at fields 0) (made_at fields 1 ∷ made_at fields 2 ∷ made_at fields 3 ∷ [])
    (number_at fields (length fields - 1)))
instr_in key.Of fields = Some (instr.Formed form.Of (number_at fields 0) (number_at fields 1) (vector_at fields 2) (number_at fields 3))
instr_in key.In fields = Some (instr.Formed form.Inside (number_at fields 0) (number_at fields 1) (vector_at fields 2) (number_at fields 3))
instr_in key.At fields = Some (instr.Formed form.At (number_at fields 0) (number_at fields 1) (vector_at fields 2) (number_at fields 3))
instr_in key.By fields = Some (instr.Formed form.By (number_at fields 0) (number_at fields 1) (vector_at fields 2) (number_at fields 3))
instr_in key.Need fields = Some (instr.Need (number_at fields 0) (number_at fields 1) (vector_at fields 2) (number_at fields 3))
instr_in key.Same fields =
    Some (instr.Same (number_at fields 0) (number_at fields 1) (same_of (name_in (slice_get fields 2))) (number_at fields 3))
instr_in key.Fits fields = Some (instr.Fits (number_at fields 0) (vector_at fields 1) (number_at fields 2))
instr_in key.Room fields = Some (instr.Room (number_at fields 0) (number_at fields 1))
instr_in key.Clear fields = Some (instr.Clear (number_at fields 0))
instr_in key.Loop fields = Some (instr.Loop (number_at fields 0) (number_at fields 1))
instr_in key.Start fields = Some (instr.Start (number_at fields 0))
instr_in key.Finish fields = Some (instr.Finish (number_at fields 0))
instr_in key.Wrap fields = Some (instr.Edge border.Wrap (number_at fields 0) (number_at fields 1) (vector_at fields 2))
instr_in key.Reflect fields = Some (instr.Edge border.Reflect (number_at fields 0) (number_at fields 1) (vector_at fields 2))
instr_in key.Flood fields =
    Some (instr.Flood (number_at fields 0) (number_at fields 1) (number_at fields 2) (number_at fields 3))
instr_in key.Part fields =
    Some (instr.Part (number_at fields 0) (number_at fields 1) (fold_at fields 2) (number_at fields 3) (number_at fields 4))
instr_in key.Scan fields =
    Some (instr.Scan (number_at fields 0) (number_at fields 1) (fold_at fields 2) (min (number_at fields 3) 4)
    (number_at fields 4) (mask_at fields 5))
instr_in key.Remap fields =
    Some (instr.Remap (number_at fields 0) (number_at fields 1) (number_at fields 2)
    (mask_at fields 3 ∷ mask_at fields 4 ∷ mask_at fields 5 ∷ []))
instr_in key.Vote fields = Some (instr.Vote (number_at fields 0))
instr_in key.Fold fields = Some (instr.Fold (number_at fields 0) (fold_at fields 1))
instr_in key.TreeVote fields = Some (instr.TreeVote (number_at fields 0))
instr_in key.TreeFold fields = Some (instr.TreeFold (number_at fields 0) (fold_at fields 1))
instr_in key.Print fields = Some (instr.Print (number_at fields 0))
instr_in key.Number fields = Some (instr.Number (number_at fields 0))
instr_in key.Truth fields = Some (instr.Truth (number_at fields 0))
instr_in key.Gather fields =
    Some (instr.Gather (is_truth (name_in (slice_get fields 0))) (number_at fields 1) (number_at fields 2))
instr_in key.Jump fields = Some (instr.Jump (number_at fields 0))
instr_in key.Unless fields = Some (instr.Unless (number_at fields 0) (number_at fields 1) (number_at fields 2))
instr_in key.Trap fields = Some (instr.Trap (trap_of (number_at fields 0)) (number_at fields 1))
instr_in key.End fields = Some instr.End
instr_in other fields = None
