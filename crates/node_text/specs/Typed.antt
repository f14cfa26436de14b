-- Tables as memory holds them: each number is one of its field's type, and an array has its length.
use Rattle.std.specs.Prelude.{◌≡◌, ℕ, ◌^◌, ◌<◌, ℤ, Option, List, length, All}
use Rattle.std.specs.Option.{IfSome}
use Rattle.hex.specs.Hex.{IsBytes}
use Rattle.zpl_nums.specs.Integer.{IsInteger}
use Rattle.zpl_region.specs.declared.dims.Dim.{Dim}
use Rattle.zpl_region.specs.declared.dims.Dim.TheVariants as dim
use Rattle.node_form.specs.declared.arrays.ArrayRow.{ArrayRow}
use Rattle.node_form.specs.declared.arrays.ArrayDim.{ArrayDim}
use Rattle.node_form.specs.declared.arrays.ArrayDim.TheVariants as axis
use Rattle.node_form.specs.declared.arrays.Item.{Item}
use Rattle.node_form.specs.declared.instructions.DimRow.{DimRow}
use Rattle.node_form.specs.declared.instructions.DimRow.TheVariants as made
use Rattle.node_form.specs.declared.instructions.Instr.{Instr}
use Rattle.node_form.specs.declared.instructions.Instr.TheVariants as instr
use Rattle.node_form.specs.declared.members.Member.{Member}
use Rattle.node_form.specs.declared.members.Member.TheVariants as member
use Rattle.node_form.specs.declared.tables.Tables.{Tables}
use Rattle.node_form.specs.declared.words.ExprOp.{ExprOp}
use Rattle.node_form.specs.declared.words.ExprOp.TheVariants as word

-- ---- numbers
abbrev pub IsU32 : ℕ → Type 0
IsU32 n = n < 2 ^ 32

abbrev pub IsMask : Option ℕ → Type 0
IsMask mask = IfSome mask IsU32

abbrev pub HasThree : {X : Type 0} → List X → Type 0
HasThree xs = length xs ≡ 3

abbrev pub IsShift : List ℤ → Type 0
IsShift shift = HasThree shift × All IsInteger shift

-- ---- dimensions
abbrev pub TypedDim : Dim → Type 0
TypedDim (dim.Range lo hi step align) = IsInteger lo × IsInteger hi × IsInteger step × IsInteger align
TypedDim dim.Flood = Unit {0}

abbrev pub TypedAxis : ArrayDim → Type 0
TypedAxis (axis.Range lo hi low high) = IsInteger lo × IsInteger hi × IsInteger low × IsInteger high
TypedAxis axis.Star = Unit {0}

abbrev pub TypedMade : DimRow → Type 0
TypedMade (made.Span low high) = IsU32 low × IsU32 high
TypedMade made.Star = Unit {0}
TypedMade (made.Copied slot) = IsU32 slot

-- ---- rows
pub record TypedArray (row : ArrayRow) : Type 0 where
  pub three : HasThree row.dims
  pub dims : All TypedAxis row.dims

abbrev pub TypedWord : ExprOp → Type 0
TypedWord (word.Const value) = IsInteger value
TypedWord (word.Scalar scalar) = IsU32 scalar
TypedWord (word.Here array) = IsU32 array
TypedWord (word.Shifted array shift) = IsU32 array × IsShift shift
TypedWord (word.Cell cell) = IsU32 cell
TypedWord (word.Coord dimension) = dimension < 2 ^ 8
TypedWord (word.Pair op) = Unit {0}
TypedWord word.Neg = Unit {0}
TypedWord word.Not = Unit {0}
TypedWord word.Abs = Unit {0}

abbrev pub TypedMember : Member → Type 0
TypedMember (member.Put array expr mask line) = IsU32 array × IsU32 expr × IsMask mask × IsU32 line
TypedMember (member.Cell cell expr mask line) = IsU32 cell × IsU32 expr × IsMask mask × IsU32 line
TypedMember (member.Acc scalar fold expr mask line) = IsU32 scalar × IsU32 expr × IsMask mask × IsU32 line
TypedMember (member.OpenIf expr mask line) = IsU32 expr × IsMask mask × IsU32 line
TypedMember member.Otherwise = Unit {0}
TypedMember member.CloseIf = Unit {0}
TypedMember (member.OpenWhile expr mask line) = IsU32 expr × IsMask mask × IsU32 line
TypedMember member.CloseWhile = Unit {0}
TypedMember (member.OpenRepeat mask line) = IsMask mask × IsU32 line
TypedMember (member.Until expr) = IsU32 expr

pub record TypedItem (item : Item) : Type 0 where
  pub array : IsU32 item.array
  pub slot : IsU32 item.slot
  pub shift : IsShift item.shift

abbrev pub TypedInstr : Instr → Type 0
TypedInstr (instr.Set scalar expr line) = IsU32 scalar × IsU32 expr × IsU32 line
TypedInstr (instr.Fix slot region) = IsU32 slot × HasThree region.dims × All TypedDim region.dims
TypedInstr (instr.Dims slot parts line) = IsU32 slot × HasThree parts × All TypedMade parts × IsU32 line
TypedInstr (instr.Formed form slot from shift line) = IsU32 slot × IsU32 from × IsShift shift × IsU32 line
TypedInstr (instr.Need slot array shift line) = IsU32 slot × IsU32 array × IsShift shift × IsU32 line
TypedInstr (instr.Same target source kind line) = IsU32 target × IsU32 source × IsU32 line
TypedInstr (instr.Fits slot shift line) = IsU32 slot × IsShift shift × IsU32 line
TypedInstr (instr.Room array slot) = IsU32 array × IsU32 slot
TypedInstr (instr.Clear array) = IsU32 array
TypedInstr (instr.Loop slot group) = IsU32 slot × IsU32 group
TypedInstr (instr.Start exchange) = IsU32 exchange
TypedInstr (instr.Finish exchange) = IsU32 exchange
TypedInstr (instr.Edge kind array slot shift) = IsU32 array × IsU32 slot × IsShift shift
TypedInstr (instr.Flood array target from source) = IsU32 array × IsU32 target × IsU32 from × IsU32 source
TypedInstr (instr.Part array target fold from source) = IsU32 array × IsU32 target × IsU32 from × IsU32 source
TypedInstr (instr.Scan array slot fold along from mask) =
    IsU32 array × IsU32 slot × (along < 2 ^ 8) × IsU32 from × IsMask mask
TypedInstr (instr.Vote group) = IsU32 group
TypedInstr (instr.Fold scalar fold) = IsU32 scalar
TypedInstr (instr.TreeVote group) = IsU32 group
TypedInstr (instr.TreeFold scalar fold) = IsU32 scalar
TypedInstr (instr.Print text) = IsU32 text
TypedInstr (instr.Number expr) = IsU32 expr
TypedInstr (instr.Truth expr) = IsU32 expr
TypedInstr (instr.Gather truth array slot) = IsU32 array × IsU32 slot
TypedInstr (instr.Jump goal) = IsU32 goal
TypedInstr (instr.Unless expr goal line) = IsU32 expr × IsU32 goal × IsU32 line
TypedInstr (instr.Trap kind line) = IsU32 line
TypedInstr instr.End = Unit {0}
TypedInstr (instr.Remap array slot from parts) = IsU32 array × IsU32 slot × IsU32 from × HasThree parts × All IsMask parts

-- ---- tables
pub record IsTyped (tables : Tables) : Type 0 where
  pub three : HasThree tables.grid
  pub grid : All IsU32 tables.grid
  pub scalars : IsU32 tables.scalars
  pub cells : IsU32 tables.cells
  pub arrays : All TypedArray tables.arrays
  pub texts : All IsBytes tables.texts
  pub exprs : All (All TypedWord) tables.exprs
  pub groups : All (All TypedMember) tables.groups
  pub exchanges : All (All TypedItem) tables.exchanges
  pub code : All TypedInstr tables.code
