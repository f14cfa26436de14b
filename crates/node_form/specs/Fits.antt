-- When the tables of a program fit: one name for each rule.
use Rattle.std.specs.Prelude.{◌≡◌, ℕ, ◌^◌, ◌<◌, ◌≤◌, Bool, true, false, ℤ, pos, ◌≤ℤ◌, List, length, map, take, drop, slice_get, Option, Some, All}
use Rattle.std.specs.Option.{IfSome, IsSomeAnd, IsNone}
use Rattle.zpl_arrays.specs.of_zpl_region.declared.dims.Dim.{Dim}
use Rattle.zpl_arrays.specs.of_zpl_region.declared.dims.Dim.TheVariants as dim
use Rattle.zpl_arrays.specs.of_zpl_region.declared.regions.Region.{Region}
use Rattle.zpl_arrays.specs.of_zpl_region.Dim.{IsUpTo, HasStep}
use Rattle.zpl_arrays.specs.of_zpl_region.Region.{IsPadded, IsWithinLimit}
use Rattle.node_form.specs.declared.words.ExprOp.{ExprOp}
use Rattle.node_form.specs.declared.words.ExprOp.TheVariants as word
use Rattle.node_form.specs.declared.arrays.ArrayDim.{ArrayDim}
use Rattle.node_form.specs.declared.arrays.ArrayDim.TheVariants.{Range, Star}
use Rattle.node_form.specs.declared.arrays.ArrayRow.{ArrayRow}
use Rattle.node_form.specs.declared.arrays.Item.{Item}
use Rattle.node_form.specs.declared.members.Member.{Member}
use Rattle.node_form.specs.declared.members.Member.TheVariants as member
use Rattle.node_form.specs.declared.instructions.DimRow.{DimRow}
use Rattle.node_form.specs.declared.instructions.DimRow.TheVariants as part
use Rattle.node_form.specs.declared.instructions.Instr.{Instr}
use Rattle.node_form.specs.declared.instructions.Instr.TheVariants as instr
use Rattle.node_form.specs.declared.tables.Tables.{Tables}
use Rattle.node_form.specs.Expression.{IsExpression}
use Rattle.node_form.specs.Grid.{IsGrid}
use Rattle.node_form.specs.Nest.{IsNest}

-- ---- ranks
abbrev pub IsRank : ℕ → Type 0
IsRank rank = (1 ≤ rank) × (rank ≤ 3)

-- a component of a vector is at most 2^31 in size, and 0 past the rank
abbrev pub IsVector : ℕ → List ℤ → Type 0
IsVector rank vector = All (IsUpTo 31) vector × All (λ component. component ≡ pos 0) (drop rank vector)

-- the slot is there, and is for regions of this rank
abbrev pub HasSlot : Tables → ℕ → ℕ → Type 0
HasSlot tables rank slot = slice_get tables.slots slot ≡ Some rank

-- the array is there, and has this rank
abbrev pub HasArray : Tables → ℕ → ℕ → Type 0
HasArray tables rank array = IsSomeAnd (slice_get tables.arrays array) (λ row. row.rank ≡ rank)

-- and it is a stored one, or a temporary
abbrev pub IsStored : Tables → ℕ → Type 0
IsStored tables array = IsSomeAnd (slice_get tables.arrays array) (λ row. row.stored ≡ true)

abbrev pub IsTemporary : Tables → ℕ → Type 0
IsTemporary tables array = IsSomeAnd (slice_get tables.arrays array) (λ row. row.stored ≡ false)

-- ---- arrays
-- the dimension of a storage: the numbers from lo to hi
abbrev pub storage_dim : ArrayDim → Dim
storage_dim (Range lo hi low high) = dim.Range lo hi (pos 1) lo
storage_dim Star = dim.Flood

-- the region of the places that an array has
abbrev pub storage_of : ArrayRow → Region
storage_of row = record { rank = row.rank; dims = map storage_dim row.dims }

-- a width is from 0 to 2^31
abbrev pub IsWidth : ℤ → Type 0
IsWidth width = (pos 0 ≤ℤ width) × (width ≤ℤ pos (2 ^ 31))

abbrev pub HasFringe : ArrayDim → Type 0
HasFringe (Range lo hi low high) = IsWidth low × IsWidth high
HasFringe Star = Unit {0}

-- the range of four zeros, which stands past the rank and in each range of a temporary
abbrev pub IsUnused : ArrayDim → Type 0
IsUnused (Range lo hi low high) = (lo ≡ pos 0) × (hi ≡ pos 0) × (low ≡ pos 0) × (high ≡ pos 0)
IsUnused Star = ⊥

abbrev pub IsUnusedOrStar : ArrayDim → Type 0
IsUnusedOrStar (Range lo hi low high) = IsUnused (Range lo hi low high)
IsUnusedOrStar Star = Unit {0}

pub record FitsArray (row : ArrayRow) : Type 0 where
  pub rank : IsRank row.rank
  pub padded : All IsUnused (drop row.rank row.dims)
  pub limit : row.stored ≡ true → IsWithinLimit (storage_of row)
  pub fringes : row.stored ≡ true → All HasFringe row.dims
  pub without_storage : row.stored ≡ false → All IsUnusedOrStar row.dims

-- ---- expressions
-- the numbers in the word are in their tables, and its array, its vector and its coordinate are of
-- this rank
abbrev pub FitsWord : Tables → ℕ → ExprOp → Type 0
FitsWord tables rank (word.Const value) = Unit {0}
FitsWord tables rank (word.Scalar scalar) = scalar < tables.scalars
FitsWord tables rank (word.Here array) = HasArray tables rank array
FitsWord tables rank (word.Shifted array shift) = HasArray tables rank array × IsVector rank shift
FitsWord tables rank (word.Cell cell) = cell < tables.cells
FitsWord tables rank (word.Coord dimension) = (1 ≤ dimension) × (dimension ≤ rank)
FitsWord tables rank (word.Pair op) = Unit {0}
FitsWord tables rank word.Neg = Unit {0}
FitsWord tables rank word.Not = Unit {0}
FitsWord tables rank word.Abs = Unit {0}

-- the row is an expression whose words fit at one rank
pub record FitsExpr (tables : Tables) (words : List ExprOp) : Type 0 where
  pub stack : IsExpression words
  pub rank : ℕ
  pub is_rank : IsRank rank
  pub fit : All (FitsWord tables rank) words

-- the word has a value where there is no index
abbrev pub IsScalarWord : ExprOp → Type 0
IsScalarWord (word.Const value) = Unit {0}
IsScalarWord (word.Scalar scalar) = Unit {0}
IsScalarWord (word.Here array) = ⊥
IsScalarWord (word.Shifted array shift) = ⊥
IsScalarWord (word.Cell cell) = ⊥
IsScalarWord (word.Coord dimension) = ⊥
IsScalarWord (word.Pair op) = Unit {0}
IsScalarWord word.Neg = Unit {0}
IsScalarWord word.Not = Unit {0}
IsScalarWord word.Abs = Unit {0}

-- the expression is there, and no word of it needs an index
abbrev pub HasScalarExpr : Tables → ℕ → Type 0
HasScalarExpr tables expr = IsSomeAnd (slice_get tables.exprs expr) (All IsScalarWord)

-- the expression is there, and fits at this rank
abbrev pub HasExpr : Tables → ℕ → ℕ → Type 0
HasExpr tables rank expr = IsSomeAnd (slice_get tables.exprs expr) (All (FitsWord tables rank))

-- ---- groups
-- the numbers in the member are in their tables, and its array, its expression and its mask are of
-- this rank
abbrev pub FitsMember : Tables → ℕ → Member → Type 0
FitsMember tables rank (member.Put array expr mask line) =
    HasArray tables rank array × HasExpr tables rank expr × IfSome mask (HasExpr tables rank)
FitsMember tables rank (member.Cell cell expr mask line) =
    (cell < tables.cells) × HasExpr tables rank expr × IfSome mask (HasExpr tables rank)
FitsMember tables rank (member.Acc scalar fold expr mask line) =
    (scalar < tables.scalars) × HasExpr tables rank expr × IfSome mask (HasExpr tables rank)
FitsMember tables rank (member.OpenIf expr mask line) = HasExpr tables rank expr × IfSome mask (HasExpr tables rank)
FitsMember tables rank member.Otherwise = Unit {0}
FitsMember tables rank member.CloseIf = Unit {0}
FitsMember tables rank (member.OpenWhile expr mask line) = HasExpr tables rank expr × IfSome mask (HasExpr tables rank)
FitsMember tables rank member.CloseWhile = Unit {0}
FitsMember tables rank (member.OpenRepeat mask line) = IfSome mask (HasExpr tables rank)
FitsMember tables rank (member.Until expr) = HasExpr tables rank expr

-- members open and close as they must, and fit at one rank
pub record FitsGroup (tables : Tables) (members : List Member) : Type 0 where
  pub nest : IsNest members
  pub rank : ℕ
  pub is_rank : IsRank rank
  pub fit : All (FitsMember tables rank) members

-- the group is there, and fits at this rank
abbrev pub HasGroup : Tables → ℕ → ℕ → Type 0
HasGroup tables rank group = IsSomeAnd (slice_get tables.groups group) (All (FitsMember tables rank))

-- ---- exchanges
-- a stored array, a slot and a vector of one rank
pub record FitsItem (tables : Tables) (item : Item) : Type 0 where
  pub rank : ℕ
  pub slot : HasSlot tables rank item.slot
  pub array : HasArray tables rank item.array
  pub stored : IsStored tables item.array
  pub shift : IsVector rank item.shift

unfoldable pub FitsExchange : Tables → List Item → Type 0
FitsExchange tables items = All (FitsItem tables) items

-- ---- instructions
-- a region that stands in a row: within the limit, with steps of at least 1, and padded past its
-- rank
pub record FitsRegion (region : Region) : Type 0 where
  pub rank : IsRank region.rank
  pub steps : All HasStep region.dims
  pub padded : IsPadded region.rank region.dims
  pub limit : IsWithinLimit region

-- how a dimension of a region of this rank is made
abbrev pub FitsPart : Tables → ℕ → DimRow → Type 0
FitsPart tables rank (part.Span low high) = HasScalarExpr tables low × HasScalarExpr tables high
FitsPart tables rank part.Star = Unit {0}
FitsPart tables rank (part.Copied slot) = HasSlot tables rank slot

abbrev pub IsStar : DimRow → Type 0
IsStar (part.Span low high) = ⊥
IsStar part.Star = Unit {0}
IsStar (part.Copied slot) = ⊥

-- past the rank stands a star
abbrev pub FitParts : Tables → ℕ → List DimRow → Type 0
FitParts tables rank parts = All (FitsPart tables rank) parts × All IsStar (drop rank parts)

-- a dimension is a range
abbrev pub IsRange : ArrayDim → Type 0
IsRange (Range lo hi low high) = Unit {0}
IsRange Star = ⊥

-- a temporary of this rank, other than the target of a `remap`
abbrev pub IsIndexArray : Tables → ℕ → ℕ → ℕ → Type 0
IsIndexArray tables rank target array =
    HasArray tables rank array × IsTemporary tables array × (array ≡ target → ⊥)

-- A `remap` reads a stored array without flood dimension, by as many temporaries of the target's
-- rank as it has dimensions.
pub record FitsRemap (tables : Tables) (rank target : ℕ) (parts : List (Option ℕ)) (row : ArrayRow) : Type 0 where
  pub stored : row.stored ≡ true
  pub ranges : All IsRange row.dims
  pub given : All (λ part. IsSomeAnd part (IsIndexArray tables rank target)) (take row.rank parts)
  pub absent : All IsNone (drop row.rank parts)

-- The numbers in the instruction are in their tables, and its slots, arrays, group and vector are
-- of this rank, where it has any. A goal may also be the number of instructions.
abbrev pub FitsAt : Tables → ℕ → Instr → Type 0
FitsAt tables rank (instr.Set scalar expr line) = (scalar < tables.scalars) × HasScalarExpr tables expr
FitsAt tables rank (instr.Fix slot region) = HasSlot tables rank slot × FitsRegion region × (region.rank ≡ rank)
FitsAt tables rank (instr.Dims slot parts line) = HasSlot tables rank slot × FitParts tables rank parts
FitsAt tables rank (instr.Formed form slot from shift line) =
    HasSlot tables rank slot × HasSlot tables rank from × IsVector rank shift
FitsAt tables rank (instr.Need slot array shift line) =
    HasSlot tables rank slot × HasArray tables rank array × IsStored tables array × IsVector rank shift
FitsAt tables rank (instr.Same target source kind line) = HasSlot tables rank target × HasSlot tables rank source
FitsAt tables rank (instr.Fits slot shift line) = HasSlot tables rank slot × IsVector rank shift
FitsAt tables rank (instr.Room array slot) =
    HasSlot tables rank slot × HasArray tables rank array × IsTemporary tables array
FitsAt tables rank (instr.Clear array) = IsStored tables array
FitsAt tables rank (instr.Loop slot group) = HasSlot tables rank slot × HasGroup tables rank group
FitsAt tables rank (instr.Start exchange) = exchange < length tables.exchanges
FitsAt tables rank (instr.Finish exchange) = exchange < length tables.exchanges
FitsAt tables rank (instr.Edge kind array slot shift) =
    HasSlot tables rank slot × HasArray tables rank array × IsVector rank shift
FitsAt tables rank (instr.Flood array target from source) =
    HasSlot tables rank target × HasSlot tables rank source × HasArray tables rank array × HasArray tables rank from
FitsAt tables rank (instr.Part array target fold from source) =
    HasSlot tables rank target × HasSlot tables rank source × HasArray tables rank array × HasArray tables rank from
FitsAt tables rank (instr.Scan array slot fold along from mask) =
    HasSlot tables rank slot × HasArray tables rank array × HasArray tables rank from × IfSome mask (HasArray tables rank)
    × (along ≤ rank)
FitsAt tables rank (instr.Vote group) = group < length tables.groups
FitsAt tables rank (instr.Fold scalar fold) = scalar < tables.scalars
FitsAt tables rank (instr.TreeVote group) = group < length tables.groups
FitsAt tables rank (instr.TreeFold scalar fold) = scalar < tables.scalars
FitsAt tables rank (instr.Print text) = text < length tables.texts
FitsAt tables rank (instr.Number expr) = HasScalarExpr tables expr
FitsAt tables rank (instr.Truth expr) = HasScalarExpr tables expr
FitsAt tables rank (instr.Gather truth array slot) = HasSlot tables rank slot × HasArray tables rank array
FitsAt tables rank (instr.Jump goal) = goal ≤ length tables.code
FitsAt tables rank (instr.Unless expr goal line) = HasScalarExpr tables expr × (goal ≤ length tables.code)
FitsAt tables rank (instr.Trap kind line) = Unit {0}
FitsAt tables rank instr.End = Unit {0}
FitsAt tables rank (instr.Remap array slot from parts) =
    HasSlot tables rank slot × HasArray tables rank array × IsTemporary tables array
    × IsSomeAnd (slice_get tables.arrays from) (FitsRemap tables rank array parts)

-- the same of a row whose rule looks into no expression, no group, and not at the number of
-- instructions. Of a row whose rule does nothing is asked
abbrev pub FitsPlain : Tables → ℕ → Instr → Type 0
FitsPlain tables rank (instr.Set scalar expr line) = Unit {0}
FitsPlain tables rank (instr.Dims slot parts line) = Unit {0}
FitsPlain tables rank (instr.Loop slot group) = Unit {0}
FitsPlain tables rank (instr.Number expr) = Unit {0}
FitsPlain tables rank (instr.Truth expr) = Unit {0}
FitsPlain tables rank (instr.Jump goal) = Unit {0}
FitsPlain tables rank (instr.Unless expr goal line) = Unit {0}
FitsPlain tables rank row = FitsAt tables rank row

-- there is such a rank. A row without slots has no rank, and fits at each or at none
pub record FitsInstr (tables : Tables) (row : Instr) : Type 0 where
  pub rank : ℕ
  pub fit : FitsAt tables rank row

-- the tables, with another code
abbrev pub recoded : Tables → List Instr → Tables
recoded tables code = record tables { code = code }

-- ---- tables
-- the tables fit. That a number of scalars or cells and a line are below 2 ^ 32 needs no rule: they
-- are `u32`
pub record Fits (tables : Tables) : Type 0 where
  pub grid : IsGrid tables.grid
  pub slots : All IsRank tables.slots
  pub arrays : All FitsArray tables.arrays
  pub exprs : All (FitsExpr tables) tables.exprs
  pub groups : All (FitsGroup tables) tables.groups
  pub exchanges : All (FitsExchange tables) tables.exchanges
  pub code : All (FitsInstr tables) tables.code

-- ---- growth
-- what stands at a number stands there still
abbrev pub Keeps : {X : Type 0} → List X → List X → Type 0
Keeps {X} old new = (k : ℕ) (row : X) → slice_get old k ≡ Some row → slice_get new k ≡ Some row

-- what was a number of the old tables is one of the new tables, for the same slot, array,
-- expression or group
pub record Grows (old new : Tables) : Type 0 where
  pub scalars : old.scalars ≤ new.scalars
  pub cells : old.cells ≤ new.cells
  pub slots : Keeps old.slots new.slots
  pub arrays : Keeps old.arrays new.arrays
  pub texts : length old.texts ≤ length new.texts
  pub exprs : Keeps old.exprs new.exprs
  pub groups : Keeps old.groups new.groups
  pub exchanges : length old.exchanges ≤ length new.exchanges
  pub code : length old.code ≤ length new.code
