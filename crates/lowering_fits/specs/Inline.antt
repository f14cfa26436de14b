-- When rows that are seen inline fit: what their numbers name is asked of tables that have as many
-- scalars, the same slots and the same arrays as those that the rows are laid out in.
use Rattle.std.specs.Prelude.{◌≡◌, ℕ, zero, suc, ◌<◌, ◌≤◌, ◌⊎◌, Bool, true, false, List, [], ◌∷◌, Option, Some, None, All, flat_map, length, replicate}
use Rattle.std.specs.List.{list_all}
use Rattle.stored_shifts.specs.of_node_form.declared.instructions.Instr.{Instr}
use Rattle.stored_shifts.specs.of_node_form.declared.instructions.Instr.TheVariants as instr
use Rattle.stored_shifts.specs.of_node_form.declared.words.ExprOp.{ExprOp}
use Rattle.stored_shifts.specs.of_node_form.declared.words.ExprOp.TheVariants as word
use Rattle.stored_shifts.specs.of_node_form.declared.tables.Tables.{Tables}
use Rattle.stored_shifts.specs.of_node_form.Expression.{IsExpression}
use Rattle.stored_shifts.specs.of_node_form.Fits.{IsRank, HasSlot, HasArray, IsTemporary, FitsWord, IsScalarWord, FitsInstr}
use Rattle.stored_shifts.specs.of_node_form.Nest.{IsNest}
use Rattle.stored_shifts.specs.Stored.{IsStoredRead}
use Rattle.typed_tables.specs.Typed.{IsTypedWord}
use Rattle.lower_numbers.specs.of_flat_form.Row as row
use Rattle.lower_numbers.specs.of_flat_form.Row.{Words, Member, Part, Row, group_coded, mask_words, member_words}
use Rattle.lower_numbers.specs.of_flat_form.Static.{word_has_fringe}
use Rattle.lower_numbers.specs.of_row_runs.Structured as piece
use Rattle.lower_numbers.specs.of_row_runs.Structured.{Piece}
use Rattle.lower_numbers.specs.of_zpl_lowering.Check.{Check}

-- ---- expressions

-- The words are those of an expression, and fit at the rank. What they read with a shift is stored,
-- shifts have three components, and each is within its array's fringe.
pub record FitsWords (tables : Tables) (rank : ℕ) (words : Words) : Type 0 where
  pub stack : IsExpression words
  pub fit : All (FitsWord tables rank) words
  pub stored : All (IsStoredRead tables) words
  pub typed : All IsTypedWord words
  pub within : list_all (word_has_fringe tables) words ≡ true

-- and none of them needs an index
pub record FitsScalar (tables : Tables) (words : Words) : Type 0 where
  pub stands : FitsWords tables 1 words
  pub scalar : All IsScalarWord words

abbrev pub FitsMask : Tables → ℕ → Option Words → Type 0
FitsMask tables rank None = Unit {0}
FitsMask tables rank (Some words) = FitsWords tables rank words

-- ---- groups

abbrev pub FitsInside : Tables → ℕ → Member → Type 0
FitsInside tables rank (row.Put array expr mask line) =
    HasArray tables rank array × FitsWords tables rank expr × FitsMask tables rank mask
FitsInside tables rank (row.Cell cell expr mask line) =
    (cell < tables.cells) × FitsWords tables rank expr × FitsMask tables rank mask
FitsInside tables rank (row.Acc scalar operator expr mask line) =
    (scalar < tables.scalars) × FitsWords tables rank expr × FitsMask tables rank mask
FitsInside tables rank (row.OpenIf expr mask line) =
    FitsWords tables rank expr × FitsMask tables rank mask
FitsInside tables rank row.Otherwise = Unit {0}
FitsInside tables rank row.CloseIf = Unit {0}
FitsInside tables rank (row.OpenWhile expr mask line) =
    FitsWords tables rank expr × FitsMask tables rank mask
FitsInside tables rank row.CloseWhile = Unit {0}
FitsInside tables rank (row.OpenRepeat mask line) = FitsMask tables rank mask
FitsInside tables rank (row.Until expr) = FitsWords tables rank expr

abbrev pub AllInside : Tables → ℕ → List Member → Type 0
AllInside tables rank [] = Unit {0}
AllInside tables rank (member ∷ members) =
    FitsInside tables rank member × AllInside tables rank members

-- ---- groups that read what they put

-- the word reads no array with a shift
abbrev pub is_still : ExprOp → Bool
is_still (word.Shifted array shift) = false
is_still one = true

abbrev pub AllStill : List Words → Type 0
AllStill [] = Unit {0}
AllStill (words ∷ rest) = (list_all is_still words ≡ true) × AllStill rest

-- all arrays that are put are temporaries
abbrev pub PutsKept : Tables → List Member → Type 0
PutsKept tables [] = Unit {0}
PutsKept tables (row.Put array expr mask line ∷ group) =
    IsTemporary tables array × PutsKept tables group
PutsKept tables (one ∷ group) = PutsKept tables group

-- one array is put, and nothing else done, under a mask that reads nothing with a shift
abbrev pub PutsOne : List Member → Type 0
PutsOne (row.Put array expr mask line ∷ []) = AllStill (mask_words mask)
PutsOne group = ⊥

-- what the group puts it reads nowhere with a shift, unless it puts one array alone
abbrev pub ReadsApart : Tables → List Member → Type 0
ReadsApart tables group =
    PutsKept tables group ⊎ (AllStill (flat_map member_words group) ⊎ PutsOne group)

-- members that open and close as they must, run over a slot of their rank
pub record FitsLoop (tables : Tables) (slot : ℕ) (group : List Member) : Type 0 where
  pub rank : ℕ
  pub is_rank : IsRank rank
  pub over : HasSlot tables rank slot
  pub nest : (n : ℕ) → IsNest (group_coded n group)
  pub fit : AllInside tables rank group
  pub apart : ReadsApart tables group

-- ---- regions that rows make

abbrev pub FitsDim : Tables → ℕ → Part → Type 0
FitsDim tables rank (row.Span low high) = FitsScalar tables low × FitsScalar tables high
FitsDim tables rank row.Star = Unit {0}
FitsDim tables rank (row.Copied slot) = HasSlot tables rank slot

abbrev pub IsStarPart : Part → Type 0
IsStarPart (row.Span low high) = ⊥
IsStarPart row.Star = Unit {0}
IsStarPart (row.Copied slot) = ⊥

abbrev pub AllDims : Tables → ℕ → List Part → Type 0
AllDims tables rank [] = Unit {0}
AllDims tables rank (part ∷ parts) = FitsDim tables rank part × AllDims tables rank parts

abbrev pub AllStars : List Part → Type 0
AllStars [] = Unit {0}
AllStars (part ∷ parts) = IsStarPart part × AllStars parts

abbrev pub StarsPast : ℕ → List Part → Type 0
StarsPast rank [] = Unit {0}
StarsPast zero (part ∷ parts) = AllStars (part ∷ parts)
StarsPast (suc rank) (part ∷ parts) = StarsPast rank parts

-- there are three; past the rank stands a star
pub record FitsDims (tables : Tables) (slot : ℕ) (parts : List Part) : Type 0 where
  pub rank : ℕ
  pub over : HasSlot tables rank slot
  pub fit : AllDims tables rank parts
  pub three : length parts ≡ 3
  pub stars : StarsPast rank parts

-- ---- rows

-- the tables, with so many rows of code
abbrev pub long : Tables → ℕ → Tables
long tables count = record tables { code = replicate count instr.End }

-- a row of a flat program that names no expression, group or text; regions and vectors in it have
-- three dimensions
abbrev pub IsOwnRow : Instr → Type 0
IsOwnRow (instr.Fix slot region) = length region.dims ≡ 3
IsOwnRow (instr.Formed form slot from shift line) = length shift ≡ 3
IsOwnRow (instr.Edge kind array slot shift) = length shift ≡ 3
IsOwnRow (instr.Set scalar expr line) = ⊥
IsOwnRow (instr.Dims slot parts line) = ⊥
IsOwnRow (instr.Loop slot group) = ⊥
IsOwnRow (instr.Start exchange) = ⊥
IsOwnRow (instr.Finish exchange) = ⊥
IsOwnRow (instr.Vote group) = ⊥
IsOwnRow (instr.TreeVote group) = ⊥
IsOwnRow (instr.TreeFold scalar fold) = ⊥
IsOwnRow (instr.Print text) = ⊥
IsOwnRow (instr.Number expr) = ⊥
IsOwnRow (instr.Truth expr) = ⊥
IsOwnRow (instr.Unless expr goal line) = ⊥
IsOwnRow row = Unit {0}

-- in code of so many rows
abbrev pub FitsRow : Tables → ℕ → Row → Type 0
FitsRow tables count (row.Set scalar expr line) =
    (scalar < tables.scalars) × FitsScalar tables expr
FitsRow tables count (row.Dims slot parts line) = FitsDims tables slot parts
FitsRow tables count (row.Loop slot group) = FitsLoop tables slot group
FitsRow tables count (row.Print text) = Unit {0}
FitsRow tables count (row.Number expr) = FitsScalar tables expr
FitsRow tables count (row.Truth expr) = FitsScalar tables expr
FitsRow tables count (row.Unless expr goal line) = FitsScalar tables expr × (goal ≤ count)
FitsRow tables count (row.Plain one) = FitsInstr (long tables count) one × IsOwnRow one

abbrev pub FitRows : Tables → ℕ → List Row → Type 0
FitRows tables count [] = Unit {0}
FitRows tables count (one ∷ rows) = FitsRow tables count one × FitRows tables count rows

-- ---- tables that rows are laid out in

-- they have scalars, slots and arrays, and nothing else yet
pub record IsGround (tables : Tables) : Type 0 where
  pub exprs : tables.exprs ≡ []
  pub groups : tables.groups ≡ []
  pub texts : tables.texts ≡ []
  pub exchanges : tables.exchanges ≡ []
  pub code : tables.code ≡ []

-- ---- code

-- a test has a value by itself
abbrev pub FitsPiece : Tables → Piece Row Check → Type 0
FitsPiece tables (piece.Rows rows) = FitRows tables 0 rows
FitsPiece tables (piece.Then first rest) = FitsPiece tables first × FitsPiece tables rest
FitsPiece tables (piece.When test body) = FitsScalar tables test.expr × FitsPiece tables body
FitsPiece tables (piece.Choose test one other) =
    FitsScalar tables test.expr × FitsPiece tables one × FitsPiece tables other
FitsPiece tables (piece.While head test body) =
    FitsPiece tables head × FitsScalar tables test.expr × FitsPiece tables body
FitsPiece tables (piece.Repeat body head test) =
    FitsPiece tables body × FitsPiece tables head × FitsScalar tables test.expr
