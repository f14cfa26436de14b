-- Rows seen inline: with their expressions, groups and texts in the place of numbers.
--
--   Row, Member, Part     a row, a member of a group, and a dimension of a region that a row makes
--   inlined               a row of tables, seen so
--   coded, with_row       back: the row by numbers, and tables with it behind their rows
--   with_goal             a row with another goal
use Rattle.std.specs.Prelude.{ℕ, ◌+◌, List, [], ◌∷◌, ◌++◌, Option, Some, None, flat_map, fold}
use Rattle.std.specs.Prelude.{length, map, set, slice_index_or}
use Rattle.std.specs.Option.{option_map}
use Rattle.code_parts.specs.of_zpl_nums.declared.folds.Fold.{Fold}
use Rattle.grid_meaning.specs.of_node_form.declared.words.ExprOp.{ExprOp}
use Rattle.grid_meaning.specs.of_node_form.declared.members.Member as number
use Rattle.grid_meaning.specs.of_node_form.declared.members.Member.TheVariants as member
use Rattle.grid_meaning.specs.of_node_form.declared.instructions.DimRow.{DimRow}
use Rattle.grid_meaning.specs.of_node_form.declared.instructions.DimRow.TheVariants as part
use Rattle.grid_meaning.specs.of_node_form.declared.instructions.Instr.{Instr}
use Rattle.grid_meaning.specs.of_node_form.declared.instructions.Instr.TheVariants as instr
use Rattle.grid_meaning.specs.of_node_form.declared.tables.Tables.{Tables}

-- an expression: its words in postfix
abbrev pub Words : Type 0
Words = List ExprOp

pub data Member : Type 0 where
  Put : (array : ℕ) (expr : Words) (mask : Option Words) (line : ℕ) → Member
  Cell : (cell : ℕ) (expr : Words) (mask : Option Words) (line : ℕ) → Member
  Acc : (scalar : ℕ) (operator : Fold) (expr : Words) (mask : Option Words) (line : ℕ) → Member
  OpenIf : (expr : Words) (mask : Option Words) (line : ℕ) → Member
  Otherwise : Member
  CloseIf : Member
  OpenWhile : (expr : Words) (mask : Option Words) (line : ℕ) → Member
  CloseWhile : Member
  OpenRepeat : (mask : Option Words) (line : ℕ) → Member
  Until : (expr : Words) → Member

pub data Part : Type 0 where
  Span : (low high : Words) → Part
  Star : Part
  Copied : (slot : ℕ) → Part

-- A row that names no expression, group or text is as it stands in the tables.
pub data Row : Type 0 where
  Set : (scalar : ℕ) (expr : Words) (line : ℕ) → Row
  Dims : (slot : ℕ) (parts : List Part) (line : ℕ) → Row
  Loop : (slot : ℕ) (group : List Member) → Row
  Print : (text : List ℕ) → Row
  Number : (expr : Words) → Row
  Truth : (expr : Words) → Row
  Unless : (expr : Words) (goal line : ℕ) → Row
  Plain : (row : Instr) → Row

-- ---- rows of tables, seen inline
module _ (tables : Tables) where
  -- an expression that isn't there has no words, and so no value
  abbrev pub words_at : ℕ → Words
  words_at expr = slice_index_or tables.exprs expr []

  abbrev pub member_inlined : number.Member → Member
  member_inlined (member.Put array expr mask line) =
      Put array (words_at expr) (option_map words_at mask) line
  member_inlined (member.Cell cell expr mask line) =
      Cell cell (words_at expr) (option_map words_at mask) line
  member_inlined (member.Acc scalar operator expr mask line) =
      Acc scalar operator (words_at expr) (option_map words_at mask) line
  member_inlined (member.OpenIf expr mask line) =
      OpenIf (words_at expr) (option_map words_at mask) line
  member_inlined member.Otherwise = Otherwise
  member_inlined member.CloseIf = CloseIf
  member_inlined (member.OpenWhile expr mask line) =
      OpenWhile (words_at expr) (option_map words_at mask) line
  member_inlined member.CloseWhile = CloseWhile
  member_inlined (member.OpenRepeat mask line) = OpenRepeat (option_map words_at mask) line
  member_inlined (member.Until expr) = Until (words_at expr)

  abbrev pub part_inlined : DimRow → Part
  part_inlined (part.Span low high) = Span (words_at low) (words_at high)
  part_inlined part.Star = Star
  part_inlined (part.Copied slot) = Copied slot

  abbrev pub inlined : Instr → Row
  inlined (instr.Set scalar expr line) = Set scalar (words_at expr) line
  inlined (instr.Dims slot parts line) = Dims slot (map part_inlined parts) line
  inlined (instr.Loop slot group) =
      Loop slot (map member_inlined (slice_index_or tables.groups group []))
  inlined (instr.Print text) = Print (slice_index_or tables.texts text [])
  inlined (instr.Number expr) = Number (words_at expr)
  inlined (instr.Truth expr) = Truth (words_at expr)
  inlined (instr.Unless expr goal line) = Unless (words_at expr) goal line
  inlined row = Plain row

  abbrev pub all_inlined : List Row
  all_inlined = map inlined tables.code

-- ---- and back: the parts that rows have, and rows whose parts have numbers from one on
module _ {X Y : Type 0} (words_of : X → List Words) (coded : ℕ → X → Y) where
  abbrev pub all_coded : ℕ → List X → List Y
  all_coded n [] = []
  all_coded n (x ∷ xs) = coded n x ∷ all_coded (n + length (words_of x)) xs

abbrev pub mask_words : Option Words → List Words
mask_words (Some mask) = mask ∷ []
mask_words None = []

abbrev pub member_words : Member → List Words
member_words (Put array expr mask line) = expr ∷ mask_words mask
member_words (Cell cell expr mask line) = expr ∷ mask_words mask
member_words (Acc scalar operator expr mask line) = expr ∷ mask_words mask
member_words (OpenIf expr mask line) = expr ∷ mask_words mask
member_words Otherwise = []
member_words CloseIf = []
member_words (OpenWhile expr mask line) = expr ∷ mask_words mask
member_words CloseWhile = []
member_words (OpenRepeat mask line) = mask_words mask
member_words (Until expr) = expr ∷ []

abbrev pub numbered : ℕ → Option Words → Option ℕ
numbered n mask = option_map (λ _. n) mask

abbrev pub member_coded : ℕ → Member → number.Member
member_coded n (Put array expr mask line) = member.Put array n (numbered (n + 1) mask) line
member_coded n (Cell cell expr mask line) = member.Cell cell n (numbered (n + 1) mask) line
member_coded n (Acc scalar operator expr mask line) =
    member.Acc scalar operator n (numbered (n + 1) mask) line
member_coded n (OpenIf expr mask line) = member.OpenIf n (numbered (n + 1) mask) line
member_coded n Otherwise = member.Otherwise
member_coded n CloseIf = member.CloseIf
member_coded n (OpenWhile expr mask line) = member.OpenWhile n (numbered (n + 1) mask) line
member_coded n CloseWhile = member.CloseWhile
member_coded n (OpenRepeat mask line) = member.OpenRepeat (numbered n mask) line
member_coded n (Until expr) = member.Until n

abbrev pub part_words : Part → List Words
part_words (Span low high) = low ∷ high ∷ []
part_words Star = []
part_words (Copied slot) = []

abbrev pub part_coded : ℕ → Part → DimRow
part_coded n (Span low high) = part.Span n (n + 1)
part_coded n Star = part.Star
part_coded n (Copied slot) = part.Copied slot

-- the members of a group, whose expressions have numbers from n on
abbrev pub group_coded : ℕ → List Member → List number.Member
group_coded n group = all_coded member_words member_coded n group

-- the expressions of a row, its group and its text, if it has them
abbrev pub row_words : Row → List Words
row_words (Set scalar expr line) = expr ∷ []
row_words (Dims slot parts line) = flat_map part_words parts
row_words (Loop slot group) = flat_map member_words group
row_words (Print text) = []
row_words (Number expr) = expr ∷ []
row_words (Truth expr) = expr ∷ []
row_words (Unless expr goal line) = expr ∷ []
row_words (Plain row) = []

abbrev pub row_groups : ℕ → Row → List (List number.Member)
row_groups n (Loop slot group) = group_coded n group ∷ []
row_groups n row = []

abbrev pub row_texts : Row → List (List ℕ)
row_texts (Print text) = text ∷ []
row_texts row = []

-- the row, where its parts come behind those that the tables have
abbrev pub coded : Tables → Row → Instr
coded tables (Set scalar expr line) = instr.Set scalar (length tables.exprs) line
coded tables (Dims slot parts line) =
    instr.Dims slot (all_coded part_words part_coded (length tables.exprs) parts) line
coded tables (Loop slot group) = instr.Loop slot (length tables.groups)
coded tables (Print text) = instr.Print (length tables.texts)
coded tables (Number expr) = instr.Number (length tables.exprs)
coded tables (Truth expr) = instr.Truth (length tables.exprs)
coded tables (Unless expr goal line) = instr.Unless (length tables.exprs) goal line
coded tables (Plain row) = row

abbrev pub with_row : Tables → Row → Tables
with_row tables row = record tables {
  exprs = tables.exprs ++ row_words row;
  groups = tables.groups ++ row_groups (length tables.exprs) row;
  texts = tables.texts ++ row_texts row;
  code = tables.code ++ coded tables row ∷ [];
}

abbrev pub with_rows : Tables → List Row → Tables
with_rows tables rows = fold with_row tables rows

-- ---- goals that are filled in later
abbrev pub with_goal : ℕ → Instr → Instr
with_goal goal (instr.Jump old) = instr.Jump goal
with_goal goal (instr.Unless expr old line) = instr.Unless expr goal line
with_goal goal row = row

abbrev pub row_with_goal : ℕ → Row → Row
row_with_goal goal (Unless expr old line) = Unless expr goal line
row_with_goal goal (Plain row) = Plain (with_goal goal row)
row_with_goal goal row = row

-- the tables, with another goal in the row that has this number
abbrev pub patched : Tables → ℕ → ℕ → Tables
patched tables at goal =
    record tables {
      code = set tables.code at
          (with_goal goal (slice_index_or tables.code at instr.End));
    }
