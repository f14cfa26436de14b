-- Which row a line is: the one that its fields tell, if it is written as the line and fits the rows
-- in front of it.
use Rattle.std.specs.Prelude.{◌≡◌, ℕ, Bool, true, false, Some, List, [], ◌∷◌, ◌++◌, map, replicate, All}
use Rattle.node_form.specs.declared.arrays.ArrayRow.{ArrayRow}
use Rattle.node_form.specs.declared.arrays.Item.{Item}
use Rattle.node_form.specs.declared.instructions.Instr.{Instr}
use Rattle.node_form.specs.declared.instructions.Instr.TheVariants as instr
use Rattle.node_form.specs.declared.members.Member.{Member}
use Rattle.node_form.specs.declared.nests.Opening.{Opening}
use Rattle.node_form.specs.declared.tables.Tables.{Tables}
use Rattle.node_form.specs.declared.words.ExprOp.{ExprOp}
use Rattle.node_form.specs.Fits.{IsRank, FitsArray, FitsExpr, FitsMember, FitsItem, FitsInstr}
use Rattle.node_form.specs.Grid.{IsGrid, factors_of}
use Rattle.node_form.specs.Nest.{opened}
use Rattle.listing_rows.specs.of_listing_lines.declared.keywords.Keyword.{Keyword}
use Rattle.listing_rows.specs.of_listing_lines.declared.keywords.Keyword.TheVariants as key
use Rattle.listing_rows.specs.of_listing_lines.declared.lines.Line.{Line}
use Rattle.listing_rows.specs.declared.fields.Said.TheVariants.{Number}
use Rattle.listing_rows.specs.Rows.{line_of, array_line, text_line, expr_line, member_line, item_line, instr_line}
use Rattle.listing_rules.specs.declared.parts.Part.{Part}
use Rattle.listing_rules.specs.declared.parts.Part.TheVariants as part
use Rattle.listing_rules.specs.Found.{array_in, grid_in, instr_in, item_in, member_in, number_at, ranks_in, words_in}

-- ---- parts of a listing
-- the keywords of a part's lines. Behind the line `code` all lines are instructions
abbrev pub belongs : Part → Keyword → Bool
belongs part.Arrays key.Array = true
belongs part.Texts key.Text = true
belongs part.Exprs key.Expr = true
belongs part.Groups key.Group = true
belongs part.Members key.Put = true
belongs part.Members key.Cell = true
belongs part.Members key.Acc = true
belongs part.Members key.If = true
belongs part.Members key.Else = true
belongs part.Members key.Fi = true
belongs part.Members key.While = true
belongs part.Members key.Od = true
belongs part.Members key.Repeat = true
belongs part.Members key.Until = true
belongs part.Exchanges key.Exchange = true
belongs part.Items key.Item = true
belongs part.Instructions keyword = true
belongs other keyword = false

-- ---- the head
abbrev pub version_line : Line
version_line = line_of key.Version (Number 1 ∷ [])

pub record IsVersionLine (line : Line) (version : ℕ) : Type 0 where
  pub written : line ≡ version_line

pub record IsGridLine (line : Line) (grid : List ℕ) : Type 0 where
  pub told : grid_in line.fields ≡ grid
  pub written : line ≡ line_of key.Grid (map Number (factors_of grid))
  pub fits : IsGrid grid

pub record IsCountLine (keyword : Keyword) (line : Line) (count : ℕ) : Type 0 where
  pub told : number_at line.fields 0 ≡ count
  pub written : line ≡ line_of keyword (Number count ∷ [])

pub record IsSlotsLine (line : Line) (ranks : List ℕ) : Type 0 where
  pub told : ranks_in line.fields ≡ ranks
  pub written : line ≡ line_of key.Slots (map Number ranks)
  pub fits : All IsRank ranks

-- ---- the body
pub record IsArrayLine (line : Line) (row : ArrayRow) : Type 0 where
  pub told : array_in line.fields ≡ row
  pub written : line ≡ array_line row
  pub fits : FitsArray row

pub record IsTextLine (line : Line) (bytes : List ℕ) : Type 0 where
  pub written : line ≡ text_line bytes

pub record IsExprLine (tables : Tables) (line : Line) (words : List ExprOp) : Type 0 where
  pub told : words_in line.fields ≡ words
  pub written : line ≡ expr_line tables words
  pub fits : FitsExpr tables words

-- members with which a group may begin: each stands where it may, and all fit at one rank
pub record BeginsGroup (tables : Tables) (members : List Member) : Type 0 where
  pub rank : ℕ
  pub is_rank : IsRank rank
  pub fit : All (FitsMember tables rank) members
  pub openings : List Opening
  pub opens : opened [] members ≡ Some openings

pub record IsMemberLine (tables : Tables) (done : List Member) (line : Line) (row : Member) : Type 0 where
  pub told : member_in line.keyword line.fields ≡ Some row
  pub written : line ≡ member_line row
  pub fits : BeginsGroup tables (done ++ row ∷ [])

pub record IsItemLine (tables : Tables) (line : Line) (row : Item) : Type 0 where
  pub told : item_in line.fields ≡ row
  pub written : line ≡ item_line tables row
  pub fits : FitsItem tables row

-- ---- the code
abbrev pub code_line : Line
code_line = line_of key.Code []

pub record IsCodeLine (line : Line) (count : ℕ) : Type 0 where
  pub written : line ≡ code_line

-- the tables, with so many instructions
abbrev pub coded : Tables → ℕ → Tables
coded tables count = record tables { code = replicate count instr.End }

-- an instruction among so many
pub record IsInstrLine (tables : Tables) (count : ℕ) (line : Line) (row : Instr) : Type 0 where
  pub told : instr_in line.keyword line.fields ≡ Some row
  pub written : line ≡ instr_line tables row
  pub fits : FitsInstr (coded tables count) row
