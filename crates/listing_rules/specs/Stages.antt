-- The parts of a listing one after another: what has been read behind each, and what may stop there.
use Rattle.std.specs.Prelude.{◌≡◌, ℕ, List, [], ◌∷◌, length}
use Rattle.node_form.specs.declared.arrays.ArrayRow.{ArrayRow}
use Rattle.node_form.specs.declared.arrays.Item.{Item}
use Rattle.node_form.specs.declared.instructions.Instr.{Instr}
use Rattle.node_form.specs.declared.members.Member.{Member}
use Rattle.node_form.specs.declared.tables.Tables.{Tables}
use Rattle.node_form.specs.declared.words.ExprOp.{ExprOp}
use Rattle.node_form.specs.Fits.{FitsGroup}
use Rattle.listing_rows.specs.of_listing_lines.declared.keywords.Keyword.TheVariants as key
use Rattle.listing_rows.specs.of_listing_lines.declared.lines.Line.{Line}
use Rattle.listing_rows.specs.Rows.{line_of}
use Rattle.listing_rules.specs.declared.parts.Part.TheVariants as part
use Rattle.listing_rules.specs.Blocks.{Blocks, BlocksStop}
use Rattle.listing_rules.specs.Reads.{First, NoFirst, Reads, Stops}
use Rattle.listing_rules.specs.Room.{HasRoom, LacksRoom}
use Rattle.listing_rules.specs.Rules.{belongs, IsVersionLine, IsGridLine, IsCountLine, IsSlotsLine, IsArrayLine, IsTextLine, IsExprLine, IsMemberLine, IsItemLine, IsCodeLine, IsInstrLine}

abbrev pub no_tables : Tables
no_tables = record {
  grid = 0 ∷ 0 ∷ 0 ∷ [];
  scalars = 0;
  cells = 0;
  slots = [];
  arrays = [];
  texts = [];
  exprs = [];
  groups = [];
  exchanges = [];
  code = [];
}

-- ---- what is read of lines, one part after another
-- the head
pub record ReadHead (lines : List Line) (tables : Tables) (rest : List Line) : Type 0 where
  pub behind_version : List Line
  pub behind_grid : List Line
  pub behind_scalars : List Line
  pub behind_slots : List Line
  pub grid : List ℕ
  pub scalars : ℕ
  pub slots : List ℕ
  pub cells : ℕ
  pub version : First IsVersionLine lines 1 behind_version
  pub grid_is : First IsGridLine behind_version grid behind_grid
  pub scalars_are : First (IsCountLine key.Scalars) behind_grid scalars behind_scalars
  pub slots_are : First IsSlotsLine behind_scalars slots behind_slots
  pub cells_are : First (IsCountLine key.Cells) behind_slots cells rest
  pub made : tables ≡ record no_tables { grid = grid; scalars = scalars; slots = slots; cells = cells }

-- the arrays, which have room
pub record ReadArrays (lines : List Line) (tables : Tables) (rest : List Line) : Type 0 where
  pub before : Tables
  pub behind : List Line
  pub head : ReadHead lines before behind
  pub rows : List ArrayRow
  pub reads : Reads (belongs part.Arrays) (λ done. IsArrayLine) [] behind rows rest
  pub made : tables ≡ record before { arrays = rows }

pub record ReadTexts (lines : List Line) (tables : Tables) (rest : List Line) : Type 0 where
  pub before : Tables
  pub behind : List Line
  pub arrays : ReadArrays lines before behind
  pub room : HasRoom before
  pub rows : List (List ℕ)
  pub reads : Reads (belongs part.Texts) (λ done. IsTextLine) [] behind rows rest
  pub made : tables ≡ record before { texts = rows }

pub record ReadExprs (lines : List Line) (tables : Tables) (rest : List Line) : Type 0 where
  pub before : Tables
  pub behind : List Line
  pub texts : ReadTexts lines before behind
  pub rows : List (List ExprOp)
  pub reads : Reads (belongs part.Exprs) (λ done. IsExprLine before) [] behind rows rest
  pub made : tables ≡ record before { exprs = rows }

pub record ReadGroups (lines : List Line) (tables : Tables) (rest : List Line) : Type 0 where
  pub before : Tables
  pub behind : List Line
  pub exprs : ReadExprs lines before behind
  pub rows : List (List Member)
  pub reads : Blocks (belongs part.Groups) (line_of key.Group []) (belongs part.Members) (IsMemberLine before) (FitsGroup before) behind rows rest
  pub made : tables ≡ record before { groups = rows }

-- any items make an exchange
abbrev pub IsExchange : List Item → Type 0
IsExchange items = Unit {0}

pub record ReadExchanges (lines : List Line) (tables : Tables) (rest : List Line) : Type 0 where
  pub before : Tables
  pub behind : List Line
  pub groups : ReadGroups lines before behind
  pub rows : List (List Item)
  pub reads : Blocks (belongs part.Exchanges) (line_of key.Exchange []) (belongs part.Items) (λ done. IsItemLine before) IsExchange behind rows rest
  pub made : tables ≡ record before { exchanges = rows }

-- the line `code`, and all lines behind it
pub record ReadCode (lines : List Line) (tables : Tables) (rest : List Line) : Type 0 where
  pub before : Tables
  pub behind : List Line
  pub exchanges : ReadExchanges lines before behind
  pub instructions : List Line
  pub code : First IsCodeLine behind 0 instructions
  pub rows : List Instr
  pub reads : Reads (belongs part.Instructions) (λ done. IsInstrLine before (length instructions)) [] instructions rows rest
  pub made : tables ≡ record before { code = rows }

-- The lines are those of tables that keep all rules.
abbrev pub AreTables : List Line → Tables → Type 0
AreTables lines tables = ReadCode lines tables []

-- ---- where a rule is broken: what is left begins with the line that breaks one
pub data Breaks (lines : List Line) : List Line → Type 0 where
  AtVersion : (left : List Line) → NoFirst IsVersionLine lines left → Breaks lines left
  AtGrid : (behind left : List Line) → First IsVersionLine lines 1 behind → NoFirst IsGridLine behind left → Breaks lines left
  AtScalars : (one two : List Line) (grid : List ℕ) (left : List Line) → First IsVersionLine lines 1 one → First IsGridLine one grid two →
      NoFirst (IsCountLine key.Scalars) two left → Breaks lines left
  AtSlots : (one two three : List Line) (grid : List ℕ) (scalars : ℕ) (left : List Line) → First IsVersionLine lines 1 one →
      First IsGridLine one grid two → First (IsCountLine key.Scalars) two scalars three → NoFirst IsSlotsLine three left → Breaks lines left
  AtCells : (one two three four : List Line) (grid : List ℕ) (scalars : ℕ) (slots : List ℕ) (left : List Line) → First IsVersionLine lines 1 one →
      First IsGridLine one grid two → First (IsCountLine key.Scalars) two scalars three → First IsSlotsLine three slots four →
      NoFirst (IsCountLine key.Cells) four left → Breaks lines left
  AtArray : (tables : Tables) (behind left : List Line) → ReadHead lines tables behind →
      Stops (belongs part.Arrays) (λ done. IsArrayLine) [] behind left → Breaks lines left
  AtRoom : (tables : Tables) (behind left : List Line) → ReadArrays lines tables behind → LacksRoom lines tables left → Breaks lines left
  AtText : (tables : Tables) (behind left : List Line) → ReadArrays lines tables behind → HasRoom tables →
      Stops (belongs part.Texts) (λ done. IsTextLine) [] behind left → Breaks lines left
  AtExpr : (tables : Tables) (behind left : List Line) → ReadTexts lines tables behind →
      Stops (belongs part.Exprs) (λ done. IsExprLine tables) [] behind left → Breaks lines left
  AtGroup : (tables : Tables) (behind left : List Line) → ReadExprs lines tables behind →
      BlocksStop (belongs part.Groups) (line_of key.Group []) (belongs part.Members) (IsMemberLine tables) (FitsGroup tables) behind left → Breaks lines left
  AtExchange : (tables : Tables) (behind left : List Line) → ReadGroups lines tables behind →
      BlocksStop (belongs part.Exchanges) (line_of key.Exchange []) (belongs part.Items) (λ done. IsItemLine tables) IsExchange behind left → Breaks lines left
  AtCode : (tables : Tables) (behind left : List Line) → ReadExchanges lines tables behind → NoFirst IsCodeLine behind left → Breaks lines left
  AtInstruction : (tables : Tables) (behind instructions left : List Line) → ReadExchanges lines tables behind → First IsCodeLine behind 0 instructions →
      Stops (belongs part.Instructions) (λ done. IsInstrLine tables (length instructions)) [] instructions left → Breaks lines left
