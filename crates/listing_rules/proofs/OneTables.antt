-- Lines are those of one program's tables at most, and then they break no rule.
use Rattle.std.proofs.Common.{◌≡◌, ℕ, List, [], ◌∷◌, length, sym, ◌∙◌, ap, subst, refl, arith}
use Rattle.std.specs.Prelude.{Some, slice_get}
use Rattle.node_form.specs.declared.arrays.ArrayRow.{ArrayRow}
use Rattle.node_form.specs.declared.arrays.Item.{Item}
use Rattle.node_form.specs.declared.instructions.Instr.{Instr}
use Rattle.node_form.specs.declared.tables.Tables.{Tables}
use Rattle.node_form.specs.declared.words.ExprOp.{ExprOp}
use Rattle.node_form.specs.Fits.{FitsGroup}
use Rattle.listing_rules.proofs.RoomLemmas.{words-append}
use Rattle.listing_rows.specs.of_listing_lines.declared.keywords.Keyword.{Keyword}
use Rattle.listing_rows.specs.of_listing_lines.declared.keywords.Keyword.TheVariants as key
use Rattle.listing_rows.specs.of_listing_lines.declared.lines.Line.{Line}
use Rattle.listing_rows.specs.Rows.{line_of, text_line}
use Rattle.listing_rules.specs.declared.parts.Part.TheVariants as part
use Rattle.listing_rules.specs.Blocks.{Blocks, BlocksStop}
use Rattle.listing_rules.specs.Found.{bytes_in}
use Rattle.listing_rules.specs.Reads.{Reads, Stops, First}
use Rattle.listing_rules.specs.Room.{HasRoom, LacksRoom, words_in}
use Rattle.listing_rules.specs.Rules.{belongs, IsVersionLine, IsGridLine, IsCountLine, IsSlotsLine, IsArrayLine, IsTextLine, IsExprLine, IsMemberLine, IsItemLine, IsCodeLine, IsInstrLine}
use Rattle.listing_rules.specs.Stages.{no_tables, ReadHead, ReadArrays, ReadTexts, ReadExprs, ReadGroups, ReadExchanges, IsExchange, AreTables, Breaks, AtVersion, AtGrid, AtScalars, AtSlots, AtCells, AtArray, AtRoom, AtText, AtExpr, AtGroup, AtExchange, AtCode, AtInstruction}
use Rattle.listing_rules.proofs.OneWay.{IsTold, first_one, first_not, reads_one, reads_not, blocks_one, blocks_not}

-- ---- a line tells its row
grid_told : (line : Line) (a b : List ℕ) → IsGridLine line a → IsGridLine line b → a ≡ b
grid_told line a b x y = sym x.told ∙ y.told

count_told : (keyword : Keyword) (line : Line) (a b : ℕ) → IsCountLine keyword line a → IsCountLine keyword line b → a ≡ b
count_told keyword line a b x y = sym x.told ∙ y.told

slots_told : (line : Line) (a b : List ℕ) → IsSlotsLine line a → IsSlotsLine line b → a ≡ b
slots_told line a b x y = sym x.told ∙ y.told

array_told : IsTold (λ (done : List ArrayRow). IsArrayLine)
array_told done line a b x y = sym x.told ∙ y.told

text_told : IsTold (λ (done : List (List ℕ)). IsTextLine)
text_told done line a b x y =
    let e : text_line a ≡ text_line b = sym x.written ∙ y.written in
    ap (λ (l : Line). bytes_in (slice_get l.fields 0)) e

expr_told : (tables : Tables) → IsTold (λ (done : List (List ExprOp)). IsExprLine tables)
expr_told tables done line a b x y = sym x.told ∙ y.told

member_told : (tables : Tables) → IsTold (IsMemberLine tables)
member_told tables done line a b x y = let e : Some a ≡ Some b = sym x.told ∙ y.told in cc

item_told : (tables : Tables) → IsTold (λ (done : List Item). IsItemLine tables)
item_told tables done line a b x y = sym x.told ∙ y.told

instr_told : (tables : Tables) (count : ℕ) → IsTold (λ (done : List Instr). IsInstrLine tables count)
instr_told tables count done line a b x y = let e : Some a ≡ Some b = sym x.told ∙ y.told in cc

-- ---- part by part
abbrev Same : Tables → Tables → List Line → List Line → Type 0
Same tables tables' rest rest' = (tables ≡ tables') × (rest ≡ rest')

behind : {X : Type 0} (Is : Line → X → Type 0) (lines lines' rest rest' : List Line) (a b : X) → lines ≡ lines' → First Is lines a rest → First Is lines' b rest' → rest ≡ rest'
behind Is lines lines' rest rest' a b same one other = let e = sym one.first ∙ (same ∙ other.first) in cc

pub head_one : (lines rest rest' : List Line) (tables tables' : Tables) → ReadHead lines tables rest → ReadHead lines tables' rest' → Same tables tables' rest rest'
head_one lines rest rest' tables tables' a b =
    let v = behind IsVersionLine lines lines a.behind_version b.behind_version 1 1 refl a.version b.version in
    let g = first_one IsGridLine grid_told _ _ _ _ _ _ v a.grid_is b.grid_is in
    let s = first_one (IsCountLine key.Scalars) (count_told key.Scalars) _ _ _ _ _ _ g.behind a.scalars_are b.scalars_are in
    let l = first_one IsSlotsLine slots_told _ _ _ _ _ _ s.behind a.slots_are b.slots_are in
    let c = first_one (IsCountLine key.Cells) (count_told key.Cells) _ _ _ _ _ _ l.behind a.cells_are b.cells_are in
    let gr = g.row in
    let sr = s.row in
    let lr = l.row in
    let cr = c.row in
    let same : record no_tables { grid = a.grid; scalars = a.scalars; slots = a.slots; cells = a.cells } ≡ record no_tables { grid = b.grid; scalars = b.scalars; slots = b.slots; cells = b.cells } = rw (gr, sr, lr, cr) refl in
    (a.made ∙ (same ∙ sym b.made), c.behind)

pub arrays_one : (lines rest rest' : List Line) (tables tables' : Tables) → ReadArrays lines tables rest → ReadArrays lines tables' rest' → Same tables tables' rest rest'
arrays_one lines rest rest' tables tables' a b =
    let h = head_one lines a.behind b.behind a.before b.before a.head b.head in
    let n = reads_one (belongs part.Arrays) (λ (done : List ArrayRow). IsArrayLine) array_told a.reads b.reads refl h.1 in
    let before = h.0 in
    let rows = n.0 in
    let same : record a.before { arrays = a.rows } ≡ record b.before { arrays = b.rows } = rw (before, rows) refl in
    (a.made ∙ (same ∙ sym b.made), n.1)

pub texts_one : (lines rest rest' : List Line) (tables tables' : Tables) → ReadTexts lines tables rest → ReadTexts lines tables' rest' → Same tables tables' rest rest'
texts_one lines rest rest' tables tables' a b =
    let h = arrays_one lines a.behind b.behind a.before b.before a.arrays b.arrays in
    let n = reads_one (belongs part.Texts) (λ (done : List (List ℕ)). IsTextLine) text_told a.reads b.reads refl h.1 in
    let before = h.0 in
    let rows = n.0 in
    let same : record a.before { texts = a.rows } ≡ record b.before { texts = b.rows } = rw (before, rows) refl in
    (a.made ∙ (same ∙ sym b.made), n.1)

pub exprs_one : (lines rest rest' : List Line) (tables tables' : Tables) → ReadExprs lines tables rest → ReadExprs lines tables' rest' → Same tables tables' rest rest'
exprs_one lines rest rest' tables tables' a b =
    let h = texts_one lines a.behind b.behind a.before b.before a.texts b.texts in
    let reads = subst (λ (t : Tables). Reads (belongs part.Exprs) (λ (done : List (List ExprOp)). IsExprLine t) [] b.behind b.rows rest') (sym h.0) b.reads in
    let n = reads_one (belongs part.Exprs) (λ (done : List (List ExprOp)). IsExprLine a.before) (expr_told a.before) a.reads reads refl h.1 in
    let before = h.0 in
    let rows = n.0 in
    let same : record a.before { exprs = a.rows } ≡ record b.before { exprs = b.rows } = rw (before, rows) refl in
    (a.made ∙ (same ∙ sym b.made), n.1)

pub groups_one : (lines rest rest' : List Line) (tables tables' : Tables) → ReadGroups lines tables rest → ReadGroups lines tables' rest' → Same tables tables' rest rest'
groups_one lines rest rest' tables tables' a b =
    let h = exprs_one lines a.behind b.behind a.before b.before a.exprs b.exprs in
    let reads = subst (λ (t : Tables). Blocks (belongs part.Groups) (line_of key.Group []) (belongs part.Members) (IsMemberLine t) (FitsGroup t) b.behind b.rows rest') (sym h.0) b.reads in
    let n = blocks_one (belongs part.Members) (IsMemberLine a.before) (member_told a.before) (belongs part.Groups) (line_of key.Group []) (FitsGroup a.before) a.reads reads h.1 in
    let before = h.0 in
    let rows = n.0 in
    let same : record a.before { groups = a.rows } ≡ record b.before { groups = b.rows } = rw (before, rows) refl in
    (a.made ∙ (same ∙ sym b.made), n.1)

pub exchanges_one : (lines rest rest' : List Line) (tables tables' : Tables) → ReadExchanges lines tables rest → ReadExchanges lines tables' rest' → Same tables tables' rest rest'
exchanges_one lines rest rest' tables tables' a b =
    let h = groups_one lines a.behind b.behind a.before b.before a.groups b.groups in
    let reads = subst (λ (t : Tables). Blocks (belongs part.Exchanges) (line_of key.Exchange []) (belongs part.Items) (λ (done : List Item). IsItemLine t) IsExchange b.behind b.rows rest') (sym h.0) b.reads in
    let n = blocks_one (belongs part.Items) (λ (done : List Item). IsItemLine a.before) (item_told a.before) (belongs part.Exchanges) (line_of key.Exchange []) IsExchange a.reads reads h.1 in
    let before = h.0 in
    let rows = n.0 in
    let same : record a.before { exchanges = a.rows } ≡ record b.before { exchanges = b.rows } = rw (before, rows) refl in
    (a.made ∙ (same ∙ sym b.made), n.1)

pub tables_one : (lines : List Line) (tables tables' : Tables) → AreTables lines tables → AreTables lines tables' → tables ≡ tables'
tables_one lines tables tables' a b =
    let h = exchanges_one lines a.behind b.behind a.before b.before a.exchanges b.exchanges in
    let i = behind IsCodeLine a.behind b.behind a.instructions b.instructions 0 0 h.1 a.code b.code in
    let here = subst (λ (t : Tables). Reads (belongs part.Instructions) (λ (done : List Instr). IsInstrLine t (length b.instructions)) [] b.instructions b.rows []) (sym h.0) b.reads in
    let reads = subst (λ (n : List Line). Reads (belongs part.Instructions) (λ (done : List Instr). IsInstrLine a.before (length n)) [] n b.rows []) (sym i) here in
    let n = reads_one (belongs part.Instructions) (λ (done : List Instr). IsInstrLine a.before (length a.instructions)) (instr_told a.before (length a.instructions)) a.reads reads refl refl in
    let before = h.0 in
    let rows = n.0 in
    let same : record a.before { code = a.rows } ≡ record b.before { code = b.rows } = rw (before, rows) refl in
    a.made ∙ (same ∙ sym b.made)

-- ---- room
room_not : (lines left : List Line) (tables tables' : Tables) → tables ≡ tables' → HasRoom tables → LacksRoom lines tables' left → ⊥
room_not lines left tables tables' same has lacks =
    let here = subst HasRoom same has in
    let all = words-append tables' lacks.front (lacks.row ∷ lacks.behind) in
    let last = words-append tables' (lacks.row ∷ []) lacks.behind in
    let most = words-append tables' lacks.front (lacks.row ∷ []) in
    let whole = ap (words_in tables') lacks.split in
    let within = here.within in
    let past = lacks.past in
    absurd (omega (arith, all, last, most, whole, within, past))

-- ---- lines of tables break no rule
pub breaks_not : (lines : List Line) {left : List Line} (tables : Tables) → AreTables lines tables → Breaks lines left → ⊥
breaks_not lines tables r (AtVersion left none) =
    let h = r.exchanges.groups.exprs.texts.arrays.head in
    first_not IsVersionLine lines lines h.behind_version left 1 refl h.version none
breaks_not lines tables r (AtGrid one left v none) =
    let h = r.exchanges.groups.exprs.texts.arrays.head in
    let e = behind IsVersionLine lines lines h.behind_version one 1 1 refl h.version v in
    first_not IsGridLine h.behind_version one h.behind_grid left h.grid e h.grid_is none
breaks_not lines tables r (AtScalars one two grid left v g none) =
    let h = r.exchanges.groups.exprs.texts.arrays.head in
    let e = behind IsVersionLine lines lines h.behind_version one 1 1 refl h.version v in
    let f = behind IsGridLine h.behind_version one h.behind_grid two h.grid grid e h.grid_is g in
    first_not (IsCountLine key.Scalars) h.behind_grid two h.behind_scalars left h.scalars f h.scalars_are none
breaks_not lines tables r (AtSlots one two three grid scalars left v g s none) =
    let h = r.exchanges.groups.exprs.texts.arrays.head in
    let e = behind IsVersionLine lines lines h.behind_version one 1 1 refl h.version v in
    let f = behind IsGridLine h.behind_version one h.behind_grid two h.grid grid e h.grid_is g in
    let k = behind (IsCountLine key.Scalars) h.behind_grid two h.behind_scalars three h.scalars scalars f h.scalars_are s in
    first_not IsSlotsLine h.behind_scalars three h.behind_slots left h.slots k h.slots_are none
breaks_not lines tables r (AtCells one two three four grid scalars slots left v g s l none) =
    let h = r.exchanges.groups.exprs.texts.arrays.head in
    let e = behind IsVersionLine lines lines h.behind_version one 1 1 refl h.version v in
    let f = behind IsGridLine h.behind_version one h.behind_grid two h.grid grid e h.grid_is g in
    let k = behind (IsCountLine key.Scalars) h.behind_grid two h.behind_scalars three h.scalars scalars f h.scalars_are s in
    let m = behind IsSlotsLine h.behind_scalars three h.behind_slots four h.slots slots k h.slots_are l in
    first_not (IsCountLine key.Cells) h.behind_slots four r.exchanges.groups.exprs.texts.arrays.behind left h.cells m h.cells_are none
breaks_not lines tables r (AtArray t next left head stops) =
    let a = r.exchanges.groups.exprs.texts.arrays in
    let h = head_one lines a.behind next a.before t a.head head in
    reads_not (belongs part.Arrays) (λ (done : List ArrayRow). IsArrayLine) array_told a.reads stops refl h.1
breaks_not lines tables r (AtRoom t next left arrays lacks) =
    let x = r.exchanges.groups.exprs.texts in
    let h = arrays_one lines x.behind next x.before t x.arrays arrays in
    room_not lines left x.before t h.0 x.room lacks
breaks_not lines tables r (AtText t next left arrays room stops) =
    let x = r.exchanges.groups.exprs.texts in
    let h = arrays_one lines x.behind next x.before t x.arrays arrays in
    reads_not (belongs part.Texts) (λ (done : List (List ℕ)). IsTextLine) text_told x.reads stops refl h.1
breaks_not lines tables r (AtExpr t next left texts stops) =
    let x = r.exchanges.groups.exprs in
    let h = texts_one lines x.behind next x.before t x.texts texts in
    let here = subst (λ (b : Tables). Stops (belongs part.Exprs) (λ (done : List (List ExprOp)). IsExprLine b) [] next left) (sym h.0) stops in
    reads_not (belongs part.Exprs) (λ (done : List (List ExprOp)). IsExprLine x.before) (expr_told x.before) x.reads here refl h.1
breaks_not lines tables r (AtGroup t next left exprs stops) =
    let x = r.exchanges.groups in
    let h = exprs_one lines x.behind next x.before t x.exprs exprs in
    let here = subst (λ (b : Tables). BlocksStop (belongs part.Groups) (line_of key.Group []) (belongs part.Members) (IsMemberLine b) (FitsGroup b) next left) (sym h.0) stops in
    blocks_not (belongs part.Members) (IsMemberLine x.before) (member_told x.before) (belongs part.Groups) (line_of key.Group []) (FitsGroup x.before) x.reads here h.1
breaks_not lines tables r (AtExchange t next left groups stops) =
    let x = r.exchanges in
    let h = groups_one lines x.behind next x.before t x.groups groups in
    let here = subst (λ (b : Tables). BlocksStop (belongs part.Exchanges) (line_of key.Exchange []) (belongs part.Items) (λ (done : List Item). IsItemLine b) IsExchange next left) (sym h.0) stops in
    blocks_not (belongs part.Items) (λ (done : List Item). IsItemLine x.before) (item_told x.before) (belongs part.Exchanges) (line_of key.Exchange []) IsExchange x.reads here h.1
breaks_not lines tables r (AtCode t next left exchanges none) =
    let h = exchanges_one lines r.behind next r.before t r.exchanges exchanges in
    first_not IsCodeLine r.behind next r.instructions left 0 h.1 r.code none
breaks_not lines tables r (AtInstruction t next instructions left exchanges code stops) =
    let h = exchanges_one lines r.behind next r.before t r.exchanges exchanges in
    let i = behind IsCodeLine r.behind next r.instructions instructions 0 0 h.1 r.code code in
    let there = subst (λ (b : Tables). Stops (belongs part.Instructions) (λ (done : List Instr). IsInstrLine b (length instructions)) [] instructions left) (sym h.0) stops in
    let here = subst (λ (n : List Line). Stops (belongs part.Instructions) (λ (done : List Instr). IsInstrLine r.before (length n)) [] n left) (sym i) there in
    reads_not (belongs part.Instructions) (λ (done : List Instr). IsInstrLine r.before (length r.instructions)) (instr_told r.before (length r.instructions)) r.reads here refl refl
