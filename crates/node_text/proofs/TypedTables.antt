-- What is read of a listing is as memory holds it.
use Rattle.std.proofs.Common.{◌≡◌, ℕ, Bool, true, false, List, [], sym, ◌∙◌, ap, subst, refl}
use Rattle.std.specs.Prelude.{Some, All, slice_get}
use Rattle.std.proofs.lemmas.List.Elements.{All-nil, All-cons, All-head, All-tail}
use Rattle.hex.specs.Hex.{IsBytes}
use Rattle.node_form.specs.declared.arrays.ArrayRow.{ArrayRow}
use Rattle.node_form.specs.declared.arrays.Item.{Item}
use Rattle.node_form.specs.declared.instructions.Instr.{Instr}
use Rattle.node_form.specs.declared.members.Member.{Member}
use Rattle.node_form.specs.declared.tables.Tables.{Tables}
use Rattle.node_form.specs.declared.words.ExprOp.{ExprOp}
use Rattle.listing_rules.specs.of_listing_lines.declared.fields.Field.{Field}
use Rattle.listing_rules.specs.of_listing_lines.declared.fields.Field.TheVariants as field
use Rattle.listing_rules.specs.of_listing_lines.declared.keywords.Keyword.{Keyword}
use Rattle.listing_rules.specs.of_listing_lines.declared.keywords.Keyword.TheVariants as key
use Rattle.listing_rules.specs.of_listing_lines.declared.lines.Line.{Line}
use Rattle.listing_rules.specs.of_listing_lines.Field.{IsField}
use Rattle.listing_rules.specs.of_listing_lines.Line.{IsLine, is_text}
use Rattle.listing_rules.specs.of_listing_rows.Rows.{array_line, expr_line, item_line}
use Rattle.listing_rules.specs.Blocks.{Blocks, Ended, Another}
use Rattle.listing_rules.specs.Found.{number_at, numbers_in, component, instr_in}
use Rattle.listing_rules.specs.Reads.{First, Reads, Over, More}
use Rattle.listing_rules.specs.Stages.{AreTables, ReadArrays, ReadExchanges, ReadExprs, ReadGroups, ReadHead, ReadTexts}
use Rattle.node_text.specs.Typed.{HasThree, IsU32, IsTyped, TypedArray, TypedInstr, TypedItem, TypedMember, TypedWord}
use Rattle.node_text.proofs.TypedRows.{array_typed, grid_typed, instr_typed, item_typed, member_typed, u32_small, words_typed}

-- ---- lines of rows
reads_typed : {X : Type 0} {p : Keyword → Bool} {Is : List X → Line → X → Type 0} {done : List X} {lines : List Line} {rows : List X} {rest : List Line} →
    (P : X → Type 0) → ((front : List X) (line : Line) (row : X) → Is front line row → IsLine line → P row) → Reads p Is done lines rows rest → All IsLine lines → All P rows × All IsLine rest
reads_typed P says (Over done lines stop) all = (All-nil P, all)
reads_typed P says (More done line lines row rows rest belongs is reads) all =
    let more = reads_typed P says reads (All-tail IsLine line lines all) in
    (All-cons P row rows (says done line row is (All-head IsLine line lines all)) more.0, more.1)

blocks_typed : {X : Type 0} {head : Keyword → Bool} {heading : Line} {p : Keyword → Bool} {Is : List X → Line → X → Type 0} {Whole : List X → Type 0} {lines : List Line} {blocks : List (List X)} {rest : List Line} →
    (P : X → Type 0) → ((front : List X) (line : Line) (row : X) → Is front line row → IsLine line → P row) → Blocks head heading p Is Whole lines blocks rest → All IsLine lines → All (All P) blocks × All IsLine rest
blocks_typed P says (Ended lines stop) all = (All-nil (All P), all)
blocks_typed {heading = heading} P says (Another lines rows behind blocks rest begun block more) all =
    let inner = All-tail IsLine heading block.below (subst (λ (l : List Line). All IsLine l) block.headed all) in
    let here = reads_typed P says block.reads inner in
    let others = blocks_typed P says more here.1 in
    (All-cons (All P) rows blocks here.0 others.0, others.1)

behind_first : {X : Type 0} {Is : Line → X → Type 0} {lines : List Line} {row : X} {rest : List Line} → First Is lines row rest → All IsLine lines → All IsLine rest
behind_first {rest = rest} f all = All-tail IsLine f.line rest (subst (λ (l : List Line). All IsLine l) f.first all)

-- ---- fields of lines that aren't texts
plain : (line other : Line) → line ≡ other → is_text other.keyword ≡ false → IsLine line → All (IsField false) line.fields
plain line other same no_text is = subst (λ (b : Bool). All (IsField b) line.fields) (ap (λ (l : Line). is_text l.keyword) same ∙ no_text) is

instr_plain : (fields : List Field) (keyword : Keyword) (row : Instr) → instr_in keyword fields ≡ Some row → is_text keyword ≡ false
instr_plain fields key.Text row e = absurd cc
instr_plain fields other row e = refl

-- ---- tables with one part more
arrayed : (t : Tables) → IsTyped t → (rows : List ArrayRow) → All TypedArray rows → IsTyped (record t { arrays = rows })
arrayed t h rows all = record { three = h.three; grid = h.grid; scalars = h.scalars; cells = h.cells; arrays = all; texts = h.texts; exprs = h.exprs; groups = h.groups; exchanges = h.exchanges; code = h.code }

texted : (t : Tables) → IsTyped t → (rows : List (List ℕ)) → All IsBytes rows → IsTyped (record t { texts = rows })
texted t h rows all = record { three = h.three; grid = h.grid; scalars = h.scalars; cells = h.cells; arrays = h.arrays; texts = all; exprs = h.exprs; groups = h.groups; exchanges = h.exchanges; code = h.code }

worded : (t : Tables) → IsTyped t → (rows : List (List ExprOp)) → All (All TypedWord) rows → IsTyped (record t { exprs = rows })
worded t h rows all = record { three = h.three; grid = h.grid; scalars = h.scalars; cells = h.cells; arrays = h.arrays; texts = h.texts; exprs = all; groups = h.groups; exchanges = h.exchanges; code = h.code }

grouped : (t : Tables) → IsTyped t → (rows : List (List Member)) → All (All TypedMember) rows → IsTyped (record t { groups = rows })
grouped t h rows all = record { three = h.three; grid = h.grid; scalars = h.scalars; cells = h.cells; arrays = h.arrays; texts = h.texts; exprs = h.exprs; groups = all; exchanges = h.exchanges; code = h.code }

exchanged : (t : Tables) → IsTyped t → (rows : List (List Item)) → All (All TypedItem) rows → IsTyped (record t { exchanges = rows })
exchanged t h rows all = record { three = h.three; grid = h.grid; scalars = h.scalars; cells = h.cells; arrays = h.arrays; texts = h.texts; exprs = h.exprs; groups = h.groups; exchanges = all; code = h.code }

coded : (t : Tables) → IsTyped t → (rows : List Instr) → All TypedInstr rows → IsTyped (record t { code = rows })
coded t h rows all = record { three = h.three; grid = h.grid; scalars = h.scalars; cells = h.cells; arrays = h.arrays; texts = h.texts; exprs = h.exprs; groups = h.groups; exchanges = h.exchanges; code = all }

-- ---- part by part
head_typed : (lines : List Line) (tables : Tables) (rest : List Line) → ReadHead lines tables rest → All IsLine lines → IsTyped tables × All IsLine rest
head_typed lines tables rest r all =
    let one = behind_first r.version all in
    let two = behind_first r.grid_is one in
    let three = behind_first r.scalars_are two in
    let four = behind_first r.slots_are three in
    let number : (fields : List Field) → IsU32 (number_at fields 0) = λ fields. u32_small (component (numbers_in (slice_get fields 0)) 0) in (
      subst IsTyped (sym r.made) (record {
        three = subst (λ (g : List ℕ). HasThree g) r.grid_is.is.told refl;
        grid = subst (λ (g : List ℕ). All IsU32 g) r.grid_is.is.told (grid_typed r.grid_is.line.fields);
        scalars = subst IsU32 r.scalars_are.is.told (number r.scalars_are.line.fields);
        cells = subst IsU32 r.cells_are.is.told (number r.cells_are.line.fields);
        arrays = All-nil TypedArray;
        texts = All-nil IsBytes;
        exprs = All-nil (All TypedWord);
        groups = All-nil (All TypedMember);
        exchanges = All-nil (All TypedItem);
        code = All-nil TypedInstr;
      }),
      behind_first r.cells_are four,
    )

arrays_typed : (lines : List Line) (tables : Tables) (rest : List Line) → ReadArrays lines tables rest → All IsLine lines → IsTyped tables × All IsLine rest
arrays_typed lines tables rest r all =
    let head = head_typed lines r.before r.behind r.head all in
    let read = reads_typed TypedArray
    (λ front line row is lined. subst TypedArray is.told (array_typed line.fields (plain line (array_line row) is.written refl lined))) r.reads head.1 in
    (subst IsTyped (sym r.made) (arrayed r.before head.0 r.rows read.0), read.1)

texts_typed : (lines : List Line) (tables : Tables) (rest : List Line) → ReadTexts lines tables rest → All IsLine lines → IsTyped tables × All IsLine rest
texts_typed lines tables rest r all =
    let before = arrays_typed lines r.before r.behind r.arrays all in
    let read = reads_typed IsBytes
    (λ front line row is lined. All-head (IsField true) (field.Bytes row) [] (subst IsLine is.written lined)) r.reads before.1 in
    (subst IsTyped (sym r.made) (texted r.before before.0 r.rows read.0), read.1)

exprs_typed : (lines : List Line) (tables : Tables) (rest : List Line) → ReadExprs lines tables rest → All IsLine lines → IsTyped tables × All IsLine rest
exprs_typed lines tables rest r all =
    let before = texts_typed lines r.before r.behind r.texts all in
    let read = reads_typed (All TypedWord)
    (λ front line row is lined. subst (All TypedWord) is.told (words_typed line.fields (plain line (expr_line r.before row) is.written refl lined))) r.reads before.1 in
    (subst IsTyped (sym r.made) (worded r.before before.0 r.rows read.0), read.1)

groups_typed : (lines : List Line) (tables : Tables) (rest : List Line) → ReadGroups lines tables rest → All IsLine lines → IsTyped tables × All IsLine rest
groups_typed lines tables rest r all =
    let before = exprs_typed lines r.before r.behind r.exprs all in
    let read = blocks_typed TypedMember (λ front line row is lined. member_typed line.fields line.keyword row is.told) r.reads before.1 in
    (subst IsTyped (sym r.made) (grouped r.before before.0 r.rows read.0), read.1)

exchanges_typed : (lines : List Line) (tables : Tables) (rest : List Line) → ReadExchanges lines tables rest → All IsLine lines → IsTyped tables × All IsLine rest
exchanges_typed lines tables rest r all =
    let before = groups_typed lines r.before r.behind r.groups all in
    let read = blocks_typed TypedItem
    (λ front line row is lined. subst TypedItem is.told (item_typed line.fields (plain line (item_line r.before row) is.written refl lined))) r.reads before.1 in
    (subst IsTyped (sym r.made) (exchanged r.before before.0 r.rows read.0), read.1)

pub tables_typed : (lines : List Line) (tables : Tables) → AreTables lines tables → All IsLine lines → IsTyped tables
tables_typed lines tables r all =
    let before = exchanges_typed lines r.before r.behind r.exchanges all in
    let read = reads_typed TypedInstr
    (λ front line row is lined.
    instr_typed line.fields (subst (λ (b : Bool). All (IsField b) line.fields) (instr_plain line.fields line.keyword row is.told) lined) line.keyword row is.told)
    r.reads (behind_first r.code before.1) in
    subst IsTyped (sym r.made) (coded r.before before.0 r.rows read.0)
