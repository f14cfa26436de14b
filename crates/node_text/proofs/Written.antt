-- The listing of a program is one.
use Rattle.std.proofs.Common.{◌≡◌, ℕ, zero, suc, Bool, true, false, List, [], ◌∷◌, ◌++◌, length, map, sym, ◌∙◌, ap, subst, refl, arith}
use Rattle.std.specs.Prelude.{Option, Some, None, option_and_then, replicate, All}
use Rattle.std.specs.List.{flat_map}
use Rattle.std.proofs.lemmas.List.{append_assoc, append-nil, length-map}
use Rattle.std.proofs.lemmas.List.Elements.{All-nil, All-cons, All-head, All-tail, All-append}
use Rattle.hex.specs.Hex.{IsBytes}
use Rattle.node_form.specs.declared.arrays.ArrayRow.{ArrayRow}
use Rattle.node_form.specs.declared.arrays.Item.{Item}
use Rattle.node_form.specs.declared.instructions.Instr.{Instr}
use Rattle.node_form.specs.declared.instructions.Instr.TheVariants as instr
use Rattle.node_form.specs.declared.members.Member.{Member}
use Rattle.node_form.specs.declared.members.Member.TheVariants as member
use Rattle.node_form.specs.declared.nests.Opening.{Opening}
use Rattle.node_form.specs.declared.tables.Tables.{Tables}
use Rattle.node_form.specs.declared.words.ExprOp.{ExprOp}
use Rattle.node_form.specs.Fits.{IsRank, FitsArray, FitsExchange, FitsExpr, FitsGroup, FitsInstr, FitsItem, FitsMember, Fits, Grows}
use Rattle.node_form.specs.Grid.{IsGrid, factors_of}
use Rattle.node_form.specs.Nest.{opened}
use Rattle.node_form.proofs.GrowthLemmas.{Keeps-same, FitsInstr-grows}
use Rattle.node_form.proofs.NestLemmas.{IsNest-opened, opened-append}
use Rattle.listing_rules.specs.of_listing_lines.declared.forms.Kind.TheVariants as kind
use Rattle.listing_rules.specs.of_listing_lines.declared.keywords.Keyword.{Keyword}
use Rattle.listing_rules.specs.of_listing_lines.declared.keywords.Keyword.TheVariants as key
use Rattle.listing_rules.specs.of_listing_lines.declared.lines.Line.{Line}
use Rattle.listing_rules.specs.of_listing_lines.declared.places.Part.{Part}
use Rattle.listing_rules.specs.of_listing_lines.declared.places.Part.TheVariants as part
use Rattle.listing_rules.specs.of_listing_lines.declared.places.Role.TheVariants as role
use Rattle.listing_rules.specs.of_listing_lines.Listing.{AreLines, Lead}
use Rattle.listing_rules.specs.of_listing_lines.Place.{Place, open_behind, part_behind, role_of, start}
use Rattle.listing_rules.specs.of_listing_rows.declared.fields.Said.TheVariants.{Number}
use Rattle.listing_rules.specs.of_listing_rows.Listing.{head_lines, code_lines, lines_of, listing_of}
use Rattle.listing_rules.specs.of_listing_rows.Rows.{line_of, array_line, text_line, expr_line, member_line, group_lines, item_line, exchange_lines, instr_line}
use Rattle.listing_rules.specs.declared.parts.Part.TheVariants as rows
use Rattle.listing_rules.specs.Blocks.{Blocks, Ended, Another}
use Rattle.listing_rules.specs.Reads.{begins, Reads, Over, More}
use Rattle.listing_rules.specs.Room.{HasRoom}
use Rattle.listing_rules.specs.Rules.{belongs, coded, code_line, BeginsGroup, IsArrayLine, IsExprLine, IsInstrLine, IsItemLine, IsMemberLine, IsTextLine}
use Rattle.listing_rules.specs.Stages.{AreTables, IsExchange, ReadArrays, ReadCode, ReadExchanges, ReadExprs, ReadGroups, ReadHead, ReadTexts, no_tables}
use Rattle.node_text.specs.Listing.{IsListing}
use Rattle.node_text.specs.Typed.{IsU32, IsTyped, TypedArray, TypedInstr, TypedItem, TypedMember, TypedWord}
use Rattle.node_text.proofs.Forms.{Ends, Next, Maybe, Stands, line_stands, version, number, counts_stand, slots_stand, array_stands, text_stands, expr_stands, item_stands, instr_stands, over}
use Rattle.node_text.proofs.Found.{array_found, grid_found, slots_found, words_found, member_found, item_found, instr_found}
use Rattle.node_text.proofs.Places.{clear, Leads, Parted, block_leads, instr_leads, lead_both, lead_first, lead_none, members_lead, parted, parted_rows, placed, row_leads}
use Rattle.node_text.proofs.Ranks.{Of3, Of, kept, three_are}
use Rattle.node_text.proofs.Read.{listed}

-- ---- lines of rows
module _ {X : Type 0} (p : Keyword → Bool) (Is : List X → Line → X → Type 0) (f : X → Line) (belong : (row : X) → p (f row).keyword ≡ true) where
  abbrev Told : X → Type 0
  Told row = (done : List X) → Is done (f row) row

  pub rows_read : (done rows : List X) (rest : List Line) → All Told rows → begins p rest ≡ false → Reads p Is done (map f rows ++ rest) rows rest
  rows_read done [] rest all stop = Over done rest stop
  rows_read done (row ∷ rows) rest all stop =
      More done (f row) (map f rows ++ rest) row rows rest (belong row) (All-head Told row rows all done) (rows_read (done ++ row ∷ []) rows rest (All-tail Told row rows all) stop)

-- ---- where lines of a part end
pub rows_stop : {X : Type 0} (p : Keyword → Bool) (f : X → Line) (rows : List X) (rest : List Line) → ((row : X) → p (f row).keyword ≡ false) → begins p rest ≡ false → begins p (map f rows ++ rest) ≡ false
rows_stop p f [] rest others stop = stop
rows_stop p f (row ∷ rows) rest others stop = others row

pub blocks_stop : {X : Type 0} (p : Keyword → Bool) (heading : Line) (f : X → Line) (blocks : List (List X)) (rest : List Line) → p heading.keyword ≡ false → begins p rest ≡ false →
    begins p (flat_map (λ block. heading ∷ map f block) blocks ++ rest) ≡ false
blocks_stop p heading f [] rest others stop = stop
blocks_stop p heading f (block ∷ blocks) rest others stop = others

-- ---- blocks
module _ {X : Type 0} (head : Keyword → Bool) (heading : Line) (p : Keyword → Bool) (Is : List X → Line → X → Type 0) (Whole : List X → Type 0) (f : X → Line)
    (heads : head heading.keyword ≡ true) (not : p heading.keyword ≡ false) where
  abbrev blocks_text : List (List X) → List Line
  blocks_text blocks = flat_map (λ block. heading ∷ map f block) blocks

  abbrev Read : List X → Type 0
  Read block = ((rest : List Line) → begins p rest ≡ false → Reads p Is [] (map f block ++ rest) block rest) × Whole block

  pub blocks_read : (blocks : List (List X)) (rest : List Line) → All Read blocks → begins head rest ≡ false → begins p rest ≡ false → Blocks head heading p Is Whole (blocks_text blocks ++ rest) blocks rest
  blocks_read [] rest all ends stop = Ended rest ends
  blocks_read (block ∷ blocks) rest all ends stop =
      let here = All-head Read block blocks all in
      let behind : List Line = blocks_text blocks ++ rest in
      Another (blocks_text (block ∷ blocks) ++ rest) block behind blocks rest heads
      (record {
        below = map f block ++ behind;
        headed = append_assoc (heading ∷ map f block) (blocks_text blocks) rest;
        reads = here.0 behind (blocks_stop p heading f blocks rest not stop);
        whole = here.1;
      })
      (blocks_read blocks rest (All-tail Read block blocks all) ends stop)

-- ---- members
member_belongs : (row : Member) → belongs rows.Members (member_line row).keyword ≡ true
member_belongs (member.Put a e m l) = refl
member_belongs (member.Cell c e m l) = refl
member_belongs (member.Acc s f e m l) = refl
member_belongs (member.OpenIf e m l) = refl
member_belongs member.Otherwise = refl
member_belongs member.CloseIf = refl
member_belongs (member.OpenWhile e m l) = refl
member_belongs member.CloseWhile = refl
member_belongs (member.OpenRepeat m l) = refl
member_belongs (member.Until e) = refl

some_of : {A B : Type 0} (o : Option A) (g : A → Option B) (v : B) → option_and_then g o ≡ Some v → (x : A) × (o ≡ Some x)
some_of None g v e = absurd cc
some_of (Some x) g v e = (x, refl)

module _ (tables : Tables) (rank : ℕ) (is_rank : IsRank rank) where
  begun : (done rows : List Member) (row : Member) → All (FitsMember tables rank) done → FitsMember tables rank row → opened [] (done ++ row ∷ rows) ≡ Some [] → BeginsGroup tables (done ++ row ∷ [])
  begun done rows row fit here opens =
      let whole : opened [] ((done ++ row ∷ []) ++ rows) ≡ Some [] = ap (opened []) (append_assoc done (row ∷ []) rows) ∙ opens in
      let front = some_of (opened [] (done ++ row ∷ [])) (λ (o : List Opening). opened o rows) [] (sym (opened-append [] (done ++ row ∷ []) rows) ∙ whole) in
      record {
        rank = rank;
        is_rank = is_rank;
        fit = All-append (FitsMember tables rank) done (row ∷ []) fit (All-cons (FitsMember tables rank) row [] here (All-nil (FitsMember tables rank)));
        openings = front.0;
        opens = front.1;
      }

  pub members_read : (done members : List Member) (rest : List Line) → All (FitsMember tables rank) done → All (FitsMember tables rank) members → All TypedMember members →
      opened [] (done ++ members) ≡ Some [] → begins (belongs rows.Members) rest ≡ false → Reads (belongs rows.Members) (IsMemberLine tables) done (map member_line members ++ rest) members rest
  members_read done [] rest before fit typed opens stop = Over done rest stop
  members_read done (row ∷ members) rest before fit typed opens stop =
      let P : Member → Type 0 = FitsMember tables rank in
      let here = All-head P row members fit in
      More done (member_line row) (map member_line members ++ rest) row members rest (member_belongs row)
      (record { told = member_found row (All-head TypedMember row members typed); written = refl; fits = begun done members row before here opens })
      (members_read (done ++ row ∷ []) members rest (All-append P done (row ∷ []) before (All-cons P row [] here (All-nil P)))
      (All-tail P row members fit) (All-tail TypedMember row members typed) (ap (opened []) (append_assoc done (row ∷ []) members) ∙ opens) stop)

-- ---- facts of all rows
pub each_row : {X : Type 0} (P Q R : X → Type 0) → ((x : X) → P x → Q x → R x) → (xs : List X) → All P xs → All Q xs → All R xs
each_row P Q R says [] p q = All-nil R
each_row P Q R says (x ∷ xs) p q =
    All-cons R x xs (says x (All-head P x xs p) (All-head Q x xs q)) (each_row P Q R says xs (All-tail P x xs p) (All-tail Q x xs q))

-- ---- the tables as they are read, part by part
module _ (tables : Tables) (fits : Fits tables) (room : HasRoom tables) (typed : IsTyped tables) where
  abbrev headed_tables : Tables
  headed_tables = record no_tables { grid = tables.grid; scalars = tables.scalars; slots = tables.slots; cells = tables.cells }

  abbrev arrayed : Tables
  arrayed = record headed_tables { arrays = tables.arrays }

  abbrev texted : Tables
  texted = record arrayed { texts = tables.texts }

  abbrev expressed : Tables
  expressed = record texted { exprs = tables.exprs }

  abbrev grouped : Tables
  grouped = record expressed { groups = tables.groups }

  abbrev exchanged : Tables
  exchanged = record grouped { exchanges = tables.exchanges }

  -- lines, from each part on
  abbrev from_code : List Line
  from_code = code_lines tables

  abbrev from_exchanges : List Line
  from_exchanges = flat_map (exchange_lines tables) tables.exchanges ++ from_code

  abbrev from_groups : List Line
  from_groups = flat_map group_lines tables.groups ++ from_exchanges

  abbrev from_exprs : List Line
  from_exprs = map (expr_line tables) tables.exprs ++ from_groups

  abbrev from_texts : List Line
  from_texts = map text_line tables.texts ++ from_exprs

  abbrev from_arrays : List Line
  from_arrays = map array_line tables.arrays ++ from_texts

  abbrev all_lines : List Line
  all_lines = head_lines tables ++ from_arrays

  -- ---- the head, the arrays and the texts
  read_head : ReadHead all_lines headed_tables from_arrays
  read_head =
      let grid = tables.grid in
      record {
        behind_version = _;
        behind_grid = _;
        behind_scalars = _;
        behind_slots = _;
        grid = grid;
        scalars = tables.scalars;
        slots = tables.slots;
        cells = tables.cells;
        version = record { line = _; first = refl; is = record { written = refl } };
        grid_is = record { line = _; first = refl; is = record { told = grid_found grid fits.grid (three_are grid typed.three) typed.grid; written = refl; fits = fits.grid } };
        scalars_are = record { line = _; first = refl; is = record { told = kept tables.scalars typed.scalars; written = refl } };
        slots_are = record { line = _; first = refl; is = record { told = slots_found tables.slots fits.slots; written = refl; fits = fits.slots } };
        cells_are = record { line = _; first = refl; is = record { told = kept tables.cells typed.cells; written = refl } };
        made = refl;
      }

  -- where a part ends, the next ones begin
  code_ends : (p : Keyword → Bool) → p key.Code ≡ false → begins p from_code ≡ false
  code_ends p others = others

  exchanges_end : (p : Keyword → Bool) → p key.Code ≡ false → p key.Exchange ≡ false → begins p from_exchanges ≡ false
  exchanges_end p code exchange = blocks_stop p (line_of key.Exchange []) (item_line tables) tables.exchanges from_code exchange (code_ends p code)

  groups_end : (p : Keyword → Bool) → p key.Code ≡ false → p key.Exchange ≡ false → p key.Group ≡ false → begins p from_groups ≡ false
  groups_end p code exchange group = blocks_stop p (line_of key.Group []) member_line tables.groups from_exchanges group (exchanges_end p code exchange)

  exprs_end : (p : Keyword → Bool) → p key.Code ≡ false → p key.Exchange ≡ false → p key.Group ≡ false → p key.Expr ≡ false → begins p from_exprs ≡ false
  exprs_end p code exchange group expr = rows_stop p (expr_line tables) tables.exprs from_groups (λ row. expr) (groups_end p code exchange group)

  texts_end : (p : Keyword → Bool) → p key.Code ≡ false → p key.Exchange ≡ false → p key.Group ≡ false → p key.Expr ≡ false → p key.Text ≡ false → begins p from_texts ≡ false
  texts_end p code exchange group expr text = rows_stop p text_line tables.texts from_exprs (λ row. text) (exprs_end p code exchange group expr)

  arrays_told : All (λ row. (done : List ArrayRow) → IsArrayLine (array_line row) row) tables.arrays
  arrays_told = each_row FitsArray TypedArray (λ row. (done : List ArrayRow) → IsArrayLine (array_line row) row)
      (λ row fit held done. record { told = array_found row fit held; written = refl; fits = fit }) tables.arrays fits.arrays typed.arrays

  read_arrays : ReadArrays all_lines arrayed from_texts
  read_arrays = record {
    before = headed_tables;
    behind = from_arrays;
    head = read_head;
    rows = tables.arrays;
    reads = rows_read (belongs rows.Arrays) (λ done. IsArrayLine) array_line (λ row. refl) [] tables.arrays from_texts arrays_told (texts_end (belongs rows.Arrays) refl refl refl refl refl);
    made = refl;
  }

  texts_told : All (λ row. (done : List (List ℕ)) → IsTextLine (text_line row) row) tables.texts
  texts_told = each_row IsBytes IsBytes (λ row. (done : List (List ℕ)) → IsTextLine (text_line row) row) (λ row a b done. record { written = refl }) tables.texts typed.texts typed.texts

  read_texts : ReadTexts all_lines texted from_exprs
  read_texts = record {
    before = arrayed;
    behind = from_texts;
    arrays = read_arrays;
    room = record { within = room.within };
    rows = tables.texts;
    reads = rows_read (belongs rows.Texts) (λ done. IsTextLine) text_line (λ row. refl) [] tables.texts from_exprs texts_told (exprs_end (belongs rows.Texts) refl refl refl refl);
    made = refl;
  }

  -- ---- expressions
  expr_told : (words : List ExprOp) → FitsExpr tables words → All TypedWord words → IsExprLine texted (expr_line tables words) words
  expr_told words fit held = record {
    told = words_found tables fit.rank fit.is_rank words fit.fit held;
    written = refl;
    fits = record { stack = fit.stack; rank = fit.rank; is_rank = fit.is_rank; fit = fit.fit };
  }

  read_exprs : ReadExprs all_lines expressed from_groups
  read_exprs = record {
    before = texted;
    behind = from_exprs;
    texts = read_texts;
    rows = tables.exprs;
    reads = rows_read (belongs rows.Exprs) (λ done. IsExprLine texted) (expr_line tables) (λ row. refl) [] tables.exprs from_groups
        (each_row (FitsExpr tables) (All TypedWord) (λ row. (done : List (List ExprOp)) → IsExprLine texted (expr_line tables row) row) (λ row fit held done. expr_told row fit held) tables.exprs fits.exprs typed.exprs)
        (groups_end (belongs rows.Exprs) refl refl refl);
    made = refl;
  }

  -- ---- groups
  group_told : (members : List Member) → FitsGroup tables members → All TypedMember members →
      ((rest : List Line) → begins (belongs rows.Members) rest ≡ false → Reads (belongs rows.Members) (IsMemberLine expressed) [] (map member_line members ++ rest) members rest) × FitsGroup expressed members
  group_told members fit held = (
    λ rest stop. members_read expressed fit.rank fit.is_rank [] members rest (All-nil (FitsMember expressed fit.rank)) fit.fit held ((IsNest-opened members).0 fit.nest) stop,
    record { nest = fit.nest; rank = fit.rank; is_rank = fit.is_rank; fit = fit.fit },
  )

  read_groups : ReadGroups all_lines grouped from_exchanges
  read_groups = record {
    before = expressed;
    behind = from_groups;
    exprs = read_exprs;
    rows = tables.groups;
    reads = blocks_read (belongs rows.Groups) (line_of key.Group []) (belongs rows.Members) (IsMemberLine expressed) (FitsGroup expressed) member_line refl refl tables.groups from_exchanges
        (each_row (FitsGroup tables) (All TypedMember)
        (λ block. ((rest : List Line) → begins (belongs rows.Members) rest ≡ false → Reads (belongs rows.Members) (IsMemberLine expressed) [] (map member_line block ++ rest) block rest) × FitsGroup expressed block)
        group_told tables.groups fits.groups typed.groups)
        (exchanges_end (belongs rows.Groups) refl refl) (exchanges_end (belongs rows.Members) refl refl);
    made = refl;
  }

  -- ---- exchanges
  item_told : (item : Item) → FitsItem tables item → TypedItem item → (done : List Item) → IsItemLine grouped (item_line tables item) item
  item_told item fit held done = record {
    told = item_found tables item fits.slots fit held;
    written = refl;
    fits = record { rank = fit.rank; slot = fit.slot; array = fit.array; stored = fit.stored; shift = fit.shift };
  }

  exchange_told : (items : List Item) → FitsExchange tables items → All TypedItem items →
      ((rest : List Line) → begins (belongs rows.Items) rest ≡ false → Reads (belongs rows.Items) (λ done. IsItemLine grouped) [] (map (item_line tables) items ++ rest) items rest) × IsExchange items
  unfolding FitsExchange
  exchange_told items fit held = (
    λ rest stop. rows_read (belongs rows.Items) (λ done. IsItemLine grouped) (item_line tables) (λ row. refl) [] items rest
        (each_row (FitsItem tables) TypedItem (λ item. (done : List Item) → IsItemLine grouped (item_line tables item) item) item_told items fit held) stop,
    tt,
  )

  read_exchanges : ReadExchanges all_lines exchanged from_code
  read_exchanges = record {
    before = grouped;
    behind = from_exchanges;
    groups = read_groups;
    rows = tables.exchanges;
    reads = blocks_read (belongs rows.Exchanges) (line_of key.Exchange []) (belongs rows.Items) (λ done. IsItemLine grouped) IsExchange (item_line tables) refl refl tables.exchanges from_code
        (each_row (FitsExchange tables) (All TypedItem)
        (λ block. ((rest : List Line) → begins (belongs rows.Items) rest ≡ false → Reads (belongs rows.Items) (λ done. IsItemLine grouped) [] (map (item_line tables) block ++ rest) block rest) × IsExchange block)
        exchange_told tables.exchanges fits.exchanges typed.exchanges)
        (code_ends (belongs rows.Exchanges) refl) (code_ends (belongs rows.Items) refl);
    made = refl;
  }

  -- ---- the code
  length-ends : (n : ℕ) → length (replicate n instr.End) ≡ n
  length-ends zero = refl
  length-ends (suc n) = ap suc (length-ends n)

  code_grows : (count : ℕ) → count ≡ length tables.code → Grows tables (coded exchanged count)
  code_grows count is = record {
    scalars = omega arith;
    cells = omega arith;
    slots = Keeps-same tables.slots;
    arrays = Keeps-same tables.arrays;
    texts = omega arith;
    exprs = Keeps-same tables.exprs;
    groups = Keeps-same tables.groups;
    exchanges = omega arith;
    code = omega (arith, length-ends count, is);
  }

  instr_told : (count : ℕ) → count ≡ length tables.code → (row : Instr) → FitsInstr tables row → TypedInstr row → (done : List Instr) → IsInstrLine exchanged count (instr_line tables row) row
  instr_told count is row fit held done = record {
    told = instr_found tables fits.slots fits.arrays fit.rank row fit.fit held;
    written = refl;
    fits = FitsInstr-grows tables (coded exchanged count) (code_grows count is) row fit;
  }

  abbrev instructions : List Line
  instructions = map (instr_line tables) tables.code

  code_read : (lines : List Line) → instructions ++ [] ≡ lines → (count : ℕ) → count ≡ length tables.code → Reads (belongs rows.Instructions) (λ done. IsInstrLine exchanged count) [] lines tables.code []
  code_read lines same count is =
      subst (λ (l : List Line). Reads (belongs rows.Instructions) (λ done. IsInstrLine exchanged count) [] l tables.code []) same
      (rows_read (belongs rows.Instructions) (λ done. IsInstrLine exchanged count) (instr_line tables) (λ row. refl) [] tables.code []
      (each_row (FitsInstr tables) TypedInstr (λ row. (done : List Instr) → IsInstrLine exchanged count (instr_line tables row) row) (instr_told count is) tables.code fits.code typed.code) refl)

  read_code : ReadCode all_lines tables []
  read_code = record {
    before = exchanged;
    behind = from_code;
    exchanges = read_exchanges;
    instructions = instructions;
    code = record { line = code_line; first = refl; is = record { written = refl } };
    rows = tables.code;
    reads = code_read instructions (append-nil instructions) (length instructions) (length-map tables.code (instr_line tables));
    made = refl;
  }

  -- ---- in their places
  head_leads : Lead start (head_lines tables) (clear part.Arrays)
  head_leads = go tables.grid fits.grid (three_are tables.grid typed.three) typed.grid where
    step : (from to : Part) (line : Line) (lines : List Line) (next : Part) → Stands line → part_behind from (role_of line.keyword) ≡ Some to →
        open_behind [] line.keyword ≡ Some [] → Lead (clear to) lines (clear next) → Lead (clear from) (line ∷ lines) (clear next)
    step from to line lines next stands is opens lead = lead_first (clear from) (clear to) (clear next) line lines (placed (clear from) line to [] stands.form is opens) stands.is lead

    grid_stands : (grid : List ℕ) → IsGrid grid → Of3 grid → All IsU32 grid → Stands (line_of key.Grid (map Number (factors_of grid)))
    grid_stands grid is (Of zero b c) small = let some = is.some in absurd (omega arith)
    grid_stands grid is (Of (suc a) zero c) small =
        line_stands key.Grid _ refl (Next kind.Number (Number (suc a)) _ _ (number (suc a) (All-head IsU32 (suc a) (0 ∷ c ∷ []) small)) (Ends _ refl))
    grid_stands grid is (Of (suc a) (suc b) zero) small =
        line_stands key.Grid _ refl (Next kind.Number (Number (suc a)) _ _ (number (suc a) (All-head IsU32 (suc a) (suc b ∷ 0 ∷ []) small))
        (Maybe kind.Number (Number (suc b)) _ _ (number (suc b) (All-head IsU32 (suc b) (0 ∷ []) (All-tail IsU32 (suc a) (suc b ∷ 0 ∷ []) small))) (Ends _ refl)))
    grid_stands grid is (Of (suc a) (suc b) (suc c)) small =
        let others = All-tail IsU32 (suc a) (suc b ∷ suc c ∷ []) small in
        line_stands key.Grid _ refl (Next kind.Number (Number (suc a)) _ _ (number (suc a) (All-head IsU32 (suc a) (suc b ∷ suc c ∷ []) small))
        (Maybe kind.Number (Number (suc b)) _ _ (number (suc b) (All-head IsU32 (suc b) (suc c ∷ []) others))
        (Maybe kind.Number (Number (suc c)) _ _ (number (suc c) (All-head IsU32 (suc c) [] (All-tail IsU32 (suc b) (suc c ∷ []) others))) (Ends _ refl))))

    go : (grid : List ℕ) → IsGrid grid → Of3 grid → All IsU32 grid → Lead start (line_of key.Version (Number 1 ∷ []) ∷ line_of key.Grid (map Number (factors_of grid))
        ∷ line_of key.Scalars (Number tables.scalars ∷ []) ∷ line_of key.Slots (map Number tables.slots) ∷ line_of key.Cells (Number tables.cells ∷ []) ∷ []) (clear part.Arrays)
    go grid is three small =
        step part.Version part.Grid _ _ part.Arrays (line_stands key.Version (Number 1 ∷ []) refl (Next kind.Version (Number 1) _ _ version over)) refl refl
        (step part.Grid part.Scalars _ _ part.Arrays (grid_stands grid is three small) refl refl
        (step part.Scalars part.Slots _ _ part.Arrays (counts_stand key.Scalars tables.scalars refl refl typed.scalars) refl refl
        (step part.Slots part.Cells _ _ part.Arrays (slots_stand tables.slots fits.slots) refl refl
        (step part.Cells part.Arrays _ _ part.Arrays (counts_stand key.Cells tables.cells refl refl typed.cells) refl refl (lead_none (clear part.Arrays))))))

  abbrev BeforeCode : Part → Type 0
  BeforeCode p = part_behind p role.Code ≡ Some part.Code

  abbrev BeforeExchanges : Part → Type 0
  BeforeExchanges p = (part_behind p role.Exchange ≡ Some part.Exchanges) × BeforeCode p

  abbrev BeforeGroups : Part → Type 0
  BeforeGroups p = (part_behind p role.Group ≡ Some part.Groups) × BeforeExchanges p

  abbrev BeforeExprs : Part → Type 0
  BeforeExprs p = (part_behind p role.Expr ≡ Some part.Exprs) × BeforeGroups p

  abbrev BeforeTexts : Part → Type 0
  BeforeTexts p = (part_behind p role.Text ≡ Some part.Texts) × BeforeExprs p

  arrays_lead : Parted BeforeTexts part.Arrays (map array_line tables.arrays)
  arrays_lead = parted_rows BeforeTexts array_line part.Arrays part.Arrays tables.arrays (refl, (refl, (refl, (refl, refl)))) (refl, (refl, (refl, (refl, refl))))
      (each_row FitsArray TypedArray (λ row. Leads part.Arrays part.Arrays (array_line row ∷ []))
      (λ row fit held. row_leads part.Arrays part.Arrays (array_line row) (array_stands row fit held) refl refl refl) tables.arrays fits.arrays typed.arrays)

  texts_lead : (p : Part) → BeforeTexts p → Parted BeforeExprs p (map text_line tables.texts)
  texts_lead p ready = parted_rows BeforeExprs text_line p part.Texts tables.texts ready.1 (refl, (refl, (refl, refl)))
      (each_row IsBytes IsBytes (λ row. Leads p part.Texts (text_line row ∷ []))
      (λ row held also. row_leads p part.Texts (text_line row) (text_stands row held) ready.0 refl refl) tables.texts typed.texts typed.texts)

  exprs_lead : (p : Part) → BeforeExprs p → Parted BeforeGroups p (map (expr_line tables) tables.exprs)
  exprs_lead p ready = parted_rows BeforeGroups (expr_line tables) p part.Exprs tables.exprs ready.1 (refl, (refl, refl))
      (each_row (FitsExpr tables) (All TypedWord) (λ row. Leads p part.Exprs (expr_line tables row ∷ []))
      (λ row fit held. row_leads p part.Exprs (expr_line tables row) (expr_stands tables fit.rank fit.is_rank row fit.stack fit.fit held) ready.0 refl refl) tables.exprs fits.exprs typed.exprs)

  groups_lead : (p : Part) → BeforeGroups p → Parted BeforeExchanges p (flat_map group_lines tables.groups)
  groups_lead p ready = parted BeforeExchanges group_lines p part.Groups tables.groups ready.1 (refl, refl)
      (each_row (FitsGroup tables) (All TypedMember) (λ row. Leads p part.Groups (group_lines row))
      (λ row fit held. block_leads p part.Groups (line_of key.Group []) (map member_line row) (line_stands key.Group [] refl over) ready.0 refl refl
      (members_lead [] [] row held ((IsNest-opened row).0 fit.nest))) tables.groups fits.groups typed.groups)

  items_lead : (items : List Item) → All (FitsItem tables) items → All TypedItem items → Lead (clear part.Exchanges) (map (item_line tables) items) (clear part.Exchanges)
  items_lead [] fit held = lead_none (clear part.Exchanges)
  items_lead (item ∷ items) fit held =
      let stands = item_stands tables item fits.slots (All-head (FitsItem tables) item items fit) (All-head TypedItem item items held) in
      lead_first (clear part.Exchanges) (clear part.Exchanges) (clear part.Exchanges) (item_line tables item) (map (item_line tables) items)
      (placed (clear part.Exchanges) (item_line tables item) part.Exchanges [] stands.form refl refl) stands.is
      (items_lead items (All-tail (FitsItem tables) item items fit) (All-tail TypedItem item items held))

  exchange_leads : (p : Part) → part_behind p role.Exchange ≡ Some part.Exchanges → (items : List Item) → FitsExchange tables items → All TypedItem items → Leads p part.Exchanges (exchange_lines tables items)
  unfolding FitsExchange
  exchange_leads p into items fit held =
      block_leads p part.Exchanges (line_of key.Exchange []) (map (item_line tables) items) (line_stands key.Exchange [] refl over) into refl refl (items_lead items fit held)

  exchanges_lead : (p : Part) → BeforeExchanges p → Parted BeforeCode p (flat_map (exchange_lines tables) tables.exchanges)
  exchanges_lead p ready = parted BeforeCode (exchange_lines tables) p part.Exchanges tables.exchanges ready.1 refl
      (each_row (FitsExchange tables) (All TypedItem) (λ row. Leads p part.Exchanges (exchange_lines tables row)) (exchange_leads p ready.0) tables.exchanges fits.exchanges typed.exchanges)

  instrs_lead : (code : List Instr) → All (FitsInstr tables) code → All TypedInstr code → Lead (clear part.Code) (map (instr_line tables) code) (clear part.Code)
  instrs_lead [] fit held = lead_none (clear part.Code)
  instrs_lead (row ∷ code) fit held =
      let here = All-head (FitsInstr tables) row code fit in
      let leads = instr_leads tables row (instr_stands tables fits.slots fits.arrays here.rank row here.fit (All-head TypedInstr row code held)) in
      lead_both (clear part.Code) (clear part.Code) (clear part.Code) (instr_line tables row ∷ []) (map (instr_line tables) code) leads.0
      (instrs_lead code (All-tail (FitsInstr tables) row code fit) (All-tail TypedInstr row code held))

  code_leads : (p : Part) → BeforeCode p → Lead (clear p) (code_lines tables) (clear part.Code)
  code_leads p ready =
      let stands = line_stands key.Code [] refl over in
      lead_first (clear p) (clear part.Code) (clear part.Code) code_line instructions (placed (clear p) code_line part.Code [] stands.form ready refl) stands.is
      (instrs_lead tables.code fits.code typed.code)

  all_lead : Lead start all_lines (clear part.Code)
  all_lead =
      let a = arrays_lead in
      let t = texts_lead a.to a.ready in
      let e = exprs_lead t.to t.ready in
      let g = groups_lead e.to e.ready in
      let x = exchanges_lead g.to g.ready in
      let end : Place = clear part.Code in
      lead_both start (clear part.Arrays) end (head_lines tables) from_arrays head_leads
      (lead_both (clear part.Arrays) (clear a.to) end (map array_line tables.arrays) from_texts a.lead
      (lead_both (clear a.to) (clear t.to) end (map text_line tables.texts) from_exprs t.lead
      (lead_both (clear t.to) (clear e.to) end (map (expr_line tables) tables.exprs) from_groups e.lead
      (lead_both (clear e.to) (clear g.to) end (flat_map group_lines tables.groups) from_exchanges g.lead
      (lead_both (clear g.to) (clear x.to) end (flat_map (exchange_lines tables) tables.exchanges) from_code x.lead (code_leads x.to x.ready))))))

  -- ---- all
  regrouped : (h a t e g x c : List Line) → h ++ (a ++ (t ++ (e ++ (g ++ (x ++ c))))) ≡ h ++ ((a ++ (t ++ (e ++ (g ++ x)))) ++ c)
  regrouped h a t e g x c = simp append_assoc

  same_lines : all_lines ≡ lines_of tables
  unfolding lines_of
  same_lines = regrouped (head_lines tables) (map array_line tables.arrays) (map text_line tables.texts) (map (expr_line tables) tables.exprs) (flat_map group_lines tables.groups)
      (flat_map (exchange_lines tables) tables.exchanges) (code_lines tables)

  lines_are : AreLines (listing_of tables) (lines_of tables)
  unfolding listing_of
  lines_are = record { written = refl; last = clear part.Code; lead = subst (λ (l : List Line). Lead start l (clear part.Code)) same_lines all_lead; complete = refl }

  pub is_listing : IsListing (listing_of tables) tables
  is_listing = listed (listing_of tables) (lines_of tables) tables lines_are (subst (λ (l : List Line). AreTables l tables) same_lines read_code)
