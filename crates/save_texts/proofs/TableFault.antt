-- One line at most is the first that breaks a rule of a listing's tables.
use Rattle.std.proofs.Common.{◌≡◌, ℕ, ◌+◌, ◌<◌, ◌≤◌, List, [], ◌∷◌, ◌++◌, length, drop, inl, inr, ◌⊎◌, refl, ap, sym, ◌∙◌, subst, arith}
use Rattle.std.specs.Prelude.{Some, slice_get}
use Rattle.std.proofs.lemmas.List.{append_assoc, append-nil}
use Rattle.node_form.specs.declared.arrays.ArrayRow.{ArrayRow}
use Rattle.node_form.specs.declared.arrays.Item.{Item}
use Rattle.node_form.specs.declared.instructions.Instr.{Instr}
use Rattle.node_form.specs.declared.tables.Tables.{Tables}
use Rattle.node_form.specs.declared.words.ExprOp.{ExprOp}
use Rattle.node_form.specs.Fits.{FitsGroup}
use Rattle.listing_lines.specs.declared.keywords.Keyword.TheVariants as key
use Rattle.listing_lines.specs.declared.lines.Line.{Line}
use Rattle.listing_rows.specs.Rows.{line_of, text_line}
use Rattle.listing_rules.specs.declared.parts.Part.TheVariants as part
use Rattle.listing_rules.specs.Blocks.{BlocksStop}
use Rattle.listing_rules.specs.Found.{bytes_in}
use Rattle.listing_rules.specs.Reads.{First, NoFirst, Stops}
use Rattle.listing_rules.specs.Room.{HasRoom, LacksRoom, words_in}
use Rattle.listing_rules.specs.Rules.{belongs, IsVersionLine, IsGridLine, IsCountLine, IsSlotsLine, IsArrayLine, IsTextLine, IsExprLine, IsMemberLine, IsItemLine, IsCodeLine, IsInstrLine}
use Rattle.listing_rules.specs.Stages.{ReadHead, ReadArrays, ReadTexts, ReadExprs, ReadGroups, ReadExchanges, IsExchange, Breaks, AtVersion, AtGrid, AtScalars, AtSlots, AtCells, AtArray, AtRoom, AtText, AtExpr, AtGroup, AtExchange, AtCode, AtInstruction}
use Rattle.listing_rules.proofs.OneWay.{IsTold, blocks_not, blocks_stop_one, first_not, none_one, reads_not, stops_one}
use Rattle.listing_rules.proofs.OneTables.{head_one, arrays_one, texts_one, exprs_one, groups_one, exchanges_one}
use Rattle.listing_rules.proofs.RoomLemmas.{words-append}
use Rattle.save_texts.proofs.CutOnce.{Longer, parted}

-- ---- a line tells its row
array_told : IsTold (λ (done : List ArrayRow). IsArrayLine)
array_told done line a b x y = sym x.told ∙ y.told

text_told : IsTold (λ (done : List (List ℕ)). IsTextLine)
text_told done line a b x y =
    let e : text_line a ≡ text_line b = sym x.written ∙ y.written in
    ap (λ (l : Line). bytes_in (slice_get l.fields 0)) e

expr_told : (tables : Tables) → IsTold (λ (done : List (List ExprOp)). IsExprLine tables)
expr_told tables done line a b x y = sym x.told ∙ y.told

member_told : (tables : Tables) → IsTold (IsMemberLine tables)
member_told tables done line a b x y = let e : Some a ≡ Some b = sym x.told ∙ y.told in cc

item_told : (tables : Tables) → IsTold (λ (done : List Item). IsItemLine tables)
item_told tables done line a b x y = sym x.told ∙ y.told

instr_told : (tables : Tables) (count : ℕ) → IsTold (λ (done : List Instr). IsInstrLine tables count)
instr_told tables count done line a b x y = let e : Some a ≡ Some b = sym x.told ∙ y.told in cc

rest_one : {X : Type 0} (Is : Line → X → Type 0) (lines lines' rest rest' : List Line) (a b : X) → lines ≡ lines' → First Is lines a rest → First Is lines' b rest' → rest ≡ rest'
rest_one Is lines lines' rest rest' a b same one other = let e = sym one.first ∙ (same ∙ other.first) in cc

-- ---- room
no_longer : (tables : Tables) (front front' : List ArrayRow) (row row' : ArrayRow) (behind behind' : List ArrayRow) → words_in tables front' ≤ 16777216 → 16777216 < words_in tables (front ++ row ∷ []) →
    (longer : Longer front (row ∷ behind) front' (row' ∷ behind')) → length front' ≡ length front
no_longer tables front front' row row' behind behind' before past longer = by longer.more longer.front longer.back where
  by : (more : List ArrayRow) → front' ≡ front ++ more → row ∷ behind ≡ more ++ row' ∷ behind' → length front' ≡ length front
  by [] whole back = ap length (whole ∙ append-nil front)
  by (r ∷ more) whole back =
      let head : row ≡ r = cc in
      let split : front' ≡ (front ++ row ∷ []) ++ more = whole ∙ (ap (λ x. front ++ x ∷ more) (sym head) ∙ sym (append_assoc front (row ∷ []) more)) in
      let words = ap (words_in tables) split in
      let sum = words-append tables (front ++ row ∷ []) more in
      absurd (omega (arith, words, sum, before, past))

room_once : (lines left left' : List Line) (tables : Tables) → LacksRoom lines tables left → LacksRoom lines tables left' → left ≡ left'
room_once lines left left' tables a b = by (parted a.front (a.row ∷ a.behind) b.front (b.row ∷ b.behind) (sym a.split ∙ b.split)) where
  same : length a.front ≡ length b.front → left ≡ left'
  same long = a.here ∙ (ap (λ n. drop (5 + n) lines) long ∙ sym b.here)

  by : Longer a.front (a.row ∷ a.behind) b.front (b.row ∷ b.behind) ⊎ Longer b.front (b.row ∷ b.behind) a.front (a.row ∷ a.behind) → left ≡ left'
  by (inl longer) = same (sym (no_longer tables a.front b.front a.row b.row a.behind b.behind b.before a.past longer))
  by (inr longer) = same (no_longer tables b.front a.front b.row a.row b.behind a.behind a.before b.past longer)

room_not : (lines left : List Line) (tables tables' : Tables) → tables ≡ tables' → HasRoom tables → LacksRoom lines tables' left → ⊥
room_not lines left tables tables' same has lacks =
    let here = subst HasRoom same has in
    let all = words-append tables' lacks.front (lacks.row ∷ lacks.behind) in
    let last = words-append tables' (lacks.row ∷ []) lacks.behind in
    let most = words-append tables' lacks.front (lacks.row ∷ []) in
    let whole = ap (words_in tables') lacks.split in
    let within = here.within in
    let past = lacks.past in
    absurd (omega (arith, all, last, most, whole, within, past))

module _ (lines : List Line) where
  -- ---- what has been read
  record PastVersion : Type 0 where
    pub behind : List Line
    pub version : First IsVersionLine lines 1 behind

  record PastGrid : Type 0 where
    pub past : PastVersion
    pub grid : List ℕ
    pub behind : List Line
    pub grid_is : First IsGridLine past.behind grid behind

  record PastScalars : Type 0 where
    pub past : PastGrid
    pub scalars : ℕ
    pub behind : List Line
    pub scalars_are : First (IsCountLine key.Scalars) past.behind scalars behind

  record PastSlots : Type 0 where
    pub past : PastScalars
    pub slots : List ℕ
    pub behind : List Line
    pub slots_are : First IsSlotsLine past.behind slots behind

  record PastHead : Type 0 where
    pub tables : Tables
    pub behind : List Line
    pub head : ReadHead lines tables behind

  record PastArrays : Type 0 where
    pub tables : Tables
    pub behind : List Line
    pub arrays : ReadArrays lines tables behind

  record PastRoom : Type 0 where
    pub past : PastArrays
    pub room : HasRoom past.tables

  record PastTexts : Type 0 where
    pub tables : Tables
    pub behind : List Line
    pub texts : ReadTexts lines tables behind

  record PastExprs : Type 0 where
    pub tables : Tables
    pub behind : List Line
    pub exprs : ReadExprs lines tables behind

  record PastGroups : Type 0 where
    pub tables : Tables
    pub behind : List Line
    pub groups : ReadGroups lines tables behind

  record PastExchanges : Type 0 where
    pub tables : Tables
    pub behind : List Line
    pub exchanges : ReadExchanges lines tables behind

  record PastCode : Type 0 where
    pub past : PastExchanges
    pub instructions : List Line
    pub code : First IsCodeLine past.behind 0 instructions

  abbrev slots_in : PastHead → PastSlots
  slots_in p = record {
    past = record {
      past = record {
        past = record { behind = p.head.behind_version; version = p.head.version };
        grid = p.head.grid;
        behind = p.head.behind_grid;
        grid_is = p.head.grid_is;
      };
      scalars = p.head.scalars;
      behind = p.head.behind_scalars;
      scalars_are = p.head.scalars_are;
    };
    slots = p.head.slots;
    behind = p.head.behind_slots;
    slots_are = p.head.slots_are;
  }

  abbrev head_in : PastArrays → PastHead
  head_in p = record { tables = p.arrays.before; behind = p.arrays.behind; head = p.arrays.head }

  abbrev room_in : PastTexts → PastRoom
  room_in p = record { past = record { tables = p.texts.before; behind = p.texts.behind; arrays = p.texts.arrays }; room = p.texts.room }

  abbrev texts_in : PastExprs → PastTexts
  texts_in p = record { tables = p.exprs.before; behind = p.exprs.behind; texts = p.exprs.texts }

  abbrev exprs_in : PastGroups → PastExprs
  exprs_in p = record { tables = p.groups.before; behind = p.groups.behind; exprs = p.groups.exprs }

  abbrev groups_in : PastExchanges → PastGroups
  groups_in p = record { tables = p.exchanges.before; behind = p.exchanges.behind; groups = p.exchanges.groups }

  -- ---- it is read in one way
  version_same : (a b : PastVersion) → a.behind ≡ b.behind
  version_same a b = rest_one IsVersionLine lines lines a.behind b.behind 1 1 refl a.version b.version

  grid_same : (a b : PastGrid) → a.behind ≡ b.behind
  grid_same a b = rest_one IsGridLine a.past.behind b.past.behind a.behind b.behind a.grid b.grid (version_same a.past b.past) a.grid_is b.grid_is

  scalars_same : (a b : PastScalars) → a.behind ≡ b.behind
  scalars_same a b = rest_one (IsCountLine key.Scalars) a.past.behind b.past.behind a.behind b.behind a.scalars b.scalars (grid_same a.past b.past) a.scalars_are b.scalars_are

  slots_same : (a b : PastSlots) → a.behind ≡ b.behind
  slots_same a b = rest_one IsSlotsLine a.past.behind b.past.behind a.behind b.behind a.slots b.slots (scalars_same a.past b.past) a.slots_are b.slots_are

  head_same : (a b : PastHead) → (a.tables ≡ b.tables) × (a.behind ≡ b.behind)
  head_same a b = head_one lines a.behind b.behind a.tables b.tables a.head b.head

  arrays_same : (a b : PastArrays) → (a.tables ≡ b.tables) × (a.behind ≡ b.behind)
  arrays_same a b = arrays_one lines a.behind b.behind a.tables b.tables a.arrays b.arrays

  texts_same : (a b : PastTexts) → (a.tables ≡ b.tables) × (a.behind ≡ b.behind)
  texts_same a b = texts_one lines a.behind b.behind a.tables b.tables a.texts b.texts

  exprs_same : (a b : PastExprs) → (a.tables ≡ b.tables) × (a.behind ≡ b.behind)
  exprs_same a b = exprs_one lines a.behind b.behind a.tables b.tables a.exprs b.exprs

  groups_same : (a b : PastGroups) → (a.tables ≡ b.tables) × (a.behind ≡ b.behind)
  groups_same a b = groups_one lines a.behind b.behind a.tables b.tables a.groups b.groups

  exchanges_same : (a b : PastExchanges) → (a.tables ≡ b.tables) × (a.behind ≡ b.behind)
  exchanges_same a b = exchanges_one lines a.behind b.behind a.tables b.tables a.exchanges b.exchanges

  code_same : (a b : PastCode) → a.instructions ≡ b.instructions
  code_same a b = rest_one IsCodeLine a.past.behind b.past.behind a.instructions b.instructions 0 0 (exchanges_same a.past b.past).1 a.code b.code

  -- ---- where it stops
  record StopsGrid (left : List Line) : Type 0 where
    pub past : PastVersion
    pub none : NoFirst IsGridLine past.behind left

  record StopsScalars (left : List Line) : Type 0 where
    pub past : PastGrid
    pub none : NoFirst (IsCountLine key.Scalars) past.behind left

  record StopsSlots (left : List Line) : Type 0 where
    pub past : PastScalars
    pub none : NoFirst IsSlotsLine past.behind left

  record StopsCells (left : List Line) : Type 0 where
    pub past : PastSlots
    pub none : NoFirst (IsCountLine key.Cells) past.behind left

  record StopsArrays (left : List Line) : Type 0 where
    pub past : PastHead
    pub stops : Stops (belongs part.Arrays) (λ (done : List ArrayRow). IsArrayLine) [] past.behind left

  record StopsRoom (left : List Line) : Type 0 where
    pub past : PastArrays
    pub lacks : LacksRoom lines past.tables left

  record StopsTexts (left : List Line) : Type 0 where
    pub past : PastRoom
    pub stops : Stops (belongs part.Texts) (λ (done : List (List ℕ)). IsTextLine) [] past.past.behind left

  record StopsExprs (left : List Line) : Type 0 where
    pub past : PastTexts
    pub stops : Stops (belongs part.Exprs) (λ (done : List (List ExprOp)). IsExprLine past.tables) [] past.behind left

  record StopsGroups (left : List Line) : Type 0 where
    pub past : PastExprs
    pub stops : BlocksStop (belongs part.Groups) (line_of key.Group []) (belongs part.Members) (IsMemberLine past.tables) (FitsGroup past.tables) past.behind left

  record StopsExchanges (left : List Line) : Type 0 where
    pub past : PastGroups
    pub stops : BlocksStop (belongs part.Exchanges) (line_of key.Exchange []) (belongs part.Items) (λ (done : List Item). IsItemLine past.tables) IsExchange past.behind left

  record StopsCode (left : List Line) : Type 0 where
    pub past : PastExchanges
    pub none : NoFirst IsCodeLine past.behind left

  record StopsInstructions (left : List Line) : Type 0 where
    pub past : PastCode
    pub stops : Stops (belongs part.Instructions) (λ (done : List Instr). IsInstrLine past.past.tables (length past.instructions)) [] past.instructions left

  -- ---- stages, one after another: it stops there, or goes on
  abbrev Level11 : List Line → Type 0
  Level11 left = StopsCode left ⊎ (PastCode × StopsInstructions left)

  abbrev Level10 : List Line → Type 0
  Level10 left = StopsExchanges left ⊎ (PastExchanges × Level11 left)

  abbrev Level9 : List Line → Type 0
  Level9 left = StopsGroups left ⊎ (PastGroups × Level10 left)

  abbrev Level8 : List Line → Type 0
  Level8 left = StopsExprs left ⊎ (PastExprs × Level9 left)

  abbrev Level7 : List Line → Type 0
  Level7 left = StopsTexts left ⊎ (PastTexts × Level8 left)

  abbrev Level6 : List Line → Type 0
  Level6 left = StopsRoom left ⊎ (PastRoom × Level7 left)

  abbrev Level5 : List Line → Type 0
  Level5 left = StopsArrays left ⊎ (PastArrays × Level6 left)

  abbrev Level4 : List Line → Type 0
  Level4 left = StopsCells left ⊎ (PastHead × Level5 left)

  abbrev Level3 : List Line → Type 0
  Level3 left = StopsSlots left ⊎ (PastSlots × Level4 left)

  abbrev Level2 : List Line → Type 0
  Level2 left = StopsScalars left ⊎ (PastScalars × Level3 left)

  abbrev Level1 : List Line → Type 0
  Level1 left = StopsGrid left ⊎ (PastGrid × Level2 left)

  abbrev Level0 : List Line → Type 0
  Level0 left = NoFirst IsVersionLine lines left ⊎ (PastVersion × Level1 left)

  -- at a stage two stop alike, and none stops where another one goes on
  once : {S P N S' N' : Type 0} {E : Type 0} → (S → S' → E) → (S → P → ⊥) → (S' → P → ⊥) → (N → N' → E) → S ⊎ (P × N) → S' ⊎ (P × N') → E
  once same stop stop' next (inl a) (inl b) = same a b
  once same stop stop' next (inl a) (inr b) = absurd (stop a b.0)
  once same stop stop' next (inr a) (inl b) = absurd (stop' b a.0)
  once same stop stop' next (inr a) (inr b) = next a.1 b.1

  not_version : (left : List Line) → NoFirst IsVersionLine lines left → PastVersion → ⊥
  not_version left a b = first_not IsVersionLine lines lines b.behind left 1 refl b.version a

  not_grid : (left : List Line) → StopsGrid left → PastGrid → ⊥
  not_grid left a b = first_not IsGridLine b.past.behind a.past.behind b.behind left b.grid (version_same b.past a.past) b.grid_is a.none

  not_scalars : (left : List Line) → StopsScalars left → PastScalars → ⊥
  not_scalars left a b = first_not (IsCountLine key.Scalars) b.past.behind a.past.behind b.behind left b.scalars (grid_same b.past a.past) b.scalars_are a.none

  not_slots : (left : List Line) → StopsSlots left → PastSlots → ⊥
  not_slots left a b = first_not IsSlotsLine b.past.behind a.past.behind b.behind left b.slots (scalars_same b.past a.past) b.slots_are a.none

  not_cells : (left : List Line) → StopsCells left → PastHead → ⊥
  not_cells left a b = first_not (IsCountLine key.Cells) b.head.behind_slots a.past.behind b.behind left b.head.cells (slots_same (slots_in b) a.past) b.head.cells_are a.none

  not_arrays : (left : List Line) → StopsArrays left → PastArrays → ⊥
  not_arrays left a b = reads_not (belongs part.Arrays) (λ (done : List ArrayRow). IsArrayLine) array_told b.arrays.reads a.stops refl (head_same (head_in b) a.past).1

  not_room : (left : List Line) → StopsRoom left → PastRoom → ⊥
  not_room left a b = room_not lines left b.past.tables a.past.tables (arrays_same b.past a.past).0 b.room a.lacks

  not_texts : (left : List Line) → StopsTexts left → PastTexts → ⊥
  not_texts left a b = reads_not (belongs part.Texts) (λ (done : List (List ℕ)). IsTextLine) text_told b.texts.reads a.stops refl (arrays_same (room_in b).past a.past.past).1

  not_exprs : (left : List Line) → StopsExprs left → PastExprs → ⊥
  not_exprs left a b =
      let h = texts_same (texts_in b) a.past in
      let here = subst (λ (t : Tables). Stops (belongs part.Exprs) (λ (done : List (List ExprOp)). IsExprLine t) [] a.past.behind left) (sym h.0) a.stops in
      reads_not (belongs part.Exprs) (λ (done : List (List ExprOp)). IsExprLine b.exprs.before) (expr_told b.exprs.before) b.exprs.reads here refl h.1

  not_groups : (left : List Line) → StopsGroups left → PastGroups → ⊥
  not_groups left a b =
      let h = exprs_same (exprs_in b) a.past in
      let here = subst (λ (t : Tables). BlocksStop (belongs part.Groups) (line_of key.Group []) (belongs part.Members) (IsMemberLine t) (FitsGroup t) a.past.behind left) (sym h.0) a.stops in
      blocks_not (belongs part.Members) (IsMemberLine b.groups.before) (member_told b.groups.before) (belongs part.Groups) (line_of key.Group []) (FitsGroup b.groups.before) b.groups.reads here h.1

  not_exchanges : (left : List Line) → StopsExchanges left → PastExchanges → ⊥
  not_exchanges left a b =
      let h = groups_same (groups_in b) a.past in
      let here = subst (λ (t : Tables). BlocksStop (belongs part.Exchanges) (line_of key.Exchange []) (belongs part.Items) (λ (done : List Item). IsItemLine t) IsExchange a.past.behind left) (sym h.0) a.stops in
      blocks_not (belongs part.Items) (λ (done : List Item). IsItemLine b.exchanges.before) (item_told b.exchanges.before) (belongs part.Exchanges) (line_of key.Exchange []) IsExchange b.exchanges.reads here h.1

  not_code : (left : List Line) → StopsCode left → PastCode → ⊥
  not_code left a b = first_not IsCodeLine b.past.behind a.past.behind b.instructions left 0 (exchanges_same b.past a.past).1 b.code a.none

  module _ (left left' : List Line) where
    exprs_alike : StopsExprs left → StopsExprs left' → left ≡ left'
    exprs_alike a b =
        let h = texts_same b.past a.past in
        let here = subst (λ (t : Tables). Stops (belongs part.Exprs) (λ (done : List (List ExprOp)). IsExprLine t) [] b.past.behind left') h.0 b.stops in
        stops_one (belongs part.Exprs) (λ (done : List (List ExprOp)). IsExprLine a.past.tables) (expr_told a.past.tables) a.stops here refl (sym h.1)

    groups_alike : StopsGroups left → StopsGroups left' → left ≡ left'
    groups_alike a b =
        let h = exprs_same b.past a.past in
        let here = subst (λ (t : Tables). BlocksStop (belongs part.Groups) (line_of key.Group []) (belongs part.Members) (IsMemberLine t) (FitsGroup t) b.past.behind left') h.0 b.stops in
        blocks_stop_one (belongs part.Members) (IsMemberLine a.past.tables) (member_told a.past.tables) (belongs part.Groups) (line_of key.Group []) (FitsGroup a.past.tables) a.stops here (sym h.1)

    exchanges_alike : StopsExchanges left → StopsExchanges left' → left ≡ left'
    exchanges_alike a b =
        let h = groups_same b.past a.past in
        let here = subst (λ (t : Tables). BlocksStop (belongs part.Exchanges) (line_of key.Exchange []) (belongs part.Items) (λ (done : List Item). IsItemLine t) IsExchange b.past.behind left') h.0 b.stops in
        blocks_stop_one (belongs part.Items) (λ (done : List Item). IsItemLine a.past.tables) (item_told a.past.tables) (belongs part.Exchanges) (line_of key.Exchange []) IsExchange a.stops here (sym h.1)

    instructions_alike : StopsInstructions left → StopsInstructions left' → left ≡ left'
    instructions_alike a b =
        let h = exchanges_same b.past.past a.past.past in
        let i = code_same b.past a.past in
        let there = subst (λ (t : Tables). Stops (belongs part.Instructions) (λ (done : List Instr). IsInstrLine t (length b.past.instructions)) [] b.past.instructions left') h.0 b.stops in
        let here = subst (λ (n : List Line). Stops (belongs part.Instructions) (λ (done : List Instr). IsInstrLine a.past.past.tables (length n)) [] n left') i there in
        stops_one (belongs part.Instructions) (λ (done : List Instr). IsInstrLine a.past.past.tables (length a.past.instructions)) (instr_told a.past.past.tables (length a.past.instructions)) a.stops here refl refl

    once11 : Level11 left → Level11 left' → left ≡ left'
    once11 = once (λ a b. none_one IsCodeLine a.past.behind b.past.behind left left' (exchanges_same a.past b.past).1 a.none b.none) (not_code left) (not_code left') instructions_alike

    once10 : Level10 left → Level10 left' → left ≡ left'
    once10 = once exchanges_alike (not_exchanges left) (not_exchanges left') once11

    once9 : Level9 left → Level9 left' → left ≡ left'
    once9 = once groups_alike (not_groups left) (not_groups left') once10

    once8 : Level8 left → Level8 left' → left ≡ left'
    once8 = once exprs_alike (not_exprs left) (not_exprs left') once9

    once7 : Level7 left → Level7 left' → left ≡ left'
    once7 = once (λ a b. stops_one (belongs part.Texts) (λ (done : List (List ℕ)). IsTextLine) text_told a.stops b.stops refl (arrays_same a.past.past b.past.past).1) (not_texts left) (not_texts left') once8

    once6 : Level6 left → Level6 left' → left ≡ left'
    once6 = once (λ a b. room_once lines left left' b.past.tables (subst (λ (t : Tables). LacksRoom lines t left) (arrays_same a.past b.past).0 a.lacks) b.lacks) (not_room left) (not_room left') once7

    once5 : Level5 left → Level5 left' → left ≡ left'
    once5 = once (λ a b. stops_one (belongs part.Arrays) (λ (done : List ArrayRow). IsArrayLine) array_told a.stops b.stops refl (head_same a.past b.past).1) (not_arrays left) (not_arrays left') once6

    once4 : Level4 left → Level4 left' → left ≡ left'
    once4 = once (λ a b. none_one (IsCountLine key.Cells) a.past.behind b.past.behind left left' (slots_same a.past b.past) a.none b.none) (not_cells left) (not_cells left') once5

    once3 : Level3 left → Level3 left' → left ≡ left'
    once3 = once (λ a b. none_one IsSlotsLine a.past.behind b.past.behind left left' (scalars_same a.past b.past) a.none b.none) (not_slots left) (not_slots left') once4

    once2 : Level2 left → Level2 left' → left ≡ left'
    once2 = once (λ a b. none_one (IsCountLine key.Scalars) a.past.behind b.past.behind left left' (grid_same a.past b.past) a.none b.none) (not_scalars left) (not_scalars left') once3

    once1 : Level1 left → Level1 left' → left ≡ left'
    once1 = once (λ a b. none_one IsGridLine a.past.behind b.past.behind left left' (version_same a.past b.past) a.none b.none) (not_grid left) (not_grid left') once2

    once0 : Level0 left → Level0 left' → left ≡ left'
    once0 = once (λ a b. none_one IsVersionLine lines lines left left' refl a b) (not_version left) (not_version left') once1

  -- ---- a line that breaks a rule, by its stage
  module _ (left : List Line) where
    from0 : PastVersion → Level1 left → Level0 left
    from0 p x = inr (p, x)

    from1 : PastGrid → Level2 left → Level0 left
    from1 p x = from0 p.past (inr (p, x))

    from2 : PastScalars → Level3 left → Level0 left
    from2 p x = from1 p.past (inr (p, x))

    from3 : PastSlots → Level4 left → Level0 left
    from3 p x = from2 p.past (inr (p, x))

    from4 : PastHead → Level5 left → Level0 left
    from4 p x = from3 (slots_in p) (inr (p, x))

    from5 : PastArrays → Level6 left → Level0 left
    from5 p x = from4 (head_in p) (inr (p, x))

    from6 : PastRoom → Level7 left → Level0 left
    from6 p x = from5 p.past (inr (p, x))

    from7 : PastTexts → Level8 left → Level0 left
    from7 p x = from6 (room_in p) (inr (p, x))

    from8 : PastExprs → Level9 left → Level0 left
    from8 p x = from7 (texts_in p) (inr (p, x))

    from9 : PastGroups → Level10 left → Level0 left
    from9 p x = from8 (exprs_in p) (inr (p, x))

    from10 : PastExchanges → Level11 left → Level0 left
    from10 p x = from9 (groups_in p) (inr (p, x))

    from11 : PastCode → StopsInstructions left → Level0 left
    from11 p x = from10 p.past (inr (p, x))

  level : {left : List Line} → Breaks lines left → Level0 left
  level (AtVersion left none) = inl none
  level (AtGrid one left v none) = let p : PastVersion = record { behind = one; version = v } in from0 left p (inl record { past = p; none = none })
  level (AtScalars one two grid left v g none) = let p : PastGrid = record { past = record { behind = one; version = v }; grid = grid; behind = two; grid_is = g } in from1 left p (inl record { past = p; none = none })
  level (AtSlots one two three grid scalars left v g s none) =
      let p : PastScalars = record { past = record { past = record { behind = one; version = v }; grid = grid; behind = two; grid_is = g }; scalars = scalars; behind = three; scalars_are = s } in
      from2 left p (inl record { past = p; none = none })
  level (AtCells one two three four grid scalars slots left v g s l none) =
      let p : PastSlots = record {
        past = record { past = record { past = record { behind = one; version = v }; grid = grid; behind = two; grid_is = g }; scalars = scalars; behind = three; scalars_are = s };
        slots = slots;
        behind = four;
        slots_are = l;
      } in
      from3 left p (inl record { past = p; none = none })
  level (AtArray tables behind left head stops) = let p : PastHead = record { tables = tables; behind = behind; head = head } in from4 left p (inl record { past = p; stops = stops })
  level (AtRoom tables behind left arrays lacks) = let p : PastArrays = record { tables = tables; behind = behind; arrays = arrays } in from5 left p (inl record { past = p; lacks = lacks })
  level (AtText tables behind left arrays room stops) =
      let p : PastRoom = record { past = record { tables = tables; behind = behind; arrays = arrays }; room = room } in from6 left p (inl record { past = p; stops = stops })
  level (AtExpr tables behind left texts stops) = let p : PastTexts = record { tables = tables; behind = behind; texts = texts } in from7 left p (inl record { past = p; stops = stops })
  level (AtGroup tables behind left exprs stops) = let p : PastExprs = record { tables = tables; behind = behind; exprs = exprs } in from8 left p (inl record { past = p; stops = stops })
  level (AtExchange tables behind left groups stops) = let p : PastGroups = record { tables = tables; behind = behind; groups = groups } in from9 left p (inl record { past = p; stops = stops })
  level (AtCode tables behind left exchanges none) = let p : PastExchanges = record { tables = tables; behind = behind; exchanges = exchanges } in from10 left p (inl record { past = p; none = none })
  level (AtInstruction tables behind instructions left exchanges code stops) =
      let p : PastCode = record { past = record { tables = tables; behind = behind; exchanges = exchanges }; instructions = instructions; code = code } in
      from11 left p record { past = p; stops = stops }

  pub breaks_once : (left left' : List Line) → Breaks lines left → Breaks lines left' → left ≡ left'
  breaks_once left left' a b = once0 left left' (level a) (level b)
