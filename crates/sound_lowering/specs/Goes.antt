-- Facts of slots along structured code, with rows that are seen inline.
--
--   IsHere     an array has all places of a slot's region
--   MeetsRow   what a row demands of slots is known
--   behind_row what is known of slots behind a row
--   Goes       what is known in front of code, and behind it, where each demand in it is met
use Rattle.std.specs.Prelude.{◌≡◌, ◌⊎◌, ℕ, suc, ◌+◌, Bool, true, false, ◌&&◌, ℤ, List, [], ◌∷◌, filter, flat_map, Option, Some, None}
use Rattle.code_parts.specs.of_zpl_nums.declared.ends.TrapKind.{TrapKind}
use Rattle.code_parts.specs.of_zpl_region.declared.regions.Region.{Region}
use Rattle.code_parts.specs.of_zpl_arrays.Border.{border_conforms}
use Rattle.zpl_lowering.specs.of_node_form.declared.words.ExprOp.{ExprOp}
use Rattle.zpl_lowering.specs.of_node_form.declared.words.ExprOp.TheVariants as word
use Rattle.zpl_lowering.specs.of_node_form.declared.instructions.Instr.{Instr}
use Rattle.zpl_lowering.specs.of_node_form.declared.instructions.Instr.TheVariants as instr
use Rattle.zpl_lowering.specs.of_node_form.declared.instructions.RegionForm.{RegionForm}
use Rattle.zpl_lowering.specs.of_node_form.declared.instructions.RegionForm.TheVariants.{Of, Inside}
use Rattle.zpl_lowering.specs.of_node_form.declared.instructions.SameKind.{SameKind}
use Rattle.zpl_lowering.specs.of_node_form.declared.instructions.SameKind.TheVariants as same
use Rattle.zpl_lowering.specs.of_node_form.declared.tables.Tables.{Tables}
use Rattle.zpl_lowering.specs.of_node_form.Value.{unmoved}
use Rattle.code_parts.specs.Needs.{is_decided, passes}
use Rattle.code_parts.specs.Uses.{as_list}
use Rattle.code_parts.proofs.ListLemmas.{In}
use Rattle.zpl_lowering.specs.of_row_runs.Structured as piece
use Rattle.zpl_lowering.specs.of_row_runs.Structured.{Piece}
use Rattle.zpl_lowering.specs.of_flat_form.Row as row
use Rattle.zpl_lowering.specs.of_flat_form.Row.{Row, Member, Words}
use Rattle.zpl_lowering.specs.Check.{Check}
use Rattle.node_check.specs.declared.facts.Fact.{Fact}
use Rattle.node_check.specs.declared.facts.Fact.TheVariants.{Agree, Border, Held, Made, Stands, Uniform}
use Rattle.node_check.specs.Learn.{learnt}
use Rattle.node_check.specs.Path.{nexts}
use Rattle.node_check.specs.Demand.{is_stored, source_shift}

abbrev pub is_of_slots : Fact → Bool
is_of_slots (Uniform scalar) = false
is_of_slots fact = true

-- all of the one stand among the others
abbrev pub AreIn : List Fact → List Fact → Type 0
AreIn few many = (fact : Fact) → In few fact → In many fact

-- ---- what loops demand: that all that is named at a tuple is there
module _ (Here : ℕ → List ℤ → Type 0) where
  abbrev pub HasWord : ExprOp → Type 0
  HasWord (word.Here array) = Here array unmoved
  HasWord (word.Shifted array shift) = Here array shift
  HasWord one = Unit {0}

  abbrev pub HasWords : Words → Type 0
  HasWords [] = Unit {0}
  HasWords (one ∷ words) = HasWord one × HasWords words

  abbrev pub HasMask : Option Words → Type 0
  HasMask None = Unit {0}
  HasMask (Some words) = HasWords words

  abbrev pub HasMember : Member → Type 0
  HasMember (row.Put array expr mask line) =
      Here array unmoved × HasWords expr × HasMask mask
  HasMember (row.Cell cell expr mask line) = HasWords expr × HasMask mask
  HasMember (row.Acc scalar operator expr mask line) = HasWords expr × HasMask mask
  HasMember (row.OpenIf expr mask line) = HasWords expr × HasMask mask
  HasMember row.Otherwise = Unit {0}
  HasMember row.CloseIf = Unit {0}
  HasMember (row.OpenWhile expr mask line) = HasWords expr × HasMask mask
  HasMember row.CloseWhile = Unit {0}
  HasMember (row.OpenRepeat mask line) = HasMask mask
  HasMember (row.Until expr) = HasWords expr

  abbrev pub HasMembers : List Member → Type 0
  HasMembers [] = Unit {0}
  HasMembers (one ∷ group) = HasMember one × HasMembers group

-- ---- what is known of slots
module _ (code : Tables) where
  -- a check that always passes, since `fix` rows alone write its slot
  abbrev pub is_decided_held : Fact → Bool
  is_decided_held (Held slot array shift) =
      is_stored code array && is_decided code (instr.Need slot array shift 0)
  is_decided_held fact = false

  -- by the slot's region, or by a row of its own
  pub data IsHere (facts : List Fact) (slot array : ℕ) (shift : List ℤ) : Type 0 where
    ByRegion : (region : Region) → In facts (Stands slot region) → is_stored code array ≡ true
        → passes code array shift region ≡ true → IsHere facts slot array shift
    ByCheck : In facts (Held slot array shift)
        → is_decided_held (Held slot array shift) ≡ false → IsHere facts slot array shift

  -- ---- what rows demand
  abbrev pub AllHere : List Fact → ℕ → List ℕ → Type 0
  AllHere facts slot [] = Unit {0}
  AllHere facts slot (array ∷ arrays) =
      IsHere facts slot array unmoved × AllHere facts slot arrays

  abbrev pub HasBorder : List Fact → ℕ → List ℤ → Type 0
  HasBorder facts slot shift =
      In facts (Border slot shift)
      ⊎ ((region : Region) × (In facts (Stands slot region) × (border_conforms shift region ≡ true)))

  abbrev pub HasSide : List Fact → RegionForm → ℕ → ℕ → List ℤ → Type 0
  HasSide facts form array slot shift =
      (side : ℕ) × (In facts (Made form side slot shift) × IsHere facts side array unmoved)

  abbrev pub MeetsPlain : List Fact → Instr → Type 0
  MeetsPlain facts (instr.Edge border array slot shift) =
      HasBorder facts slot shift × HasSide facts Of array slot shift
      × HasSide facts Inside array slot (source_shift border shift)
  MeetsPlain facts (instr.Flood array target from source) =
      In facts (Agree target source same.Flood) × IsHere facts target array unmoved
      × IsHere facts source from unmoved
  MeetsPlain facts (instr.Part array target fold from source) =
      In facts (Agree target source same.Part) × IsHere facts target array unmoved
      × IsHere facts source from unmoved
  MeetsPlain facts (instr.Scan array slot fold along from mask) =
      AllHere facts slot (array ∷ from ∷ as_list mask)
  MeetsPlain facts (instr.Gather truth array slot) = AllHere facts slot (array ∷ [])
  MeetsPlain facts (instr.Remap array slot from parts) =
      AllHere facts slot (array ∷ flat_map as_list parts)
  MeetsPlain facts one = Unit {0}

  abbrev pub MeetsRow : List Fact → Row → Type 0
  MeetsRow facts (row.Loop slot group) = HasMembers (IsHere facts slot) group
  MeetsRow facts (row.Plain one) = MeetsPlain facts one
  MeetsRow facts one = Unit {0}

  -- ---- what is known behind rows
  abbrev pub behind_row : List Fact → Row → List Fact
  behind_row facts (row.Plain one) = learnt code facts one
  behind_row facts (row.Dims slot parts line) = learnt code facts (instr.Dims slot [] line)
  behind_row facts (row.Set scalar expr line) = filter is_of_slots facts
  behind_row facts (row.Loop slot group) = filter is_of_slots facts
  behind_row facts one = facts

  abbrev pub behind_rows : List Fact → List Row → List Fact
  behind_rows facts [] = facts
  behind_rows facts (one ∷ rows) = behind_rows (behind_row facts one) rows

-- ---- rows that lead to the next one alone
abbrev pub row_nexts : ℕ → Row → List ℕ
row_nexts at (row.Plain one) = nexts at one
row_nexts at (row.Unless expr goal line) = (at + 1) ∷ goal ∷ []
row_nexts at one = (at + 1) ∷ []

abbrev pub IsStraight : Row → Type 0
IsStraight one = (at : ℕ) → row_nexts at one ≡ (at + 1) ∷ []

abbrev pub AreMet : Tables → List Fact → List Row → Type 0
AreMet code facts [] = Unit {0}
AreMet code facts (one ∷ rows) =
    IsStraight one × MeetsRow code facts one × AreMet code (behind_row code facts one) rows

-- ---- Structured code. What is known at the head of a loop is known behind each turn, and where two
-- ways meet it is known on both. A test with a trap alone in it changes nothing. Less may be known
-- behind code, and more in front of it.
pub data Goes (code : Tables) : List Fact → Piece Row Check → List Fact → Type 0 where
  RowsGo : {facts : List Fact} {rows : List Row} → AreMet code facts rows
      → Goes code facts (piece.Rows rows) (behind_rows code facts rows)
  ThenGoes : {before between after : List Fact} {first rest : Piece Row Check}
      → Goes code before first between → Goes code between rest after
      → Goes code before (piece.Then first rest) after
  WhenGoes : {facts : List Fact} {test : Check} {body : Piece Row Check}
      → Goes code facts body facts → Goes code facts (piece.When test body) facts
  TrapGoes : {facts : List Fact} {test : Check} {kind : TrapKind} {line : ℕ}
      → Goes code facts (piece.When test (piece.Rows (row.Plain (instr.Trap kind line) ∷ []))) facts
  ChooseGoes : {facts after : List Fact} {test : Check} {one other : Piece Row Check}
      → Goes code facts one after → Goes code facts other after
      → Goes code facts (piece.Choose test one other) after
  WhileGoes : {facts after : List Fact} {test : Check} {head body : Piece Row Check}
      → Goes code facts head after → Goes code after body facts
      → Goes code facts (piece.While head test body) after
  RepeatGoes : {facts between after : List Fact} {test : Check} {body head : Piece Row Check}
      → Goes code facts body between → Goes code between head after → AreIn facts after
      → Goes code facts (piece.Repeat body head test) after
  Forgets : {few before after less : List Fact} {one : Piece Row Check} → AreIn few before
      → Goes code few one after → AreIn less after → Goes code before one less
