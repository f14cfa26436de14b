-- Drafts that grow by the rows of brackets.
use Rattle.std.proofs.Common.{◌≡◌, ℕ, ◌+◌, Bool, List, [], ◌∷◌, ◌++◌, length, refl, sym, ap, ◌∙◌, arith, append_assoc, length-append}
use Rattle.node_form.specs.declared.tables.Tables.{Tables}
use Rattle.flat_form.specs.Row.{Row, with_rows}
use Rattle.lower_places.specs.of_zpl_lowering.Bracket.{Opened, filled, standing}
use Rattle.lower_places.specs.of_lower_draft.Drafted.{Drafted, all_pushed, pushed, with_slot}
use Rattle.lower_places.proofs.of_lower_draft.GrowthLemmas.{rows_grown, slot_grown}
use Rattle.lower_places.proofs.of_lower_draft.LaidLemmas.{rows_behind}
use Rattle.zpl_tree.specs.Syntax.{Prefix}
use Rattle.lower_places.specs.of_zpl_lowering.Where.{Where}
use Rattle.lower_places.specs.of_zpl_lowering.Statement.{under_prefix}
use Rattle.lower_regions.specs.declared.opened.Opened as code
use Rattle.lower_regions.specs.Opened.{IsOpened, standing_at, with_opened}

-- the draft with rows and slots
abbrev pub rows_with : Drafted → List Row → List ℕ → Drafted
rows_with draft rows slots = record draft {
  tables = with_rows draft.tables rows;
  next = record draft.next { slots = draft.next.slots + length slots };
  slots = draft.slots ++ slots;
}

pub opened_grown : (draft : Drafted) (opened : Opened) →
    rows_with draft opened.rows opened.slots ≡ with_opened draft opened
opened_grown draft opened =
    ap (λ (d : Drafted). record d {
      next = record d.next { slots = draft.next.slots + length opened.slots };
      slots = draft.slots ++ opened.slots;
    }) (rows_grown draft opened.rows)

-- a region that stands in a slot already
pub standing_grown : (draft : Drafted) (slot : ℕ) (flood : List Bool) →
    draft ≡ with_opened draft (standing slot flood)
standing_grown draft slot flood = rows_grown draft []

-- one row, and the slot that it fills
pub filled_grown : (draft : Drafted) (flood : List Bool) (row : Row) →
    pushed (with_slot draft (length flood)) row
    ≡ with_opened draft (filled draft.next.slots flood row)
filled_grown draft flood row = slot_grown draft (row ∷ []) (length flood)

-- ---- one behind the other

abbrev pub opened_then : Opened → Opened → Opened
opened_then first second = record {
  rows = first.rows ++ second.rows;
  slots = first.slots ++ second.slots;
  slot = second.slot;
  flood = second.flood;
}

more : {A : Type 0} (n : ℕ) (xs ys : List A) →
    n + length xs + length ys ≡ n + length (xs ++ ys)
more n xs ys = omega (arith, length-append xs ys)

rows_then : (draft : Drafted) (first second : Opened) →
    rows_with (rows_with draft first.rows first.slots) second.rows second.slots
    ≡ rows_with draft (first.rows ++ second.rows) (first.slots ++ second.slots)
rows_then draft first second =
    let with_parts : Tables → ℕ → List ℕ → Drafted = λ tables count slots. record draft {
      tables = tables;
      next = record draft.next { slots = count };
      slots = slots;
    } in
    let after = with_rows draft.tables (first.rows ++ second.rows) in
    let count = draft.next.slots + length first.slots + length second.slots in
    let total = draft.next.slots + length (first.slots ++ second.slots) in
    let slots = (draft.slots ++ first.slots) ++ second.slots in
    ap (λ (tables : Tables). with_parts tables count slots)
    (rows_behind draft.tables first.rows second.rows)
    ∙ ap (λ (count : ℕ). with_parts after count slots)
    (more draft.next.slots first.slots second.slots)
    ∙ ap (with_parts after total) (append_assoc draft.slots first.slots second.slots)

pub then_grown : (draft : Drafted) (first second : Opened) →
    with_opened (with_opened draft first) second ≡ with_opened draft (opened_then first second)
then_grown draft first second =
    sym (opened_grown (with_opened draft first) second)
    ∙ ap (λ (d : Drafted). rows_with d second.rows second.slots) (sym (opened_grown draft first))
    ∙ rows_then draft first second
    ∙ opened_grown draft (opened_then first second)

-- ---- one row, as it is pushed

pub row_filled : (old middle new : Drafted) (flood : List Bool) (rank slot : ℕ) (row : ℕ → Row) →
    rank ≡ length flood → slot ≡ old.next.slots → middle ≡ with_slot old rank →
    new ≡ pushed middle (row slot) →
    new ≡ with_opened old (filled old.next.slots flood (row old.next.slots))
row_filled old middle new flood rank slot row ranked numbered added grown =
    grown
    ∙ ap (λ (k : ℕ). pushed middle (row k)) numbered
    ∙ ap (λ (d : Drafted). pushed d (row old.next.slots)) added
    ∙ ap (λ (k : ℕ). pushed (with_slot old k) (row old.next.slots)) ranked
    ∙ filled_grown old flood (row old.next.slots)

-- ---- under a prefix

pub under_same : (w : Where) (prefix : Prefix) (plainly : Opened) (opened : code.Opened) →
    IsOpened plainly opened →
    under_prefix w prefix (standing_at opened) ≡ under_prefix w prefix plainly
under_same w prefix plainly opened is =
    ap (λ (slot : ℕ). under_prefix w prefix (standing slot opened.flood)) is.slot
    ∙ ap (λ (flood : List Bool). under_prefix w prefix (standing plainly.slot flood)) is.flood
