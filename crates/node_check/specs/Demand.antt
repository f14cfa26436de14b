-- What an instruction demands of the facts and the open exchanges in front of it.
use Rattle.std.specs.Prelude.{ℕ, ◌==◌, Bool, true, false, not, ◌&&◌, ◌||◌, ℤ, neg_ℤ, List, [], ◌∷◌}
use Rattle.std.specs.Prelude.{◌++◌, flat_map, map, slice_get, Option, Some, None}
use Rattle.std.specs.Prelude.{if◌then◌else◌}
use Rattle.std.specs.Cmp.Lexicographic.{pointwise}
use Rattle.std.specs.List.{list_all, list_any}
use Rattle.std.specs.Ordering.{int_eq}
use Rattle.zpl_nums.specs.declared.ends.Border.{Border as Edge}
use Rattle.zpl_nums.specs.declared.ends.Border.TheVariants.{Wrap, Reflect}
use Rattle.zpl_arrays.specs.Border.{border_conforms}
use Rattle.node_form.specs.declared.arrays.ArrayRow.{ArrayRow}
use Rattle.node_form.specs.declared.words.ExprOp.{ExprOp}
use Rattle.node_form.specs.declared.words.ExprOp.TheVariants as word
use Rattle.node_form.specs.declared.members.Member.{Member}
use Rattle.node_form.specs.declared.instructions.DimRow.{DimRow}
use Rattle.node_form.specs.declared.instructions.DimRow.TheVariants as part
use Rattle.node_form.specs.declared.instructions.Instr.{Instr}
use Rattle.node_form.specs.declared.instructions.Instr.TheVariants as instr
use Rattle.node_form.specs.declared.instructions.RegionForm.{RegionForm}
use Rattle.node_form.specs.declared.instructions.RegionForm.TheVariants.{Of, Inside}
use Rattle.node_form.specs.declared.instructions.SameKind.{SameKind}
use Rattle.node_form.specs.declared.instructions.SameKind.TheVariants as same
use Rattle.node_form.specs.declared.tables.Tables.{Tables}
use Rattle.node_form.specs.Control.{conforms}
use Rattle.node_form.specs.Value.{unmoved}
use Rattle.code_parts.specs.Needs.{passes}
use Rattle.code_parts.specs.Uses.{as_list, items_of, may_divide, member_words, members_of, put_by}
use Rattle.code_parts.specs.Uses.{written_slots}
use Rattle.flat_form.specs.Static.{array_has_fringe}
use Rattle.node_check.specs.Fact.{Fact, Agree, Border, Held, Made}
use Rattle.node_check.specs.Learn.{is_among, is_uniform, regions_of}

abbrev pub is_vector : List ℤ → List ℤ → Bool
is_vector one other = pointwise int_eq one other

abbrev pub is_stored_row : Option ArrayRow → Bool
is_stored_row (Some row) = row.stored
is_stored_row None = false

abbrev pub is_stored : Tables → ℕ → Bool
is_stored code array = is_stored_row (slice_get code.arrays array)

-- ---- Facts that are told. That a stored array has all places, and that regions or a border
-- conform, follows too where the regions themselves are told and pass the check.
abbrev pub tells_held : ℕ → ℕ → List ℤ → Fact → Bool
tells_held slot array shift (Held other of by) =
    other == slot && (of == array && is_vector by shift)
tells_held slot array shift fact = false

abbrev pub is_held : Tables → List Fact → ℕ → List ℤ → ℕ → Bool
is_held code facts array shift slot =
    list_any (tells_held slot array shift) facts
    || (is_stored code array && list_any (passes code array shift) (regions_of facts slot))

abbrev pub is_kind : SameKind → SameKind → Bool
is_kind same.Part same.Part = true
is_kind same.Flood same.Flood = true
is_kind one other = false

abbrev pub tells_agree : SameKind → ℕ → ℕ → Fact → Bool
tells_agree kind target source (Agree one other by) =
    one == target && (other == source && is_kind by kind)
tells_agree kind target source fact = false

abbrev pub do_agree : List Fact → SameKind → ℕ → ℕ → Bool
do_agree facts kind target source =
    list_any (tells_agree kind target source) facts
    || list_any (λ region. list_any (conforms kind region) (regions_of facts source))
    (regions_of facts target)

abbrev pub tells_border : ℕ → List ℤ → Fact → Bool
tells_border slot shift (Border other by) = other == slot && is_vector by shift
tells_border slot shift fact = false

abbrev pub has_border : List Fact → ℕ → List ℤ → Bool
has_border facts slot shift =
    list_any (tells_border slot shift) facts
    || list_any (border_conforms shift) (regions_of facts slot)

-- the slots that were made by a form of this one and the vector
abbrev pub is_side_form : RegionForm → RegionForm → Bool
is_side_form Of Of = true
is_side_form Inside Inside = true
is_side_form one other = false

abbrev pub made_in : RegionForm → ℕ → List ℤ → Fact → List ℕ
made_in form from shift (Made by slot other vector) =
    if is_side_form by form && (other == from && is_vector vector shift) then slot ∷ [] else []
made_in form from shift fact = []

abbrev pub slots_made : List Fact → RegionForm → ℕ → List ℤ → List ℕ
slots_made facts form from shift = flat_map (made_in form from shift) facts

-- ---- places of arrays
-- an array that is put or read, and the vector by which it is moved
abbrev pub places_in : ExprOp → List (ℕ × List ℤ)
places_in (word.Here array) = (array, unmoved) ∷ []
places_in (word.Shifted array shift) = (array, shift) ∷ []
places_in other = []

abbrev pub places_of : Tables → Member → List (ℕ × List ℤ)
places_of code one =
    map (λ array. (array, unmoved)) (put_by one) ++ flat_map places_in (member_words code one)

-- of a stored array no further than its fringe
abbrev pub is_near : Tables → ℕ → List ℤ → Bool
is_near code array shift =
    not (is_stored code array) || array_has_fringe (slice_get code.arrays array) shift

abbrev pub has_place : Tables → List Fact → ℕ → ℕ × List ℤ → Bool
has_place code facts slot place =
    is_held code facts place.0 place.1 slot && is_near code place.0 place.1

-- the source of a border lies within the region, and for `wrap` on the other side
abbrev pub source_shift : Edge → List ℤ → List ℤ
source_shift Wrap shift = map neg_ℤ shift
source_shift Reflect shift = shift

-- ---- open exchanges
abbrev pub is_first : ℕ → List ℕ → Bool
is_first exchange [] = false
is_first exchange (first ∷ opened) = first == exchange

abbrev pub are_none : List ℕ → Bool
are_none [] = true
are_none (exchange ∷ opened) = false

-- none has an item with a slot that the instruction writes
abbrev pub leaves_slots : Tables → List ℕ → Instr → Bool
leaves_slots code opened row =
    list_all (λ exchange.
    list_all (λ item. not (is_among (written_slots row) item.slot)) (items_of code exchange))
    opened

-- ---- what is demanded
-- that the expressions of a dimension are uniform
abbrev pub is_uniform_part : Tables → List Fact → DimRow → Bool
is_uniform_part code facts (part.Span low high) =
    is_uniform code facts low && is_uniform code facts high
is_uniform_part code facts part.Star = true
is_uniform_part code facts (part.Copied slot) = true

module _ (code : Tables) (facts : List Fact) (opened : List ℕ) where
  -- the slot's places of these arrays are there
  abbrev pub are_held : ℕ → List ℕ → Bool
  are_held slot arrays = list_all (λ array. is_held code facts array unmoved slot) arrays

  abbrev pub has_own : Instr → Bool
  has_own (instr.Set scalar expr line) = not (may_divide code expr) || is_uniform code facts expr
  has_own (instr.Dims slot parts line) = list_all (is_uniform_part code facts) parts
  has_own (instr.Unless expr goal line) = is_uniform code facts expr
  has_own (instr.Number expr) = is_uniform code facts expr
  has_own (instr.Truth expr) = is_uniform code facts expr
  has_own (instr.Loop slot group) =
      list_all (λ one. list_all (has_place code facts slot) (places_of code one))
      (members_of code group)
  has_own (instr.Start exchange) =
      list_all (λ item. is_near code item.array item.shift) (items_of code exchange)
  has_own (instr.Finish exchange) = is_first exchange opened
  has_own (instr.Edge border array slot shift) =
      are_none opened && has_border facts slot shift
      && list_any (is_held code facts array unmoved) (slots_made facts Of slot shift)
      && list_any (is_held code facts array unmoved)
      (slots_made facts Inside slot (source_shift border shift))
  has_own (instr.Flood array target from source) =
      are_none opened && do_agree facts same.Flood target source
      && are_held target (array ∷ []) && are_held source (from ∷ [])
  has_own (instr.Part array target fold from source) =
      are_none opened && do_agree facts same.Part target source
      && are_held target (array ∷ []) && are_held source (from ∷ [])
  has_own (instr.Scan array slot fold along from mask) =
      are_none opened && are_held slot (array ∷ from ∷ as_list mask)
  has_own (instr.Gather truth array slot) = are_none opened && are_held slot (array ∷ [])
  has_own (instr.Remap array slot from parts) =
      are_none opened && are_held slot (array ∷ flat_map as_list parts)
  has_own (instr.Vote group) = are_none opened
  has_own (instr.TreeVote group) = are_none opened
  has_own (instr.Fold scalar fold) = are_none opened
  has_own (instr.TreeFold scalar fold) = are_none opened
  has_own row = true

  abbrev pub is_met : Instr → Bool
  is_met row = has_own row && leaves_slots code opened row
